-- A curve's chords, added up one by one. Assumes nothing.
use mathlib.Core.Path.{◌≡◌, refl, sym, ap}
use Prim.Native.Nat.{ℕ, zero, suc, ◌+◌, ◌≤◌}
use native.Mathlib.Numerals.{add-one}
use native.Mathlib.Omega.{arith}
use lib.IntN.{pos}
use lib.Ieee.{Float, div, of_int, of_bits, round, binary32}
use Rattle.ieee.specs.Literal.{zero32}
use Rattle.point.specs.declared.Point.{Point}
use Rattle.ieee.specs.Operators.{◌⊕◌}
use Rattle.curve.specs.Curve.{distance, eval_quad, eval_cubic, step_of, quad_point, cubic_point, chords}

-- the first chords, none and one more
pub chords_none : (point : ℕ → Point) → chords point 0 ≡ zero32
unfolding chords
chords_none point = refl

pub chords_next : (point : ℕ → Point) (n : ℕ) → chords point (n + 1) ≡ chords point n ⊕ distance (point n) (point (n + 1))
unfolding chords
chords_next point n = simp add-one

pub ruleset walking = (chords_none, chords_next)

-- the divisors as the code has them, 24.0 and 32.0
pub quad_steps : of_int binary32 (pos 24) ≡ of_bits binary32 0x41c0_0000
unfolding of_int round of_bits
quad_steps = refl

cubic_steps : of_int binary32 (pos 32) ≡ of_bits binary32 0x4200_0000
unfolding of_int round of_bits
cubic_steps = refl

-- the point of a step, as the code has it
pub quad_step : (start control end : Point) (k : ℕ) → 1 ≤ k → eval_quad start control end (div binary32 (of_int binary32 (pos k)) (of_bits binary32 0x41c0_0000)) ≡ quad_point start control end k
unfolding quad_point step_of
quad_step start control end zero h = absurd (omega arith)
quad_step start control end (suc n) h = ap (λ (m : Float). eval_quad start control end (div binary32 (of_int binary32 (pos (suc n))) m)) (sym quad_steps)

pub cubic_step : (start control1 control2 end : Point) (k : ℕ) → 1 ≤ k → eval_cubic start control1 control2 end (div binary32 (of_int binary32 (pos k)) (of_bits binary32 0x4200_0000)) ≡ cubic_point start control1 control2 end k
unfolding cubic_point step_of
cubic_step start control1 control2 end zero h = absurd (omega arith)
cubic_step start control1 control2 end (suc n) h = ap (λ (m : Float). eval_cubic start control1 control2 end (div binary32 (of_int binary32 (pos (suc n))) m)) (sym cubic_steps)
