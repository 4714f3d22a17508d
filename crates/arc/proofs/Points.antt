-- The points of a curve as the code works them out: at its end, at an eighth, at a step. Assumes nothing.
use mathlib.Core.Path.{◌≡◌, refl, sym, ap, ap₂, ◌∙◌, subst}
use mathlib.Core.Bool.{true}
use Prim.Native.Nat.{ℕ, zero, suc, ◌*◌, ◌/◌, ◌%◌, ◌≤◌}
use native.Mathlib.Omega.{arith}
use mathlib.Core.Logic.{∥∥₁_elim}
use lib.Dec.{T}
use lib.Ieee.{Float, binary32, fits}
use Rattle.point.specs.declared.Point.{Point}
use Rattle.curve.specs.Curve.{quad_at, eval_quad, quad_point, cubic_at, eval_cubic, cubic_point, step_of}
use Rattle.flatten.specs.Level.{Coordinates, QuadCoordinates}
use Rattle.flatten.proofs.Exact.{float_set}
use Rattle.arc.proofs.End.{quad_end_at, end_at}

-- ---- a quad
module _ (start control end : Point) where
  -- a point by its coordinates
  quad_point_at : (n : ℕ) (x y : Float) → 1 ≤ n → quad_at start.x control.x end.x (step_of 24 n) ≡ x → quad_at start.y control.y end.y (step_of 24 n) ≡ y
      → quad_point start control end n ≡ record { x = x; y = y }
  unfolding quad_point eval_quad
  quad_point_at zero x y h e f = absurd (omega arith)
  quad_point_at (suc n) x y h e f = ap₂ (λ (a b : Float). record { x = a; y = b }) e f

  pub quad_last : ∥ QuadCoordinates start.x control.x end.x ∥₁ → ∥ QuadCoordinates start.y control.y end.y ∥₁ → fits binary32 end.x ≡ true → fits binary32 end.y ≡ true → (n : ℕ) → n ≡ 24
      → quad_point start control end n ≡ end
  quad_last X Y fx fy n e =
      ap (quad_point start control end) e
      ∙ quad_point_at 24 end.x end.y (omega arith)
      (∥∥₁_elim X (float_set _ _) (λ C. quad_end_at start.x control.x end.x C (subst T (sym fx) tt)))
      (∥∥₁_elim Y (float_set _ _) (λ C. quad_end_at start.y control.y end.y C (subst T (sym fy) tt)))

  pub quad_eighth : (n : ℕ) → 1 ≤ n → n % 3 ≡ 0
      → quad_point start control end n ≡ record { x = quad_at start.x control.x end.x (step_of 24 (3 * (n / 3))); y = quad_at start.y control.y end.y (step_of 24 (3 * (n / 3))) }
  quad_eighth n h third =
      let all : 3 * (n / 3) ≡ n = omega arith in
      rw all (quad_point_at n (quad_at start.x control.x end.x (step_of 24 n)) (quad_at start.y control.y end.y (step_of 24 n)) h refl refl)

pub ruleset quad_points = (quad_last, quad_eighth)

-- ---- a cubic
module _ (start control1 control2 end : Point) where
  cubic_point_at : (n : ℕ) (x y : Float) → 1 ≤ n → cubic_at start.x control1.x control2.x end.x (step_of 32 n) ≡ x → cubic_at start.y control1.y control2.y end.y (step_of 32 n) ≡ y
      → cubic_point start control1 control2 end n ≡ record { x = x; y = y }
  unfolding cubic_point eval_cubic
  cubic_point_at zero x y h e f = absurd (omega arith)
  cubic_point_at (suc n) x y h e f = ap₂ (λ (a b : Float). record { x = a; y = b }) e f

  pub cubic_last : ∥ Coordinates start.x control1.x control2.x end.x ∥₁ → ∥ Coordinates start.y control1.y control2.y end.y ∥₁ → fits binary32 end.x ≡ true → fits binary32 end.y ≡ true → (n : ℕ) → n ≡ 32
      → cubic_point start control1 control2 end n ≡ end
  cubic_last X Y fx fy n e =
      ap (cubic_point start control1 control2 end) e
      ∙ cubic_point_at 32 end.x end.y (omega arith)
      (∥∥₁_elim X (float_set _ _) (λ C. end_at start.x control1.x control2.x end.x C (subst T (sym fx) tt)))
      (∥∥₁_elim Y (float_set _ _) (λ C. end_at start.y control1.y control2.y end.y C (subst T (sym fy) tt)))

  pub cubic_between : (n : ℕ) → 1 ≤ n
      → cubic_point start control1 control2 end n ≡ record { x = cubic_at start.x control1.x control2.x end.x (step_of 32 n); y = cubic_at start.y control1.y control2.y end.y (step_of 32 n) }
  cubic_between n h = cubic_point_at n (cubic_at start.x control1.x control2.x end.x (step_of 32 n)) (cubic_at start.y control1.y control2.y end.y (step_of 32 n)) h refl refl

pub ruleset cubic_points = (cubic_last, cubic_between)
