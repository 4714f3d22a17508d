-- The weights of a quad at each step of 1 / 8, by one test that antt computes over the 7 of them. Assumes nothing.
use mathlib.Core.Path.{◌≡◌, sym, ap, ◌∙◌, subst}
use Prim.Native.Nat.{ℕ, ◌+◌, ◌-◌, ◌*◌, ◌^◌, ◌<◌}
use native.Mathlib.Omega.{arith}
use mathlib.Core.Bool.{Bool, not, ◌&&◌}
use lib.Dec.{T, leb, leb→le}
use lib.Ieee.{Float, binary32, binary64, sub, mul, div, of_int, of_bits, fits, is_nan}
use lib.Ieee.Fits.{and_l, and_r}
use Rattle.ieee.specs.Literal.{one32}
use Rattle.ieee.specs.Operators.{◌⊖◌, ◌⊗◌}
use Rattle.ieee.specs.Fused.{fma}
use Rattle.curve.specs.Curve.{two32, squared, quad_at, step_of}
use Rattle.flatten.specs.Weight.{QuadWeights}
use Rattle.flatten.proofs.Exact.{weight_widens}
use Rattle.flatten.proofs.Steps.{up_to, at, weighs, weighs→Weight}

-- ---- three weights
module _ (k0 k1 k2 : ℕ) (w0 w1 w2 : Float) where
  abbrev weigh : Bool
  weigh = weighs k0 w0 && (weighs k1 w1 && (weighs k2 w2 && leb (k0 + k1 + k2) (2 ^ 15)))

  weigh→Weights : T weigh → QuadWeights w0 w1 w2
  weigh→Weights t =
      let whole = leb (k0 + k1 + k2) (2 ^ 15) in
      let after0 = and_r (weighs k0 w0) (weighs k1 w1 && (weighs k2 w2 && whole)) t in
      let after1 = and_r (weighs k1 w1) (weighs k2 w2 && whole) after0 in
      record {
        k0 = k0;
        k1 = k1;
        k2 = k2;
        start = weighs→Weight k0 w0 (and_l (weighs k0 w0) (weighs k1 w1 && (weighs k2 w2 && whole)) t);
        control = weighs→Weight k1 w1 (and_l (weighs k1 w1) (weighs k2 w2 && whole) after0);
        end = weighs→Weight k2 w2 (and_l (weighs k2 w2) whole after1);
        total = leb→le (k0 + k1 + k2) (2 ^ 15) (and_r (weighs k2 w2) whole after1);
      }

-- ---- those at t = i / 8
abbrev test : Float → ℕ → Bool
test t i =
    weigh ((8 - i) ^ 2 * 2 ^ 9) (2 * (8 - i) * i * 2 ^ 9) (i ^ 2 * 2 ^ 9)
    (squared (one32 ⊖ t)) (two32 ⊗ (one32 ⊖ t) ⊗ t) (squared t)

tested : T (up_to (λ i. test (step_of 24 (3 * i)) i) 7)
unfolding weighs step_of mul sub div of_int of_bits
tested = tt

module _ (i : ℕ) (some : 0 < i) (within : i < 8) (t : Float) (is : t ≡ step_of 24 (3 * i)) where
  pub eighth_weights : QuadWeights (squared (one32 ⊖ t)) (two32 ⊗ (one32 ⊖ t) ⊗ t) (squared t)
  eighth_weights =
      weigh→Weights ((8 - i) ^ 2 * 2 ^ 9) (2 * (8 - i) * i * 2 ^ 9) (i ^ 2 * 2 ^ 9)
      (squared (one32 ⊖ t)) (two32 ⊗ (one32 ⊖ t) ⊗ t) (squared t)
      (subst (λ (u : Float). T (test u i)) (sym is) (at (λ i. test (step_of 24 (3 * i)) i) 7 tested i some (omega arith)))

  -- each is a number, which binary64 holds
  pub eighth_widens_0 : T (fits binary64 (squared (one32 ⊖ t)) && not (is_nan (squared (one32 ⊖ t))))
  eighth_widens_0 = weight_widens (one32 ⊖ t) (one32 ⊖ t) eighth_weights.start

  pub eighth_widens_1 : T (fits binary64 (two32 ⊗ (one32 ⊖ t) ⊗ t) && not (is_nan (two32 ⊗ (one32 ⊖ t) ⊗ t)))
  eighth_widens_1 = weight_widens (two32 ⊗ (one32 ⊖ t)) t eighth_weights.control

  pub eighth_widens_2 : T (fits binary64 (squared t) && not (is_nan (squared t)))
  eighth_widens_2 = weight_widens t t eighth_weights.end

  pub quad_is : (a b c r : Float)
      → r ≡ fma binary32 (squared t) c (fma binary32 (squared (one32 ⊖ t)) a (two32 ⊗ (one32 ⊖ t) ⊗ t ⊗ b))
      → r ≡ quad_at a b c (step_of 24 (3 * i))
  unfolding quad_at
  quad_is a b c r e = e ∙ ap (quad_at a b c) is
