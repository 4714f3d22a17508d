-- The weights of a cubic at each step of 1 / 32, by one test that antt computes over the 31 of them. Assumes nothing.
use mathlib.Core.Path.{◌≡◌, sym, ap, ◌∙◌, subst}
use mathlib.Core.Logic.{inl, inr}
use Prim.Native.Nat.{ℕ, zero, suc, ◌+◌, ◌-◌, ◌*◌, ◌^◌, ◌≤◌, ◌<◌}
use native.Mathlib.Nat.{lt_irrefl, lt_of_lt_of_le, le_of_suc-le-suc, eq-or-lt_of_le}
use native.Mathlib.Omega.{arith}
use mathlib.Core.Bool.{Bool, true, false, not, ◌&&◌}
use lib.Dec.{T, leb, ltb, eqb, leb→le, le→leb, ltb→lt, eqb→eq}
use lib.IntN.{pos}
use lib.Ieee.{Float, nan, inf, fin, binary32, binary64, up, down, sub, mul, div, of_int, of_bits, in_float, fits, is_nan}
use lib.Ieee.Fits.{and_l, and_r}
use lib.Ieee.Bits.{is_false}
use Rattle.ieee.specs.Literal.{one32}
use Rattle.ieee.specs.Operators.{◌⊖◌, ◌⊗◌}
use Rattle.ieee.specs.Fused.{fma}
use Rattle.curve.specs.Curve.{three32, squared, cubed, cubic_at, step_of}
use Rattle.flatten.specs.Weight.{Weight, Weights}
use Rattle.flatten.proofs.Exact.{weight_widens}

-- ---- a test that passes at 1, 2, .., n
abbrev pub up_to : (ℕ → Bool) → ℕ → Bool
up_to f zero = true
up_to f (suc n) = f (suc n) && up_to f n

pub at : (f : ℕ → Bool) (n : ℕ) → T (up_to f n) → (k : ℕ) → 0 < k → k ≤ n → T (f k)
at f zero t k p l = absurd (lt_irrefl 0 (lt_of_lt_of_le p l))
at f (suc n) t k p l = elim (eq-or-lt_of_le l) [
  | inl e ↦ subst (λ (m : ℕ). T (f m)) (sym e) (and_l (f (suc n)) (up_to f n) t)
  | inr h ↦ at f n (and_r (f (suc n)) (up_to f n) t) k p (le_of_suc-le-suc h)
]

-- ---- w is k / 2 ^ 15, above 0
unfoldable pub weighs : ℕ → Float → Bool
weighs k nan = false
weighs k (inf s) = false
weighs k (fin s m e) = not s && (eqb (m * up e * 2 ^ 15) (k * down e) && ltb 0 k)

pub weighs→Weight : (k : ℕ) (w : Float) → T (weighs k w) → Weight k w
unfolding weighs
weighs→Weight k nan t = absurd t
weighs→Weight k (inf s) t = absurd t
weighs→Weight k (fin s m e) t =
    let same = eqb (m * up e * 2 ^ 15) (k * down e) in
    let rest = and_r (not s) (same && ltb 0 k) t in
    record { value = (is_false s (and_l (not s) (same && ltb 0 k) t), eqb→eq (m * up e * 2 ^ 15) (k * down e) (and_l same (ltb 0 k) rest)); some = ltb→lt 0 k (and_r same (ltb 0 k) rest) }

-- ---- four weights
module _ (k0 k1 k2 k3 : ℕ) (w0 w1 w2 w3 : Float) where
  abbrev weigh : Bool
  weigh = weighs k0 w0 && (weighs k1 w1 && (weighs k2 w2 && (weighs k3 w3 && leb (k0 + k1 + k2 + k3) (2 ^ 15))))

  weigh→Weights : T weigh → Weights w0 w1 w2 w3
  weigh→Weights t =
      let whole = leb (k0 + k1 + k2 + k3) (2 ^ 15) in
      let after0 = and_r (weighs k0 w0) (weighs k1 w1 && (weighs k2 w2 && (weighs k3 w3 && whole))) t in
      let after1 = and_r (weighs k1 w1) (weighs k2 w2 && (weighs k3 w3 && whole)) after0 in
      let after2 = and_r (weighs k2 w2) (weighs k3 w3 && whole) after1 in
      record {
        k0 = k0;
        k1 = k1;
        k2 = k2;
        k3 = k3;
        start = weighs→Weight k0 w0 (and_l (weighs k0 w0) (weighs k1 w1 && (weighs k2 w2 && (weighs k3 w3 && whole))) t);
        control1 = weighs→Weight k1 w1 (and_l (weighs k1 w1) (weighs k2 w2 && (weighs k3 w3 && whole)) after0);
        control2 = weighs→Weight k2 w2 (and_l (weighs k2 w2) (weighs k3 w3 && whole) after1);
        end = weighs→Weight k3 w3 (and_l (weighs k3 w3) whole after2);
        total = leb→le (k0 + k1 + k2 + k3) (2 ^ 15) (and_r (weighs k3 w3) whole after2);
      }

-- ---- those at t = i / 32
abbrev test : Float → ℕ → Bool
test t i =
    weigh ((32 - i) ^ 3) (3 * (32 - i) ^ 2 * i) (3 * (32 - i) * i ^ 2) (i ^ 3)
    (cubed (one32 ⊖ t)) (three32 ⊗ squared (one32 ⊖ t) ⊗ t) (three32 ⊗ (one32 ⊖ t) ⊗ squared t) (cubed t)

tested : T (up_to (λ i. test (step_of 32 i) i) 31)
unfolding weighs step_of mul sub div of_int of_bits
tested = tt

module _ (i : ℕ) (some : 0 < i) (within : i < 32) (t : Float) (is : t ≡ step_of 32 i) where
  pub step_weights : Weights (cubed (one32 ⊖ t)) (three32 ⊗ squared (one32 ⊖ t) ⊗ t) (three32 ⊗ (one32 ⊖ t) ⊗ squared t) (cubed t)
  step_weights =
      weigh→Weights ((32 - i) ^ 3) (3 * (32 - i) ^ 2 * i) (3 * (32 - i) * i ^ 2) (i ^ 3)
      (cubed (one32 ⊖ t)) (three32 ⊗ squared (one32 ⊖ t) ⊗ t) (three32 ⊗ (one32 ⊖ t) ⊗ squared t) (cubed t)
      (subst (λ (u : Float). T (test u i)) (sym is) (at (λ i. test (step_of 32 i) i) 31 tested i some (omega arith)))

  -- each is a number, which binary64 holds
  pub widens_0 : T (fits binary64 (cubed (one32 ⊖ t)) && not (is_nan (cubed (one32 ⊖ t))))
  widens_0 = weight_widens (one32 ⊖ t) (squared (one32 ⊖ t)) step_weights.start

  pub widens_1 : T (fits binary64 (three32 ⊗ squared (one32 ⊖ t) ⊗ t) && not (is_nan (three32 ⊗ squared (one32 ⊖ t) ⊗ t)))
  widens_1 = weight_widens (three32 ⊗ squared (one32 ⊖ t)) t step_weights.control1

  pub widens_2 : T (fits binary64 (three32 ⊗ (one32 ⊖ t) ⊗ squared t) && not (is_nan (three32 ⊗ (one32 ⊖ t) ⊗ squared t)))
  widens_2 = weight_widens (three32 ⊗ (one32 ⊖ t)) (squared t) step_weights.control2

  pub widens_3 : T (fits binary64 (cubed t) && not (is_nan (cubed t)))
  widens_3 = weight_widens t (squared t) step_weights.end

  pub cubic_is : (a b c d r : Float)
      → r ≡ fma binary32 (cubed t) d (fma binary32 (three32 ⊗ (one32 ⊖ t) ⊗ squared t) c (fma binary32 (cubed (one32 ⊖ t)) a (three32 ⊗ squared (one32 ⊖ t) ⊗ t ⊗ b)))
      → r ≡ cubic_at a b c d (step_of 32 i)
  unfolding cubic_at
  cubic_is a b c d r e = e ∙ ap (cubic_at a b c d) is

-- ---- i / n
pub step_casts : (i : ℕ) → i < 2 ^ 24 → T (in_float binary32 (pos i))
unfolding in_float
step_casts i h = le→leb i (2 ^ 24) (omega arith)
