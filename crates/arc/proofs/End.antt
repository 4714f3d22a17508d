-- At its last step a curve is at its end: the other weights are 0, and the end's is 1. Assumes nothing.
use mathlib.Core.Path.{◌≡◌, refl, ap, ◌∙◌, subst}
use mathlib.Core.Logic.{inl, inr}
use Prim.Native.Nat.{ℕ, ◌+◌, ◌-◌, ◌*◌, ◌^◌, ◌<◌}
use native.Mathlib.Nat.{zero-mul, eq-zero-or-pos}
use native.Mathlib.Omega.{arith}
use mathlib.Core.Bool.{Bool, true, false}
use lib.Dec.{T}
use lib.Pow.{pow_pos}
use lib.Ieee.{Float, binary32, fits, unlike, round, sum, mul, sub, div, of_int, of_bits}
use lib.Ieee.Exact.{HasValue}
use borrow.Author.Tests.{lt-ltb, le-ltb}
use Rattle.ieee.specs.Literal.{one32}
use Rattle.ieee.specs.Operators.{◌⊗◌}
use Rattle.ieee.specs.Fused.{fma}
use Rattle.ieee.proofs.Value.{value_unique}
use Rattle.ieee.proofs.Round.{round_own}
use Rattle.ieee.proofs.Operations.{mul_at, fma_at}
use Rattle.ieee.proofs.Zeros.{zero_of, zero_fits, zero_has, round_zero}
use Rattle.curve.specs.Curve.{quad_at, cubic_at, step_of}
use Rattle.flatten.specs.Level.{Level, Coordinates, QuadCoordinates}

-- ---- zeros
zero_sum : (s : Bool) (a : ℕ) (t : Bool) (c : ℕ) → a ≡ 0 → 0 < c → (u : Bool) × (sum binary32 s a t 0 c ≡ zero_of u)
unfolding sum
zero_sum true a true c e h = (true, round_zero binary32 true (a + 0) c (omega arith) h)
zero_sum false a false c e h = (false, round_zero binary32 false (a + 0) c (omega arith) h)
zero_sum true a false c e h = (false, rw (le-ltb a 0 (omega arith), le-ltb 0 a (omega arith)) (round_zero binary32 false (a - 0) c (omega arith) h))
zero_sum false a true c e h = (false, rw (le-ltb a 0 (omega arith)) (round_zero binary32 false (a - 0) c (omega arith) h))

-- ---- a number times 0, alone and on top of a zero
module _ {q : ℕ} {x : Float} (X : Level q x) where
  none : (u : Bool) × (zero_of false ⊗ x ≡ zero_of u)
  none =
      let p = mul_at binary32 (zero_of false) x false X.sign 0 1 X.count (2 ^ q) (omega arith) (pow_pos q) (zero_has false 1) X.value in
      (unlike false X.sign, p ∙ round_zero binary32 (unlike false X.sign) (0 * X.count) (1 * 2 ^ q) (zero-mul X.count) (omega (arith, pow_pos q)))

  none_more : (s : Bool) → (u : Bool) × (fma binary32 (zero_of false) x (zero_of s) ≡ zero_of u)
  none_more s =
      let p = fma_at binary32 (zero_of false) x (zero_of s) false X.sign s 0 1 X.count (2 ^ q) 0 (omega arith) (pow_pos q) (zero_has false 1) X.value (zero_has s (1 * 2 ^ q)) in
      let z = zero_sum (unlike false X.sign) (0 * X.count) s (1 * 2 ^ q) (zero-mul X.count) (omega (arith, pow_pos q)) in
      (z.0, p ∙ z.1)

-- ---- a number that is not -0, on top of a zero
sum_some : (s : Bool) (n : ℕ) (t : Bool) (c : ℕ) → 0 < n → sum binary32 s n t 0 c ≡ round binary32 s n c
unfolding sum
sum_some true n true c h = ap (λ (k : ℕ). round binary32 true k c) (omega arith)
sum_some false n false c h = ap (λ (k : ℕ). round binary32 false k c) (omega arith)
sum_some true n false c h = rw (le-ltb n 0 (omega arith), lt-ltb 0 n h) (ap (λ (k : ℕ). round binary32 true k c) (omega arith))
sum_some false n true c h = rw (le-ltb n 0 (omega arith)) (ap (λ (k : ℕ). round binary32 false k c) (omega arith))

plus_zero : (t : Bool) (c : ℕ) → 0 < c → sum binary32 false 0 t 0 c ≡ zero_of false
unfolding zero_sum
plus_zero true c h = (zero_sum false 0 true c refl h).1
plus_zero false c h = (zero_sum false 0 false c refl h).1

one_value : HasValue one32 false 1 1
unfolding of_bits
one_value = (refl, refl)

module _ {q : ℕ} {x : Float} (X : Level q x) (F : T (fits binary32 x)) where
  own : (t : Bool) → sum binary32 X.sign X.count t 0 (2 ^ q) ≡ x
  own t = elim (eq-zero-or-pos X.count) [
    | inl e ↦
        let s = X.fair e in
        (λ i. sum binary32 (s i) (e i) t 0 (2 ^ q)) ∙ plus_zero t (2 ^ q) (pow_pos q)
        ∙ value_unique binary32 (zero_of false) x false 0 (2 ^ q) (pow_pos q) (zero_fits binary32 false) F (zero_has false (2 ^ q)) (subst (λ (b : Bool). HasValue x b 0 (2 ^ q)) s (subst (λ (n : ℕ). HasValue x X.sign n (2 ^ q)) e X.value))
    | inr p ↦ sum_some X.sign X.count t (2 ^ q) p ∙ round_own binary32 x X.sign X.count (2 ^ q) F (pow_pos q) X.value
  ]

  once : (t : Bool) → fma binary32 one32 x (zero_of t) ≡ x
  once t =
      fma_at binary32 one32 x (zero_of t) false X.sign t 1 1 X.count (2 ^ q) 0 (omega arith) (pow_pos q) one_value X.value (zero_has t (1 * 2 ^ q))
      ∙ (λ i. sum binary32 (plain X.sign i) (single X.count i) t 0 (single (2 ^ q) i)) ∙ own t
    where
      plain : (s : Bool) → unlike false s ≡ s
      plain true = refl
      plain false = refl

      single : (n : ℕ) → 1 * n ≡ n
      single n = omega arith

-- ---- the weights at the last step
quad_last_is : (a b c : Float) → quad_at a b c (step_of 24 24) ≡ fma binary32 one32 c (fma binary32 (zero_of false) a (zero_of false ⊗ b))
unfolding quad_at step_of sub mul div of_int of_bits
quad_last_is a b c = refl

pub quad_end_at : (a b c : Float) → QuadCoordinates a b c → T (fits binary32 c) → quad_at a b c (step_of 24 24) ≡ c
quad_end_at a b c X F =
    let one = none X.control in
    let two = none_more X.start one.0 in
    quad_last_is a b c
    ∙ ap (λ (z : Float). fma binary32 one32 c (fma binary32 (zero_of false) a z)) one.1
    ∙ ap (fma binary32 one32 c) two.1
    ∙ once X.end F two.0

last_is : (a b c d : Float) → cubic_at a b c d (step_of 32 32) ≡ fma binary32 one32 d (fma binary32 (zero_of false) c (fma binary32 (zero_of false) a (zero_of false ⊗ b)))
unfolding cubic_at step_of sub mul div of_int of_bits
last_is a b c d = refl

pub end_at : (a b c d : Float) → Coordinates a b c d → T (fits binary32 d) → cubic_at a b c d (step_of 32 32) ≡ d
end_at a b c d X F =
    let one = none X.control1 in
    let two = none_more X.start one.0 in
    let three = none_more X.control2 two.0 in
    last_is a b c d
    ∙ ap (λ (z : Float). fma binary32 one32 d (fma binary32 (zero_of false) c (fma binary32 (zero_of false) a z))) one.1
    ∙ ap (λ (z : Float). fma binary32 one32 d (fma binary32 (zero_of false) c z)) two.1
    ∙ ap (fma binary32 one32 d) three.1
    ∙ once X.end F three.0
