-- The fast way of `mul_add`: the pattern of the binary64 sum, cut to binary32's digits. Assumes nothing.
use mathlib.Core.Path.{◌≡◌, sym, ap, ◌∙◌, subst}
use Prim.Native.Nat.{ℕ, suc, ◌+◌, ◌-◌, ◌*◌, ◌/◌, ◌%◌, ◌^◌, ◌≤◌, ◌<◌}
use native.Mathlib.Omega.{arith}
use mathlib.Core.Bool.{Bool, true, false, not}
use lib.Dec.{T, leb, ltb, ltb→lt, nltb→le}
use lib.Ieee.{Float, binary32, binary64, units, round, add, mul, fits, of_bits, to_bits}
use lib.Ieee.Exact.{HasValue}
use lib.Ieee.Fits.{add-fits}
use lib.Ieee.Bits.{of_bits-to_bits}
use Rattle.ieee.specs.Fused.{fma}
use Rattle.ieee.specs.Pattern.{with_sign, infinity}
use Rattle.ieee.proofs.Value.{value_finite}
use Rattle.ieee.proofs.Pattern.{write}
use Rattle.ieee.proofs.Wide.{value_64}
use Rattle.fused.proofs.Double.{double_up, double_down, sign_is, below_is, above_is}
use Rattle.fused.proofs.Wide.{Both, both}

-- ---- the sum with the pattern t
module _ (x y z : Float) (F : fits binary32 x ≡ true) (G : fits binary32 y ≡ true) (H : fits binary32 z ≡ true) where
  abbrev w : Float
  w = add binary64 (mul binary64 x y) z

  abbrev t : ℕ
  t = to_bits binary64 w

  abbrev s : Bool
  s = leb (2 ^ 63) t

  abbrev f : ℕ
  f = t % 2 ^ 63 / 2 ^ 52

  abbrev m : ℕ
  m = t % 2 ^ 52 / 2 ^ 29 + 2 ^ 23

  abbrev Q : ℕ
  Q = m * 2 ^ 29 + t % 2 ^ 29

  module _ (lo : 898 ≤ f) (hi : f ≤ 1150) where
    value : HasValue w s (Q * 2 ^ (f - 1)) (2 ^ 1074)
    value =
        subst (λ (n : ℕ). HasValue w s (n * 2 ^ (f - 1)) (2 ^ 1074)) digits
        (subst (λ (v : Float). HasValue v s ((2 ^ 52 + t % 2 ^ 52) * 2 ^ (f - 1)) (2 ^ 1074)) (of_bits-to_bits binary64 w (add-fits binary64 (mul binary64 x y) z)) (value_64 t (omega arith) (omega arith)))
      where
        digits : 2 ^ 52 + t % 2 ^ 52 ≡ Q
        digits = omega arith

    B : Both x y z
    B = both x y z F G H (value_finite w s (Q * 2 ^ (f - 1)) (2 ^ 1074) value)

    v : HasValue (round binary64 B.sign B.size (2 ^ 1074)) s (Q * 2 ^ (f - 1)) (2 ^ 1074)
    v = subst (λ (u : Float). HasValue u s (Q * 2 ^ (f - 1)) (2 ^ 1074)) B.wide value

    Q-hi : Q < 2 ^ 53
    Q-hi = omega arith

    places : f - 1 - 896 ≡ f - 897
    places = omega arith

    sign : B.sign ≡ s
    sign = sign_is B.sign s B.size Q (f - 1) Q-hi v

    below : 2 * (Q * 2 ^ (f - 1)) ≤ 2 * B.size + 2 ^ (f - 1)
    below = below_is B.sign s B.size Q (f - 1) Q-hi v

    above : 2 * B.size ≤ 2 * (Q * 2 ^ (f - 1)) + 2 ^ (f - 1)
    above = above_is B.sign s B.size Q (f - 1) Q-hi v

    -- the pattern of the result: half of the last digit's weight is added, and the rest of the digits dropped
    abbrev p : ℕ
    p = (t % 2 ^ 63 + 2 ^ 28) / 2 ^ 29 - 0x1_c000_0000

    fast_small : p ≤ infinity
    fast_small = omega arith

    -- p stands for q * 2 ^ (f - 897) units
    written : (q : ℕ) → q ≤ 2 ^ 24 → 2 ^ 23 ≤ q → p ≡ (f - 897) * 2 ^ 23 + q → of_bits binary32 (with_sign s p) ≡ units binary32 s q (f - 897)
    written q small large e =
        ap (λ (n : ℕ). of_bits binary32 (with_sign s n)) e
        ∙ write q (f - 897) small (λ h. large) s (subst (λ (n : ℕ). n ≤ infinity) e fast_small)

    pub fast : (r : Float) → (t % 2 ^ 29 ≡ 2 ^ 28 → ⊥) → r ≡ of_bits binary32 (with_sign s p) → r ≡ fma binary32 x y z
    fast r n e = e ∙ go (ltb (2 ^ 28) (t % 2 ^ 29)) (ltb→lt (2 ^ 28) (t % 2 ^ 29)) (nltb→le (2 ^ 28) (t % 2 ^ 29))
      where
        go : (b : Bool) → (T b → 2 ^ 28 < t % 2 ^ 29) → (T (not b) → t % 2 ^ 29 ≤ 2 ^ 28) → of_bits binary32 (with_sign s p) ≡ fma binary32 x y z
        go true h k =
            let l = h tt in
            let d = double_up B.sign B.size (f - 1) m (t % 2 ^ 29) (omega arith) (omega arith) (omega arith) (omega (arith, lo)) below above l in
            written (suc m) (omega arith) (omega arith) (omega arith) ∙ sym (B.narrow ∙ d ∙ (λ i. units binary32 (sign i) (suc m) (places i)))
        go false h k =
            let l = k tt in
            let d = double_down B.sign B.size (f - 1) m (t % 2 ^ 29) (omega arith) (omega arith) (omega arith) (omega (arith, lo)) below above (omega arith) in
            written m (omega arith) (omega arith) (omega arith) ∙ sym (B.narrow ∙ d ∙ (λ i. units binary32 (sign i) m (places i)))
