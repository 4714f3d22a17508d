-- The exponent field of a binary64 number's pattern: it is in the normal range, and far below the infinity's, where the number's size is. Assumes nothing.
use mathlib.Core.Path.{◌≡◌, sym, ap, ◌∙◌, subst}
use Prim.Native.Nat.{ℕ, ◌+◌, ◌-◌, ◌*◌, ◌/◌, ◌%◌, ◌^◌, ◌≤◌, ◌<◌}
use native.Mathlib.Nat.{le_trans, le_of_eq, mul_assoc, mul_comm, mul_left_comm, mul_right_comm, mul-pos, mul-le-mul_right, mul-lt-mul_of_pos_right, le_of_mul-le-mul_right, lt_of_mul-lt-mul_right, le-div_iff_mul-le, div-lt_iff_lt-mul}
use native.Mathlib.Omega.{arith}
use mathlib.Core.Bool.{Bool, true, false, cond}
use lib.Pow.{pow-add, pow_pos}
use lib.Ieee.{Float, nan, inf, fin, binary64, up, down, size, to_bits}
use lib.Ieee.Digits.{size-le, size_reaches}
use lib.Ieee.Fits.{down_pos, kept-lt}
use lib.Ieee.Exact.{HasValue}
use Rattle.ieee.proofs.Digits.{size_gt}

-- ---- bounds on n / K, which is a / d, carry over to a / d
module _ (a d n K : ℕ) (same : a * K ≡ n * d) (pos_K : 0 < K) where
  at_least : (X Y : ℕ) → K ≤ n * X → Y * d ≤ a * (X * Y)
  at_least X Y h =
      let l : K * (Y * d) ≤ n * X * (Y * d) = mul-le-mul_right (Y * d) h in
      let right : n * X * (Y * d) ≡ a * (X * Y) * K = regroup n X Y d ∙ ap (λ (z : ℕ). z * (X * Y)) (sym same) ∙ mul_right_comm a K (X * Y) in
      le_of_mul-le-mul_right (le_trans (le_of_eq (mul_comm (Y * d) K)) (le_trans l (le_of_eq right))) pos_K
    where
      regroup : (n X Y d : ℕ) → n * X * (Y * d) ≡ n * d * (X * Y)
      regroup n X Y d = simp (mul_assoc, mul_comm, mul_left_comm)

  below : (X Y : ℕ) → 0 < d → 0 < X → n < K * Y → a * X < Y * X * d
  below X Y D P h =
      let l : n * (d * X) < K * Y * (d * X) = mul-lt-mul_of_pos_right h (mul-pos D P) in
      let left : a * X * K ≡ n * (d * X) = mul_right_comm a X K ∙ ap (λ (z : ℕ). z * X) same ∙ mul_assoc n d X in
      lt_of_mul-lt-mul_right K (subst (λ (z : ℕ). z < Y * X * d * K) (sym left) (subst (λ (z : ℕ). n * (d * X) < z) (regroup K Y d X) l))
    where
      regroup : (K Y d X : ℕ) → K * Y * (d * X) ≡ Y * X * d * K
      regroup K Y d X = simp (mul_assoc, mul_comm, mul_left_comm)

-- ---- the field of a pattern, and of the one that `to_bits` writes for N smallest values
abbrev pub field_of : ℕ → ℕ
field_of b = b % 2 ^ 63 / 2 ^ 52

field_is : (t : Bool) (k u : ℕ) → 2 ^ 52 ≤ u → u < 2 ^ 53 → k < 1922 → field_of (cond t (2 ^ 63) 0 + k * 2 ^ 52 + u) ≡ k + 1
field_is true k u lo hi K = omega arith
field_is false k u lo hi K = omega arith

field_within : (t : Bool) (N : ℕ) → 2 ^ 52 ≤ N → N < 2 ^ 1974 → (let f = field_of (cond t (2 ^ 63) 0 + (size N - 53) * 2 ^ 52 + N / 2 ^ (size N - 53)) in (0 < f) × (f < 1923))
field_within t N lo hi =
    let k = size N - 53 in
    let z_lo : 52 < size N = size_gt N 52 lo in
    let z_hi : size N ≤ 1974 = size-le N 1974 hi in
    let K : k < 1922 = omega arith in
    let reach : 52 + k < size N = omega arith in
    let u_lo : 2 ^ 52 ≤ N / 2 ^ k = (le-div_iff_mul-le (pow_pos k)).1 (le_trans (le_of_eq (sym (pow-add 2 52 k))) (size_reaches N (52 + k) reach)) in
    let is = field_is t k (N / 2 ^ k) u_lo (kept-lt 53 N) K in
    (omega (arith, is), omega (arith, is))

pub in_range : (w : Float) (s : Bool) (n q : ℕ) → HasValue w s n (2 ^ q) → 2 ^ q ≤ n * 2 ^ 1022 → n < 2 ^ (q + 900) → (0 < field_of (to_bits binary64 w)) × (field_of (to_bits binary64 w) < 1923)
unfolding to_bits
in_range nan s n q v lo hi = absurd v
in_range (inf t) s n q v lo hi = absurd v
in_range (fin t m g) s n q v lo hi =
    field_within t (m * up g * 2 ^ 1074 / down g)
    ((le-div_iff_mul-le (down_pos g)).1 (at_least (m * up g) (down g) n (2 ^ q) v.1 (pow_pos q) (2 ^ 1022) (2 ^ 52) lo))
    ((div-lt_iff_lt-mul (down_pos g)).1 (below (m * up g) (down g) n (2 ^ q) v.1 (pow_pos q) (2 ^ 1074) (2 ^ 900) (down_pos g) (pow_pos 1074) (subst (λ (z : ℕ). n < z) (pow-add 2 q 900) hi)))
