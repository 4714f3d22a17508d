-- Rounding a whole number of units that lie L places below the format's smallest value. Assumes nothing.
use mathlib.Core.Path.{◌≡◌, sym, ap, ◌∙◌, subst}
use mathlib.Core.Logic.{inl, inr}
use Prim.Native.Nat.{ℕ, suc, ◌+◌, ◌-◌, ◌*◌, ◌/◌, ◌^◌, ◌≤◌, ◌<◌}
use native.Mathlib.Nat.{le_trans, le_of_eq, lt_of_lt_of_le, eq-zero-or-pos, one-mul, mul_comm, mul_assoc, mul-pos, div-lt_iff_lt-mul}
use native.Mathlib.Omega.{arith}
use mathlib.Core.Bool.{Bool}
use lib.Pow.{pow-add, pow_pos, high}
use lib.Ieee.{Format, low, prec, size, units, round}
use lib.Ieee.Digits.{size-lt, size-le}
use lib.Ieee.Fits.{core, round_is}
use lib.Ieee.Nearest.{closest, closest_same, div_same}
use Rattle.ieee.proofs.Digits.{size_gt, size_cut}

-- ---- digits
-- without the last L of them
size_less : (N L : ℕ) → size (N / 2 ^ L) ≡ size N - L
size_less N L = elim (eq-zero-or-pos (size (N / 2 ^ L))) [
  | inl z ↦
      let h : N / 2 ^ L < 1 = subst (λ (x : ℕ). N / 2 ^ L < 2 ^ x) z (size-lt (N / 2 ^ L)) in
      let l : size N ≤ L = size-le N L (subst (λ (x : ℕ). N < x) (one-mul (2 ^ L)) ((div-lt_iff_lt-mul (pow_pos L)).0 h)) in
      omega arith
  | inr p ↦ let e = size_cut N L p in omega arith
]

-- from bounds
pub size_of : (N i j : ℕ) → 2 ^ i * 2 ^ j ≤ N → N < 2 ^ suc i * 2 ^ j → size N ≡ suc i + j
size_of N i j lo hi =
    let g : i + j < size N = size_gt N (i + j) (le_trans (le_of_eq (pow-add 2 i j)) lo) in
    let l : size N ≤ suc i + j = size-le N (suc i + j) (lt_of_lt_of_le hi (le_of_eq (sym (pow-add 2 (suc i) j)))) in
    omega arith

-- with j more of them behind
pub size_more : (z j r : ℕ) → 0 < size z → r < 2 ^ j → size (z * 2 ^ j + r) ≡ size z + j
size_more z j r p h =
    let e : (z * 2 ^ j + r) / 2 ^ j ≡ z = high z j h in
    size_cut (z * 2 ^ j + r) j (subst (λ (x : ℕ). 0 < size x) (sym e) p) ∙ ap (λ (x : ℕ). size x + j) e

-- ---- the rounding
pub round_dyadic : (f : Format) (L : ℕ) (s : Bool) (N k : ℕ) → size N - L - prec f ≡ k → round f s N (2 ^ (L + low f)) ≡ units f s (closest N (2 ^ (L + k))) k
round_dyadic f L s N k e =
    let w : ℕ = low f in
    let den = 2 ^ (L + w) in
    let e1 : N * 2 ^ w * 2 ^ L ≡ N * den = mul_assoc N (2 ^ w) (2 ^ L) ∙ ap (λ (x : ℕ). N * x) (mul_comm (2 ^ w) (2 ^ L) ∙ sym (pow-add 2 L w)) in
    let e2 : N * 2 ^ w / den ≡ N / 2 ^ L = div_same (N * 2 ^ w) den N (2 ^ L) (pow_pos (L + w)) (pow_pos L) e1 in
    let e3 : N * 2 ^ w * 2 ^ (L + k) ≡ N * (den * 2 ^ k) =
    ap (λ (x : ℕ). N * 2 ^ w * x) (pow-add 2 L k) ∙ sym (mul_assoc (N * 2 ^ w) (2 ^ L) (2 ^ k)) ∙ ap (λ (x : ℕ). x * 2 ^ k) e1 ∙ mul_assoc N den (2 ^ k) in
    round_is f s N den
    ∙ ap (λ (x : ℕ). core f s (N * 2 ^ w) den x) (ap (λ (x : ℕ). x - prec f) (ap size e2 ∙ size_less N L) ∙ e)
    ∙ ap (λ (x : ℕ). units f s x k) (closest_same (N * 2 ^ w) (den * 2 ^ k) N (2 ^ (L + k)) (mul-pos (pow_pos (L + w)) (pow_pos k)) (pow_pos (L + k)) e3)
