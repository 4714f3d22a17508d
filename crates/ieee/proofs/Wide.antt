-- binary64 beside binary32: what a pattern of binary64 stands for, which is no NaN's, and that binary64 holds what binary32 does and the products of two of its numbers. Assumes nothing.
use mathlib.Core.Path.{◌≡◌, refl, sym, ap, ◌∙◌, subst}
use Prim.Native.Nat.{ℕ, suc, ◌+◌, ◌-◌, ◌*◌, ◌/◌, ◌%◌, ◌^◌, ◌≤◌, ◌<◌}
use native.Mathlib.Nat.{le_trans, le_of_eq, lt_of_lt_of_le, mul_assoc, mul-lt-mul_of_pos_right}
use native.Mathlib.Omega.{arith}
use mathlib.Core.Bool.{Bool, true, false, not, ◌&&◌, cond}
use lib.Dec.{T, leb, eqb, eqb→eq, not_T, lit≤}
use lib.Arith.{le→nltb}
use lib.Pow.{pow-add, pow_pos, pow_mono}
use lib.Ieee.{Float, nan, inf, binary32, binary64, unlike, odd, mul, ne, fits, is_nan, of_fields, of_bits, nan_bits}
use lib.Ieee.Exact.{HasValue, odd_sign, round_exact}
use lib.Ieee.Fits.{and_i, fits_widens}
use lib.Ieee.Bits.{cond_no, nan_bits_above}
use Rattle.ieee.proofs.Digits.{lt_pow_mul, product_pow}
use Rattle.ieee.proofs.Operations.{mul_at}
use Rattle.ieee.proofs.Pattern.{is_number}

-- ---- a number of binary32
pub widens : (x : Float) → fits binary32 x ≡ true → ne x x ≡ false → T (fits binary64 x && not (is_nan x))
widens x f h = and_i (fits binary64 x) (not (is_nan x)) (fits_widens x (subst T (sym f) tt)) (is_number x h)

-- ---- patterns
pub rest_ok_64 : (b : ℕ) → b % 2 ^ 63 ≤ 2047 * 2 ^ 52 → T (not (nan_bits binary64 b))
rest_ok_64 b h = subst (λ (x : Bool). T (not x)) (sym (nan_bits_above binary64 b)) (le→nltb (2047 * 2 ^ 52) (b % 2 ^ 63) h)

pattern_64 : (b : ℕ) → of_bits binary64 b ≡ of_fields binary64 (leb (2 ^ 63) b) (b % 2 ^ 63 / 2 ^ 52) (b % 2 ^ 52)
unfolding of_bits
pattern_64 b = refl

fields_64 : (s : Bool) (x t : ℕ) → (suc x ≡ 2047 → ⊥) → of_fields binary64 s (suc x) t ≡ odd 53 s (2 ^ 52 + t) x 1074
unfolding of_fields
fields_64 s x t n = cond_no (eqb (suc x) 2047) (cond (eqb t 0) (inf s) nan) (odd 53 s (2 ^ 52 + t) x 1074) (not_T (eqb (suc x) 2047) (λ u. n (eqb→eq (suc x) 2047 u)))

-- in binary64's normal range
pub value_64 : (b : ℕ) → 0 < b % 2 ^ 63 / 2 ^ 52 → b % 2 ^ 63 / 2 ^ 52 < 2047 → HasValue (of_bits binary64 b) (leb (2 ^ 63) b) ((2 ^ 52 + b % 2 ^ 52) * 2 ^ (b % 2 ^ 63 / 2 ^ 52 - 1)) (2 ^ 1074)
value_64 b lo hi =
    let f = b % 2 ^ 63 / 2 ^ 52 in
    let s = leb (2 ^ 63) b in
    let again : f ≡ suc (f - 1) = omega arith in
    subst (λ (y : Float). HasValue y s ((2 ^ 52 + b % 2 ^ 52) * 2 ^ (f - 1)) (2 ^ 1074))
    (sym (pattern_64 b ∙ ap (λ (y : ℕ). of_fields binary64 s y (b % 2 ^ 52)) again ∙ fields_64 s (f - 1) (b % 2 ^ 52) (λ e. omega arith)))
    (odd_sign 53 s (2 ^ 52 + b % 2 ^ 52) (f - 1) 1074)

-- ---- the product of two numbers of binary32 is exact
pub product_exact : (x y : Float) (s t : Bool) (a i b j : ℕ) → a < 2 ^ 24 → b < 2 ^ 24 → i < 254 → j < 254 → HasValue x s (a * 2 ^ i) (2 ^ 149) → HasValue y t (b * 2 ^ j) (2 ^ 149)
    → HasValue (mul binary64 x y) (unlike s t) (a * 2 ^ i * (b * 2 ^ j)) (2 ^ 298)
product_exact x y s t a i b j A B I J v w =
    let P = a * b in
    let k = i + j in
    let n = a * 2 ^ i * (b * 2 ^ j) in
    let P-lt : P < 2 ^ 48 = lt_pow_mul 24 24 a b A B in
    let room : 48 + (k + 776) ≤ 2098 = omega arith in
    subst (λ (v : Float). HasValue v (unlike s t) n (2 ^ 298)) (sym (mul_at binary64 x y s t (a * 2 ^ i) (2 ^ 149) (b * 2 ^ j) (2 ^ 149) (pow_pos 149) (pow_pos 149) v w))
    (round_exact binary64 (unlike s t) n (2 ^ 298) P (k + 776) (pow_pos 298) (lt_of_lt_of_le P-lt (lit≤ tt))
    (lt_of_lt_of_le (mul-lt-mul_of_pos_right P-lt (pow_pos (k + 776))) (le_trans (le_of_eq (sym (pow-add 2 48 (k + 776)))) (pow_mono room)))
    (ap (λ (m : ℕ). m * 2 ^ 1074) (product_pow a i b j) ∙ mul_assoc P (2 ^ k) (2 ^ 1074)
    ∙ ap (λ (m : ℕ). P * m) (sym (mul_assoc (2 ^ k) (2 ^ 776) (2 ^ 298)) ∙ ap (λ (m : ℕ). m * 2 ^ 298) (sym (pow-add 2 k 776))) ∙ sym (mul_assoc P (2 ^ (k + 776)) (2 ^ 298))))
