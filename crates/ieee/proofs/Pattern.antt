-- Bit patterns of binary32 and the numbers of units that they stand for: read (`pattern_value`, `read_value`) and written (`write_finite`, `write_inf`); the sign bit cleared
-- (`abs_pattern`); and which patterns are no NaN's. Assumes nothing.
use mathlib.Core.Path.{◌≡◌, refl, sym, ap, ◌∙◌, subst}
use mathlib.Core.Logic.{inl, inr}
use Prim.Native.Nat.{ℕ, zero, suc, ◌+◌, ◌-◌, ◌*◌, ◌/◌, ◌%◌, ◌^◌, ◌≤◌, ◌<◌}
use native.Mathlib.Nat.{le_trans, le_of_eq, lt_of_lt_of_le, eq-or-lt_of_le, mul_assoc, mul-le-mul_right, mul-lt-mul_of_pos_right, pow-succ'}
use native.Mathlib.Omega.{arith}
use mathlib.Core.Bool.{Bool, true, false, not, cond, true≢false}
use lib.Dec.{T, leb, eqb, eqb→eq, leb→le, le→leb, nleb→lt, nltb→le, not_T}
use lib.Arith.{lt→nleb, le→nltb}
use lib.Pow.{pow-add, pow_pos, pow_mono, pow-lt}
use lib.Ieee.{Float, nan, inf, fin, binary32, odd, units, eq, ne, fits, is_nan, of_fields, of_bits, to_bits, nan_bits}
use lib.Ieee.Exact.{HasValue, odd_sign, units_val}
use lib.Ieee.Scale.{finite}
use lib.Ieee.Bits.{is_true, is_false, cond_no, of_bits-fits, of_bits-to_bits, to_bits-lt, nan_bits_is, nan_bits_above}
use Rattle.ieee.specs.Sign.{abs}
use Rattle.ieee.specs.Pattern.{with_sign, drops_of, digits_of, infinity}
use Rattle.ieee.proofs.Value.{value_unique}
use Rattle.ieee.proofs.Units.{units_fits, units_inf}

-- ---- the fields of a pattern
pub pattern_is : (b : ℕ) → of_bits binary32 b ≡ of_fields binary32 (leb (2 ^ 31) b) (b % 2 ^ 31 / 2 ^ 23) (b % 2 ^ 23)
unfolding of_bits
pattern_is b = refl

-- a pattern is its sign and the rest
pub split_sign : (b : ℕ) → b < 2 ^ 32 → b ≡ with_sign (leb (2 ^ 31) b) (b % 2 ^ 31)
split_sign b h = go (leb (2 ^ 31) b) (leb→le (2 ^ 31) b) (nleb→lt (2 ^ 31) b)
  where
    go : (s : Bool) → (T s → 2 ^ 31 ≤ b) → (T (not s) → b < 2 ^ 31) → b ≡ with_sign s (b % 2 ^ 31)
    go true p q = let l = p tt in omega arith
    go false p q = let l = q tt in omega arith

sign_is : (s : Bool) (p : ℕ) → p < 2 ^ 31 → leb (2 ^ 31) (with_sign s p) ≡ s
sign_is true p h = is_true (leb (2 ^ 31) (2 ^ 31 + p)) (le→leb (2 ^ 31) (2 ^ 31 + p) (omega arith))
sign_is false p h = is_false (leb (2 ^ 31) (0 + p)) (lt→nleb (2 ^ 31) (0 + p) (omega arith))

rest_is : (s : Bool) (p : ℕ) → p < 2 ^ 31 → with_sign s p % 2 ^ 31 ≡ p
rest_is true p h = omega arith
rest_is false p h = omega arith

digits_is : (s : Bool) (p : ℕ) → p < 2 ^ 31 → with_sign s p % 2 ^ 23 ≡ p % 2 ^ 23
digits_is true p h = omega arith
digits_is false p h = omega arith

pub fields : (s : Bool) (p : ℕ) → p < 2 ^ 31 → of_bits binary32 (with_sign s p) ≡ of_fields binary32 s (p / 2 ^ 23) (p % 2 ^ 23)
fields s p h = pattern_is (with_sign s p) ∙ (λ i. of_fields binary32 (sign_is s p h i) (rest_is s p h i / 2 ^ 23) (digits_is s p h i))

-- ---- the value of a finite pattern
fields_value : (s : Bool) (x t : ℕ) → x < 255 → HasValue (of_fields binary32 s x t) s ((x * 2 ^ 23 + t - (x - 1) * 2 ^ 23) * 2 ^ (x - 1)) (2 ^ 149)
unfolding of_fields
fields_value s zero t h = subst (λ (y : ℕ). HasValue (odd 24 s t 0 149) s (y * 2 ^ 0) (2 ^ 149)) (same t) (odd_sign 24 s t 0 149)
  where
    same : (t : ℕ) → t ≡ 0 * 2 ^ 23 + t - (0 - 1) * 2 ^ 23
    same t = omega arith
fields_value s (suc x) t h =
    subst (λ (v : Float). HasValue v s ((suc x * 2 ^ 23 + t - (suc x - 1) * 2 ^ 23) * 2 ^ (suc x - 1)) (2 ^ 149))
    (sym (cond_no (eqb (suc x) 255) (cond (eqb t 0) (inf s) nan) (odd 24 s (2 ^ 23 + t) x 149) (not_T (eqb (suc x) 255) (λ u. differ (eqb→eq (suc x) 255 u)))))
    (subst (λ (y : ℕ). HasValue (odd 24 s (2 ^ 23 + t) x 149) s (y * 2 ^ (suc x - 1)) (2 ^ 149)) (same x t)
    (subst (λ (y : ℕ). HasValue (odd 24 s (2 ^ 23 + t) x 149) s ((2 ^ 23 + t) * 2 ^ y) (2 ^ 149)) (less x) (odd_sign 24 s (2 ^ 23 + t) x 149)))
  where
    differ : suc x ≡ 255 → ⊥
    differ e = omega arith

    same : (x t : ℕ) → 2 ^ 23 + t ≡ suc x * 2 ^ 23 + t - (suc x - 1) * 2 ^ 23
    same x t = omega arith

    less : (x : ℕ) → x ≡ suc x - 1
    less x = omega arith

pub pattern_value : (s : Bool) (p : ℕ) → p < infinity → HasValue (of_bits binary32 (with_sign s p)) s (digits_of p * 2 ^ drops_of p) (2 ^ 149)
pattern_value s p h =
    subst (λ (v : Float). HasValue v s (digits_of p * 2 ^ drops_of p) (2 ^ 149)) (sym (fields s p (omega arith)))
    (subst (λ (y : ℕ). HasValue (of_fields binary32 s (p / 2 ^ 23) (p % 2 ^ 23)) s ((y - (p / 2 ^ 23 - 1) * 2 ^ 23) * 2 ^ (p / 2 ^ 23 - 1)) (2 ^ 149)) (back p)
    (fields_value s (p / 2 ^ 23) (p % 2 ^ 23) (omega arith)))
  where
    back : (p : ℕ) → p / 2 ^ 23 * 2 ^ 23 + p % 2 ^ 23 ≡ p
    back p = omega arith

pub pattern_inf : (s : Bool) → of_bits binary32 (with_sign s infinity) ≡ inf s
unfolding of_bits
pattern_inf true = refl
pattern_inf false = refl

-- ---- what is no NaN's
pub rest_ok : (b : ℕ) → b % 2 ^ 31 ≤ infinity → T (not (nan_bits binary32 b))
rest_ok b h = subst (λ (x : Bool). T (not x)) (sym (nan_bits_above binary32 b)) (le→nltb infinity (b % 2 ^ 31) h)

pub pattern_ok : (s : Bool) (p : ℕ) → p ≤ infinity → T (not (nan_bits binary32 (with_sign s p)))
pattern_ok s p h = rest_ok (with_sign s p) (subst (λ (x : ℕ). x ≤ infinity) (sym (rest_is s p (omega arith))) h)

-- ---- a pattern written: q * 2 ^ k units, where q has 24 digits, or fewer if k is 0. A q of 2 ^ 24 is the next k's 2 ^ 23, and the sum carries by itself
module _ (q k : ℕ) (q_le : q ≤ 2 ^ 24) (full : 0 < k → 2 ^ 23 ≤ q) where
  written : digits_of (k * 2 ^ 23 + q) * 2 ^ drops_of (k * 2 ^ 23 + q) ≡ q * 2 ^ k
  written = elim (eq-or-lt_of_le q_le) [
    | inl e ↦
        let d : drops_of (k * 2 ^ 23 + q) ≡ suc k = carry e in
        ap (λ (x : ℕ). (k * 2 ^ 23 + q - x * 2 ^ 23) * 2 ^ x) d
        ∙ ap (λ (x : ℕ). x * 2 ^ suc k) (rest e)
        ∙ ap (λ (x : ℕ). 2 ^ 23 * x) (pow-succ' 2 k)
        ∙ sym (mul_assoc (2 ^ 23) 2 (2 ^ k))
        ∙ ap (λ (x : ℕ). x * 2 ^ k) (sym e)
    | inr l ↦ ap (λ (x : ℕ). (k * 2 ^ 23 + q - x * 2 ^ 23) * 2 ^ x) (stays k full l) ∙ ap (λ (x : ℕ). x * 2 ^ k) (alone k)
  ]
    where
      carry : q ≡ 2 ^ 24 → (k * 2 ^ 23 + q) / 2 ^ 23 - 1 ≡ suc k
      carry e = omega arith

      rest : q ≡ 2 ^ 24 → k * 2 ^ 23 + q - suc k * 2 ^ 23 ≡ 2 ^ 23
      rest e = omega arith

      alone : (k : ℕ) → k * 2 ^ 23 + q - k * 2 ^ 23 ≡ q
      alone k = omega arith

      stays : (k : ℕ) → (0 < k → 2 ^ 23 ≤ q) → q < 2 ^ 24 → (k * 2 ^ 23 + q) / 2 ^ 23 - 1 ≡ k
      stays zero g l = omega arith
      stays (suc k) g l = let x : 2 ^ 23 ≤ q = g (omega arith) in omega arith

  under : k * 2 ^ 23 + q < infinity → q * 2 ^ k < 2 ^ 277
  under h = elim (eq-or-lt_of_le q_le) [
    | inl e ↦ subst (λ (x : ℕ). x * 2 ^ k < 2 ^ 277) (sym e) (subst (λ (x : ℕ). x < 2 ^ 277) (pow-add 2 24 k) (pow-lt (room e)))
    | inr l ↦ lt_of_lt_of_le (subst (λ (x : ℕ). q * 2 ^ k < x) (sym (pow-add 2 24 k)) (mul-lt-mul_of_pos_right l (pow_pos k))) (pow_mono (room' k full h))
  ]
    where
      room : q ≡ 2 ^ 24 → 24 + k < 277
      room e = omega arith

      room' : (k : ℕ) → (0 < k → 2 ^ 23 ≤ q) → k * 2 ^ 23 + q < infinity → 24 + k ≤ 277
      room' zero g h = omega arith
      room' (suc k) g h = let x : 2 ^ 23 ≤ q = g (omega arith) in omega arith

  over : infinity ≤ k * 2 ^ 23 + q → 2 ^ 277 ≤ q * 2 ^ k
  over h = elim (eq-or-lt_of_le q_le) [
    | inl e ↦ subst (λ (x : ℕ). 2 ^ 277 ≤ x * 2 ^ k) (sym e) (subst (λ (x : ℕ). 2 ^ 277 ≤ x) (pow-add 2 24 k) (pow_mono (room e)))
    | inr l ↦ le_trans (pow_mono (room' l)) (le_trans (le_of_eq (pow-add 2 23 k)) (mul-le-mul_right (2 ^ k) (full (some l))))
  ]
    where
      room : q ≡ 2 ^ 24 → 277 ≤ 24 + k
      room e = omega arith

      room' : q < 2 ^ 24 → 277 ≤ 23 + k
      room' l = omega arith

      some : q < 2 ^ 24 → 0 < k
      some l = omega arith

  pub write_finite : (s : Bool) → k * 2 ^ 23 + q < infinity → of_bits binary32 (with_sign s (k * 2 ^ 23 + q)) ≡ units binary32 s q k
  write_finite s h =
      value_unique binary32 (of_bits binary32 (with_sign s (k * 2 ^ 23 + q))) (units binary32 s q k) s (q * 2 ^ k) (2 ^ 149) (pow_pos 149)
      (of_bits-fits binary32 (with_sign s (k * 2 ^ 23 + q))) (units_fits binary32 s q k q_le)
      (subst (λ (x : ℕ). HasValue (of_bits binary32 (with_sign s (k * 2 ^ 23 + q))) s x (2 ^ 149)) written (pattern_value s (k * 2 ^ 23 + q) h))
      (units_val binary32 s q k (under h))

  pub write_inf : (s : Bool) → infinity ≤ k * 2 ^ 23 + q → of_bits binary32 (with_sign s infinity) ≡ units binary32 s q k
  write_inf s h = pattern_inf s ∙ sym (units_inf binary32 s q k (over h))

  -- up to the infinity's own pattern the sum is written as it stands
  pub write : (s : Bool) → k * 2 ^ 23 + q ≤ infinity → of_bits binary32 (with_sign s (k * 2 ^ 23 + q)) ≡ units binary32 s q k
  write s h = elim (eq-or-lt_of_le h) [
    | inl e ↦ ap (λ (p : ℕ). of_bits binary32 (with_sign s p)) e ∙ write_inf s (le_of_eq (sym e))
    | inr l ↦ write_finite s l
  ]

-- ---- a float by its own pattern
pub finite_number : (x : Float) → finite x ≡ true → T (not (is_nan x))
unfolding is_nan
finite_number nan h = absurd (subst T (sym h) tt)
finite_number (inf s) h = tt
finite_number (fin s m e) h = tt

module _ (x : Float) (held : T (fits binary32 x)) where
  abbrev rest : ℕ
  rest = to_bits binary32 x % 2 ^ 31

  abbrev sign : Bool
  sign = leb (2 ^ 31) (to_bits binary32 x)

  read_is : of_bits binary32 (with_sign sign rest) ≡ x
  read_is = ap (of_bits binary32) (sym (split_sign (to_bits binary32 x) (to_bits-lt binary32 x held))) ∙ of_bits-to_bits binary32 x held

  pub read_value : rest < infinity → HasValue x sign (digits_of rest * 2 ^ drops_of rest) (2 ^ 149)
  read_value h = subst (λ (v : Float). HasValue v sign (digits_of rest * 2 ^ drops_of rest) (2 ^ 149)) read_is (pattern_value sign rest h)

  pub read_inf : rest ≡ infinity → x ≡ inf sign
  read_inf e = sym read_is ∙ ap (λ (p : ℕ). of_bits binary32 (with_sign sign p)) e ∙ pattern_inf sign

  pub read_number : T (not (is_nan x)) → rest ≤ infinity
  read_number t =
      nltb→le infinity rest
      (subst (λ (b : Bool). T (not b)) (sym (nan_bits_is binary32 (to_bits binary32 x)) ∙ nan_bits_above binary32 (to_bits binary32 x))
      (subst (λ (v : Float). T (not (is_nan v))) (sym (of_bits-to_bits binary32 x held)) t))

  pub read_finite : finite x ≡ true → rest < infinity
  read_finite h = elim (eq-or-lt_of_le (read_number (finite_number x h))) [
    | inl e ↦ absurd (subst T (sym h ∙ ap finite (read_inf e)) tt)
    | inr l ↦ l
  ]

-- ---- the sign bit cleared
abs_odd : (d : ℕ) (s : Bool) (q k l : ℕ) → abs (odd d s q k l) ≡ odd d false q k l
unfolding odd
abs_odd d s zero k l = refl
abs_odd d s (suc q) k l = refl

abs_fields : (s : Bool) (x t : ℕ) → abs (of_fields binary32 s x t) ≡ of_fields binary32 false x t
unfolding of_fields
abs_fields s zero t = abs_odd 24 s t 0 149
abs_fields s (suc x) t = go (eqb (suc x) 255) (eqb t 0)
  where
    go : (a b : Bool) → abs (cond a (cond b (inf s) nan) (odd 24 s (2 ^ 23 + t) x 149)) ≡ cond a (cond b (inf false) nan) (odd 24 false (2 ^ 23 + t) x 149)
    go true true = refl
    go true false = refl
    go false b = abs_odd 24 s (2 ^ 23 + t) x 149

pub abs_pattern : (b : ℕ) → of_bits binary32 (b % 2 ^ 31) ≡ abs (of_bits binary32 b)
abs_pattern b =
    ap (of_bits binary32) (bare (b % 2 ^ 31)) ∙ fields false (b % 2 ^ 31) (omega arith)
    ∙ ap (λ (t : ℕ). of_fields binary32 false (b % 2 ^ 31 / 2 ^ 23) t) (low b)
    ∙ sym (abs_fields (leb (2 ^ 31) b) (b % 2 ^ 31 / 2 ^ 23) (b % 2 ^ 23))
    ∙ ap abs (sym (pattern_is b))
  where
    bare : (p : ℕ) → p ≡ 0 + p
    bare p = omega arith

    low : (b : ℕ) → b % 2 ^ 31 % 2 ^ 23 ≡ b % 2 ^ 23
    low b = omega arith

-- ---- a number, and no NaN, equals itself
pub is_number : (x : Float) → ne x x ≡ false → T (not (is_nan x))
unfolding ne is_nan
is_number nan e = absurd (true≢false e)
is_number (inf s) e = tt
is_number (fin s m e) k = tt

pub is_number_eq : (x : Float) → eq x x ≡ true → T (not (is_nan x))
unfolding eq is_nan
is_number_eq nan e = absurd (true≢false (sym e))
is_number_eq (inf s) e = tt
is_number_eq (fin s m e) k = tt
