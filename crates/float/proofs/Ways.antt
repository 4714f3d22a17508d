-- What each way out of a function of this crate owes, as the code meets it: a premise for each test and for each call's result, so that `search` finds it. Assumes nothing.
use mathlib.Core.Path.{◌≡◌, refl, sym, ap, ◌∙◌, subst}
use Prim.Native.Nat.{ℕ, ◌+◌, ◌-◌, ◌*◌, ◌%◌, ◌^◌, ◌≤◌, ◌<◌, min}
use native.Mathlib.Nat.{le_antisymm}
use native.Mathlib.Omega.{arith}
use mathlib.Core.Bool.{Bool, true, false, not, ◌&&◌, and-true, and_assoc}
use mathlib.Core.List.{List, [], ◌∷◌, ◌++◌}
use lib.Dec.{T, leb, ltb, ltb→lt, nltb→le}
use lib.Ieee.{Float, nan, inf, fin, binary32, units, neg, le, fits, is_nan, of_bits, to_bits, nan_bits}
use lib.Ieee.Bits.{to_bits-lt}
use lib.Ieee.Exact.{HasValue}
use lib.Ieee.Scale.{finite}
use Rattle.std.specs.Float.{float_with_sign, float_is_finite}
use Rattle.ieee.specs.Sign.{abs}
use Rattle.ieee.specs.Limit.{within, all_within}
use Rattle.ieee.specs.Pattern.{with_sign, drops_of, infinity}
use Rattle.ieee.proofs.Pattern.{pattern_ok, write_finite, write_inf, read_value, read_inf, read_number}
use Rattle.ieee.proofs.Limits.{within_both}

-- ---- a pattern is read of a number, and has 32 bits
pub pattern_fits : (x : Float) → fits binary32 x ≡ true → to_bits binary32 x < 2 ^ 64
pattern_fits x f = let l : to_bits binary32 x < 2 ^ 32 = to_bits-lt binary32 x (subst T (sym f) tt) in omega arith

-- ---- split
-- no finite float
pub split_nan : (x : Float) → is_nan x ≡ true → finite x ≡ false
unfolding is_nan
split_nan nan h = refl
split_nan (inf s) h = refl
split_nan (fin s m e) h = absurd (subst T (sym h) tt)

pub split_inf : (x : Float) → fits binary32 x ≡ true → is_nan x ≡ false → infinity ≤ to_bits binary32 x % 2 ^ 31 → finite x ≡ false
split_inf x f h l =
    let t = subst T (sym f) tt in
    ap finite (read_inf x t (le_antisymm (read_number x t (subst (λ (b : Bool). T (not b)) (sym h) tt)) l))

-- a finite one, by its pattern
module _ (x : Float) (f : fits binary32 x ≡ true) (k : ℕ) (e : k ≡ drops_of (to_bits binary32 x % 2 ^ 31)) (l : to_bits binary32 x % 2 ^ 31 < infinity) where
  pub split_value : HasValue x (leb (2 ^ 31) (to_bits binary32 x)) ((to_bits binary32 x % 2 ^ 31 - k * 2 ^ 23) * 2 ^ k) (2 ^ 149)
  split_value =
      let p = to_bits binary32 x % 2 ^ 31 in
      subst (λ (d : ℕ). HasValue x (leb (2 ^ 31) (to_bits binary32 x)) ((p - d * 2 ^ 23) * 2 ^ d) (2 ^ 149)) (sym e) (read_value x (subst T (sym f) tt) l)

  pub split_small : to_bits binary32 x % 2 ^ 31 - k * 2 ^ 23 < 2 ^ 24
  split_small = omega (arith, e, l)

  pub split_short : k < 254
  split_short = omega (arith, e, l)

  pub split_full : 0 < k → 2 ^ 23 ≤ to_bits binary32 x % 2 ^ 31 - k * 2 ^ 23
  split_full h = omega (arith, e, l)

-- ---- signed, encode
pub ok_minus : (p : ℕ) → p ≤ infinity → T (not (nan_bits binary32 (2 ^ 31 + p)))
ok_minus p h = pattern_ok true p h

pub ok_plus : (p : ℕ) → p ≤ infinity → T (not (nan_bits binary32 p))
ok_plus p h = subst (λ (n : ℕ). T (not (nan_bits binary32 n))) (bare p) (pattern_ok false p h)
  where
    bare : (p : ℕ) → 0 + p ≡ p
    bare p = omega arith

pub signed_minus : (s : Bool) (p : ℕ) → s ≡ true → of_bits binary32 (2 ^ 31 + p) ≡ of_bits binary32 (with_sign s p)
signed_minus s p e = ap (λ (b : Bool). of_bits binary32 (with_sign b p)) (sym e)

pub signed_plus : (s : Bool) (p : ℕ) → s ≡ false → of_bits binary32 p ≡ of_bits binary32 (with_sign s p)
signed_plus s p e = ap (of_bits binary32) (bare p) ∙ ap (λ (b : Bool). of_bits binary32 (with_sign b p)) (sym e)
  where
    bare : (p : ℕ) → p ≡ 0 + p
    bare p = omega arith

pub encode_is : (s : Bool) (q k : ℕ) → (q ≤ 2 ^ 24) × (k < 1000) × (0 < k → 2 ^ 23 ≤ q) → of_bits binary32 (with_sign s (min (k * 2 ^ 23 + q) infinity)) ≡ units binary32 s q k
encode_is s q k h = go (ltb (k * 2 ^ 23 + q) infinity) (ltb→lt (k * 2 ^ 23 + q) infinity) (nltb→le (k * 2 ^ 23 + q) infinity)
  where
    less : (a b : ℕ) → a < b → min a b ≡ a
    less a b l = omega arith

    more : (a b : ℕ) → b ≤ a → min a b ≡ b
    more a b l = omega arith

    go : (b : Bool) → (T b → k * 2 ^ 23 + q < infinity) → (T (not b) → infinity ≤ k * 2 ^ 23 + q) → of_bits binary32 (with_sign s (min (k * 2 ^ 23 + q) infinity)) ≡ units binary32 s q k
    go true l m = ap (λ (n : ℕ). of_bits binary32 (with_sign s n)) (less (k * 2 ^ 23 + q) infinity (l tt)) ∙ write_finite q k h.0 h.2 s (l tt)
    go false l m = ap (λ (n : ℕ). of_bits binary32 (with_sign s n)) (more (k * 2 ^ 23 + q) infinity (m tt)) ∙ write_inf q k h.0 h.2 s (m tt)

-- ---- abs, is_finite
pub abs_is : (x : Float) → float_with_sign false x ≡ abs x
unfolding float_with_sign
abs_is nan = refl
abs_is (inf s) = refl
abs_is (fin s m e) = refl

pub finite_is : (x : Float) → float_is_finite x ≡ finite x
unfolding float_is_finite
finite_is nan = refl
finite_is (inf s) = refl
finite_is (fin s m e) = refl

-- ---- is_within, all_within
pub within_low : (limit x : Float) → le x limit ≡ true → le (neg limit) x ≡ within limit x
within_low limit x h = sym (within_both x limit ∙ ap (λ (b : Bool). b && le (neg limit) x) h)

pub within_not : (limit x : Float) → le x limit ≡ false → le x limit ≡ within limit x
within_not limit x h = h ∙ sym (within_both x limit ∙ ap (λ (b : Bool). b && le (neg limit) x) h)

all_push : (limit : Float) (xs : List Float) (x : Float) → all_within limit (xs ++ (x ∷ [])) ≡ (all_within limit xs && within limit x)
unfolding all_within
all_push limit [] x = and-true (within limit x)
all_push limit (y ∷ ys) x =
    ap (λ (b : Bool). within limit y && b) (all_push limit ys x)
    ∙ sym (and_assoc (within limit y) (all_within limit ys) (within limit x))

pub all_none : (limit : Float) → true ≡ all_within limit []
unfolding all_within
all_none limit = refl

pub all_more : (limit : Float) (xs : List Float) (x : Float) (so_far : Bool) → so_far ≡ all_within limit xs → (so_far && within limit x) ≡ all_within limit (xs ++ (x ∷ []))
all_more limit xs x so_far e = ap (λ (b : Bool). b && within limit x) e ∙ sym (all_push limit xs x)

pub ruleset ways = (pattern_fits, split_nan, split_inf, split_value, split_small, split_short, split_full, ok_minus, ok_plus, signed_minus, signed_plus, encode_is, abs_is, finite_is, within_low, within_not)
