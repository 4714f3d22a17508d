-- A number of binary32 whose pattern is within 13 binades of the pattern `top` is a whole number of 2 ^ -q, at most 2 ^ 37 of them, where q goes by `top` alone. Assumes nothing.
use mathlib.Core.Path.{◌≡◌, refl, sym, ap, ◌∙◌, subst}
use Prim.Native.Nat.{ℕ, ◌+◌, ◌-◌, ◌*◌, ◌/◌, ◌^◌, ◌≤◌, ◌<◌, zero-le}
use native.Mathlib.Nat.{lt_irrefl, zero-mul, mul_assoc, mul-pos, mul-le-mul}
use native.Mathlib.Omega.{arith}
use mathlib.Core.Bool.{Bool, true, false, not, true≢false}
use mathlib.Core.List.{List, [], ◌∷◌}
use lib.ListN.{length, get_or}
use lib.IntN.{pos}
use lib.Dec.{T, leb}
use lib.Pow.{pow-add, pow_pos, pow_mono}
use lib.Ieee.{Float, nan, fin, binary32, fits, is_nan, to_bits, of_bits}
use lib.Ieee.Bits.{is_true, of_bits-to_bits}
use lib.Ieee.Exact.{HasValue}
use lib.Ieee.Scale.{finite}
use borrow.Author.Tests.{leb-true}
use Rattle.std.specs.Bool.{MatchBool}
use Rattle.std.specs.List.{AllWithin}
use Rattle.ieee.specs.Limit.{within, Bounded}
use Rattle.ieee.specs.Pattern.{bare, digits_of, drops_of}
use Rattle.ieee.proofs.Value.{rescale}
use Rattle.ieee.proofs.Bounds.{bounded_finite, within→bounded}
use Rattle.ieee.proofs.Pattern.{finite_number, read_value}
use Rattle.flatten.specs.Level.{Level, Coordinates, QuadCoordinates, Near, AllNear}

-- ---- +0
zero_is : of_bits binary32 0 ≡ fin false 0 (pos 0)
unfolding of_bits
zero_is = refl

level_zero : (q : ℕ) (x : Float) → T (fits binary32 x) → to_bits binary32 x ≡ 0 → Level q x
level_zero q x f e = record {
  sign = false;
  count = 0;
  value = subst (λ (y : Float). HasValue y false 0 (2 ^ q)) (sym (ap (of_bits binary32) e ∙ zero_is) ∙ of_bits-to_bits binary32 x f) (refl, zero-mul (2 ^ q));
  bound = zero-le;
  fair = λ z. refl;
}

-- ---- digits * 2 ^ drops smallest values are digits * 2 ^ up of 2 ^ -q
moved : (d up l drops q : ℕ) → up + l ≡ drops + q → d * 2 ^ up * 2 ^ l ≡ d * 2 ^ drops * 2 ^ q
moved d up l drops q e = mul_assoc d (2 ^ up) (2 ^ l) ∙ ap (λ (n : ℕ). d * n) (sym (pow-add 2 up l) ∙ ap (λ (n : ℕ). 2 ^ n) e ∙ pow-add 2 drops q) ∙ sym (mul_assoc d (2 ^ drops) (2 ^ q))

module _ (top : ℕ) (x : Float) (held : T (fits binary32 x)) (lo : 0x1a80_0000 ≤ top) (hi : top ≤ 0x4a80_0000) (near : top - 0x0680_0000 ≤ bare x) (under : bare x ≤ top) where
  abbrev up : ℕ
  up = drops_of (bare x) - (top / 2 ^ 23 - 14)

  abbrev q : ℕ
  q = 163 - top / 2 ^ 23

  same_place : up + 149 ≡ drops_of (bare x) + q
  same_place = omega arith

  up_le : up ≤ 13
  up_le = omega arith

  digits_le : digits_of (bare x) ≤ 2 ^ 24
  digits_le = omega arith

  digits_some : 0 < digits_of (bare x)
  digits_some = omega arith

  level_size : Level q x
  level_size =
      let d = digits_of (bare x) in
      let s = leb (2 ^ 31) (to_bits binary32 x) in
      record {
        sign = s;
        count = d * 2 ^ up;
        value = rescale x s (d * 2 ^ drops_of (bare x)) (2 ^ 149) (d * 2 ^ up) (2 ^ q) (pow_pos 149) (moved d up 149 (drops_of (bare x)) q same_place) (read_value x held (omega arith));
        bound = mul-le-mul digits_le (pow_mono up_le);
        fair = λ z. absurd (lt_irrefl 0 (subst (λ (n : ℕ). 0 < n) z (mul-pos digits_some (pow_pos up))));
      }

-- ---- as `is_near` meets them
limit : HasValue (of_bits binary32 0x4a80_0000) false (2 ^ 22) 1
unfolding of_bits
limit = (refl, refl)

module _ (x : Float) (r : Bool) (is : r ≡ within (of_bits binary32 0x4a80_0000) x) (passed : r ≡ true) where
  inside : Bounded (2 ^ 22) x
  inside = within→bounded (2 ^ 22) (of_bits binary32 0x4a80_0000) x limit (sym is ∙ passed)

  pub inside_number : T (not (is_nan x))
  inside_number = finite_number x (is_true (finite x) (bounded_finite (2 ^ 22) x inside))

  pub near_zero : (top : ℕ) → fits binary32 x ≡ true → to_bits binary32 x ≡ 0 → Near (163 - top / 2 ^ 23) x
  near_zero top f e = record { level = level_zero (163 - top / 2 ^ 23) x (subst T (sym f) tt) e; bounded = inside }

  pub near_size : (top : ℕ) → fits binary32 x ≡ true → 0x1a80_0000 ≤ top → top ≤ 0x4a80_0000 → bare x ≤ top → leb (top - 0x0680_0000) (bare x) ≡ true → Near (163 - top / 2 ^ 23) x
  near_size top f lo hi under e = record { level = level_size top x (subst T (sym f) tt) lo hi (leb-true (top - 0x0680_0000) (bare x) e) under; bounded = inside }

-- ---- as `is_level` meets them: each of the numbers is near
pub all_near : (n top : ℕ) (xs : List Float) (Q : Type 0) (r : Bool) → length xs ≡ n → 0x1a80_0000 ≤ top → MatchBool r (AllWithin (Near (163 - top / 2 ^ 23)) xs 0 (length xs)) Q → r ≡ true → AllNear n xs
all_near n top xs Q true long lo m e = record { q = 163 - top / 2 ^ 23; fine = omega arith; near = λ k l. m k nan zero-le (omega arith) }
all_near n top xs Q false long lo m e = absurd (true≢false (sym e))

-- ---- as callers of `is_level` meet them: the coordinates of each axis
module _ (x0 y0 x1 y1 x2 y2 x3 y3 : Float) (level : AllNear 8 (x0 ∷ y0 ∷ x1 ∷ y1 ∷ x2 ∷ y2 ∷ x3 ∷ y3 ∷ [])) where
  near_at : (k : ℕ) → k < 8 → Level level.q (get_or (x0 ∷ y0 ∷ x1 ∷ y1 ∷ x2 ∷ y2 ∷ x3 ∷ y3 ∷ []) k nan)
  near_at k h = (level.near k h).level

  pub along_x : Coordinates x0 x1 x2 x3
  along_x = record { q = level.q; fine = level.fine; start = near_at 0 (omega arith); control1 = near_at 2 (omega arith); control2 = near_at 4 (omega arith); end = near_at 6 (omega arith) }

  pub along_y : Coordinates y0 y1 y2 y3
  along_y = record { q = level.q; fine = level.fine; start = near_at 1 (omega arith); control1 = near_at 3 (omega arith); control2 = near_at 5 (omega arith); end = near_at 7 (omega arith) }

-- ---- those of a quad
module _ (x0 y0 x1 y1 x2 y2 : Float) (level : AllNear 6 (x0 ∷ y0 ∷ x1 ∷ y1 ∷ x2 ∷ y2 ∷ [])) where
  quad_near_at : (k : ℕ) → k < 6 → Level level.q (get_or (x0 ∷ y0 ∷ x1 ∷ y1 ∷ x2 ∷ y2 ∷ []) k nan)
  quad_near_at k h = (level.near k h).level

  pub quad_along_x : QuadCoordinates x0 x1 x2
  quad_along_x = record { q = level.q; fine = level.fine; start = quad_near_at 0 (omega arith); control = quad_near_at 2 (omega arith); end = quad_near_at 4 (omega arith) }

  pub quad_along_y : QuadCoordinates y0 y1 y2
  quad_along_y = record { q = level.q; fine = level.fine; start = quad_near_at 1 (omega arith); control = quad_near_at 3 (omega arith); end = quad_near_at 5 (omega arith) }
