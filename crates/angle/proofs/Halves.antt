-- 32 times an angle's size is a float exactly, and half of one more than its whole part is 16 times it, rounded half up.
-- Assumes nothing.
use Rattle.std.proofs.Common.{◌≡◌, ℕ, ◌+◌, ◌*◌, ◌/◌, ◌^◌, ◌<◌, ◌≤◌, true, false, T, pos, sym, refl, ap, ◌∙◌, subst, div-lt_iff_lt-mul, lt_of_mul-lt-mul_right, mul-lt-mul_of_pos_right, div-mul-le_self, le_of_mul-le-mul_right, arith, lit≤, lt→ltb}
use native.Mathlib.Nat.{min-eq_left}
use native.Mathlib.Nat.{add-div_right, div-div-eq-div-mul}
use lib.Ieee.{Float, nan, inf, fin, binary32, up, down, lt, mul, of_bits, of_fields, odd, fits, to_unsigned}
use lib.Ieee.Bits.{is_true}
use lib.Ieee.Exact.{HasValue}
use lib.Ieee.Fits.{down_pos}
use lib.Ieee.Nearest.{div_same}
use Rattle.ieee.specs.Literal.{number_limit}
use Rattle.ieee.specs.Sign.{abs}
use Rattle.ieee.specs.Limit.{within, Bounded}
use Rattle.ieee.specs.Grid.{scale}
use Rattle.ieee.specs.Whole.{whole_near}
use Rattle.ieee.proofs.Bounds.{within→bounded, bounded_finite, mul_bounded, reach_pow}
use Rattle.ieee.proofs.Grid.{mul_pow_finite}
use Rattle.ieee.proofs.Value.{scale_val}
use Rattle.angle.specs.Sixteenths.{sixteenths_in}

-- ---- a float of a known value: its whole part, and that it is in the range of 64 bits
module _ (N D : ℕ) (some : 0 < D) (small : N < 2 ^ 64 * D) where
  below : (n d : ℕ) → n * D ≡ N * d → 0 < d → n < 2 ^ 64 * d
  below n d e p =
      let l : n * D < 2 ^ 64 * d * D = omega (arith, e, mul-lt-mul_of_pos_right small p) in
      lt_of_mul-lt-mul_right D l

  whole_part : (y : Float) → HasValue y false N D → to_unsigned 64 y ≡ N / D
  unfolding to_unsigned
  whole_part nan v = absurd v
  whole_part (inf t) v = absurd v
  whole_part (fin true m e) v = absurd (subst T v.0 tt)
  whole_part (fin false m e) v =
      let l : m * up e / down e < 2 ^ 64 = (div-lt_iff_lt-mul (down_pos e)).1 (below (m * up e) (down e) v.1 (down_pos e)) in
      min-eq_left (omega (arith, l)) ∙ div_same (m * up e) (down e) N D (down_pos e) some v.1

  over_minus_one : (y : Float) → HasValue y false N D → T (lt (fin true 1 (pos 0)) y)
  unfolding lt
  over_minus_one nan v = absurd v
  over_minus_one (inf t) v = absurd v
  over_minus_one (fin true m e) v = absurd (subst T v.0 tt)
  over_minus_one (fin false m e) v = let p = down_pos e in lt→ltb 0 (1 * 2 ^ 0 * down e + m * up e * 1) (omega (arith, p))

  under_limit : (y : Float) → HasValue y false N D → T (lt y (fin false 1 (pos 64)))
  unfolding lt
  under_limit nan v = absurd v
  under_limit (inf t) v = absurd v
  under_limit (fin true m e) v = absurd (subst T v.0 tt)
  under_limit (fin false m e) v =
      let l = below (m * up e) (down e) v.1 (down_pos e) in
      lt→ltb (m * up e * 1) (1 * 2 ^ 64 * down e) (omega (arith, l))

-- ---- 32 times a size
abbrev thirty_two32 : Float
thirty_two32 = of_bits binary32 0x4200_0000

thirty_two : thirty_two32 ≡ fin false 1 (pos 5)
unfolding of_bits of_fields odd
thirty_two = refl

pub limit_value : HasValue number_limit false (2 ^ 20) 1
unfolding of_bits
limit_value = (refl, refl)

-- an angle that is finite, its size, and 32 times that
record Size (x : Float) : Type 0 where
  n : ℕ
  d : ℕ
  some : 0 < d
  most : n ≤ 2 ^ 20 * d
  is : sixteenths_in x ≡ whole_near (16 * n) d
  product : HasValue (mul binary32 (abs x) thirty_two32) false (n * 2 ^ 5) d

size : (x : Float) → T (fits binary32 x) → Bounded (2 ^ 20) x → Size x
unfolding sixteenths_in fits
size nan f b = absurd b
size (inf s) f b = absurd b
size (fin s m e) f b = record {
  n = m * up e;
  d = down e;
  some = down_pos e;
  most = b;
  is = refl;
  product =
      subst (λ (y : Float). HasValue y false (m * up e * 2 ^ 5) (down e)) (sym scaled)
      (scale_val 5 (fin false m e) false (m * up e) (down e) (refl, refl));
}
  where
    finite_product : Bounded (2 ^ 25) (mul binary32 (fin false m e) (fin false 1 (pos 5)))
    finite_product =
        mul_bounded binary32 (2 ^ 20) 32 (2 ^ 25) (fin false m e) (fin false 1 (pos 5)) (reach_pow binary32 (2 ^ 25) 25 (lit≤ tt) (lit≤ tt)) b (lit≤ tt)

    scaled : mul binary32 (fin false m e) thirty_two32 ≡ scale 5 (fin false m e)
    scaled =
        ap (mul binary32 (fin false m e)) thirty_two
        ∙ mul_pow_finite binary32 5 (fin false m e) f (λ t. bounded_finite (2 ^ 25) (mul binary32 (fin false m e) (fin false 1 (pos 5))) finite_product)

-- ---- whole numbers
room : (n d : ℕ) → 0 < d → n ≤ 2 ^ 20 * d → n * 2 ^ 5 < 2 ^ 64 * d
room n d p h = omega (arith, p, h)

quotient_small : (n d : ℕ) → 0 < d → n ≤ 2 ^ 20 * d → n * 2 ^ 5 / d ≤ 2 ^ 25
quotient_small n d p h =
    let l : n * 2 ^ 5 / d * d ≤ 2 ^ 25 * d = omega (arith, div-mul-le_self (n * 2 ^ 5) d, h) in
    le_of_mul-le-mul_right l p

half_up : (n d : ℕ) → 0 < d → (n * 2 ^ 5 / d + 1) / 2 ≡ whole_near (16 * n) d
half_up n d p =
    let a : n * 2 ^ 5 ≡ 2 * (16 * n) = omega arith in
    let c : d * 2 ≡ 2 * d = omega arith in
    ap (λ (k : ℕ). (k / d + 1) / 2) a ∙ ap (λ (k : ℕ). k / 2) (sym (add-div_right (2 * (16 * n)) p))
    ∙ div-div-eq-div-mul (2 * (16 * n) + d) d 2 ∙ ap (λ (k : ℕ). (2 * (16 * n) + d) / k) c

-- ---- as `sixteenths` meets them
module _ (x : Float) (f : fits binary32 x ≡ true) (inside : within number_limit x ≡ true) where
  S : Size x
  S = size x (subst T (sym f) tt) (within→bounded (2 ^ 20) number_limit x limit_value inside)

  few : S.n * 2 ^ 5 < 2 ^ 64 * S.d
  few = room S.n S.d S.some S.most

  counted : to_unsigned 64 (mul binary32 (abs x) thirty_two32) ≡ S.n * 2 ^ 5 / S.d
  counted = whole_part (S.n * 2 ^ 5) S.d S.some few _ S.product

  pub product_over : lt (fin true 1 (pos 0)) (mul binary32 (abs x) thirty_two32) ≡ true
  product_over = is_true _ (over_minus_one (S.n * 2 ^ 5) S.d S.some few _ S.product)

  pub product_under : lt (mul binary32 (abs x) thirty_two32) (fin false 1 (pos 64)) ≡ true
  product_under = is_true _ (under_limit (S.n * 2 ^ 5) S.d S.some few _ S.product)

  pub halves_few : to_unsigned 64 (mul binary32 (abs x) thirty_two32) ≤ 2 ^ 25
  halves_few = subst (λ (k : ℕ). k ≤ 2 ^ 25) (sym counted) (quotient_small S.n S.d S.some S.most)

  pub halved : (to_unsigned 64 (mul binary32 (abs x) thirty_two32) + 1) / 2 ≡ sixteenths_in x
  halved = ap (λ (k : ℕ). (k + 1) / 2) counted ∙ half_up S.n S.d S.some ∙ sym S.is

pub ruleset halves = (product_over, product_under, halves_few, halved)
