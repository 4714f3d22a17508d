-- a * b + c in binary64 is one rounding of the exact sum, as the product is exact there: so it is `fma`'s own sum, at the other format. Assumes nothing.
use mathlib.Core.Path.{◌≡◌, refl, sym, ◌∙◌, subst}
use Prim.Native.Nat.{ℕ, ◌*◌, ◌^◌, ◌<◌}
use native.Mathlib.Nat.{mul_assoc}
use mathlib.Core.Bool.{Bool, true}
use lib.Dec.{T}
use lib.Pow.{pow_pos}
use lib.Ieee.{Float, Format, binary32, binary64, unlike, round, add, mul, fits}
use lib.Ieee.Exact.{HasValue}
use lib.Ieee.Scale.{round_same, finite}
use Rattle.ieee.specs.Fused.{fma}
use Rattle.ieee.proofs.Sum.{SumOf, sum_of}
use Rattle.ieee.proofs.Operations.{add_at, add_finite, mul_finite}
use Rattle.ieee.proofs.Pattern.{read_finite}
use Rattle.ieee.proofs.Wide.{product_exact}
use Rattle.float.proofs.Ways.{split_value, split_small, split_short}
use Rattle.fused.proofs.Operands.{addend, fma_sum}

-- ---- a finite float has parts
record Parted (x : Float) : Type 0 where
  negative : Bool
  digits : ℕ
  drops : ℕ
  value : HasValue x negative (digits * 2 ^ drops) (2 ^ 149)
  small : digits < 2 ^ 24
  short : drops < 254

parts : (x : Float) → fits binary32 x ≡ true → finite x ≡ true → Parted x
parts x f h =
    let l = read_finite x (subst T (sym f) tt) h in
    record {
      negative = _;
      digits = _;
      drops = _;
      value = split_value x f _ refl l;
      small = split_small x f _ refl l;
      short = split_short x f _ refl l;
    }

-- ---- the two are roundings of one number, in units of 2 ^ -1074
pub record Both (x y z : Float) : Type 0 where
  pub sign : Bool
  pub size : ℕ
  pub wide : add binary64 (mul binary64 x y) z ≡ round binary64 sign size (2 ^ 1074)
  pub narrow : fma binary32 x y z ≡ round binary32 sign size (2 ^ 1074)

module _ (x y z : Float) (s t u : Bool) (a b d : ℕ) (v : HasValue x s a (2 ^ 149)) (w : HasValue y t b (2 ^ 149)) (o : HasValue z u d (2 ^ 149)) (m : HasValue (mul binary64 x y) (unlike s t) (a * b) (2 ^ 298)) where
  c : SumOf (unlike s t) (a * b) u (d * 2 ^ 149) (2 ^ 298)
  c = sum_of (unlike s t) (a * b) u (d * 2 ^ 149) (2 ^ 298)

  finer : (f : Format) → round f c.sign c.size (2 ^ 298) ≡ round f c.sign (c.size * 2 ^ 776) (2 ^ 1074)
  finer f = round_same f c.sign c.size (2 ^ 298) (c.size * 2 ^ 776) (2 ^ 1074) (pow_pos 298) (pow_pos 1074) (sym (mul_assoc c.size (2 ^ 776) (2 ^ 298)))

  both_of : Both x y z
  both_of = record {
    sign = c.sign;
    size = c.size * 2 ^ 776;
    wide = add_at binary64 (mul binary64 x y) z (unlike s t) u (a * b) (d * 2 ^ 149) (2 ^ 298) (pow_pos 298) m (addend z u d o) ∙ c.is binary64 ∙ finer binary64;
    narrow = fma_sum binary32 x y z s t u a b d v w o ∙ c.is binary32 ∙ finer binary32;
  }

pub both : (x y z : Float) → fits binary32 x ≡ true → fits binary32 y ≡ true → fits binary32 z ≡ true → finite (add binary64 (mul binary64 x y) z) ≡ true → Both x y z
both x y z F G H f =
    let p = add_finite binary64 (mul binary64 x y) z f in
    let r = mul_finite binary64 x y p.0 in
    let X = parts x F r.0 in
    let Y = parts y G r.1 in
    let Z = parts z H p.1 in
    both_of x y z _ _ _ _ _ _ X.value Y.value Z.value (product_exact x y _ _ X.digits X.drops Y.digits Y.drops X.small Y.small X.short Y.short X.value Y.value)
