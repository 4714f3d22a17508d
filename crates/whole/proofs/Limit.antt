-- A float within 2 ^ 23 - 1 / 2 is small, and any other is a whole number or not finite: every way to a whole number stays there. Assumes nothing.
use mathlib.Core.Path.{◌≡◌, refl, sym, ap, ◌∙◌, subst}
use Prim.Native.Nat.{ℕ, ◌-◌, ◌*◌, ◌^◌, ◌≤◌, ◌<◌}
use native.Mathlib.Nat.{lt_of_le_of_lt, lt_of_not-le, mul_comm, mul_assoc, mul-le-mul, mul-le-mul_right}
use native.Mathlib.Omega.{arith}
use mathlib.Core.Bool.{Bool, true, false}
use lib.Dec.{T, leb, lit<}
use lib.Pow.{pow_mono}
use lib.Ieee.{Float, nan, inf, fin, binary32, lt, le, fits, of_bits, to_bits}
use lib.Ieee.Exact.{HasValue}
use lib.Ieee.Order.{le_of_values}
use lib.Ieee.Scale.{finite}
use Rattle.ieee.specs.Sign.{abs}
use Rattle.ieee.specs.Limit.{within}
use Rattle.ieee.specs.Pattern.{digits_of, drops_of, units_of, bare, infinity}
use Rattle.ieee.proofs.Digits.{pow_split}
use Rattle.ieee.proofs.Value.{abs_val}
use Rattle.ieee.proofs.Signed.{Le, test→Le}
use Rattle.ieee.proofs.Comparison.{le_at}
use Rattle.ieee.proofs.Pattern.{read_value, read_finite}
use Rattle.ieee.proofs.Whole.{Way, Goes, whole_own, whole_special}
use Rattle.whole.specs.Small.{Small}
use Rattle.whole.proofs.Even.{U, U_pos}

-- 2 ^ 23 - 1 / 2, and how many units it has: 24 digits, all 1
abbrev pub limit : Float
limit = of_bits binary32 0x4aff_ffff

abbrev top : ℕ
top = 0xff_ffff * 2 ^ 148

limit_units : HasValue limit false top U
unfolding of_bits
limit_units = (refl, refl)

finite_within : (x : Float) → within limit x ≡ true → finite x ≡ true
unfolding le lt of_bits
finite_within nan t = absurd (subst T (sym t) tt)
finite_within (inf s) t = absurd (subst T (sym t) tt)
finite_within (fin s m e) t = refl

le_of : (a b : ℕ) → Le false a false b → a ≤ b
le_of a b h = omega arith

digits_le : (p : ℕ) → p < infinity → digits_of p ≤ 0xff_ffff
digits_le p h = omega arith

-- with at most 148 drops it is within the limit
few_drops : (p : ℕ) → p < infinity → drops_of p ≤ 148 → units_of p ≤ top
few_drops p h l = mul-le-mul (digits_le p h) (pow_mono l)

-- and with more it is whole
many_drops : (q k : ℕ) → 148 < k → q * 2 ^ k ≡ q * 2 ^ (k - 149) * U
many_drops q k l = sym (mul_assoc q (2 ^ (k - 149)) U ∙ ap (λ (z : ℕ). q * z) (mul_comm (2 ^ (k - 149)) U ∙ pow_split 149 k (omega arith)))

module _ (x : Float) (held : T (fits binary32 x)) (F : finite x ≡ true) where
  abbrev p : ℕ
  p = bare x

  abbrev n : ℕ
  n = units_of p

  abbrev sign : Bool
  sign = leb (2 ^ 31) (to_bits binary32 x)

  p_lt : p < infinity
  p_lt = read_finite x held F

  value : HasValue x sign n U
  value = read_value x held p_lt

  size : HasValue (abs x) false n U
  size = abs_val x sign n U value

  small : within limit x ≡ true → Small (abs x)
  small t =
      let l = test→Le false n false top (subst T (sym t ∙ le_at (abs x) limit false false n top U U_pos size limit_units) tt) in
      record { units = n; value = size; bound = lt_of_le_of_lt (le_of n top l) (lit< tt) }

  in_limit : drops_of p ≤ 148 → T (within limit x)
  in_limit l = le_of_values (abs x) limit n U top U U_pos U_pos size limit_units (mul-le-mul_right U (few_drops p p_lt l))

  whole : within limit x ≡ false → HasValue x sign (digits_of p * 2 ^ (drops_of p - 149) * U) U
  whole t = subst (λ (m : ℕ). HasValue x sign m U) (many_drops (digits_of p) (drops_of p) (lt_of_not-le (λ l. subst T t (in_limit l)))) value

module _ (x : Float) (f : fits binary32 x ≡ true) where
  held : T (fits binary32 x)
  held = subst T (sym f) tt

  pub small_within : within limit x ≡ true → Small (abs x)
  small_within t = small x held (finite_within x t) t

  pub stays_beyond : (w : Bool → ℕ → ℕ → ℕ) (g : Float → Float) → Way w → Goes binary32 w g → within limit x ≡ false → x ≡ g x
  stays_beyond w g W G t = go (finite x) refl
    where
      go : (b : Bool) → finite x ≡ b → x ≡ g x
      go false F = sym (whole_special binary32 w g W G x F)
      go true F = sym (whole_own binary32 w g W G x (sign x held F) (digits_of (bare x) * 2 ^ (drops_of (bare x) - 149)) U U_pos held (whole x held F t))
