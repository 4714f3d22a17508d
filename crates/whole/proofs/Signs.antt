-- A whole number by the size of a float, with the float's sign as a factor 1 or -1; `ceil` as `floor` with both signs changed. Assumes nothing.
use mathlib.Core.Path.{◌≡◌, refl, sym, ap, ◌∙◌, subst}
use Prim.Native.Nat.{ℕ, ◌+◌, ◌-◌, ◌*◌, ◌%◌, ◌^◌, ◌<◌}
use native.Mathlib.Nat.{lt_of_le_of_lt, mul-one}
use native.Mathlib.Omega.{arith}
use mathlib.Core.Bool.{Bool, true, false, cond}
use lib.Dec.{T, leb, lit<}
use lib.Ieee.{Float, nan, inf, fin, binary32, round, mul, neg, unlike, up, down, fits, of_bits, to_bits}
use lib.Ieee.Bits.{to_bits-lt}
use lib.Ieee.Exact.{HasValue}
use lib.Ieee.Nearest.{closest}
use Rattle.ieee.specs.Sign.{abs}
use Rattle.ieee.specs.Whole.{whole_down, whole_up, whole_near, floor, ceil, round_away}
use Rattle.ieee.specs.Pattern.{with_sign, units_of, bare}
use Rattle.ieee.proofs.Value.{rescale, value_finite}
use Rattle.ieee.proofs.Round.{neg_round}
use Rattle.ieee.proofs.Pattern.{split_sign, pattern_value, read_value, read_finite}
use Rattle.ieee.proofs.Operations.{mul_at}
use Rattle.ieee.proofs.Whole.{Way, Goes, whole_at, near_way_lem, near_goes}
use Rattle.whole.specs.Even.{round_even}
use Rattle.whole.specs.Small.{Small, UnitOf}
use Rattle.whole.proofs.Even.{even_way_lem, even_goes, U, U_pos, whole_value, at_most_lem}

-- ---- from a size to the number: the sign is that of a factor 1 or -1
pub signed_value : (x : Float) (n c : ℕ) → HasValue (abs x) false n c → (s : Bool) × HasValue x s n c
signed_value nan n c v = absurd v
signed_value (inf t) n c v = absurd v
signed_value (fin t m e) n c v = (t, (refl, v.1))

unlike_left : (s : Bool) → unlike false s ≡ s
unlike_left true = refl
unlike_left false = refl

with_sign_lem : (h : ℕ → ℕ → ℕ) (g : Float → Float) → Way (λ s. h) → Goes binary32 (λ s. h) g
    → (x r u : Float) → Small (abs x) → r ≡ g (abs x) → UnitOf x u → mul binary32 r u ≡ g x
with_sign_lem h g W G x r u S e O =
    let n = S.units in
    let k = h n U in
    let s = (signed_value x n U S.value).0 in
    let v = (signed_value x n U S.value).1 in
    let r_is : r ≡ round binary32 false k 1 = e ∙ whole_at binary32 (λ s. h) g W G (abs x) false n U U_pos S.value in
    let k_lt : k < 2 ^ 24 = lt_of_le_of_lt (at_most_lem h W n S.bound) (lit< tt) in
    let w : HasValue r false k 1 = subst (λ (y : Float). HasValue y false k 1) (sym r_is) (whole_value false k k_lt) in
    mul_at binary32 r u false s k 1 1 1 (lit< tt) (lit< tt) w (O.value s n U v)
    ∙ (λ i. round binary32 (unlike_left s i) (mul-one k i) 1)
    ∙ sym (whole_at binary32 (λ s. h) g W G x s n U U_pos v)

module _ (x r u : Float) (S : Small (abs x)) (O : UnitOf x u) where
  pub round_short : r ≡ round_away binary32 (abs x) → mul binary32 r u ≡ round_away binary32 x
  round_short e = with_sign_lem whole_near (round_away binary32) near_way_lem (near_goes binary32) x r u S e O

  pub even_short : r ≡ round_even binary32 (abs x) → mul binary32 r u ≡ round_even binary32 x
  even_short e = with_sign_lem closest (round_even binary32) even_way_lem even_goes x r u S e O

-- ---- `ceil` is `floor` with both signs changed
pub abs_neg : (x : Float) → abs (neg x) ≡ abs x
unfolding neg
abs_neg nan = refl
abs_neg (inf s) = refl
abs_neg (fin s m e) = refl

neg_neg : (x : Float) → neg (neg x) ≡ x
unfolding neg
neg_neg nan = refl
neg_neg (inf true) = refl
neg_neg (inf false) = refl
neg_neg (fin true m e) = refl
neg_neg (fin false m e) = refl

pub mirrored : (x : Float) → neg (floor binary32 (neg x)) ≡ ceil binary32 x
unfolding neg floor ceil
mirrored nan = refl
mirrored (inf true) = refl
mirrored (inf false) = refl
mirrored (fin true m e) = neg_round binary32 (whole_down (m * up e) (down e)) 1
mirrored (fin false m e) = let k = whole_up (m * up e) (down e) in ap neg (sym (neg_round binary32 k 1)) ∙ neg_neg (round binary32 false k 1)

-- ---- the factor 1 or -1, by the pattern
sign_once : (x : Float) (s t : Bool) (a b c d : ℕ) → HasValue x s a c → HasValue x t b d → s ≡ t
sign_once nan s t a b c d v w = absurd v
sign_once (inf u) s t a b c d v w = absurd v
sign_once (fin u m e) s t a b c d v w = sym v.0 ∙ w.0

unit_pattern : (b : ℕ) → b < 2 ^ 32 → b - b % 2 ^ 31 + 0x3f80_0000 ≡ with_sign (leb (2 ^ 31) b) 0x3f80_0000
unit_pattern b h = let e = split_sign b h in let t = cond (leb (2 ^ 31) b) (2 ^ 31) 0 in omega arith

pub unit_of : (x : Float) → fits binary32 x ≡ true → UnitOf x (of_bits binary32 (to_bits binary32 x - to_bits binary32 x % 2 ^ 31 + 0x3f80_0000))
unit_of x f = record { value = go }
  where
    held : T (fits binary32 x)
    held = subst T (sym f) tt

    go : (s : Bool) (a c : ℕ) → HasValue x s a c → HasValue (of_bits binary32 (to_bits binary32 x - to_bits binary32 x % 2 ^ 31 + 0x3f80_0000)) s 1 1
    go s a c v =
        let t = leb (2 ^ 31) (to_bits binary32 x) in
        let same : s ≡ t = sign_once x s t a (units_of (bare x)) c U v (read_value x held (read_finite x held (value_finite x s a c v))) in
        subst (λ (y : Float). HasValue y s 1 1) (ap (of_bits binary32) (sym (unit_pattern (to_bits binary32 x) (to_bits-lt binary32 x held))))
        (subst (λ (z : Bool). HasValue (of_bits binary32 (with_sign t 0x3f80_0000)) z 1 1) (sym same)
        (rescale (of_bits binary32 (with_sign t 0x3f80_0000)) t U U 1 1 U_pos refl (pattern_value t 0x3f80_0000 (lit< tt))))
