-- Of finite numbers every range lies within 0 and 1, its start not beyond its end. Assumes nothing.
use mathlib.Core.Path.{◌≡◌, refl, sym, subst}
use Prim.Native.Nat.{ℕ, ◌*◌, ◌%◌, ◌<◌}
use native.Mathlib.Nat.{mul-pos, mod-lt, zero-lt-suc}
use native.Mathlib.Omega.{arith}
use mathlib.Core.Bool.{Bool, true, false, not, ◌&&◌, cond}
use lib.Dec.{T, lit<, lit≤}
use lib.Count.{count_trailing_zeros}
use lib.Ieee.{Float, nan, inf, fin, binary32, span, climb, size, odd, units, round, neg, sum, add, div, rem, lt, le, of_fields, of_bits, up, down}
use lib.Ieee.Fits.{and_i, down_pos}
use lib.Ieee.Scale.{finite}
use lib.Ieee.Positive.{positive}
use Rattle.ieee.specs.Literal.{zero32, one32, turn32, hundred32}
use Rattle.ieee.specs.Operators.{◌⊕◌, ◌⊖◌, ◌⊗◌}
use Rattle.ieee.specs.Sign.{is_number}
use Rattle.ieee.specs.Limit.{Bounded}
use Rattle.ieee.specs.Remainder.{lifted, rem_euclid}
use Rattle.ieee.specs.Whole.{round_away}
use Rattle.ieee.proofs.Signed.{Le}
use Rattle.ieee.proofs.Order.{le_number_l, le_number_r, le_refl, lt→le, not_lt→le, round_le}
use Rattle.ieee.proofs.Monotone.{add_le, sub_le, mul_le, div_le}
use Rattle.ieee.proofs.Whole.{round_away_le}
use Rattle.ieee.proofs.Choice.{clamp_mono, clamp_le, clamp_ge}
use Rattle.ieee.proofs.Bounds.{bounded_between, bounded_finite, zero_bounded}
use Rattle.remainder.proofs.Turn.{turn_abs, rem_turn}
use Rattle.trim.specs.declared.TrimStyle.{TrimStyle}
use Rattle.trim.specs.declared.Ranges.TheVariants.{Nothing, One, Two}
use Rattle.trim.specs.Trim.{ten_thousand32, trim_step, clamp_unit, offset_of, placed_at, snapped, near, is_whole, ranges_between, lower, upper, normalized_trim_segments}
use Rattle.trim.specs.Ranges.{range_ends, is_range, are_ranges}

-- ---- the constants
unit : T (le zero32 one32)
unfolding of_bits of_fields odd count_trailing_zeros le
unit = tt

zero_number : T (is_number zero32)
zero_number = le_number_l zero32 one32 unit

one_number : T (is_number one32)
one_number = le_number_r zero32 one32 unit

pub one_bounded : Bounded 1 one32
unfolding of_bits of_fields odd count_trailing_zeros
one_bounded = lit≤ tt

hundred_positive : T (positive hundred32)
unfolding of_bits of_fields odd count_trailing_zeros
hundred_positive = tt

many_positive : T (positive ten_thousand32)
unfolding of_bits of_fields odd count_trailing_zeros
many_positive = tt

step_positive : T (positive trim_step)
unfolding of_bits of_fields odd count_trailing_zeros
step_positive = tt

turn_positive : T (positive turn32)
unfolding of_bits of_fields odd count_trailing_zeros
turn_positive = tt

turn_finite : T (finite turn32)
unfolding of_bits of_fields odd count_trailing_zeros
turn_finite = tt

turn_round : round binary32 false 360 1 ≡ turn32
unfolding of_bits of_fields odd count_trailing_zeros span climb size units round
turn_round = refl

turn_round_neg : round binary32 true 360 1 ≡ neg turn32
unfolding of_bits of_fields odd count_trailing_zeros span climb size units round neg
turn_round_neg = refl

-- -360 + 360, 0 + 360, 0 / 360 and 360 / 360
turn_back : neg turn32 ⊕ turn32 ≡ zero32
unfolding of_bits of_fields odd count_trailing_zeros span climb size units round neg sum add
turn_back = refl

turn_forth : zero32 ⊕ turn32 ≡ turn32
unfolding of_bits of_fields odd count_trailing_zeros span climb size units round sum add
turn_forth = refl

no_turn : div binary32 zero32 turn32 ≡ zero32
unfolding of_bits of_fields odd count_trailing_zeros span climb size units round div
no_turn = refl

one_turn : div binary32 turn32 turn32 ≡ one32
unfolding of_bits of_fields odd count_trailing_zeros span climb size units round div
one_turn = refl

-- ---- the remainder is from -360 to 360, and moved up it is from 0 to 360
round_span : (s : Bool) (x c : ℕ) → 0 < c → x < 360 * c → T (le (neg turn32) (round binary32 s x c)) × T (le (round binary32 s x c) turn32)
round_span s x c C h = (
  subst (λ (v : Float). T (le v (round binary32 s x c))) turn_round_neg (round_le binary32 true 360 1 s x c (zero-lt-suc 0) C (low s)),
  subst (λ (v : Float). T (le (round binary32 s x c) v)) turn_round (round_le binary32 s x c false 360 1 C (zero-lt-suc 0) (high s)),
)
  where
    low : (s : Bool) → Le true (360 * c) s (x * 1)
    low true = omega (arith, h)
    low false = omega arith

    high : (s : Bool) → Le s (x * 1) false (360 * c)
    high true = omega arith
    high false = omega (arith, h)

rem_span : (d : Float) → T (finite d) → T (le (neg turn32) (rem binary32 d turn32)) × T (le (rem binary32 d turn32) turn32)
rem_span nan F = absurd F
rem_span (inf s) F = absurd F
rem_span (fin s m e) F =
    subst (λ (v : Float). T (le (neg turn32) v) × T (le v turn32)) (sym (rem_turn (fin s m e) s (m * up e) (down e) (down_pos e) (refl, refl)))
    (round_span s (m * up e % (360 * down e)) (down e) (down_pos e) (mod-lt (m * up e) (mul-pos (lit< tt) (down_pos e))))

lifted_span : (r : Float) → T (le (neg turn32) r) → T (le r turn32) → T (le zero32 (lifted binary32 turn32 r)) × T (le (lifted binary32 turn32 r) turn32)
unfolding lifted
lifted_span r h k = subst (λ (t : Float). T (le zero32 (cond (lt r zero32) (r ⊕ t) r)) × T (le (cond (lt r zero32) (r ⊕ t) r) turn32)) (sym turn_abs) (go (lt r zero32) refl)
  where
    go : (b : Bool) → lt r zero32 ≡ b → T (le zero32 (cond b (r ⊕ turn32) r)) × T (le (cond b (r ⊕ turn32) r) turn32)
    go true e = (
      subst (λ (v : Float). T (le v (r ⊕ turn32))) turn_back (add_le binary32 turn32 (neg turn32) r turn_finite h),
      subst (λ (v : Float). T (le (r ⊕ turn32) v)) turn_forth (add_le binary32 turn32 r zero32 turn_finite (lt→le r zero32 (subst T (sym e) tt))),
    )
    go false e = (not_lt→le r zero32 (le_number_l r turn32 k) zero_number (subst (λ (b : Bool). T (not b)) (sym e) tt), k)

rem_range : (d : Float) → T (finite d) → T (le zero32 (rem_euclid binary32 d turn32)) × T (le (rem_euclid binary32 d turn32) turn32)
unfolding rem_euclid
rem_range d F = let r = rem_span d F in lifted_span (rem binary32 d turn32) r.0 r.1

-- ---- the offset is from 0 to 1
offset_range : (d : Float) → T (finite d) → T (le zero32 (offset_of d)) × T (le (offset_of d) one32)
unfolding offset_of
offset_range d F =
    let m = rem_euclid binary32 d turn32 in
    let r = rem_range d F in (
      subst (λ (v : Float). T (le v (div binary32 m turn32))) no_turn (div_le binary32 turn32 zero32 m turn_positive r.0),
      subst (λ (v : Float). T (le (div binary32 m turn32) v)) one_turn (div_le binary32 turn32 m turn32 turn_positive r.1),
    )

pub offset_bounded : (d : Float) → T (finite d) → Bounded 1 (offset_of d)
offset_bounded d F = let r = offset_range d F in bounded_between 1 zero32 (offset_of d) one32 (zero_bounded 1) one_bounded r.0 r.1

-- ---- a place on the path is a number
finite_number : (x : Float) → T (finite x) → T (is_number x)
finite_number nan F = F
finite_number (inf s) F = tt
finite_number (fin s m e) F = tt

pub part_number : (percent : Float) → T (finite percent) → T (is_number (div binary32 percent hundred32))
part_number p F = let q = div binary32 p hundred32 in le_number_l q q (div_le binary32 hundred32 p p hundred_positive (le_refl p (finite_number p F)))

placed_number : (percent offset : Float) → T (finite percent) → T (finite offset) → T (is_number (placed_at percent offset))
unfolding placed_at
placed_number p o P O =
    let c = clamp_unit (div binary32 p hundred32) in
    let n : T (is_number c) = le_number_l c one32 (clamp_le zero32 one32 unit (div binary32 p hundred32) (part_number p P)) in
    le_number_l (c ⊕ o) (c ⊕ o) (add_le binary32 o c c O (le_refl c n))

-- ---- rounding to 0.0001 keeps the order
snapped_le : (x y : Float) → T (le x y) → T (le (snapped x) (snapped y))
unfolding snapped
snapped_le x y h =
    let u = x ⊗ ten_thousand32 in
    let v = y ⊗ ten_thousand32 in
    mul_le binary32 trim_step (round_away binary32 u) (round_away binary32 v) step_positive (round_away_le binary32 u v (mul_le binary32 ten_thousand32 x y many_positive h))

-- ---- the ranges of two numbers in order
is_range_lem : (a b : Float) → T (le zero32 a) → T (le a b) → T (le b one32) → T (is_range a b)
is_range_lem a b p q r = and_i (le zero32 a) (le a b && le b one32) p (and_i (le a b) (le b one32) q r)

alone : (a b : Float) → T (is_range a b) → T (are_ranges (range_ends (One a b)))
alone a b h = and_i (is_range a b) true h tt

clamped : (x y : Float) → T (le x y) → T (are_ranges (range_ends (One (clamp_unit x) (clamp_unit y))))
clamped x y h =
    alone (clamp_unit x) (clamp_unit y)
    (is_range_lem (clamp_unit x) (clamp_unit y) (clamp_ge zero32 one32 unit x (le_number_l x y h)) (clamp_mono zero32 one32 unit x y h) (clamp_le zero32 one32 unit y (le_number_r x y h)))

two_clamped : (x y : Float) → T (is_number x) → T (is_number y) → T (are_ranges (range_ends (Two (clamp_unit x) (clamp_unit y))))
two_clamped x y p q =
    and_i (is_range (clamp_unit x) one32) (is_range zero32 (clamp_unit y) && true)
    (is_range_lem (clamp_unit x) one32 (clamp_ge zero32 one32 unit x p) (clamp_le zero32 one32 unit x p) (le_refl one32 one_number))
    (alone zero32 (clamp_unit y) (is_range_lem zero32 (clamp_unit y) (le_refl zero32 zero_number) (clamp_ge zero32 one32 unit y q) (clamp_le zero32 one32 unit y q)))

between_inside : (s e : Float) → T (le s e) → T (are_ranges (range_ends (ranges_between s e)))
unfolding ranges_between
between_inside s e h = go (near s e) (is_whole s e) (le e one32) (le one32 s)
  where
    less : T (le (s ⊖ one32) (e ⊖ one32))
    less = sub_le binary32 one32 s e (bounded_finite 1 one32 one_bounded) h

    go : (a b c d : Bool) → T (are_ranges (range_ends (cond a Nothing (cond b (One zero32 one32) (cond c (One (clamp_unit s) (clamp_unit e)) (cond d (One (clamp_unit (s ⊖ one32)) (clamp_unit (e ⊖ one32))) (Two (clamp_unit s) (clamp_unit (e ⊖ one32)))))))))
    go true b c d = tt
    go false true c d = alone zero32 one32 (is_range_lem zero32 one32 (le_refl zero32 zero_number) unit (le_refl one32 one_number))
    go false false true d = clamped s e h
    go false false false true = clamped (s ⊖ one32) (e ⊖ one32) less
    go false false false false = two_clamped s (e ⊖ one32) (le_number_l s e h) (le_number_r (s ⊖ one32) (e ⊖ one32) less)

in_order : (s e : Float) → T (is_number s) → T (is_number e) → T (le (lower s e) (upper s e))
unfolding lower upper
in_order s e p q = go (lt e s) refl
  where
    go : (b : Bool) → lt e s ≡ b → T (le (cond b e s) (cond b s e))
    go true t = lt→le e s (subst T (sym t) tt)
    go false t = not_lt→le e s q p (subst (λ (b : Bool). T (not b)) (sym t) tt)

-- ---- the law
pub ranges_inside : (trim : TrimStyle) → T (finite trim.start) → T (finite trim.end) → T (finite trim.offset_degrees) → T (are_ranges (range_ends (normalized_trim_segments trim)))
unfolding normalized_trim_segments
ranges_inside trim S E D =
    let o = offset_of trim.offset_degrees in
    let O = bounded_finite 1 o (offset_bounded trim.offset_degrees D) in
    let s = placed_at trim.start o in
    let e = placed_at trim.end o in
    between_inside (snapped (lower s e)) (snapped (upper s e)) (snapped_le (lower s e) (upper s e) (in_order s e (placed_number trim.start o S O) (placed_number trim.end o E O)))
