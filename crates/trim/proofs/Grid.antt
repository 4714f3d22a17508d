-- Of finite numbers every end of a range is a whole multiple of 2 ^ -37, and at most 1. Assumes nothing.
use Prim.Native.Nat.{ℕ, ◌*◌, ◌^◌, ◌≤◌, zero-le}
use native.Mathlib.Nat.{le_refl, le_trans, le_of_eq, zero-lt-suc, mul-one}
use mathlib.Core.Bool.{Bool, true, false, cond}
use lib.Dec.{T, lit<, lit≤}
use lib.Count.{count_trailing_zeros}
use lib.Ieee.{Float, nan, inf, fin, binary32, odd, div, lt, le, of_fields, of_bits, up, down}
use lib.Ieee.Fits.{down_pos}
use lib.Ieee.Scale.{finite}
use Rattle.ieee.specs.Literal.{zero32, one32, hundred32}
use Rattle.ieee.specs.Operators.{◌⊖◌, ◌⊗◌}
use Rattle.ieee.specs.Choice.{at_least, at_most, clamp}
use Rattle.ieee.specs.Limit.{Bounded}
use Rattle.ieee.specs.Whole.{whole_near, round_away}
use Rattle.ieee.specs.Grid.{On}
use Rattle.ieee.proofs.Cut.{cut_le_pow}
use Rattle.ieee.proofs.Round.{round_on}
use Rattle.ieee.proofs.Grid.{weaken, on→On, sub_on, mul_on}
use Rattle.ieee.proofs.Whole.{near_mono}
use Rattle.ieee.proofs.Bounds.{zero_bounded, bounded_number, on_bounded, clamp_bounded, reach_whole, add_bounded, mul_bounded, tighten}
use Rattle.command.specs.Enlarged.{AllOn}
use Rattle.trim.specs.declared.TrimStyle.{TrimStyle}
use Rattle.trim.specs.declared.Ranges.TheVariants.{Nothing, One, Two}
use Rattle.trim.specs.Trim.{ten_thousand32, trim_step, clamp_unit, offset_of, placed_at, snapped, near, is_whole, ranges_between, lower, upper, normalized_trim_segments}
use Rattle.trim.specs.Ranges.{range_ends}
use Rattle.trim.proofs.Inside.{one_bounded, offset_bounded, part_number}

-- ---- the constants
zero_on : On 37 0 zero32
zero_on = on→On 37 0 zero32 (unfold of_bits of_fields odd count_trailing_zeros in tt)

pub one_on : On 37 0 one32
one_on = on→On 37 0 one32 (unfold of_bits of_fields odd count_trailing_zeros in tt)

-- 13743895 * 2 ^ -37
step_on : On 37 0 trim_step
step_on = on→On 37 0 trim_step (unfold of_bits of_fields odd count_trailing_zeros in tt)

many_bounded : Bounded 10000 ten_thousand32
unfolding of_bits of_fields odd count_trailing_zeros
many_bounded = lit≤ tt

-- ---- a place on the path is at most 2, which is 20000 steps of 0.0001
placed_bounded : (percent offset : Float) → T (finite percent) → Bounded 1 offset → Bounded 2 (placed_at percent offset)
unfolding placed_at
placed_bounded p o P O = add_bounded binary32 1 1 2 (clamp_unit (div binary32 p hundred32)) o (reach_whole binary32 2 (lit< tt)) (clamp_bounded 1 zero32 one32 (div binary32 p hundred32) (zero_bounded 1) one_bounded (part_number p P)) O

whole_on : (x : Float) → Bounded 20000 x → On 0 15 (round_away binary32 x)
unfolding round_away
whole_on nan X = absurd X
whole_on (inf s) X = absurd X
whole_on (fin s m e) X =
    let n = whole_near (m * up e) (down e) in
    let h : n ≤ 20000 = near_mono (m * up e) (down e) 20000 1 (down_pos e) (zero-lt-suc 0) (le_trans (le_of_eq (mul-one (m * up e))) X) in
    round_on binary32 s 0 15 n zero-le (lit≤ tt) (cut_le_pow 24 n 15 (zero-lt-suc 23) (le_trans h (lit≤ tt)))

snapped_on : (x : Float) → Bounded 2 x → On 37 15 (snapped x)
unfolding snapped
snapped_on x X =
    let u = x ⊗ ten_thousand32 in
    let n = whole_on u (mul_bounded binary32 2 10000 20000 x ten_thousand32 (reach_whole binary32 20000 (lit< tt)) X many_bounded) in
    mul_on binary32 0 37 (lit≤ tt) 15 0 (round_away binary32 u) trim_step n step_on (lit≤ tt)

-- ---- the clamp stays on the grid, and brings the bound down
either_on : (q b : ℕ) (c : Bool) (x y : Float) → On q b x → On q b y → On q b (cond c x y)
either_on q b true x y X Y = X
either_on q b false x y X Y = Y

clamp_stays : (b : ℕ) (x : Float) → On 37 b x → On 37 b (clamp_unit x)
unfolding clamp at_least at_most
clamp_stays b x X =
    let z = cond (lt x zero32) zero32 x in
    either_on 37 b (lt one32 z) one32 z (weaken 37 0 37 b one32 (le_refl 37) zero-le one_on)
    (either_on 37 b (lt x zero32) zero32 x (weaken 37 0 37 b zero32 (le_refl 37) zero-le zero_on) X)

clamp_on : (b : ℕ) (x : Float) → On 37 b x → On 37 0 (clamp_unit x)
clamp_on b x X =
    tighten 37 b 0 (clamp_unit x) (clamp_stays b x X)
    (clamp_bounded 1 zero32 one32 x (zero_bounded 1) one_bounded (bounded_number (2 ^ b) x (on_bounded 37 b x X)))

less_one : (x : Float) → On 37 15 x → On 37 0 (clamp_unit (x ⊖ one32))
less_one x X = clamp_on 16 (x ⊖ one32) (sub_on binary32 37 15 x one32 (lit≤ tt) (lit≤ tt) X (weaken 37 0 37 15 one32 (le_refl 37) zero-le one_on))

-- ---- the ranges
between_on : (s e : Float) → On 37 15 s → On 37 15 e → AllOn 37 0 (range_ends (ranges_between s e))
unfolding ranges_between
between_on s e S E = go (near s e) (is_whole s e) (le e one32) (le one32 s)
  where
    go : (a b c d : Bool) → AllOn 37 0 (range_ends (cond a Nothing (cond b (One zero32 one32) (cond c (One (clamp_unit s) (clamp_unit e)) (cond d (One (clamp_unit (s ⊖ one32)) (clamp_unit (e ⊖ one32))) (Two (clamp_unit s) (clamp_unit (e ⊖ one32))))))))
    go true b c d = tt
    go false true c d = (zero_on, (one_on, tt))
    go false false true d = (clamp_on 15 s S, (clamp_on 15 e E, tt))
    go false false false true = (less_one s S, (less_one e E, tt))
    go false false false false = (clamp_on 15 s S, (one_on, (zero_on, (less_one e E, tt))))

order_bounded : (s e : Float) → Bounded 2 s → Bounded 2 e → Bounded 2 (lower s e) × Bounded 2 (upper s e)
unfolding lower upper
order_bounded s e S E = go (lt e s)
  where
    go : (b : Bool) → Bounded 2 (cond b e s) × Bounded 2 (cond b s e)
    go true = (E, S)
    go false = (S, E)

-- ---- the law
pub ranges_on : (trim : TrimStyle) → T (finite trim.start) → T (finite trim.end) → T (finite trim.offset_degrees) → AllOn 37 0 (range_ends (normalized_trim_segments trim))
unfolding normalized_trim_segments
ranges_on trim S E D =
    let o = offset_of trim.offset_degrees in
    let O = offset_bounded trim.offset_degrees D in
    let s = placed_at trim.start o in
    let e = placed_at trim.end o in
    let b = order_bounded s e (placed_bounded trim.start o S O) (placed_bounded trim.end o E O) in
    between_on (snapped (lower s e)) (snapped (upper s e)) (snapped_on (lower s e) b.0) (snapped_on (upper s e) b.1)
