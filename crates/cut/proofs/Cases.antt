-- Closed cases of the definitions, each computed. Assumes nothing.
use Rattle.std.specs.Prelude.{Ok, Err}
use mathlib.Core.Path.{◌≡◌, refl}
use mathlib.Core.Bool.{true}
use mathlib.Core.List.{List, [], ◌∷◌}
use Prim.Native.Nat.{ℕ}
use lib.Ieee.{Float, nan, inf, binary32, add, sub, mul, div, rem, lt, le, neg, sum, round, units, size, span, climb, odd, of_bits, of_fields, is_nan}
use Rattle.ieee.specs.Choice.{max, clamp}
use Rattle.ieee.specs.Limit.{all_within}
use Rattle.ieee.specs.Remainder.{rem_euclid}
use Rattle.ieee.specs.Root.{hypot_of, root_of, isqrt, root}
use Rattle.ieee.specs.Whole.{round_away}
use Rattle.command.specs.declared.Refusal.TheVariants.{OutOfRange, Unlisted, TooShort, OutOfBounds}
use Rattle.command.specs.Outcomes.{Outcome, mapped, value_or}
use Rattle.reader.specs.Read.{size_of_code, command_at, command_checks, read_command}
use Rattle.judge.specs.Lists.{in_front, read_list, judge_list}
use Rattle.curve.specs.Curve.{distance}
use Rattle.measure.specs.Length.{start_pen, added, move_to, arrive, line_to, closing, close, step, steps, length_after, path_length}
use Rattle.length.specs.Lists.{measure_list}
use Rattle.trim.specs.declared.TrimStyle.{TrimStyle}
use Rattle.trim.specs.declared.Ranges.{Ranges}
use Rattle.trim.specs.declared.Ranges.TheVariants.{Nothing, One, Two}
use Rattle.trim.specs.Trim.{offset_of, placed_at, snapped, near, near_both, is_whole, ranges_between, lower, upper, normalized_trim_segments, is_full_trim_segments}
use Rattle.cut.specs.Cuts.{part_of}
use Rattle.cut.specs.Calls.{is_finite_trim, is_trim_mode, trim_ranges, cut_measured, trim_lengths}
use Rattle.cut.specs.Answers.{ranges_answer, lengths_answer, told_count, told_mark}

-- an f32 by its bit pattern
abbrev f : ℕ → Float
f n = of_bits binary32 n

-- percentages and degrees
abbrev trim : Float → Float → Float → ℕ → TrimStyle
trim start end offset mode = record { start = start; end = end; offset_degrees = offset; mode = mode }

-- the rectangle 3 by 4 around 0, which is 14 long
abbrev codes : List ℕ
codes = 0 ∷ 1 ∷ 1 ∷ 1 ∷ 3 ∷ []

abbrev numbers : List Float
numbers = f 0xbfc0_0000 ∷ f 0xc000_0000 ∷ f 0x3fc0_0000 ∷ f 0xc000_0000 ∷ f 0x3fc0_0000 ∷ f 0x4000_0000 ∷ f 0xbfc0_0000 ∷ f 0x4000_0000 ∷ []

abbrev cuts : TrimStyle → Outcome (Ranges × List Float)
cuts t = lengths_answer t codes numbers

-- from 25 to 75: 3.5 before, 7 in and 3.5 after the range
abbrev PartCut : Type 0
PartCut =
    cuts (trim (f 0x41c8_0000) (f 0x4296_0000) (f 0) 1)
    ≡ Ok (One (f 0x3e80_0000) (f 0x3f40_0000), f 0x4060_0000 ∷ f 0x40e0_0000 ∷ f 0x4060_0000 ∷ [])

-- from 0 to 100, moved on by 90 degrees: two ranges, with 3.5, 10.5, 0 and 0, 3.5, 10.5
abbrev TwoCut : Type 0
TwoCut =
    cuts (trim (f 0) (f 0x42c8_0000) (f 0x42b4_0000) 1)
    ≡ Ok (Two (f 0x3e80_0000) (f 0x3e80_0000), f 0x4060_0000 ∷ f 0x4128_0000 ∷ f 0 ∷ f 0 ∷ f 0x4060_0000 ∷ f 0x4128_0000 ∷ [])

-- from 0 to 100: the whole path, with 0, 14, 0, and marked so
abbrev WholeCut : Type 0
WholeCut = cuts (trim (f 0) (f 0x42c8_0000) (f 0) 2) ≡ Ok (One (f 0) (f 0x3f80_0000), f 0 ∷ f 0x4160_0000 ∷ f 0 ∷ [])

abbrev WholeMarked : Type 0
WholeMarked = value_or 7 (mapped told_mark (cuts (trim (f 0) (f 0x42c8_0000) (f 0) 2))) ≡ 1

-- from 30 to 30: no range, and no number
abbrev NothingCut : Type 0
NothingCut = cuts (trim (f 0x41f0_0000) (f 0x41f0_0000) (f 0) 1) ≡ Ok (Nothing, [])

abbrev NothingCounted : Type 0
NothingCounted = value_or 7 (mapped told_count (cuts (trim (f 0x41f0_0000) (f 0x41f0_0000) (f 0) 1))) ≡ 0

-- from -0 to 50, moved on by -0: the range starts at -0, and +0 lies before it
abbrev MinusZeroCut : Type 0
MinusZeroCut =
    cuts (trim (f 0x8000_0000) (f 0x4248_0000) (f 0x8000_0000) 1)
    ≡ Ok (One (f 0x8000_0000) (f 0x3f00_0000), f 0 ∷ f 0x40e0_0000 ∷ f 0x40e0_0000 ∷ [])

-- a line of 2 ^ -23 is too short, and the next longer one is not
abbrev LineShort : Type 0
LineShort = trim_lengths (trim (f 0) (f 0) (f 0) 1) (0 ∷ 1 ∷ []) (f 0 ∷ f 0 ∷ f 0x3400_0000 ∷ f 0 ∷ []) ≡ Err TooShort

abbrev LineLong : Type 0
LineLong = trim_lengths (trim (f 0) (f 0) (f 0) 1) (0 ∷ 1 ∷ []) (f 0 ∷ f 0 ∷ f 0x3400_0001 ∷ f 0 ∷ []) ≡ Ok (f 0x3400_0001, Nothing)

cut : PartCut × TwoCut × WholeCut × WholeMarked × NothingCut × NothingCounted × MinusZeroCut × LineShort × LineLong
unfolding is_full_trim_segments lengths_answer trim_lengths is_finite_trim is_trim_mode cut_measured part_of max normalized_trim_segments offset_of placed_at snapped near
    near_both is_whole ranges_between lower upper rem_euclid round_away clamp measure_list judge_list read_list in_front read_command command_checks size_of_code command_at
    all_within le path_length length_after steps step start_pen move_to line_to arrive added close closing distance hypot_of root_of isqrt root add sub mul div rem lt
    neg sum round units size span climb odd of_bits of_fields is_nan
cut = (refl, refl, refl, refl, refl, refl, refl, refl, refl)

-- refusals in their order: the numbers, the mode, the list, its length
module _ (codes : List ℕ) (numbers : List Float) where
  -- a start that is no number comes before a mode that is not listed, and this before any list
  start_first : trim_lengths (trim nan (f 0) (f 0) 3) codes numbers ≡ Err OutOfRange
  unfolding trim_lengths is_finite_trim
  start_first = refl

  offset_first : trim_lengths (trim (f 0) (f 0) (inf true) 3) codes numbers ≡ Err OutOfRange
  unfolding trim_lengths is_finite_trim of_bits of_fields
  offset_first = refl

  mode_next : trim_lengths (trim (f 0) (f 0) (f 0) 3) codes numbers ≡ Err Unlisted
  unfolding trim_lengths is_finite_trim is_trim_mode of_bits of_fields
  mode_next = refl

-- a number is left over, so that the length 0 of the list is not looked at
list_next : trim_lengths (trim (f 0) (f 0) (f 0) 1) (3 ∷ []) (nan ∷ []) ≡ Err OutOfBounds
unfolding trim_lengths is_finite_trim is_trim_mode cut_measured measure_list judge_list read_list in_front read_command command_checks size_of_code all_within of_bits of_fields
list_next = refl

empty_last : trim_lengths (trim (f 0) (f 0) (f 0) 1) [] [] ≡ Err TooShort
unfolding trim_lengths is_finite_trim is_trim_mode cut_measured measure_list judge_list read_list path_length length_after steps start_pen le of_bits of_fields
empty_last = refl

-- the ranges alone: the mode is not read
ranges : ranges_answer (trim (f 0) (f 0x42c8_0000) (f 0) 3) ≡ Ok (One (f 0) (f 0x3f80_0000), f 0 ∷ f 0x3f80_0000 ∷ [])
unfolding ranges_answer trim_ranges is_finite_trim normalized_trim_segments offset_of placed_at snapped near near_both is_whole ranges_between lower upper rem_euclid
    round_away clamp add sub mul div rem lt le neg sum round units size span climb odd of_bits of_fields
ranges = refl
