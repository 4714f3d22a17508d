-- The answer to each call of a trim, the ranges with the numbers that are told of them, and what a call promises of the caller's places. Definitions only.
use Rattle.std.specs.Prelude.{ℕ, ◌*◌, ◌≡◌, cond, List, Float}
use Rattle.command.specs.Outcomes.{Outcome, mapped, value_or, Told}
use Rattle.command.specs.Buffers.{Filled}
use Rattle.trim.specs.declared.TrimStyle.{TrimStyle}
use Rattle.trim.specs.declared.Ranges.{Ranges}
use Rattle.trim.specs.Trim.{is_full_trim_segments}
use Rattle.trim.specs.Ranges.{range_count, range_ends}
use Rattle.cut.specs.Cuts.{cut_all}
use Rattle.cut.specs.Calls.{trim_ranges, trim_lengths}

-- of the ranges alone, their ends
abbrev pub with_ends : Ranges → Ranges × List Float
with_ends ranges = (ranges, range_ends ranges)

unfoldable pub ranges_answer : TrimStyle → Outcome (Ranges × List Float)
ranges_answer trim = mapped with_ends (trim_ranges trim)

-- of a path, what lies before, in and after each range
abbrev pub with_cuts : Float × Ranges → Ranges × List Float
with_cuts cut = (cut.1, cut_all cut.0 (range_ends cut.1))

unfoldable pub lengths_answer : TrimStyle → List ℕ → List Float → Outcome (Ranges × List Float)
lengths_answer trim codes numbers = mapped with_cuts (trim_lengths trim codes numbers)

-- the mark of a whole path as a number
abbrev pub mark_of : Ranges → ℕ
mark_of ranges = cond (is_full_trim_segments ranges) 1 0

-- what is told of an answer: its numbers, how many ranges there are, and the mark
abbrev pub told_numbers : Ranges × List Float → List Float
told_numbers answer = answer.1

abbrev pub told_count : Ranges × List Float → ℕ
told_count answer = range_count answer.0

abbrev pub told_mark : Ranges × List Float → ℕ
told_mark answer = mark_of answer.0

-- The promise of both calls, where each range has `width` numbers, two ends or three lengths: the array is filled with the numbers,
-- the count told is that of the ranges, and so is the mark.
pub record Placed (width : ℕ) (o : Outcome (Ranges × List Float)) (number count : ℕ) (buffer buffer' : List Float) (mark mark' : ℕ) : Type 0 where
  pub numbers_filled : Filled (mapped told_numbers o) number (width * count) buffer buffer'
  pub count_is : count ≡ value_or 0 (mapped told_count o)
  pub mark_told : Told (mapped told_mark o) number mark mark'
