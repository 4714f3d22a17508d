-- What is asked of the calls in a worked example, and what they answer, by the definitions that the calls promise. Definitions only.
use Rattle.std.specs.Prelude.{ℕ, List, [], ◌∷◌, Float, length}
use Rattle.command.specs.declared.PathCommand.{PathCommand}
use Rattle.command.specs.Commands.{codes_of, numbers_of}
use Rattle.command.specs.Outcomes.{Outcome, mapped, and_then}
use Rattle.draw.specs.Items.{draw_item}
use Rattle.draw.specs.Paths.{draw_path}
use Rattle.length.specs.Lists.{measure_list}
use Rattle.trim.specs.declared.Ranges.{Ranges}
use Rattle.cut.specs.Answers.{ranges_answer, told_numbers, told_count, told_mark}
use Rattle.copies.specs.Calls.{repeater_of, order_answer, transform_answer}

-- A trim by start, end and offset; a rectangle by centre, size and roundness, drawn and measured; a vertex list by closed flag, numbers and count, drawn
-- and measured; the order of a repeater's copies, and one copy. A repeater is given by its eleven numbers and its mode.
pub data Input : Type 0 where
  trim : Float → Float → Float → Input
  rectangle : Float → Float → Float → Float → Float → Input
  path : ℕ → List Float → ℕ → Input
  order : List Float → ℕ → Input
  copy : List Float → ℕ → ℕ → Input

-- How many ranges there are, their ends, two a range, and 1 where they are marked as whole, else 0; a length; how many commands there are, and their length;
-- the copies in their order; a copy's matrix and opacity.
pub data Output : Type 0 where
  ranges : ℕ → List Float → ℕ → Output
  of_length : Float → Output
  commands : ℕ → Float → Output
  ordered : List ℕ → Output
  copied : List Float → Output

-- the ranges of a trim
abbrev pub ranges_output : Ranges × List Float → Output
ranges_output a = ranges (told_count a) (told_numbers a) (told_mark a)

-- what is drawn is written as codes and numbers, and these are measured, alone and beside the number of the commands
abbrev pub measure_drawn : List PathCommand → Outcome Float
measure_drawn cs = measure_list (codes_of cs) (numbers_of cs)

abbrev pub count_drawn : List PathCommand → Outcome Output
count_drawn cs = mapped (commands (length (codes_of cs))) (measure_drawn cs)

-- the item row of a visible rectangle whose numbers start the item list
abbrev pub rectangle_row : List ℕ
rectangle_row = 2 ∷ 0 ∷ 0 ∷ 0 ∷ 0 ∷ 0 ∷ []

-- What the calls answer, into buffers that are large enough: `jengafir_trim_ranges`; `jengafir_draw_item` and `jengafir_length`; `jengafir_draw_path`
-- and `jengafir_length`;
-- `jengafir_copy_order`; `jengafir_copy_transform`.
abbrev pub answer : Input → Outcome Output
answer (trim start end offset) = mapped ranges_output (ranges_answer (record { start = start; end = end; offset_degrees = offset; mode = 1 }))
answer (rectangle x y width height roundness) = mapped of_length (and_then (draw_item rectangle_row (x ∷ y ∷ width ∷ height ∷ roundness ∷ [])) measure_drawn)
answer (path closed vertices count) = and_then (draw_path closed vertices count) count_drawn
answer (order repeater mode) = mapped ordered (order_answer (repeater_of repeater mode))
answer (copy repeater mode index) = mapped copied (transform_answer (repeater_of repeater mode) index)
