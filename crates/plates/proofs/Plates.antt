-- Every worked example that document 01 stars is what the calls answer. Assumes nothing.
use Prim.Native.Nat.{ℕ}
use mathlib.Core.Path.{◌≡◌, refl}
use mathlib.Core.Bool.{true, false}
use mathlib.Core.List.{[], ◌∷◌, map}
use lib.Ieee.{Float, binary32, sub, mul, div, le, round, of_int, of_bits}
use Rattle.ieee.specs.Literal.{hundred32}
use Rattle.ieee.specs.Choice.{min, max, clamp}
use Rattle.ieee.specs.Fused.{fma}
use Rattle.ieee.specs.Remainder.{rem_euclid}
use Rattle.ieee.specs.Root.{hypot_of, isqrt}
use Rattle.ieee.specs.Whole.{round_away}
use Rattle.path.specs.Path.{bezier_segment}
use Rattle.rect.specs.Bounds.{rect_bounds}
use Rattle.rect.specs.Rect.{corner_radius, rect_path}
use Rattle.draw.specs.Paths.{draw_path}
use Rattle.draw.specs.Items.{draw_item}
use Rattle.curve.specs.Curve.{distance}
use Rattle.measure.specs.Length as measure
use Rattle.reader.specs.Read.{size_of_code, command_at, command_checks, read_command}
use Rattle.judge.specs.Lists.{in_front, read_list, judge_list}
use Rattle.length.specs.Lists.{measure_list}
use Rattle.trim.specs.Trim.{offset_of, placed_at, snapped, near, near_both, is_whole, ranges_between, lower, upper, normalized_trim_segments, is_full_trim_segments}
use Rattle.cut.specs.Calls.{is_finite_trim, trim_ranges}
use Rattle.cut.specs.Answers.{ranges_answer}
use Rattle.angle.specs.Sixteenths.{sixteenths_in, sixteenths_of, reduced, turn_of}
use Rattle.matrix.specs.Matrix.{concat, pre_translate, pre_scale, pre_rotate}
use Rattle.repeater.specs.Repeater as repeater
use Rattle.copies.specs.Order.{rising, falling, order_of, copy_order}
use Rattle.copies.specs.Calls.{has_too_many, repeater_checks, order_answer, copy_numbers, all_finite, copy_answer, transform_answer}
use Rattle.item.specs.Kinds.{kind_of}
use Rattle.plates.specs.Calls.{answer}
use Rattle.plates.specs.Plates.{tiny_back, hundredth, quarter, half, three_quarters, minus_ten, minus_one, two_and_a_half, three, four, ten, twelve, fourteen, n25, n75, n90, n180, starred}

-- what the calls answer to the inputs, one after another, is the outputs
pub all_answered : map (λ p. answer p.input) starred ≡ map (λ p. p.output) starred
unfolding sub mul div le of_int of_bits min max clamp fma rem_euclid hypot_of isqrt round_away
    kind_of bezier_segment rect_bounds corner_radius rect_path draw_path draw_item
    distance measure.start_pen measure.move_to measure.line_to measure.close measure.step measure.steps measure.length_after measure.path_length
    size_of_code command_at command_checks read_command in_front read_list judge_list measure_list
    offset_of placed_at snapped near near_both is_whole ranges_between lower upper normalized_trim_segments is_full_trim_segments is_finite_trim trim_ranges ranges_answer
    concat pre_translate pre_scale pre_rotate sixteenths_in sixteenths_of reduced turn_of
    repeater.copy_count repeater.step_scale repeater.step_part repeater.step_matrix repeater.step_transform
    repeater.steps repeater.iteration_transform repeater.copy_transform repeater.opacity_of repeater.copy_opacity
    rising falling order_of copy_order has_too_many repeater_checks order_answer copy_numbers copy_answer transform_answer
all_answered = refl

-- numerator / denominator, and its negative, to the nearest f32
abbrev above : ℕ → ℕ → Float
above n d = round binary32 false n d

abbrev below : ℕ → ℕ → Float
below n d = round binary32 true n d

-- Each number of the list is the f32 nearest to its decimal.
numbers_nearest : tiny_back ∷ hundredth ∷ quarter ∷ half ∷ three_quarters ∷ minus_ten ∷ minus_one ∷ two_and_a_half ∷ three ∷ four ∷ ten ∷ twelve ∷ fourteen ∷ n25 ∷ n75 ∷ n90 ∷ hundred32 ∷ n180 ∷ []
    ≡ below 1 10000000 ∷ above 1 100 ∷ above 25 100 ∷ above 5 10 ∷ above 75 100 ∷ below 10 1 ∷ below 1 1 ∷ above 25 10 ∷ above 3 1 ∷ above 4 1 ∷ above 10 1 ∷ above 12 1 ∷ above 14 1
    ∷ above 25 1 ∷ above 75 1 ∷ above 90 1 ∷ above 100 1 ∷ above 180 1 ∷ []
unfolding round of_bits
numbers_nearest = refl
