-- What goes wrong without some of the claim's conditions, by computing. Assumes nothing.
use Rattle.std.specs.Prelude.{Ok, Err}
use Prim.Native.Nat.{ℕ}
use mathlib.Core.Path.{◌≡◌, refl}
use mathlib.Core.Bool.{Bool, false}
use mathlib.Core.List.{List, [], ◌∷◌}
use lib.Ieee.{Float, binary32, add, sub, mul, div, lt, le, of_int, of_bits}
use Rattle.ieee.specs.Fused.{fma}
use Rattle.ieee.specs.Limit.{all_within}
use Rattle.ieee.specs.Literal.{zero32, one32}
use Rattle.ieee.specs.Root.{hypot_of, isqrt}
use Rattle.command.specs.declared.PathCommand.{PathCommand}
use Rattle.command.specs.declared.PathCommand.TheVariants.{Move, Line, Cubic}
use Rattle.command.specs.declared.Refusal.TheVariants.{OutOfRange, NotFinite}
use Rattle.command.specs.Outcomes.{Outcome}
use Rattle.path.specs.Path.{bezier_segment}
use Rattle.draw.specs.Paths.{draw_path}
use Rattle.curve.specs.Curve.{distance}
use Rattle.measure.specs.Length as measure
use Rattle.reader.specs.Read as reader
use Rattle.judge.specs.Lists as judge
use Rattle.length.specs.Lists.{measure_list}
use Rattle.reach.specs.Reach as reach
use Rattle.reach.specs.Reach.{length_reaches}
use Rattle.angle.specs.Sixteenths.{sixteenths_in, sixteenths_of, reduced, turn_of}
use Rattle.matrix.specs.Matrix.{concat, pre_translate, pre_scale, pre_rotate}
use Rattle.repeater.specs.Repeater as repeater
use Rattle.copies.specs.Calls.{has_too_many, repeater_checks, copy_numbers, all_finite, copy_answer, transform_answer}
use Rattle.enlargement.specs.Plates.{times}

-- ---- the grid of 1 / 1,024: an out-tangent of 2 ^ -14 is within 1e-4, and twice that is not
abbrev tangent : Float → Outcome (List PathCommand)
tangent x = draw_path 0 (zero32 ∷ zero32 ∷ zero32 ∷ zero32 ∷ x ∷ zero32 ∷ one32 ∷ zero32 ∷ zero32 ∷ zero32 ∷ zero32 ∷ zero32 ∷ []) 2

abbrev two_14 : Float
two_14 = of_bits binary32 0x3880_0000

abbrev two_13 : Float
two_13 = of_bits binary32 0x3900_0000

finer_is_line : tangent two_14 ≡ Ok (Move zero32 zero32 ∷ Line one32 zero32 ∷ [])
unfolding draw_path bezier_segment add sub of_bits le
finer_is_line = refl

twice_is_cubic : tangent two_13 ≡ Ok (Move zero32 zero32 ∷ Cubic two_13 zero32 one32 zero32 one32 zero32 ∷ [])
unfolding draw_path bezier_segment add sub of_bits le
twice_is_cubic = refl

-- ---- a bound, and no factor of 256: 64 times 32,768, or 256 times 8,192, is 2,097,152, which is over the limit of 1,048,576
abbrev one_vertex : Float → Outcome (List PathCommand)
one_vertex x = draw_path 0 (x ∷ zero32 ∷ zero32 ∷ zero32 ∷ zero32 ∷ zero32 ∷ []) 1

at_the_limit : one_vertex (of_bits binary32 0x4980_0000) ≡ Ok (Move (of_bits binary32 0x4980_0000) zero32 ∷ Line (of_bits binary32 0x4980_0000) zero32 ∷ [])
unfolding draw_path of_bits le
at_the_limit = refl

over_the_limit : one_vertex (of_bits binary32 0x4a00_0000) ≡ Err OutOfRange
unfolding draw_path of_bits le
over_the_limit = refl

-- ---- a scale of 100: with 819,200 each copy is 8,192 times as large as the one before, copy 9 around an anchor of 1,024 is shifted by -2 ^ 127, and twice that is no f32
abbrev copy_at : Float → Float → Float → Float → ℕ → Outcome (List Float)
copy_at offset anchor position scale copy =
    transform_answer (record {
      copies = of_bits binary32 0x4120_0000;
      offset = offset;
      mode = 1;
      anchor = record { x = anchor; y = zero32 };
      position = record { x = position; y = zero32 };
      scale = record { x = scale; y = of_bits binary32 0x42c8_0000 };
      rotation = zero32;
      start_opacity = one32;
      end_opacity = one32;
    }) copy

large_scale : copy_at zero32 (of_bits binary32 0x4480_0000) zero32 (of_bits binary32 0x4948_0000) 9
    ≡ Ok (of_bits binary32 0x7a00_0000 ∷ zero32 ∷ zero32 ∷ one32 ∷ of_bits binary32 0xff00_0000 ∷ zero32 ∷ one32 ∷ [])
unfolding of_bits all_within lt le of_int add sub mul div fma concat pre_translate pre_scale pre_rotate sixteenths_in sixteenths_of reduced turn_of
    repeater.copy_count repeater.step_scale repeater.step_part repeater.step_matrix repeater.step_transform repeater.steps
    repeater.iteration_transform repeater.copy_transform repeater.opacity_of repeater.copy_opacity
    has_too_many repeater_checks copy_numbers copy_answer transform_answer
large_scale = refl

large_scale_enlarged : copy_at zero32 (of_bits binary32 0x4500_0000) zero32 (of_bits binary32 0x4948_0000) 9 ≡ Err NotFinite
unfolding of_bits all_within lt le of_int add sub mul div fma concat pre_translate pre_scale pre_rotate sixteenths_in sixteenths_of reduced turn_of
    repeater.copy_count repeater.step_scale repeater.step_part repeater.step_matrix repeater.step_transform repeater.steps
    repeater.iteration_transform repeater.copy_transform repeater.opacity_of repeater.copy_opacity
    has_too_many repeater_checks copy_numbers copy_answer transform_answer
large_scale_enlarged = refl

-- ---- the anchor is multiplied with the position: around 8,192 a third of a step by 1 is rounded to 341 / 1,024, and a third of a step by 2 to 683 / 1,024, which is not twice that
third_of_one : copy_at (of_bits binary32 0x3eaa_aaab) (of_bits binary32 0x4600_0000) one32 (of_bits binary32 0x42c8_0000) 0
    ≡ Ok (one32 ∷ zero32 ∷ zero32 ∷ one32 ∷ of_bits binary32 0x3eaa_8000 ∷ zero32 ∷ one32 ∷ [])
unfolding of_bits all_within lt le of_int add sub mul div fma concat pre_translate pre_scale pre_rotate sixteenths_in sixteenths_of reduced turn_of
    repeater.copy_count repeater.step_scale repeater.step_part repeater.step_matrix repeater.step_transform repeater.steps
    repeater.iteration_transform repeater.copy_transform repeater.opacity_of repeater.copy_opacity
    has_too_many repeater_checks copy_numbers copy_answer transform_answer
third_of_one = refl

third_of_two : copy_at (of_bits binary32 0x3eaa_aaab) (of_bits binary32 0x4600_0000) (of_bits binary32 0x4000_0000) (of_bits binary32 0x42c8_0000) 0
    ≡ Ok (one32 ∷ zero32 ∷ zero32 ∷ one32 ∷ of_bits binary32 0x3f2a_c000 ∷ zero32 ∷ one32 ∷ [])
unfolding of_bits all_within lt le of_int add sub mul div fma concat pre_translate pre_scale pre_rotate sixteenths_in sixteenths_of reduced turn_of
    repeater.copy_count repeater.step_scale repeater.step_part repeater.step_matrix repeater.step_transform repeater.steps
    repeater.iteration_transform repeater.copy_transform repeater.opacity_of repeater.copy_opacity
    has_too_many repeater_checks copy_numbers copy_answer transform_answer
third_of_two = refl

-- ---- a length whose multiple is finite too: 2 ^ 127 is not reached by a line of length 5, and twice that is no length
abbrev asked : Float → Outcome (Bool × ℕ)
asked least = length_reaches (0 ∷ 1 ∷ []) (zero32 ∷ zero32 ∷ of_bits binary32 0x4040_0000 ∷ of_bits binary32 0x4080_0000 ∷ []) least

large_length : asked (of_bits binary32 0x7f00_0000) ≡ Ok (false, 2)
unfolding sub of_bits le hypot_of isqrt all_within
    distance measure.start_pen measure.move_to measure.line_to measure.step measure.steps measure.length_after measure.path_length
    reader.size_of_code reader.command_at reader.command_checks reader.read_command judge.in_front judge.read_list judge.judge_list judge.place_of measure_list
    reach.first_length reach.long_enough reach.one_more reach.fewest reach.yes_or_no reach.is_length length_reaches
large_length = refl

large_length_enlarged : asked (times 1 (of_bits binary32 0x7f00_0000)) ≡ Err OutOfRange
unfolding mul of_bits reach.is_length length_reaches
large_length_enlarged = refl
