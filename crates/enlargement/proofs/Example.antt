-- A plate that meets the conditions of the claim, so that the claim is not about nothing: a closed triangle that is drawn, measured and cut,
-- an ellipse that is drawn, two rectangles and the ellipse that are merged, and three copies.
-- What some calls answer about it and about the plate four times as large stands below as numbers. Assumes nothing.
use Rattle.std.specs.Prelude.{Ok}
use Prim.Native.Nat.{ℕ, zero, suc, ◌<◌, ◌≤◌}
use native.Mathlib.Nat.{not-suc-le-zero, le_of_suc-le-suc}
use mathlib.Core.Path.{◌≡◌, refl}
use mathlib.Core.Bool.{Bool, true, false, ◌&&◌}
use mathlib.Core.List.{List, [], ◌∷◌, map}
use lib.Dec.{T}
use lib.IntN.{pos}
use lib.Ieee.{Float, nan, fin, binary32, fits, add, sub, mul, div, lt, le, eq, neg, sum, round, units, size, span, climb, odd, of_int, of_bits, of_fields}
use lib.Ieee.Bits.{is_true}
use lib.Ieee.Fits.{and_l, and_r}
use lib.ListN.{length, get_or}
use Rattle.ieee.specs.Choice.{min, max, clamp}
use Rattle.ieee.specs.Fused.{fma}
use Rattle.ieee.specs.Grid.{on}
use Rattle.ieee.specs.Limit.{all_within}
use Rattle.ieee.specs.Literal.{zero32, one32, hundred32}
use Rattle.ieee.specs.Remainder.{rem_euclid}
use Rattle.ieee.specs.Root.{hypot_of, isqrt}
use Rattle.ieee.specs.Whole.{round_away}
use Rattle.ieee.proofs.Grid.{on→On}
use Rattle.command.specs.declared.PathCommand.{PathCommand}
use Rattle.command.specs.declared.PathCommand.TheVariants.{Move, Line, Cubic, Close}
use Rattle.command.specs.Commands.{codes_of, numbers_of}
use Rattle.command.specs.Outcomes.{mapped, list_of}
use Rattle.path.specs.Path.{bezier_segment}
use Rattle.rect.specs.Bounds.{rect_bounds}
use Rattle.ellipse.specs.Ellipse.{tangent_on, ellipse_path}
use Rattle.draw.specs.Paths.{draw_path}
use Rattle.draw.specs.Items.{draw_item}
use Rattle.item.specs.Kinds.{kind_of}
use Rattle.merge.specs.Decision.{ruling, decision}
use Rattle.curve.specs.Curve.{distance}
use Rattle.measure.specs.Length as measure
use Rattle.reader.specs.Read as reader
use Rattle.judge.specs.Lists as judge
use Rattle.length.specs.Lists.{measure_list}
use Rattle.reach.specs.Reach as reach
use Rattle.reach.specs.Reach.{length_reaches}
use Rattle.trim.specs.Trim.{offset_of, placed_at, snapped, near, near_both, is_whole, ranges_between, lower, upper, normalized_trim_segments}
use Rattle.cut.specs.Cuts.{part_of}
use Rattle.cut.specs.Calls.{is_finite_trim, is_trim_mode, cut_measured, trim_lengths}
use Rattle.cut.specs.Answers.{lengths_answer, told_numbers}
use Rattle.angle.specs.Sixteenths.{sixteenths_in, sixteenths_of, reduced, turn_of}
use Rattle.matrix.specs.Matrix.{concat, pre_translate, pre_scale, pre_rotate}
use Rattle.repeater.specs.Repeater as repeater
use Rattle.copies.specs.Calls.{has_too_many, repeater_checks, copy_numbers, all_finite, copy_answer, transform_answer}
use Rattle.enlargement.specs.Plates.{Lent, Plate, OnGrid, GridAt, of_vertices, PlateOnGrid, LengthAsked, enlarge}
use Rattle.enlargement.specs.Claim.{AnsweredAlike}
use Rattle.enlargement.specs.Buffers.{FilledAlike}
use Rattle.enlargement.proofs.Alike.{plate_enlarged}

-- ---- the plate
abbrev three : Float
three = of_bits binary32 0x4040_0000

abbrev four : Float
four = of_bits binary32 0x4080_0000

abbrev seven : Float
seven = of_bits binary32 0x40e0_0000

abbrev ten : Float
ten = of_bits binary32 0x4120_0000

-- (0, 0), (3, 0), (3, 4) without tangents
abbrev triangle : List Float
triangle =
    zero32 ∷ zero32 ∷ zero32 ∷ zero32 ∷ zero32 ∷ zero32
    ∷ three ∷ zero32 ∷ zero32 ∷ zero32 ∷ zero32 ∷ zero32
    ∷ three ∷ four ∷ zero32 ∷ zero32 ∷ zero32 ∷ zero32
    ∷ []

-- its path
abbrev sides : List PathCommand
sides = Move zero32 zero32 ∷ Line three zero32 ∷ Line three four ∷ Line zero32 zero32 ∷ Close ∷ []

-- 3 by 4 at 0 with sharp corners, and the same at (10, 0) with a roundness of 1, whose centre and size are the ellipse's too
abbrev rectangles : List Float
rectangles = zero32 ∷ zero32 ∷ three ∷ four ∷ zero32 ∷ ten ∷ zero32 ∷ three ∷ four ∷ one32 ∷ []

abbrev lent : Lent
lent = record {
  closed = 1;
  count = 3;
  row = 3 ∷ 0 ∷ 0 ∷ 0 ∷ 5 ∷ 0 ∷ [];
  -- the rectangles, the ellipse, and a merge item of mode 1
  rows = 2 ∷ 0 ∷ 0 ∷ 0 ∷ 0 ∷ 0 ∷ 2 ∷ 0 ∷ 0 ∷ 0 ∷ 5 ∷ 0 ∷ 3 ∷ 0 ∷ 0 ∷ 0 ∷ 5 ∷ 0 ∷ 13 ∷ 0 ∷ 0 ∷ 1 ∷ 0 ∷ 0 ∷ [];
  row_count = 4;
  codes = codes_of sides;
  command = 2;
  -- 25 to 75 per cent
  trim = record { start = of_bits binary32 0x41c8_0000; end = of_bits binary32 0x4296_0000; offset_degrees = zero32; mode = 1 };
  copy = 2;
}

-- three copies, each (10, 0) further, from opacity 1 to 0
abbrev plate : Plate
plate = record {
  lent = lent;
  vertices = triangle;
  items = rectangles;
  numbers = numbers_of sides;
  least = seven;
  repeater = record {
    copies = three;
    offset = zero32;
    mode = 1;
    anchor = record { x = one32; y = four };
    position = record { x = ten; y = zero32 };
    scale = record { x = hundred32; y = hundred32 };
    rotation = zero32;
    start_opacity = one32;
    end_opacity = zero32;
  };
}

-- ---- its conditions, by computing
abbrev all_on_grid : List Float → Bool
all_on_grid [] = true
all_on_grid (x ∷ xs) = (fits binary32 x && on 10 13 x) && all_on_grid xs

on_grid : (x : Float) → T (fits binary32 x && on 10 13 x) → OnGrid x
on_grid x t = record { single = is_true (fits binary32 x) (and_l (fits binary32 x) (on 10 13 x) t); grid = on→On 10 13 x (and_r (fits binary32 x) (on 10 13 x) t) }

all_on_grid_lem : (read : ℕ → Type 0) (v : List Float) → T (all_on_grid v) → GridAt read v
all_on_grid_lem read v t i r h = go v t i h
  where
    go : (v : List Float) → T (all_on_grid v) → (i : ℕ) → i < length v → OnGrid (get_or v i nan)
    go [] t i h = absurd (not-suc-le-zero h)
    go (x ∷ xs) t zero h = on_grid x (and_l (fits binary32 x && on 10 13 x) (all_on_grid xs) t)
    go (x ∷ xs) t (suc i) h = go xs (and_r (fits binary32 x && on 10 13 x) (all_on_grid xs) t) i (le_of_suc-le-suc h)

triangle_drawn : draw_path 1 triangle 3 ≡ Ok sides
unfolding draw_path bezier_segment sub of_bits le
triangle_drawn = refl

pub example_on_grid : PlateOnGrid plate
unfolding of_bits eq fits
example_on_grid = record {
  vertices = all_on_grid_lem _ triangle tt;
  row = all_on_grid_lem _ rectangles tt;
  rows = all_on_grid_lem _ rectangles tt;
  commands = sides;
  made = of_vertices 1 3 triangle sides (all_on_grid_lem _ triangle tt) triangle_drawn;
  codes_are = refl;
  numbers_are = refl;
  scale_x = refl;
  scale_y = refl;
  no_rotation = refl;
  position_x = on_grid ten tt;
  position_y = on_grid zero32 tt;
  anchor_x = on_grid one32 tt;
  anchor_y = on_grid four tt;
}

-- of the length 7 nothing more is asked: 64 times 7 is finite
pub example_asked : LengthAsked plate (enlarge 6 plate)
unfolding enlarge mul of_bits fits
example_asked = record { single = refl; multiple = λ e. refl }

pub example_alike : (k : ℕ) → k ≤ 6 → AnsweredAlike k plate (enlarge k plate) × FilledAlike k plate (enlarge k plate)
example_alike k K = plate_enlarged k K plate example_on_grid

-- ---- its answers, and those about the plate four times as large
abbrev larger : Plate
larger = enlarge 2 plate

-- 12 and 16
abbrev twelve : Float
twelve = of_bits binary32 0x4140_0000

abbrev sixteen : Float
sixteen = of_bits binary32 0x4180_0000

larger_drawn : draw_path 1 larger.vertices 3 ≡ Ok (Move zero32 zero32 ∷ Line twelve zero32 ∷ Line twelve sixteen ∷ Line zero32 zero32 ∷ Close ∷ [])
unfolding enlarge draw_path bezier_segment sub mul of_bits le
larger_drawn = refl

-- an f32 by its bit pattern
abbrev f : ℕ → Float
f n = of_bits binary32 n

-- the ellipse around (10, 0), and around (40, 0)
ellipse_drawn : draw_item lent.row plate.items
    ≡ Ok (
    Move (f 0x4120_0000) (f 0xc000_0000)
    ∷ Cubic (f 0x412d_413d) (f 0xc000_0000) (f 0x4138_0000) (f 0xbf8d_6289) (f 0x4138_0000) zero32
    ∷ Cubic (f 0x4138_0000) (f 0x3f8d_6289) (f 0x412d_413d) (f 0x4000_0000) (f 0x4120_0000) (f 0x4000_0000)
    ∷ Cubic (f 0x4112_bec3) (f 0x4000_0000) (f 0x4108_0000) (f 0x3f8d_6289) (f 0x4108_0000) zero32
    ∷ Cubic (f 0x4108_0000) (f 0xbf8d_6289) (f 0x4112_bec3) (f 0xc000_0000) (f 0x4120_0000) (f 0xc000_0000)
    ∷ Close ∷ [])
unfolding draw_item le tangent_on ellipse_path rect_bounds fma mul sub neg sum round units size span climb odd of_bits of_fields kind_of
ellipse_drawn = refl

larger_ellipse_drawn : draw_item lent.row larger.items
    ≡ Ok (
    Move (f 0x4220_0000) (f 0xc100_0000)
    ∷ Cubic (f 0x422d_413d) (f 0xc100_0000) (f 0x4238_0000) (f 0xc08d_6289) (f 0x4238_0000) zero32
    ∷ Cubic (f 0x4238_0000) (f 0x408d_6289) (f 0x422d_413d) (f 0x4100_0000) (f 0x4220_0000) (f 0x4100_0000)
    ∷ Cubic (f 0x4212_bec3) (f 0x4100_0000) (f 0x4208_0000) (f 0x408d_6289) (f 0x4208_0000) zero32
    ∷ Cubic (f 0x4208_0000) (f 0xc08d_6289) (f 0x4212_bec3) (f 0xc100_0000) (f 0x4220_0000) (f 0xc100_0000)
    ∷ Close ∷ [])
unfolding enlarge draw_item le tangent_on ellipse_path rect_bounds fma mul sub neg sum round units size span climb odd of_bits of_fields kind_of
larger_ellipse_drawn = refl

-- 12, and 48
length_12 : measure_list lent.codes plate.numbers ≡ Ok twelve
unfolding sub mul of_bits le hypot_of isqrt all_within
    distance measure.start_pen measure.move_to measure.line_to measure.close measure.step measure.steps measure.length_after measure.path_length
    reader.size_of_code reader.command_at reader.command_checks reader.read_command judge.in_front judge.read_list judge.judge_list measure_list
length_12 = refl

length_48 : measure_list lent.codes larger.numbers ≡ Ok (of_bits binary32 0x4240_0000)
unfolding enlarge sub mul of_bits le hypot_of isqrt all_within
    distance measure.start_pen measure.move_to measure.line_to measure.close measure.step measure.steps measure.length_after measure.path_length
    reader.size_of_code reader.command_at reader.command_checks reader.read_command judge.in_front judge.read_list judge.judge_list measure_list
length_48 = refl

-- 7 is reached by the second side, and so is 28
reached_7 : length_reaches lent.codes plate.numbers plate.least ≡ Ok (true, 3)
unfolding sub of_bits le hypot_of isqrt all_within
    distance measure.start_pen measure.move_to measure.line_to measure.close measure.step measure.steps measure.length_after measure.path_length
    reader.size_of_code reader.command_at reader.command_checks reader.read_command judge.in_front judge.read_list judge.judge_list judge.place_of measure_list
    reach.first_length reach.long_enough reach.one_more reach.fewest reach.yes_or_no reach.is_length length_reaches
reached_7 = refl

reached_28 : length_reaches lent.codes larger.numbers larger.least ≡ Ok (true, 3)
unfolding enlarge sub mul of_bits le hypot_of isqrt all_within
    distance measure.start_pen measure.move_to measure.line_to measure.close measure.step measure.steps measure.length_after measure.path_length
    reader.size_of_code reader.command_at reader.command_checks reader.read_command judge.in_front judge.read_list judge.judge_list judge.place_of measure_list
    reach.first_length reach.long_enough reach.one_more reach.fewest reach.yes_or_no reach.is_length length_reaches
reached_28 = refl

-- the middle half of it is shown: 3, 6, 3, and 12, 24, 12
cuts_12 : list_of (mapped told_numbers (lengths_answer lent.trim lent.codes plate.numbers)) ≡ three ∷ of_bits binary32 0x40c0_0000 ∷ three ∷ []
unfolding sub mul div le of_int of_bits min max clamp fma rem_euclid hypot_of isqrt round_away all_within
    distance measure.start_pen measure.move_to measure.line_to measure.close measure.step measure.steps measure.length_after measure.path_length
    reader.size_of_code reader.command_at reader.command_checks reader.read_command judge.in_front judge.read_list judge.judge_list measure_list
    offset_of placed_at snapped near near_both is_whole ranges_between lower upper normalized_trim_segments is_finite_trim is_trim_mode cut_measured trim_lengths lengths_answer part_of
cuts_12 = refl

cuts_48 : list_of (mapped told_numbers (lengths_answer lent.trim lent.codes larger.numbers)) ≡ twelve ∷ of_bits binary32 0x41c0_0000 ∷ twelve ∷ []
unfolding enlarge sub mul div le of_int of_bits min max clamp fma rem_euclid hypot_of isqrt round_away all_within
    distance measure.start_pen measure.move_to measure.line_to measure.close measure.step measure.steps measure.length_after measure.path_length
    reader.size_of_code reader.command_at reader.command_checks reader.read_command judge.in_front judge.read_list judge.judge_list measure_list
    offset_of placed_at snapped near near_both is_whole ranges_between lower upper normalized_trim_segments is_finite_trim is_trim_mode cut_measured trim_lengths lengths_answer part_of
cuts_48 = refl

rows_joined : decision lent.rows lent.row_count ≡ Ok (0 ∷ 1 ∷ 2 ∷ [])
unfolding decision ruling kind_of
rows_joined = refl

-- the last copy is shifted by 20, and by 80
shift_20 : transform_answer plate.repeater 2 ≡ Ok (one32 ∷ zero32 ∷ zero32 ∷ one32 ∷ of_bits binary32 0x41a0_0000 ∷ zero32 ∷ zero32 ∷ [])
unfolding of_bits all_within lt le of_int add sub mul div fma concat pre_translate pre_scale pre_rotate sixteenths_in sixteenths_of reduced turn_of
    repeater.copy_count repeater.step_scale repeater.step_part repeater.step_matrix repeater.step_transform repeater.steps
    repeater.iteration_transform repeater.copy_transform repeater.opacity_of repeater.copy_opacity
    has_too_many repeater_checks copy_numbers copy_answer transform_answer
shift_20 = refl

shift_80 : transform_answer larger.repeater 2 ≡ Ok (one32 ∷ zero32 ∷ zero32 ∷ one32 ∷ of_bits binary32 0x42a0_0000 ∷ zero32 ∷ zero32 ∷ [])
unfolding enlarge of_bits all_within lt le of_int add sub mul div fma concat pre_translate pre_scale pre_rotate sixteenths_in sixteenths_of reduced turn_of
    repeater.copy_count repeater.step_scale repeater.step_part repeater.step_matrix repeater.step_transform repeater.steps
    repeater.iteration_transform repeater.copy_transform repeater.opacity_of repeater.copy_opacity
    has_too_many repeater_checks copy_numbers copy_answer transform_answer
shift_80 = refl

-- the factors are the f32 2, 4, 8, 16, 32 and 64
factors : map (λ (k : ℕ). fin false 1 (pos k)) (1 ∷ 2 ∷ 3 ∷ 4 ∷ 5 ∷ 6 ∷ [])
    ≡ map (of_bits binary32) (0x4000_0000 ∷ 0x4080_0000 ∷ 0x4100_0000 ∷ 0x4180_0000 ∷ 0x4200_0000 ∷ 0x4280_0000 ∷ [])
unfolding of_bits
factors = refl
