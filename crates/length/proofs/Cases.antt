-- Closed cases of the definition, each computed. Assumes nothing.
use Rattle.std.specs.Prelude.{Ok, Err}
use mathlib.Core.Path.{◌≡◌, refl}
use mathlib.Core.List.{[], ◌∷◌}
use Prim.Native.Nat.{ℕ}
use lib.Ieee.{Float, nan, binary32, add, sub, le, neg, sum, round, units, size, span, climb, odd, of_bits, of_fields}
use Rattle.ieee.specs.Limit.{all_within}
use Rattle.ieee.specs.Root.{hypot_of, root_of, isqrt, root}
use Rattle.command.specs.declared.Refusal.TheVariants.{OutOfRange, Unlisted, OutOfBounds}
use Rattle.reader.specs.Read.{size_of_code, command_at, command_checks, read_command}
use Rattle.judge.specs.Lists.{in_front, read_list, judge_list}
use Rattle.curve.specs.Curve.{distance}
use Rattle.measure.specs.Length.{start_pen, added, move_to, arrive, line_to, closing, close, step, steps, length_after, path_length}
use Rattle.length.specs.Lists.{measure_list}

-- an f32 by its bit pattern
abbrev f : ℕ → Float
f n = of_bits binary32 n

-- an empty list is legal, with length 0
nothing : measure_list [] [] ≡ Ok (f 0)
unfolding measure_list judge_list read_list path_length length_after steps start_pen of_bits of_fields
nothing = refl

-- the rectangle 3 by 4 around 0: 14
rectangle : measure_list (0 ∷ 1 ∷ 1 ∷ 1 ∷ 3 ∷ []) (f 0xbfc0_0000 ∷ f 0xc000_0000 ∷ f 0x3fc0_0000 ∷ f 0xc000_0000 ∷ f 0x3fc0_0000 ∷ f 0x4000_0000 ∷ f 0xbfc0_0000 ∷ f 0x4000_0000 ∷ [])
    ≡ Ok (f 0x4160_0000)
unfolding measure_list judge_list read_list in_front read_command command_checks size_of_code command_at all_within le path_length length_after steps step start_pen move_to line_to arrive added close closing distance hypot_of root_of isqrt root add sub neg sum round units size span climb odd of_bits of_fields
rectangle = refl

-- a code that is not listed comes before its missing numbers, and these before a number that is none; left-over numbers come last
faults : measure_list (5 ∷ []) [] ≡ Err Unlisted
unfolding measure_list judge_list read_list read_command command_checks
faults = refl

short : measure_list (1 ∷ []) (nan ∷ []) ≡ Err OutOfBounds
unfolding measure_list judge_list read_list read_command command_checks size_of_code
short = refl

beyond : measure_list (1 ∷ 5 ∷ []) (f 0 ∷ nan ∷ []) ≡ Err OutOfRange
unfolding measure_list judge_list read_list read_command command_checks size_of_code all_within le of_bits of_fields
beyond = refl

over : measure_list (3 ∷ []) (nan ∷ []) ≡ Err OutOfBounds
unfolding measure_list judge_list read_list in_front read_command command_checks size_of_code command_at all_within
over = refl
