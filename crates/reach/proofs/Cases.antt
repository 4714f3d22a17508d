-- Closed cases of the definition, computed. Assumes nothing.
use Rattle.std.specs.Prelude.{Ok, Err}
use mathlib.Core.Path.{◌≡◌, refl}
use mathlib.Core.Bool.{Bool, true, false}
use mathlib.Core.List.{List, [], ◌∷◌}
use Prim.Native.Nat.{ℕ}
use lib.Ieee.{Float, nan, binary32, sub, le, of_bits}
use Rattle.ieee.specs.Limit.{all_within}
use Rattle.ieee.specs.Root.{hypot_of, isqrt}
use Rattle.command.specs.declared.Refusal.TheVariants.{OutOfRange, Unlisted, OutOfBounds}
use Rattle.command.specs.Outcomes.{Outcome}
use Rattle.reader.specs.Read.{size_of_code, command_at, command_checks, read_command}
use Rattle.judge.specs.Lists.{in_front, read_list, judge_list, place_of}
use Rattle.curve.specs.Curve.{distance}
use Rattle.measure.specs.Length.{start_pen, move_to, line_to, close, step, steps, length_after, path_length}
use Rattle.length.specs.Lists.{measure_list}
use Rattle.reach.specs.Reach.{first_length, long_enough, one_more, fewest, yes_or_no, is_length, length_reaches}

-- an f32 by its bit pattern
abbrev f : ℕ → Float
f n = of_bits binary32 n

-- a square with sides of 4: (0, 0), (4, 0), (4, 4), (0, 4) and back
abbrev square : Float → Outcome (Bool × ℕ)
square least = length_reaches (0 ∷ 1 ∷ 1 ∷ 1 ∷ 3 ∷ []) (f 0 ∷ f 0 ∷ f 0x4080_0000 ∷ f 0 ∷ f 0x4080_0000 ∷ f 0x4080_0000 ∷ f 0 ∷ f 0x4080_0000 ∷ []) least

-- a line of length 5, more codes, and one number more, which is none
abbrev line : List ℕ → Float → Outcome (Bool × ℕ)
line more least = length_reaches (0 ∷ 1 ∷ more) (f 0 ∷ f 0 ∷ f 0x4040_0000 ∷ f 0x4080_0000 ∷ nan ∷ []) least

answers : ◌≡◌ {A = List (Outcome (Bool × ℕ))} (
    -- 0 and -0 are reached by none, 4 by the first side, 16 by the close, and the f32 after 16 never
    square (f 0) ∷ square (f 0x8000_0000) ∷ square (f 0x4080_0000) ∷ square (f 0x4180_0000) ∷ square (f 0x4180_0001)
    -- 5 is reached before a code that is not listed, and before a number left over; 5.5 is not
    ∷ line (77 ∷ []) (f 0x40a0_0000) ∷ line (77 ∷ []) (f 0x40b0_0000) ∷ line [] (f 0x40a0_0000) ∷ line [] (f 0x40b0_0000)
    -- 0 is reached by none of a faulty list
    ∷ length_reaches (77 ∷ []) (nan ∷ []) (f 0) ∷ []) (
    Ok (true, 0) ∷ Ok (true, 0) ∷ Ok (true, 2) ∷ Ok (true, 5) ∷ Ok (false, 5)
    ∷ Ok (true, 2) ∷ Err Unlisted ∷ Ok (true, 2) ∷ Err OutOfBounds
    ∷ Ok (true, 0) ∷ [])
unfolding sub of_bits le hypot_of isqrt all_within distance start_pen move_to line_to close step steps length_after path_length
    size_of_code command_at command_checks read_command in_front read_list judge_list place_of measure_list
    first_length long_enough one_more fewest yes_or_no is_length length_reaches
answers = refl

-- what is negative, infinite or no number is no length
no_lengths : ◌≡◌ {A = List (Outcome (Bool × ℕ))} (square (f 0xbf80_0000) ∷ square (f 0x7f80_0000) ∷ square (f 0xff80_0000) ∷ square nan ∷ [])
    (Err OutOfRange ∷ Err OutOfRange ∷ Err OutOfRange ∷ Err OutOfRange ∷ [])
unfolding of_bits le is_length length_reaches
no_lengths = refl
