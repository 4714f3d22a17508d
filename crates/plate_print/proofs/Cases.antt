-- Closed cases of the definitions, each computed. Assumes nothing.
use mathlib.Core.Path.{◌≡◌, refl}
use mathlib.Core.List.{List, [], ◌∷◌}
use Prim.Native.Nat.{ℕ}
use lib.Ieee.{Float, nan, binary32, of_bits, of_fields, to_bits, size, odd, climb}
use Rattle.command.specs.declared.PathCommand.{PathCommand}
use Rattle.command.specs.declared.PathCommand.TheVariants.{Move, Line, Close}
use Rattle.command.specs.declared.Refusal.TheVariants.{OutOfBounds}
use Rattle.command.specs.Commands.{codes_of, numbers_of}
use Rattle.reader.specs.Read.{size_of_code}
use Rattle.plate_print.proofs.Bytes.{bytes}
use Rattle.plate_print.specs.Lines.{digit_of, leading_digit, leading, column, columns, line, numbers_line, command_lines, answer_text, refusal_text, list_lines, list_text}

-- an f32 by its bit pattern
abbrev f : ℕ → Float
f n = of_bits binary32 n

-- document 01's open path (0, 0), (3, 4), of length 5
abbrev sample : List PathCommand
sample = Move (f 0) (f 0) ∷ Line (f 0x4040_0000) (f 0x4080_0000) ∷ []

sample_printed : answer_text sample (f 0x40a0_0000) ≡ bytes " 0          0          0\n 1 1077936128 1082130432\n 9 1084227584\n"
unfolding bytes answer_text command_lines numbers_line line columns column leading leading_digit digit_of to_bits size climb odd of_bits of_fields
sample_printed = refl

-- the same from its codes and numbers
sample_listed : list_text (codes_of sample) (numbers_of sample) (f 0x40a0_0000) ≡ bytes " 0          0          0\n 1 1077936128 1082130432\n 9 1084227584\n"
unfolding bytes list_text list_lines size_of_code numbers_line line columns column leading leading_digit digit_of to_bits size climb odd of_bits of_fields
sample_listed = refl

close_printed : command_lines (Close ∷ []) ≡ bytes " 3\n"
unfolding bytes command_lines numbers_line line columns column leading leading_digit digit_of
close_printed = refl

refusal_printed : refusal_text OutOfBounds ≡ bytes " 8         12\n"
unfolding bytes refusal_text line columns column leading leading_digit digit_of
refusal_printed = refl

largest_printed : column 11 4294967295 ≡ bytes " 4294967295"
unfolding bytes column leading leading_digit digit_of
largest_printed = refl

zero_printed : column 11 0 ≡ bytes "          0"
unfolding bytes column leading leading_digit digit_of
zero_printed = refl

-- -1.5, whose sign bit is set, and a length that is no number
signs_printed : answer_text (Line (f 0xbfc0_0000) (f 0x8000_0000) ∷ []) nan ≡ bytes " 1 3217031168 2147483648\n 9 2143289344\n"
unfolding bytes answer_text command_lines numbers_line line columns column leading leading_digit digit_of to_bits size climb odd of_bits of_fields
signs_printed = refl
