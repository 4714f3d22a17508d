-- The text that the program `plate` prints, as a list of bytes. Definitions only.
use Rattle.std.specs.Prelude.{ℕ, zero, suc, ◌+◌, ◌/◌, ◌%◌, cond, List, [], ◌∷◌, ◌++◌, map, eqb, Float, take, drop}
use Rattle.std.specs.Float.{binary32}
use Rattle.std.specs.Float.Ieee.{to_bits}
use Rattle.command.specs.declared.PathCommand.{PathCommand}
use Rattle.command.specs.declared.Refusal.{Refusal}
use Rattle.command.specs.Commands.{code_of, coordinates_of}
use Rattle.command.specs.Refusals.{refusal_number}
use Rattle.reader.specs.Read.{size_of_code}

-- ---- numbers in columns

-- the byte of a number's last digit; 48 is the digit 0
unfoldable pub digit_of : ℕ → ℕ
digit_of n = 48 + n % 10

-- the same before the last column: where no digit is left it is a blank, 32
unfoldable pub leading_digit : ℕ → ℕ
leading_digit n = cond (eqb n 0) 32 (digit_of n)

-- a number in the columns before the last one
unfoldable pub leading : ℕ → ℕ → List ℕ
leading zero n = []
leading (suc w) n = leading w (n / 10) ++ leading_digit n ∷ []

-- a number as an unsigned decimal, right-justified in so many columns; 0 is one digit
unfoldable pub column : ℕ → ℕ → List ℕ
column zero n = []
column (suc w) n = leading w (n / 10) ++ digit_of n ∷ []

-- ---- lines

-- each number in 11 columns
unfoldable pub columns : List ℕ → List ℕ
columns [] = []
columns (n ∷ ns) = column 11 n ++ columns ns

-- the code in 2 columns, the numbers, and a newline, 10
unfoldable pub line : ℕ → List ℕ → List ℕ
line code ns = column 2 code ++ columns ns ++ 10 ∷ []

-- a code with numbers by their bits
unfoldable pub numbers_line : ℕ → List Float → List ℕ
numbers_line code v = line code (map (to_bits binary32) v)

-- "a command a line"
unfoldable pub command_lines : List PathCommand → List ℕ
command_lines [] = []
command_lines (c ∷ cs) = numbers_line (code_of c) (coordinates_of c) ++ command_lines cs

-- "then code 9 and the length's bits"
unfoldable pub answer_text : List PathCommand → Float → List ℕ
answer_text cs total = command_lines cs ++ numbers_line 9 (total ∷ [])

-- "A refusal is code 8 and its number in 11 columns."
unfoldable pub refusal_text : Refusal → List ℕ
refusal_text r = line 8 (refusal_number r ∷ [])

-- ---- the same of codes and numbers in two lists

-- the lines of the commands that the two lists write
unfoldable pub list_lines : List ℕ → List Float → List ℕ
list_lines [] v = []
list_lines (c ∷ cs) v = numbers_line c (take (size_of_code c) v) ++ list_lines cs (drop (size_of_code c) v)

unfoldable pub list_text : List ℕ → List Float → Float → List ℕ
list_text codes v total = list_lines codes v ++ numbers_line 9 (total ∷ [])
