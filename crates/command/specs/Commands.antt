-- A command as a code and numbers, a list of commands as the contents of two buffers, and the limit of its numbers. Definitions only.
use Rattle.std.specs.Prelude.{ℕ, List, [], ◌∷◌, ◌++◌, Float}
use Rattle.std.specs.Float.Ieee.{of_bits}
use Rattle.std.specs.Float.{binary32}
use Rattle.command.specs.declared.PathCommand.{PathCommand}
use Rattle.command.specs.declared.PathCommand.TheVariants.{Move, Line, Cubic, Close, Quad}

-- move 0, line 1, cubic 2, close 3, quad 4
abbrev pub code_of : PathCommand → ℕ
code_of (Move x y) = 0
code_of (Line x y) = 1
code_of (Cubic ax ay bx by x y) = 2
code_of Close = 3
code_of (Quad ax ay x y) = 4

-- a command's numbers, in order
abbrev pub coordinates_of : PathCommand → List Float
coordinates_of (Move x y) = x ∷ y ∷ []
coordinates_of (Line x y) = x ∷ y ∷ []
coordinates_of (Cubic ax ay bx by x y) = ax ∷ ay ∷ bx ∷ by ∷ x ∷ y ∷ []
coordinates_of Close = []
coordinates_of (Quad ax ay x y) = ax ∷ ay ∷ x ∷ y ∷ []

-- the codes and the numbers of a list of commands, one after another
abbrev pub codes_of : List PathCommand → List ℕ
codes_of [] = []
codes_of (c ∷ cs) = code_of c ∷ codes_of cs

abbrev pub numbers_of : List PathCommand → List Float
numbers_of [] = []
numbers_of (c ∷ cs) = coordinates_of c ++ numbers_of cs

-- 4,194,304, which is 2 ^ 22: no number of a command list is larger
abbrev pub command_limit : Float
command_limit = of_bits binary32 0x4a80_0000
