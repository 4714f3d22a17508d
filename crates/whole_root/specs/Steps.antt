-- The steps from the parts of two numbers to the rounded root of the sum of their squares. Definitions only.
use Rattle.std.specs.Prelude.{ℕ, ◌+◌, ◌*◌, ◌/◌, ◌%◌, ◌^◌, cond, eqb, Float}
use Rattle.std.specs.Float.{binary32}
use Rattle.ieee.specs.Root.{square, root_of}
use Rattle.float.specs.declared.parts.Parts.{Parts}

-- Half of a number to the nearest whole number, a tie to the even one: s is the number's whole part, and rest is 0 just where that is all of it.
abbrev pub halved : ℕ → ℕ → ℕ
halved s rest = (s + cond (eqb rest 0) (s / 2 % 2) 1) / 2

-- the root of the sum of the squares of two numbers by their parts
abbrev pub root_of_parts : Parts → Parts → Float
root_of_parts p q = root_of binary32 (square (p.digits * 2 ^ p.drops) + square (q.digits * 2 ^ q.drops))
