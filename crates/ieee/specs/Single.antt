-- Numbers that are f32. Definitions only.
use Rattle.std.specs.Prelude.{List, T, Float}
use Rattle.std.specs.Float.{binary32}
use Rattle.std.specs.Float.Ieee.{fits}
use Rattle.ieee.specs.Each.{Each}

-- x is an f32
abbrev pub Single : Float → Type 0
Single x = T (fits binary32 x)

-- each number of the list is
abbrev pub AllSingle : List Float → Type 0
AllSingle xs = Each Single xs
