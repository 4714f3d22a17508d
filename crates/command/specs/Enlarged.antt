-- Commands and outcomes whose every number is multiplied by a power of two. Definitions only.
use Rattle.std.specs.Prelude.{ℕ, ◌≡◌, List, map, Float}
use Rattle.ieee.specs.Each.{Each}
use Rattle.ieee.specs.Grid.{scale, On}
use Rattle.command.specs.declared.PathCommand.{PathCommand}
use Rattle.command.specs.declared.PathCommand.TheVariants.{Move, Line, Cubic, Close, Quad}
use Rattle.command.specs.Commands.{coordinates_of, numbers_of}
use Rattle.command.specs.Outcomes.{Outcome, mapped, list_of}

-- the command with every number times 2 ^ k, exactly
abbrev pub enlarged : ℕ → PathCommand → PathCommand
enlarged k (Move x y) = Move (scale k x) (scale k y)
enlarged k (Line x y) = Line (scale k x) (scale k y)
enlarged k (Cubic ax ay bx by x y) = Cubic (scale k ax) (scale k ay) (scale k bx) (scale k by) (scale k x) (scale k y)
enlarged k Close = Close
enlarged k (Quad ax ay x y) = Quad (scale k ax) (scale k ay) (scale k x) (scale k y)

-- every number of the list is a whole multiple of 2 ^ -q, and at most 2 ^ b in absolute value
abbrev pub AllOn : ℕ → ℕ → List Float → Type 0
AllOn q b xs = Each (On q b) xs

-- c' is c with every number times 2 ^ k, and the numbers of c are on the grid
pub record CommandTwin (k q b : ℕ) (c c' : PathCommand) : Type 0 where
  pub command : c' ≡ enlarged k c
  pub grid : AllOn q b (coordinates_of c)

-- the same of two lists, command by command
pub record Twins (k q b : ℕ) (cs cs' : List PathCommand) : Type 0 where
  pub commands : cs' ≡ map (enlarged k) cs
  pub grid : AllOn q b (numbers_of cs)

-- what is drawn with every number times 2 ^ k, exactly: a refusal stays what it is
abbrev pub enlarged_drawing : ℕ → Outcome (List PathCommand) → Outcome (List PathCommand)
enlarged_drawing k o = mapped (map (enlarged k)) o

-- o' is o with every number times 2 ^ k, and the numbers of o are on the grid
pub record DrawingTwin (k q b : ℕ) (o o' : Outcome (List PathCommand)) : Type 0 where
  pub outcome : o' ≡ enlarged_drawing k o
  pub grid : AllOn q b (numbers_of (list_of o))
