-- Command lists whose every number has a property, as to be bounded or to be an f32: how they are built, command by command. Assumes nothing.
use mathlib.Core.Bool.{Bool, true, false, cond}
use mathlib.Core.List.{List, [], ◌∷◌}
use lib.Ieee.{Float}
use Rattle.ieee.specs.Each.{Each}
use Rattle.ieee.proofs.Each.{each_append}
use Rattle.command.specs.declared.PathCommand.{PathCommand}
use Rattle.command.specs.declared.PathCommand.TheVariants.{Move, Line, Cubic, Close}
use Rattle.command.specs.Commands.{coordinates_of, numbers_of}

-- each number of the command, and each number of the commands
pub record CommandEach (P : Float → Type 0) (c : PathCommand) : Type 0 where
  pub coordinates : Each P (coordinates_of c)

pub record CommandsEach (P : Float → Type 0) (cs : List PathCommand) : Type 0 where
  pub numbers : Each P (numbers_of cs)

module _ {P : Float → Type 0} where
  -- ---- one command
  pub each_close : CommandEach P Close
  each_close = record { coordinates = tt }

  module _ {x y : Float} (X : P x) (Y : P y) where
    pub each_move : CommandEach P (Move x y)
    each_move = record { coordinates = (X, (Y, tt)) }

    pub each_line : CommandEach P (Line x y)
    each_line = record { coordinates = (X, (Y, tt)) }

  pub each_cubic : {ax ay bx by x y : Float} → P ax → P ay → P bx → P by → P x → P y → CommandEach P (Cubic ax ay bx by x y)
  each_cubic AX AY BX BY X Y = record { coordinates = (AX, (AY, (BX, (BY, (X, (Y, tt)))))) }

  -- ---- a list, command by command
  pub each_none : CommandsEach P []
  each_none = record { numbers = tt }

  pub each_cons : {c : PathCommand} {cs : List PathCommand} → CommandEach P c → CommandsEach P cs → CommandsEach P (c ∷ cs)
  each_cons {c} {cs} C Cs = record { numbers = each_append P (coordinates_of c) (numbers_of cs) C.coordinates Cs.numbers }

  -- one of two lists
  pub each_choice : (t : Bool) {cs ds : List PathCommand} → CommandsEach P cs → CommandsEach P ds → CommandsEach P (cond t cs ds)
  each_choice true C D = C
  each_choice false C D = D
