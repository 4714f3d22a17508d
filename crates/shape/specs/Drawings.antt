-- What a drawing draws. Definitions only.
use Rattle.std.specs.Prelude.{List}
use Rattle.command.specs.declared.PathCommand.{PathCommand}
use Rattle.shape.specs.declared.Drawing.{Drawing}
use Rattle.shape.specs.Shape.{shape_commands}

-- the commands of its shape, whose numbers are the first ones of its list
abbrev pub commands_of : Drawing → List PathCommand
commands_of d = shape_commands d.shape d.list.now
