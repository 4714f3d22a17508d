-- The loops of `plate_print::Text::put_columns`.
use Rattle.std.proofs.Common.{map, take}
use Rattle.std.specs.Float.{binary32}
use Rattle.std.specs.Float.Ieee.{to_bits}
use Rattle.plate_print.specs.Appended.{Appended}
use Rattle.plate_print.specs.Lines.{columns}
use Rattle.plate_print.proofs.Text.put_columns.Given as goal

abbrev pub invariant-loop-number : goal.invariant-loop-number
invariant-loop-number l = Appended l.initial.self l.self (columns (map (to_bits binary32) (take l.number-index l.numbers)))
