-- The loop of `sheet::Sheet::put_all`.
use Rattle.std.proofs.Common.{take}
use Rattle.sheet.specs.Sheets.{Wrote}
use Rattle.sheet.proofs.Sheet.put_all.Given as goal

abbrev pub invariant-loop-command : goal.invariant-loop-command
invariant-loop-command l = Wrote (take l.command-index l.commands) l.initial.self l.self
