-- `sheet::Sheet::put_all` meets its contract. Assumes nothing.
use Rattle.std.proofs.Common.{rules}
use Rattle.sheet.proofs.Written.{room_more, wrote_more}
use Rattle.sheet.proofs.Sheet.put_all.Goals as goal

pub put-requires : goal.put-requires
put-requires c = room_more _ _ _ _ c.loop-command.invariant _ (search rules) c.requires

pub loop-command-preserved : goal.loop-command-preserved
loop-command-preserved c = wrote_more _ _ _ _ c.loop-command.invariant _ (search rules) _ c.put.ensures
