-- `length::walk` meets its contract. Assumes nothing.
use borrow.Author.Rules.{rules}
use Rattle.length.proofs.Ways.{walk_refused, walk_next}
use Rattle.length.proofs.walk.Goals as goal

pub returns-in_err-command : goal.returns-in_err-command
returns-in_err-command c =
    let f = walk_refused _ _ _ _ _ _ c.loop-i.invariant _ c.is_there.ensures c.if-is_there.false (search rules) _ c.read_command.ensures _ c.in_err-command.was in
    search rules

pub loop-i-preserved : goal.loop-i-preserved
loop-i-preserved c = walk_next _ _ _ _ _ _ c.loop-i.invariant _ c.is_there.ensures c.if-is_there.false (search rules) _ c.read_command.ensures _ _ c.in_ok-command.was _ c.step-pen.ensures
