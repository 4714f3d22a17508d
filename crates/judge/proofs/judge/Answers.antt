-- `judge::judge` meets its contract. Assumes nothing.
use borrow.Author.Rules.{rules}
use Rattle.judge.proofs.Ways.{judge_refused, judge_next}
use Rattle.judge.proofs.judge.Goals as goal

pub returns-in_err-next : goal.returns-in_err-next
returns-in_err-next c =
    let f = judge_refused _ _ _ _ c.loop-code.invariant (search rules) _ c.read_command.ensures (search rules) _ c.in_err-next.was in
    search rules

pub loop-code-preserved : goal.loop-code-preserved
loop-code-preserved c = judge_next _ _ _ _ c.loop-code.invariant (search rules) _ c.read_command.ensures _ _ c.in_ok-next.was
