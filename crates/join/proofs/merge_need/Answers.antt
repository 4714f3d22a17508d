-- `join::merge_need` meets its contract. Assumes nothing.
use Rattle.command.proofs.Buffers.{need_handed}
use Rattle.join.proofs.Ways.{merge_fault}
use Rattle.join.proofs.merge_need.Goals as goal

pub returns-in_err-before : goal.returns-in_err-before
returns-in_err-before c =
    need_handed _ _ (merge_fault _ _ c.args.items.now _ c.decide.ensures.sources _ c.in_err-before.was) _ c.from_residual.ensures.1
