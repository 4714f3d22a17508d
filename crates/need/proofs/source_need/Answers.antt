-- `need::source_need` meets its contract. Assumes nothing.
use Rattle.command.proofs.Buffers.{need_handed}
use Rattle.draw.proofs.Ways.{source_fault}
use Rattle.need.proofs.source_need.Goals as goal

pub returns-in_err-check_source : goal.returns-in_err-check_source
returns-in_err-check_source c =
    need_handed _ _ (source_fault _ _ _ c.check_source.ensures _ c.in_err-check_source.was) _ c.from_residual.ensures.1
