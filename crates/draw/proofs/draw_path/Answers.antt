-- `draw::draw_path` meets its contract. Assumes nothing.
use Rattle.command.proofs.Buffers.{both_handed}
use Rattle.draw.proofs.Ways.{path_fault}
use Rattle.draw.proofs.draw_path.Goals as goal

pub returns-in_err-check_path : goal.returns-in_err-check_path
returns-in_err-check_path c =
    both_handed _ _ (path_fault _ _ _ _ c.check_path.ensures _ c.in_err-check_path.was) _ _ c.from_residual.ensures.1 _ _
