-- `draw::draw_item` meets its contract. Assumes nothing.
use Rattle.command.proofs.Buffers.{both_handed}
use Rattle.draw.proofs.Ways.{item_fault}
use Rattle.draw.proofs.draw_item.Goals as goal

pub returns-in_err-row : goal.returns-in_err-row
returns-in_err-row c =
    both_handed _ _ (item_fault _ _ _ c.check_row.ensures _ c.in_err-row.was) _ _ c.from_residual.ensures.1 _ _
