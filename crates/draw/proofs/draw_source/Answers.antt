-- `draw::draw_source` meets its contract. Assumes nothing.
use Rattle.command.proofs.Buffers.{both_handed}
use Rattle.draw.proofs.Ways.{source_fault, source_made_as}
use Rattle.draw.proofs.draw_source.Goals as goal

pub returns-in_err-check_source : goal.returns-in_err-check_source
returns-in_err-check_source c =
    both_handed _ _ (source_fault _ _ _ c.check_source.ensures _ c.in_err-check_source.was) _ _ c.from_residual.ensures.1 _ _

pub returns-in_err-drawing : goal.returns-in_err-drawing
returns-in_err-drawing c =
    both_handed _ _ (source_made_as _ _ _ c.check_source.ensures c.in_ok-check_source.was _ c.shape_of.ensures.drawn _ c.in_err-drawing.was) _ _
    c.from_residual-in_err-drawing.ensures.1 _ _
