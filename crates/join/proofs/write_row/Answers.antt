-- `join::write_row` meets its contract. Assumes nothing.
use Rattle.join.proofs.Ways.{row_made}
use Rattle.join.proofs.write_row.Goals as goal

pub returns-in_default : goal.returns-in_default
returns-in_default c = row_made _ _ _ c.is_source.ensures c.requires.value c.if-is_source.true _ c.shape_of.ensures.drawn _ c.in_default.is _
