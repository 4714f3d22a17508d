-- `shape::Drawing::draw` meets its contract. Assumes nothing.
use Rattle.std.proofs.Common.{rules}
use Rattle.shape.proofs.Ways.{too_small, all_written}
use Rattle.shape.proofs.Drawing.draw.Goals as goal

pub returns-then-is_within : goal.returns-then-is_within
returns-then-is_within c =
    all_written _ _ _ _ c.is_within.ensures c.if-is_within.true _ _ _ _ (search rules) (search rules) (search rules) (search rules)

pub returns-else-is_within : goal.returns-else-is_within
returns-else-is_within c = too_small _ _ _ _ c.is_within.ensures c.if-is_within.false
