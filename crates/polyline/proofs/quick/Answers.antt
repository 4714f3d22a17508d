-- `polyline::quick` meets its contract. Assumes nothing.
use borrow.Author.Rules.{rules}
use Rattle.polyline.proofs.Differences.{difference_settled}
use Rattle.polyline.proofs.quick.Goals as goal

pub returns-then-is_sure : goal.returns-then-is_sure
returns-then-is_sure c = search (rules, difference_settled)
