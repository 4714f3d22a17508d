-- `root::settle` meets its contract. Assumes nothing.
use Rattle.root.proofs.Ways.{settled}
use borrow.Author.Rules.{rules}
use Rattle.root.proofs.settle.Goals as goal

pub returns-then-is_sure : goal.returns-then-is_sure
returns-then-is_sure c = search (rules, settled)
