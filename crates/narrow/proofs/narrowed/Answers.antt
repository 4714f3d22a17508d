-- `narrow::narrowed` meets its contract. Assumes nothing.
use borrow.Author.Rules.{rules}
use Rattle.narrow.proofs.Ways.{keeps_held}
use Rattle.narrow.proofs.narrowed.Goals as goal

pub returns : goal.returns
returns c = search (rules, keeps_held)
