-- `arc::is_inside` meets its contract. Assumes nothing.
use Rattle.arc.proofs.Ways.{inside_both}
use borrow.Author.Rules.{rules}
use Rattle.arc.proofs.is_inside.Goals as goal

pub returns-then-is_within : goal.returns-then-is_within
returns-then-is_within c = search (rules, inside_both)
