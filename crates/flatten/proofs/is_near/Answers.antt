-- `flatten::is_near` meets its contract. Assumes nothing.
use borrow.Author.Rules.{rules}
use Rattle.flatten.proofs.Near.{near_zero, near_size}
use Rattle.flatten.proofs.is_near.Goals as goal

pub returns-then-pattern-eq0 : goal.returns-then-pattern-eq0
returns-then-pattern-eq0 c = search (rules, near_zero)

pub returns-then-size-top : goal.returns-then-size-top
returns-then-size-top c = search (rules, near_size)
