-- `polystar::start_of` meets its contract. Assumes nothing.
use borrow.Author.Rules.{rules}
use Rattle.polystar.proofs.Turns.{first_stands}
use Rattle.polystar.proofs.start_of.Goals as goal

pub returns : goal.returns
returns c = search (rules, first_stands)
