-- `jengafir::jengafir_trim_lengths` meets its contract. Assumes nothing.
use borrow.Author.Rules.{rules}
use Rattle.cut.proofs.Ways.{telling}
use Rattle.jengafir.proofs.jengafir_trim_lengths.Goals as goal

pub returns-in-Err : goal.returns-in-Err
returns-in-Err c = search (rules, telling)

pub returns-in-Ok : goal.returns-in-Ok
returns-in-Ok c = search (rules, telling)
