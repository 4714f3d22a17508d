-- `CubicAxis::weighted` meets its contract. Assumes nothing.
use borrow.Author.Rules.{rules}
use Rattle.flatten.proofs.Ways.{cubic_single, cubic_sum}
use Rattle.flatten.proofs.CubicAxis.weighted.Goals as goal

pub float_to_float-result : goal.float_to_float-result
float_to_float-result c = search (rules, cubic_single)

pub returns : goal.returns
returns c = search (rules, cubic_sum)
