-- `QuadAxis::weighted` meets its contract. Assumes nothing.
use borrow.Author.Rules.{rules}
use Rattle.flatten.proofs.Ways.{quad_single, quad_sum}
use Rattle.flatten.proofs.QuadAxis.weighted.Goals as goal

pub float_to_float-result : goal.float_to_float-result
float_to_float-result c = search (rules, quad_single)

pub returns : goal.returns
returns c = search (rules, quad_sum)
