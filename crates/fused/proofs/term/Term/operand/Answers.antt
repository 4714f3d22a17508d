-- `Term::operand` meets its contract. Assumes nothing.
use Rattle.fused.proofs.Ways.{operand_is, operand_high}
use Rattle.fused.proofs.term.Term.operand.Goals as goal

pub returns : goal.returns
returns c =
    let l = c.lifted.ensures.moved in
    (operand_is c.args.self c.lifted.result l c.requires.1, operand_high c.args.self c.lifted.result l c.requires.0 c.requires.2, l.sign, c.lifted.ensures.same)
