-- The loops of `judge::judge`.
use Rattle.judge.proofs.Walk.{Left}
use Rattle.judge.proofs.Ways.{nothing}
use Rattle.judge.proofs.judge.Given as goal

abbrev pub invariant-loop-code : goal.invariant-loop-code
invariant-loop-code l = Left nothing l.codes l.numbers tt tt l.code-index l.place
