-- The loops of `length::walk`.
use Rattle.length.proofs.Ways.{LeftToWalk}
use Rattle.length.proofs.walk.Given as goal

abbrev pub invariant-loop-i : goal.invariant-loop-i
invariant-loop-i l = LeftToWalk l.codes l.numbers l.least l.pen l.i l.place
