-- The loops of `join::rows_need`.
use Rattle.join.proofs.Ways.{Needing}
use Rattle.join.proofs.rows_need.Given as goal

abbrev pub invariant-loop-entries : goal.invariant-loop-entries
invariant-loop-entries l = Needing l.rows l.items l.codes l.numbers l.entries-index
