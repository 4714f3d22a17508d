-- The loops of `join::write_rows`.
use Rattle.join.proofs.Ways.{Joining}
use Rattle.join.proofs.write_rows.Given as goal

abbrev pub invariant-loop-entries : goal.invariant-loop-entries
invariant-loop-entries l = Joining l.rows l.items l.initial.sheet l.sheet l.entries-index
