-- The loop of `segments::numbers_between`.
use Rattle.segments.proofs.Tally.{Tally}
use Rattle.segments.proofs.numbers_between.Given as goal

abbrev pub invariant-loop-k : goal.invariant-loop-k
invariant-loop-k g l = Tally (g.O.Outline.vertex l.outline) (g.O.Outline.count l.outline) l.a l.k l.at
