-- The loop of `segment_writer::write_segments`.
use Rattle.segment_writer.proofs.Carried.{Carried}
use Rattle.segment_writer.proofs.write_segments.Given as goal

abbrev pub invariant-loop-k : goal.invariant-loop-k
invariant-loop-k g l = Carried (g.O.Outline.vertex l.outline) (g.O.Outline.count l.outline) l.initial.sheet l.sheet l.a l.k
