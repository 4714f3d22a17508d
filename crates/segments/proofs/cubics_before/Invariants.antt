-- The loop of `segments::cubics_before`.
use Prim.Native.Nat.{◌*◌}
use Rattle.path.specs.Path.{vertex_at}
use Rattle.segments.specs.Leaves.{Passed}
use Rattle.segments.proofs.cubics_before.Given as goal

abbrev pub invariant-loop-k : goal.invariant-loop-k
invariant-loop-k l = Passed (vertex_at l.vertices.numbers.now) l.vertices.count (4 * l.k)
