-- The loops of `plate_read::read_lines`.
use mathlib.Core.Path.{◌≡◌}
use Rattle.std.specs.Slice.Iter.{chunks_rest, chunks_size}
use Rattle.plate_read.proofs.Fills.{Filling}
use Rattle.plate_read.proofs.read_lines.Given as goal

abbrev pub invariant-loop-line : goal.invariant-loop-line
invariant-loop-line l =
    (goal.iterator-loop-line).can_next l.line-iterator
    × (goal.iterator-loop-line).is_finite l.line-iterator
    × (chunks_size l.line-iterator ≡ 67)
    × Filling l.closed l.lines (chunks_rest l.line-iterator) l.initial.numbers l.numbers l.count
