-- `segments::outline_numbers` meets its contract. Assumes nothing.
use Rattle.segments.proofs.Tally.{closed_total}
use Rattle.segments.proofs.outline_numbers.Goals as goal

pub returns-then-closed : goal.returns-then-closed
returns-then-closed g c =
    closed_total _ _ _ c.if-closed.true _ _ _ c.end_place.ensures _ _ c.is_line_to-line.ensures c.numbers_between-reached.ensures.vertex_value
    c.vertex.ensures c.numbers_between-reached.ensures.at_value (g.met.O.Outline.some c.args.outline.now) _ c.count.ensures c.if-count-eq1.false
