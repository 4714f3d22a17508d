-- `segment_writer::write_outline` meets its contract. Assumes nothing.
use Rattle.std.proofs.Common.{rules}
use Rattle.segment_writer.proofs.Outlined.{outlines}
use Rattle.segment_writer.proofs.write_outline.Goals as goal

pub write_segments-last-requires-clause-room : goal.write_segments-last-requires-clause-room
write_segments-last-requires-clause-room g c =
    let some = g.met.O.Outline.some c.args.outline.now in
    search (rules, outlines)

pub put_all-requires-then-closed : goal.put_all-requires-then-closed
put_all-requires-then-closed g c =
    let some = g.met.O.Outline.some c.args.outline.now in
    search (rules, outlines)

pub returns-then-closed : goal.returns-then-closed
returns-then-closed g c =
    let some = g.met.O.Outline.some c.args.outline.now in
    search (rules, outlines)

pub returns-else-closed : goal.returns-else-closed
returns-else-closed g c =
    let some = g.met.O.Outline.some c.args.outline.now in
    search (rules, outlines)
