-- `segment_writer::write_segments` meets its contract. Assumes nothing.
use Rattle.std.proofs.Common.{rules}
use Rattle.segment_writer.proofs.Carried.{carryings}
use Rattle.segment_writer.proofs.write_segments.Goals as goal

pub put_followed-requires : goal.put_followed-requires
put_followed-requires g c = search (rules, carryings)

pub loop-k-preserved : goal.loop-k-preserved
loop-k-preserved g c = search (rules, carryings)

pub put-requires : goal.put-requires
put-requires g c = search (rules, carryings)

pub returns-clause-wrote : goal.returns-clause-wrote
returns-clause-wrote g c = search (rules, carryings)
