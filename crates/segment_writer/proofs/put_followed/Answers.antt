-- `segment_writer::put_followed` meets its contract. Assumes nothing.
use Rattle.std.proofs.Common.{rules}
use Rattle.segment_writer.proofs.Ways.{followed_is}
use Rattle.segment_writer.proofs.put_followed.Goals as goal

pub returns : goal.returns
returns c = search (rules, followed_is)
