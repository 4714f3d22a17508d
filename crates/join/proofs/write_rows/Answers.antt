-- `join::write_rows` meets its contract. Assumes nothing.
use Rattle.std.proofs.Common.{rules}
use Rattle.join.proofs.Ways.{rows_writes}
use Rattle.join.proofs.write_rows.Goals as goal

pub write_row-requires-clause-value : goal.write_row-requires-clause-value
write_row-requires-clause-value c = search (rules, rows_writes)

pub write_row-requires-clause-room : goal.write_row-requires-clause-room
write_row-requires-clause-room c = search (rules, rows_writes)

pub returns : goal.returns
returns c = search (rules, rows_writes)
