-- The loop of `merge::all_follow`: the rows that are left settle the answer.
use Rattle.std.proofs.Common.{◌≡◌, true, map, drop}
use Rattle.item.specs.Rows.{row_of}
use Rattle.merge.specs.Flat.{late_from}
use Rattle.merge.proofs.all_follow.Given as goal

abbrev pub invariant-loop-entries : goal.invariant-loop-entries
invariant-loop-entries l = late_from l.clean (map row_of (drop l.entries-index l.rows)) ≡ late_from true (map row_of l.rows)
