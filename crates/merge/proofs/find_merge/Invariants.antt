-- The loop of `merge::find_merge`: the rows that are left settle the answer, and there are no more sources than rows.
use Rattle.std.proofs.Common.{◌≡◌, ◌≤◌, map, drop}
use Rattle.item.specs.Rows.{row_of}
use Rattle.merge.specs.Flat.{scan_from}
use Rattle.merge.proofs.find_merge.Given as goal

abbrev pub invariant-loop-i : goal.invariant-loop-i
invariant-loop-i l = record {
  few : l.count ≤ l.i;
  settles : scan_from l.i l.count (map row_of (drop l.i l.rows)) ≡ scan_from 0 0 (map row_of l.rows);
}
