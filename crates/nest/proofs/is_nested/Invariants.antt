-- The loop of `nest::is_nested`: the rows that are left settle the answer, and they are shallow.
use Rattle.std.proofs.Common.{◌≡◌, true, map, drop}
use Rattle.std.specs.List.{list_all}
use Rattle.item.specs.Rows.{row_of}
use Rattle.nest.specs.Lists.{is_shallow, is_nested}
use Rattle.nest.proofs.is_nested.Given as goal

abbrev pub invariant-loop-entries : goal.invariant-loop-entries
invariant-loop-entries l = record {
  settles : is_nested l.deepest (map row_of (drop l.entries-index l.rows)) ≡ is_nested 0 (map row_of l.rows);
  shallow : list_all is_shallow (map row_of (drop l.entries-index l.rows)) ≡ true;
}
