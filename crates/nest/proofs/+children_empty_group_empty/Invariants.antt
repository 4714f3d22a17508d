-- `nest::children_empty` and `nest::group_empty`, which call each other. The measure falls with the rows that are left, and from a child list to a group of it.
use Rattle.std.proofs.Common.{◌≡◌, ◌+◌, ◌*◌, ◌≤◌, length, map}
use Rattle.item.specs.Rows.{row_of}
use Rattle.nest.specs.Flat.{children_empty}
use Rattle.nest.proofs.+children_empty_group_empty.Given as goal

abbrev pub decreases-children_empty : goal.decreases-children_empty
decreases-children_empty l = 2 * length l.rows.now + 1

abbrev pub decreases-group_empty : goal.decreases-group_empty
decreases-group_empty l = 2 * length l.after.now + 2

-- the rows that are left settle the answer
abbrev pub invariant-children_empty-loop-entries : goal.invariant-children_empty-loop-entries
invariant-children_empty-loop-entries l = (length l.rest ≤ length l.rows) × (children_empty l.group (map row_of l.rest) ≡ children_empty l.group (map row_of l.rows))

abbrev pub decreases-children_empty-loop-entries : goal.decreases-children_empty-loop-entries
decreases-children_empty-loop-entries l = length l.rest
