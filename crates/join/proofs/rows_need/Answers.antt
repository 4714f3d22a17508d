-- `join::rows_need` meets its contract. Assumes nothing.
use borrow.Author.Rules.{rules}
use Rattle.join.proofs.Ways.{needing_refused, codes_fit, numbers_fit, needing_more}
use Rattle.join.proofs.rows_need.Goals as goal

pub returns-in_err-need : goal.returns-in_err-need
returns-in_err-need c =
    let f = needing_refused c.args.rows.now c.args.items.now _ _ _ c.loop-entries.invariant (search rules) _ c.from.ensures _ c.row_need.ensures _ c.in_err-need.was in
    search rules

pub overflow_add-codes : goal.overflow_add-codes
overflow_add-codes c = codes_fit _ _ _ _ _ c.loop-entries.invariant (search rules) _ c.from.ensures _ c.row_need.ensures _ c.in_ok-need.was (search rules)

pub overflow_add-numbers : goal.overflow_add-numbers
overflow_add-numbers c = numbers_fit _ _ _ _ _ c.loop-entries.invariant (search rules) _ c.from.ensures _ c.row_need.ensures _ c.in_ok-need.was (search rules)

pub loop-entries-preserved : goal.loop-entries-preserved
loop-entries-preserved c = needing_more _ _ _ _ _ c.loop-entries.invariant (search rules) _ c.from.ensures _ c.row_need.ensures _ c.in_ok-need.was
