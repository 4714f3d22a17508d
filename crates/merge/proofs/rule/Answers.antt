-- `merge::rule` meets its contract. Assumes nothing.
use borrow.Author.Rules.{rules}
use Rattle.merge.specs.Flat.{rows_before, chosen}
use Rattle.merge.proofs.Rest.{merge_kept, merge_stopped}
use Rattle.merge.proofs.rule.Goals as goal

pub returns-in-Some : goal.returns-in-Some
returns-in-Some c = merge_kept _ _ _ c.in-Some.ensures.value c.if-count-ge2.true _ c.all_follow.ensures c.if-all_follow.true

pub returns-in_default : goal.returns-in_default
unfolding rows_before chosen
returns-in_default c = elim c.in_default.branch [
  | goal.in_default-via-in-Some+then-count-ge2+else-all_follow w ↦
      merge_stopped _ _ _ w.in-Some.ensures.value w.if-count-ge2.true _ w.all_follow.ensures w.if-all_follow.false
  | goal.in_default-via-in-Some+else-count-ge2 w ↦ search rules
  | goal.in_default-via-in_default w ↦ search rules
]
