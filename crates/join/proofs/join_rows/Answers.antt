-- `join::join_rows` meets its contract. Assumes nothing.
use Rattle.std.proofs.Common.{rules}
use Rattle.command.proofs.Buffers.{both_handed}
use Rattle.join.proofs.Ways.{need_fault, need_codes_short, need_numbers_short, need_written}
use Rattle.join.proofs.join_rows.Goals as goal

pub returns-in_err-need : goal.returns-in_err-need
returns-in_err-need c = both_handed _ _ (need_fault _ _ c.rows_need.ensures _ c.in_err-need.was) _ _ c.from_residual.ensures.1 _ _

pub returns-then-need-codes : goal.returns-then-need-codes
returns-then-need-codes c = elim c.then-need-codes.branch [
  | goal.then-need-codes-via-then-need-codes w ↦ need_codes_short _ _ c.rows_need.ensures _ _ _ c.in_ok-need.was w.if-need-codes.true
  | goal.then-need-codes-via-else-need-codes+then-need-numbers w ↦
      need_numbers_short _ _ c.rows_need.ensures _ _ _ c.in_ok-need.was w.if-need-codes.false w.if-need-numbers.true
]

pub returns : goal.returns
returns c =
    need_written _ _ c.rows_need.ensures _ _ _ c.in_ok-need.was c.if-need-codes.false c.if-need-numbers.false _ _ (search rules) (search rules)
