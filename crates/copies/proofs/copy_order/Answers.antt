-- `copies::copy_order` meets its contract. Assumes nothing.
use borrow.Author.Rules.{rules}
use mathlib.Core.Path.{sym, ◌∙◌}
use Rattle.command.specs.Buffers.{fitted}
use Rattle.copies.proofs.Ways.{order_turned}
use Rattle.copies.proofs.copy_order.Goals as goal

pub returns-in_err-check_repeater : goal.returns-in_err-check_repeater
unfolding fitted
returns-in_err-check_repeater c = rw (order_turned c.args.repeater _ (sym c.check_repeater.ensures ∙ c.in_err-check_repeater.was)) (search rules)
