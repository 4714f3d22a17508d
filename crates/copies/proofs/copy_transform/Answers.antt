-- `copies::copy_transform` meets its contract. Assumes nothing.
use borrow.Author.Rules.{rules}
use mathlib.Core.Path.{sym, ◌∙◌}
use Rattle.command.specs.Buffers.{fitted}
use Rattle.copies.proofs.Ways.{copy_turned}
use Rattle.copies.proofs.copy_transform.Goals as goal

pub returns-in_err-check_repeater : goal.returns-in_err-check_repeater
unfolding fitted
returns-in_err-check_repeater c = rw (copy_turned c.args.repeater _ (sym c.check_repeater.ensures ∙ c.in_err-check_repeater.was) c.args.copy) (search rules)
