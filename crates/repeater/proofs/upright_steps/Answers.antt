-- `repeater::upright_steps` meets its contract. Assumes nothing.
use Rattle.std.proofs.Common.{rules, arith, ℕ, ◌∙◌, refl}
use Rattle.std.proofs.lemmas.Iterator.{YieldsList-from_range}
use Rattle.std.proofs.lemmas.Iterator.Consumers.{fold_from_yields_List}
use Rattle.matrix.specs.declared.Matrix.{Matrix}
use Rattle.repeater.specs.Upright.{upright_concat}
use Rattle.repeater.proofs.Ways.{upright_folded}
use Rattle.repeater.proofs.upright_steps.Goals as goal

pub returns : goal.returns
returns c =
    let n = c.args.n in
    fold_from_yields_List _ (λ (m : Matrix) (k : ℕ). upright_concat m c.args.step) _ c.fold.result c.fold.ensures.ran
    (YieldsList-from_range 0 n n refl (omega arith)) (λ a x b q k. search rules)
    ∙ upright_folded n c.args.step _ c.identity.ensures
