-- `repeater::steps` meets its contract. Assumes nothing.
use Rattle.std.proofs.Common.{rules, arith, ℕ, ◌∙◌, refl}
use Rattle.std.proofs.lemmas.Iterator.{YieldsList-from_range}
use Rattle.std.proofs.lemmas.Iterator.Consumers.{fold_from_yields_List}
use Rattle.matrix.specs.declared.Matrix.{Matrix}
use Rattle.matrix.specs.Matrix.{concat}
use Rattle.repeater.proofs.Ways.{steps_folded}
use Rattle.repeater.proofs.Quickly.{upright_all}
use Rattle.repeater.proofs.steps.Goals as goal

pub returns-then-is_finite-2 : goal.returns-then-is_finite-2
returns-then-is_finite-2 c =
    upright_all c.args.step c.args.n _ _ _ _ c.is_upright.ensures (search rules) c.upright_steps-quick.ensures c.is_finite.ensures (search rules) c.is_finite-then-is_finite.ensures (search rules)

pub returns : goal.returns
returns c =
    let n = c.args.n in
    fold_from_yields_List _ (λ (m : Matrix) (k : ℕ). concat m c.args.step) _ c.fold.result c.fold.ensures.ran
    (YieldsList-from_range 0 n n refl (omega arith)) (λ a x b q k. search rules)
    ∙ steps_folded n c.args.step _ c.identity.ensures
