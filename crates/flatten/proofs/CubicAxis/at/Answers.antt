-- `CubicAxis::at` meets its contract. Assumes nothing.
use Rattle.flatten.proofs.Steps.{step_weights}
use Rattle.flatten.proofs.CubicAxis.at.Goals as goal

pub invariant_of-weighted : goal.invariant_of-weighted
invariant_of-weighted c = record { weights = ∣ step_weights c.args.step c.requires.0 c.requires.1 c.of_step-t.result c.of_step-t.ensures ∣₁ }
