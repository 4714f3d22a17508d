-- `QuadAxis::at` meets its contract. Assumes nothing.
use Rattle.flatten.proofs.Eighths.{eighth_weights}
use Rattle.flatten.proofs.QuadAxis.at.Goals as goal

pub invariant_of-weighted : goal.invariant_of-weighted
invariant_of-weighted c = record { weights = ∣ eighth_weights c.args.eighth c.requires.0 c.requires.1 c.of_step-t.result c.of_step-t.ensures ∣₁ }
