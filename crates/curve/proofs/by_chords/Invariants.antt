-- The loop of `curve::by_chords`.
use mathlib.Core.Path.{◌≡◌}
use Rattle.curve.specs.Curve.{chords}
use Rattle.curve.proofs.by_chords.Given as goal

abbrev pub invariant-loop-step : goal.invariant-loop-step
invariant-loop-step g l = (l.length ≡ chords (g.C.Stepped.point l.curve) l.step) × (l.last ≡ g.C.Stepped.point l.curve l.step)
