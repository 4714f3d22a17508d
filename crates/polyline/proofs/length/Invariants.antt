-- The loop of `polyline::length`.
use mathlib.Core.Path.{◌≡◌}
use Rattle.curve.specs.Curve.{chords}
use Rattle.polyline.proofs.length.Given as goal

abbrev pub invariant-loop-step : goal.invariant-loop-step
invariant-loop-step g l = (l.length ≡ chords (g.C.Stepped.point l.curve) l.step) × (l.last ≡ g.C.Stepped.point l.curve l.step)
