-- The loops of `judge::place_of`.
use mathlib.Core.Path.{◌≡◌}
use Rattle.judge.specs.Lists.{place_of}
use Rattle.judge.proofs.place_of.Given as goal

abbrev pub invariant-loop-code : goal.invariant-loop-code
invariant-loop-code l = l.place ≡ place_of l.code-index l.before
