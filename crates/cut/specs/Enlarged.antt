-- The answer about an enlarged path. Definitions only.
use Rattle.std.specs.Prelude.{ℕ, ◌≡◌, List, map, Float, Err}
use Rattle.ieee.specs.Grid.{scale}
use Rattle.command.specs.declared.Refusal.{Refusal}
use Rattle.command.specs.declared.Refusal.TheVariants.{TooShort}
use Rattle.command.specs.Outcomes.{Outcome, mapped}
use Rattle.trim.specs.declared.Ranges.{Ranges}

-- every number times 2 ^ k, exactly: the ranges stay
abbrev pub enlarged_cuts : ℕ → Ranges × List Float → Ranges × List Float
enlarged_cuts k answer = (answer.0, map (scale k) answer.1)

abbrev pub enlarged_answer : ℕ → Outcome (Ranges × List Float) → Outcome (Ranges × List Float)
enlarged_answer k o = mapped (enlarged_cuts k) o

-- the answers about a path and the same path enlarged: where the first is not 'too short', the second is the first enlarged;
-- where it is, the second is 'too short' or no refusal
pub record CutsAlike (k : ℕ) (a a' : Outcome (Ranges × List Float)) : Type 0 where
  pub long : (a ≡ Err TooShort → ⊥) → a' ≡ enlarged_answer k a
  pub short : a ≡ Err TooShort → (r : Refusal) → a' ≡ Err r → r ≡ TooShort
