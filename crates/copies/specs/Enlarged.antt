-- A copy of an enlarged repeater. Definitions only.
use Rattle.std.specs.Prelude.{ℕ, List, [], ◌∷◌, Float}
use Rattle.ieee.specs.Grid.{scale}
use Rattle.command.specs.Outcomes.{Outcome, mapped}

-- the numbers of a copy with e and f times 2 ^ k
abbrev pub moved_numbers : ℕ → List Float → List Float
moved_numbers k [] = []
moved_numbers k (a ∷ []) = a ∷ []
moved_numbers k (a ∷ b ∷ []) = a ∷ b ∷ []
moved_numbers k (a ∷ b ∷ c ∷ []) = a ∷ b ∷ c ∷ []
moved_numbers k (a ∷ b ∷ c ∷ d ∷ []) = a ∷ b ∷ c ∷ d ∷ []
moved_numbers k (a ∷ b ∷ c ∷ d ∷ e ∷ []) = a ∷ b ∷ c ∷ d ∷ e ∷ []
moved_numbers k (a ∷ b ∷ c ∷ d ∷ e ∷ f ∷ rest) = a ∷ b ∷ c ∷ d ∷ scale k e ∷ scale k f ∷ rest

abbrev pub moved_answer : ℕ → Outcome (List Float) → Outcome (List Float)
moved_answer k a = mapped (moved_numbers k) a
