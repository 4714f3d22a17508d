-- A property that every number of a list has. Definitions only.
use Rattle.std.specs.Prelude.{List, [], ◌∷◌, Float}

abbrev pub Each : (Float → Type 0) → List Float → Type 0
Each P [] = Unit {0}
Each P (x ∷ xs) = P x × Each P xs
