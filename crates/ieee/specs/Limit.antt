-- Numbers within a limit. Definitions only.
use Rattle.std.specs.Prelude.{ℕ, ◌*◌, ◌≤◌, Bool, true, ◌&&◌, List, [], ◌∷◌, Float}
use Rattle.std.specs.Float.{nan, inf, fin}
use Rattle.std.specs.Float.Ieee.{up, down, le}
use Rattle.ieee.specs.Sign.{abs}
use Rattle.ieee.specs.Each.{Each}

-- x is at most the limit in absolute value. A NaN is not, and an infinity is within no finite limit.
abbrev pub within : Float → Float → Bool
within limit x = le (abs x) limit

-- each number of the list is within the limit
unfoldable pub all_within : Float → List Float → Bool
all_within limit [] = true
all_within limit (x ∷ xs) = within limit x && all_within limit xs

-- the same as a fact, where the limit is a whole number: x is finite, and at most n in absolute value
abbrev pub Bounded : ℕ → Float → Type 0
Bounded n nan = ⊥
Bounded n (inf s) = ⊥
Bounded n (fin s m e) = m * up e ≤ n * down e

abbrev pub AllBounded : ℕ → List Float → Type 0
AllBounded n xs = Each (Bounded n) xs
