-- What each case of the ranges stands for, and what always holds of it. Definitions only.
use Rattle.std.specs.Prelude.{ℕ, Bool, true, ◌&&◌, List, [], ◌∷◌, Float}
use Rattle.std.specs.Float.Ieee.{le}
use Rattle.ieee.specs.Literal.{zero32, one32}
use Rattle.trim.specs.declared.Ranges.{Ranges}
use Rattle.trim.specs.declared.Ranges.TheVariants.{Nothing, One, Two}

-- how many ranges there are, and their ends, two a range: two ranges are (s, 1) and (0, e)
abbrev pub range_count : Ranges → ℕ
range_count Nothing = 0
range_count (One start end) = 1
range_count (Two start end) = 2

abbrev pub range_ends : Ranges → List Float
range_ends Nothing = []
range_ends (One start end) = start ∷ end ∷ []
range_ends (Two start end) = start ∷ one32 ∷ zero32 ∷ end ∷ []

-- 0 <= a <= b <= 1 in each range; a -0 counts as 0
abbrev pub is_range : Float → Float → Bool
is_range start end = le zero32 start && (le start end && le end one32)

abbrev pub are_ranges : List Float → Bool
are_ranges [] = true
are_ranges (start ∷ []) = true
are_ranges (start ∷ end ∷ rest) = is_range start end && are_ranges rest
