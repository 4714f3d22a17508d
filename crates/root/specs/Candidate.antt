-- A candidate for a root: a binary64 pattern p with 24 digits, the midpoints beside its number, and its f32. Definitions only.
use Rattle.std.specs.Prelude.{◌≡◌, true, ℕ, ◌+◌, ◌-◌, ◌*◌, ◌/◌, ◌%◌, ◌^◌, ◌≤◌, ◌<◌, Float}
use Rattle.std.specs.Float.{binary32, binary64}
use Rattle.std.specs.Float.Ieee.{mul, lt, of_bits}

-- p is the pattern of a number of 24 digits in binary32's normal range
abbrev pub IsCandidate : ℕ → Type 0
IsCandidate p = (898 * 2 ^ 52 ≤ p) × (p < 1150 * 2 ^ 52) × (p % 2 ^ 29 ≡ 0)

-- the square in binary64 of the number of pattern b
abbrev pub square_at : ℕ → Float
square_at b = mul binary64 (of_bits binary64 b) (of_bits binary64 b)

-- n lies strictly between the squares of the two midpoints beside the number of pattern p
abbrev pub Sure : Float → ℕ → Type 0
Sure n p = (lt (square_at (p - 2 ^ 28)) n ≡ true) × (lt n (square_at (p + 2 ^ 28)) ≡ true)

-- the f32 of the pattern p
abbrev pub single_of : ℕ → Float
single_of p = of_bits binary32 (p / 2 ^ 29 - 0x1_c000_0000)
