-- What is promised of the table and of every angle: 'rising order', 'nearness to the series' and 'the sum of squares of sine and cosine'.
-- What is promised of pi's bracket is `PiBracketed`, beside it in Nearest. Definitions only.
use Rattle.std.specs.Prelude.{◌≡◌, cond, ℕ, ◌+◌, ◌-◌, ◌*◌, ◌^◌, ◌<◌, ◌≤◌, length}
use Rattle.sine.specs.Table.{sines, entry}
use Rattle.sine.specs.Nearest.{Nearest}
use Rattle.sine.specs.Quadrants.{size_of, minus_of, on_of}

-- the squares of x and y sum to 'within 2^31 of 2^60'
abbrev pub Squares : ℕ → ℕ → Type 0
Squares x y = (x * x + y * y ≤ 2 ^ 60 + 2 ^ 31) × (2 ^ 60 ≤ x * x + y * y + 2 ^ 31)

-- it is 'a table of 1,441 whole numbers'
abbrev pub TableLength : Type 0
TableLength = length sines ≡ 1441

-- each entry is below every later one
abbrev pub TableRises : Type 0
TableRises = (i j : ℕ) → i < j → j ≤ 1440 → entry i < entry j

-- each entry is 'the one nearest to 2^30 times the sine'
abbrev pub TableNearest : Type 0
TableNearest = (k : ℕ) → k ≤ 1440 → Nearest k (entry k) 0

-- the squares of sine and cosine from 0 to 90 degrees, where the cosine of k sixteenths is entry 1440 - k
abbrev pub TableSquares : Type 0
TableSquares = (k : ℕ) → k ≤ 1440 → Squares (entry k) (entry (1440 - k))

-- at each reduced angle the entry, with its sign, is nearest to 2^30 times the sine there
abbrev pub TurnNearest : Type 0
TurnNearest = (turn : ℕ) → turn < 5760 → Nearest turn (cond (minus_of turn) 0 (size_of turn)) (cond (minus_of turn) (size_of turn) 0)

-- the squares of sine and cosine at each reduced angle, where the cosine is the sine 90 degrees on
abbrev pub TurnSquares : Type 0
TurnSquares = (turn : ℕ) → turn < 5760 → Squares (size_of turn) (size_of (on_of turn))
