-- Coordinates near enough to each other in size that their weighted sums are exact in binary64. Definitions only.
use Rattle.std.specs.Prelude.{ℕ, ◌^◌, ◌≤◌, ◌<◌, ◌≡◌, Bool, false, List, get_or, Float}
use Rattle.std.specs.Float.{nan}
use Rattle.std.specs.Float.Ieee.Exact.{HasValue}
use Rattle.ieee.specs.Limit.{Bounded}

-- x is a whole number of 2 ^ -q, at most 2 ^ 37 of them, and not -0
pub record Level (q : ℕ) (x : Float) : Type 0 where
  pub sign : Bool
  pub count : ℕ
  pub value : HasValue x sign count (2 ^ q)
  pub bound : count ≤ 2 ^ 37
  pub fair : count ≡ 0 → sign ≡ false

-- one coordinate of each of the four points of a cubic, on one grid, which with 15 digits more is no finer than binary32's own
pub record Coordinates (a b c d : Float) : Type 0 where
  pub q : ℕ
  pub fine : q ≤ 134
  pub start : Level q a
  pub control1 : Level q b
  pub control2 : Level q c
  pub end : Level q d

-- the same of the three points of a quad
pub record QuadCoordinates (a b c : Float) : Type 0 where
  pub q : ℕ
  pub fine : q ≤ 134
  pub start : Level q a
  pub control : Level q b
  pub end : Level q c

-- x is on the grid, and at most 2 ^ 22, the limit of a command list, in absolute value
pub record Near (q : ℕ) (x : Float) : Type 0 where
  pub level : Level q x
  pub bounded : Bounded (2 ^ 22) x

-- all n coordinates of a curve are on one grid, and within the limit
pub record AllNear (n : ℕ) (xs : List Float) : Type 0 where
  pub q : ℕ
  pub fine : q ≤ 134
  pub near : (k : ℕ) → k < n → Near q (get_or xs k nan)
