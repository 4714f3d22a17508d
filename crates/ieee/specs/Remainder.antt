-- Rust's `f32::rem_euclid`. Definitions only.
use Rattle.std.specs.Prelude.{cond, Float}
use Rattle.std.specs.Float.{Format}
use Rattle.std.specs.Float.Ieee.{add, rem, lt}
use Rattle.ieee.specs.Literal.{zero32}
use Rattle.ieee.specs.Sign.{abs}

-- r, or r + |y| where r is below zero. That sum is rounded, so it may be |y| itself. A -0 stays.
unfoldable pub lifted : Format → Float → Float → Float
unfolding lt add
lifted f y r = cond (lt r zero32) (add f r (abs y)) r

-- the remainder of x by y, moved up so that it is not negative
unfoldable pub rem_euclid : Format → Float → Float → Float
unfolding lifted rem
rem_euclid f x y = lifted f y (rem f x y)
