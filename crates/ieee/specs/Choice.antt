-- Rust's `f32::min`, `f32::max` and `f32::clamp`. Definitions only.
use Rattle.std.specs.Prelude.{cond, Float}
use Rattle.std.specs.Float.Ieee.{lt, is_nan}

-- The smaller one. A NaN gives way to a number. Of two that compare equal, as -0 and +0, it is the second: Rust leaves that open.
unfoldable pub min : Float → Float → Float
min x y = cond (lt x y) x (cond (is_nan y) x y)

-- The larger one, with the same rules, so that `max x 0` has no -0.
unfoldable pub max : Float → Float → Float
max x y = cond (lt y x) x (cond (is_nan y) x y)

-- lo where x is below it
unfoldable pub at_least : Float → Float → Float
at_least lo x = cond (lt x lo) lo x

-- hi where x is above it
unfoldable pub at_most : Float → Float → Float
at_most hi x = cond (lt hi x) hi x

-- First not below lo, then not above hi. A NaN stays, and so does a -0 at a bound of +0, since it is not below it.
unfoldable pub clamp : Float → Float → Float → Float
unfolding at_least at_most
clamp lo hi x = at_most hi (at_least lo x)
