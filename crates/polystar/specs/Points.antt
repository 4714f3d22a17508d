-- What is promised of a polystar's points, in document 02's words for where they stand. Definitions only.
use Rattle.std.specs.Prelude.{ℕ, ◌<◌, ◌≡◌, cond, List, pos, ◌+ℤ◌, ◌-ℤ◌, Float, get_or}
use Rattle.std.specs.Float.{nan}
use Rattle.angle.specs.Sixteenths.{sixteenths_of, reduced}
use Rattle.polystar.specs.Polystar.{is_reversed, steps_to, polystar_of, turn_at}

-- 'point i of m, counted from 0, stands at the rotation in sixteenths, rounded as in U4, minus 1,440, plus (minus for direction 3) the whole number nearest
-- to 5,760 times i over m, half up': whether it is reduced by whole turns once or twice
abbrev pub PointsStand : Type 0
PointsStand =
    (mark count : ℕ) (v : List Float) (i : ℕ) → i < count
    → turn_at (polystar_of mark count v) i
    ≡ reduced
    (cond (is_reversed mark) (sixteenths_of (get_or v 7 nan) -ℤ pos 1440 -ℤ pos (steps_to count i)) (sixteenths_of (get_or v 7 nan) -ℤ pos 1440 +ℤ pos (steps_to count i)))
