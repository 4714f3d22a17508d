-- The table at every angle 'reduced by 360', a turn for short: a whole number of sixteenths of a degree from 0 to 5,759. Definitions only.
use Rattle.std.specs.Prelude.{Bool, cond, ℕ, ◌+◌, ◌-◌, ltb}
use Rattle.sine.specs.Table.{entry}

-- the angle from 0 to 90 degrees whose sine has the same size
unfoldable pub fold_of : ℕ → ℕ
fold_of turn = cond (ltb turn 1440) turn (cond (ltb turn 2880) (2880 - turn) (cond (ltb turn 4320) (turn - 2880) (5760 - turn)))

-- the size of the sine, times 2^30: the entry of that angle
unfoldable pub size_of : ℕ → ℕ
size_of turn = entry (fold_of turn)

-- whether the sine is below zero: between 180 and 360 degrees, at neither end
unfoldable pub minus_of : ℕ → Bool
minus_of turn = ltb 2880 turn

-- the angle 90 degrees on, whose sine is this angle's cosine
unfoldable pub on_of : ℕ → ℕ
on_of turn = cond (ltb turn 4320) (turn + 1440) (turn - 4320)
