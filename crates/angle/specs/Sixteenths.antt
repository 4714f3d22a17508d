-- An angle in degrees as a whole number of sixteenths of a degree. Definitions only.
use Rattle.std.specs.Prelude.{ℕ, ◌-◌, ◌*◌, ◌%◌, cond, ℤ, pos, negsuc, neg_ℤ, Float}
use Rattle.std.specs.Float.{nan, inf, fin}
use Rattle.std.specs.Float.Ieee.{up, down}
use Rattle.ieee.specs.Whole.{whole_near}

-- how many sixteenths of a degree there are in an angle, whatever its sign: 16 times its size, 'rounded to the nearest', and a half up.
-- What is not finite has no angle; callers have refused it.
unfoldable pub sixteenths_in : Float → ℕ
sixteenths_in nan = 0
sixteenths_in (inf s) = 0
sixteenths_in (fin s m e) = whole_near (16 * (m * up e)) (down e)

-- with the angle's sign, so that the half goes 'away from zero'
unfoldable pub sixteenths_of : Float → ℤ
sixteenths_of nan = pos 0
sixteenths_of (inf s) = pos 0
sixteenths_of (fin s m e) = cond s (neg_ℤ (pos (sixteenths_in (fin s m e)))) (pos (sixteenths_in (fin s m e)))

-- 'then reduced by 360': 5,760 sixteenths are a whole turn, and what is left is from 0 to 5,759. A number negsuc n is -(n + 1).
unfoldable pub reduced : ℤ → ℕ
reduced (pos n) = n % 5760
reduced (negsuc n) = 5759 - n % 5760

-- both: where an angle in degrees points, in sixteenths of a degree
unfoldable pub turn_of : Float → ℕ
turn_of degrees = reduced (sixteenths_of degrees)
