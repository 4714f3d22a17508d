-- The sizes on which the short way to a whole number goes. Definitions only.
use Rattle.std.specs.Prelude.{ℕ, ◌^◌, ◌<◌, Bool, false, Float}
use Rattle.std.specs.Float.Ieee.Exact.{HasValue}

-- x has a clear sign and is below 2 ^ 23: so many units of the smallest float, 2 ^ -149.
pub record Small (x : Float) : Type 0 where
  pub units : ℕ
  pub value : HasValue x false units (2 ^ 149)
  pub bound : units < 2 ^ 172

-- u is 1 with the sign of x, if x is finite.
pub record UnitOf (x u : Float) : Type 0 where
  pub value : (s : Bool) (a c : ℕ) → HasValue x s a c → HasValue u s 1 1
