-- The bit patterns of binary32 as numbers of its smallest value, 2 ^ -149. Definitions only.
use Rattle.std.specs.Prelude.{ℕ, ◌+◌, ◌-◌, ◌*◌, ◌/◌, ◌%◌, ◌^◌, Bool, cond, Float}
use Rattle.std.specs.Float.{binary32}
use Rattle.std.specs.Float.Ieee.{to_bits}

-- the pattern p, which has a clear sign, with the sign s
abbrev pub with_sign : Bool → ℕ → ℕ
with_sign s p = cond s (2 ^ 31) 0 + p

-- A finite pattern p with a clear sign stands for `digits_of p` * 2 ^ `drops_of p` smallest values. The digits include the leading one, which the pattern leaves out.
abbrev pub drops_of : ℕ → ℕ
drops_of p = p / 2 ^ 23 - 1

abbrev pub digits_of : ℕ → ℕ
digits_of p = p - drops_of p * 2 ^ 23

abbrev pub units_of : ℕ → ℕ
units_of p = digits_of p * 2 ^ drops_of p

-- the pattern of x without its sign
abbrev pub bare : Float → ℕ
bare x = to_bits binary32 x % 2 ^ 31

-- the pattern of +∞; every larger one with a clear sign is a NaN's
abbrev pub infinity : ℕ
infinity = 0x7f80_0000
