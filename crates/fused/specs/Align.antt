-- Two numbers brought to one exponent, to be added as whole numbers. Definitions only.
use Rattle.std.specs.Prelude.{ℕ, ◌+◌, ◌*◌, ◌/◌, ◌%◌, ◌^◌, ◌<◌, ◌≤◌, min, ◌≡◌}

-- y / 2 ^ d, cut to a whole number, whose last digit is set where anything was cut off from it on
abbrev pub jam : ℕ → ℕ → ℕ
jam y d = 2 * (y / 2 ^ (d + 1)) + min 1 (y % 2 ^ (d + 1))

-- what `plus_lower` adds: 62 digits, of which the last 14 are 0
pub record Operand (x : ℕ) : Type 0 where
  pub low : 2 ^ 61 ≤ x
  pub high : x < 2 ^ 62
  pub even : x % 2 ^ 14 ≡ 0
