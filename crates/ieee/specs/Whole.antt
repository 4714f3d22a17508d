-- A float to a whole number: down, up, and to the nearest one with a half away from zero. Each keeps the sign of what it is handed, so that a result of zero has it too,
-- as in Rust's `f32::floor`, `f32::ceil` and `f32::round`. Definitions only.
use Rattle.std.specs.Prelude.{ℕ, ◌+◌, ◌*◌, ◌/◌, cond, ltb}
use lib.Ieee.{Float, nan, inf, fin, Format, up, down, round}

-- n / d to a whole number: the largest that is no more, the least that is no less, and the nearest with a half to the larger one
abbrev pub whole_down : ℕ → ℕ → ℕ
whole_down n d = n / d

abbrev pub whole_up : ℕ → ℕ → ℕ
whole_up n d = n / d + cond (ltb (n / d * d) n) 1 0

abbrev pub whole_near : ℕ → ℕ → ℕ
whole_near n d = (2 * n + d) / (2 * d)

-- The size of a negative number goes the other way. What `round` is handed is a whole number that the format holds already, so it only writes it.
unfoldable pub floor : Format → Float → Float
unfolding round
floor f nan = nan
floor f (inf s) = inf s
floor f (fin s m e) = round f s (cond s (whole_up (m * up e) (down e)) (whole_down (m * up e) (down e))) 1

unfoldable pub ceil : Format → Float → Float
unfolding round
ceil f nan = nan
ceil f (inf s) = inf s
ceil f (fin s m e) = round f s (cond s (whole_down (m * up e) (down e)) (whole_up (m * up e) (down e))) 1

-- Rust's `round`, half away from zero; `lib.Ieee.round` is the rounding of every result to a format
unfoldable pub round_away : Format → Float → Float
unfolding round
round_away f nan = nan
round_away f (inf s) = inf s
round_away f (fin s m e) = round f s (whole_near (m * up e) (down e)) 1
