-- A float to the nearest whole number with a half to the even one, as Rust's `f32::round_ties_even`. A result of zero keeps the sign. Definitions only.
use Rattle.std.specs.Prelude.{◌*◌, Float}
use Rattle.std.specs.Float.{nan, inf, fin, Format}
use Rattle.std.specs.Float.Ieee.{up, down, round}
use Rattle.std.specs.Float.Ieee.Nearest.{closest}

unfoldable pub round_even : Format → Float → Float
unfolding round
round_even f nan = nan
round_even f (inf s) = inf s
round_even f (fin s m e) = round f s (closest (m * up e) (down e)) 1
