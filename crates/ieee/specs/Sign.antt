-- A float without its sign, and the kinds of floats that laws speak of. Definitions only.
use Rattle.std.specs.Prelude.{Bool, true, false, eqb, Float}
use Rattle.std.specs.Float.{nan, inf, fin}

-- Rust's `f32::abs`: the sign cleared
abbrev pub abs : Float → Float
abs nan = nan
abs (inf s) = inf false
abs (fin s m e) = fin false m e

-- x is a zero, of either sign
abbrev pub is_zero : Float → Bool
is_zero nan = false
is_zero (inf s) = false
is_zero (fin s m e) = eqb m 0

-- x is no NaN: a number, infinities included
abbrev pub is_number : Float → Bool
is_number nan = false
is_number (inf s) = true
is_number (fin s m e) = true
