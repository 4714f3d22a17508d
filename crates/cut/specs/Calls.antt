-- What the two calls of a trim answer, whatever they are given. Definitions only.
use Rattle.std.specs.Prelude.{ℕ, Bool, not, ◌&&◌, ◌||◌, List, [], ◌∷◌, eqb, Float, Ok}
use Rattle.std.specs.Float.Ieee.{le}
use Rattle.std.specs.Float.Ieee.Scale.{finite}
use Rattle.ieee.specs.Literal.{epsilon32}
use Rattle.command.specs.declared.Refusal.TheVariants.{OutOfRange, Unlisted, TooShort}
use Rattle.command.specs.Outcomes.{Outcome, and_then, Check, ◌gives◌, checked}
use Rattle.length.specs.Lists.{measure_list}
use Rattle.trim.specs.declared.TrimStyle.{TrimStyle}
use Rattle.trim.specs.declared.Ranges.{Ranges}
use Rattle.trim.specs.Trim.{normalized_trim_segments}

-- start, end and offset need only be finite
unfoldable pub is_finite_trim : TrimStyle → Bool
is_finite_trim trim = finite trim.start && (finite trim.end && finite trim.offset_degrees)

-- the ranges alone read no mode
unfoldable pub trim_ranges : TrimStyle → Outcome Ranges
trim_ranges trim = checked ((not (is_finite_trim trim) gives OutOfRange) ∷ []) (Ok (normalized_trim_segments trim))

-- the modes 1 and 2 are listed
unfoldable pub is_trim_mode : ℕ → Bool
is_trim_mode mode = eqb mode 1 || eqb mode 2

-- 2 ^ -23, `f32::EPSILON`: a path of this length or less is too short to be cut
abbrev pub shortest : Float
shortest = epsilon32

-- a path of this length, with the ranges of its trim: 8 where it is too short
unfoldable pub cut_measured : TrimStyle → Float → Outcome (Float × Ranges)
cut_measured trim x = checked ((le x shortest gives TooShort) ∷ []) (Ok (x, normalized_trim_segments trim))

-- the trim's numbers (3) and mode (4) come before the command list, then 8
abbrev pub trim_checks : TrimStyle → List Check
trim_checks trim = (not (is_finite_trim trim) gives OutOfRange) ∷ (not (is_trim_mode trim.mode) gives Unlisted) ∷ []

unfoldable pub trim_lengths : TrimStyle → List ℕ → List Float → Outcome (Float × Ranges)
trim_lengths trim codes numbers = checked (trim_checks trim) (and_then (measure_list codes numbers) (cut_measured trim))
