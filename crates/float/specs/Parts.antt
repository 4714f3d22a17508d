-- What `split` says of a float. Definitions only.
use Rattle.std.specs.Prelude.{◌*◌, ◌^◌, ◌≡◌, false, Float, Option, MatchOption}
use Rattle.std.specs.Float.Ieee.Exact.{HasValue}
use Rattle.std.specs.Float.Ieee.Scale.{finite}
use Rattle.float.specs.declared.parts.Parts.{Parts}

-- No parts where x is not finite, and else its sign and its size: `digits` * 2 ^ `drops` smallest values.
abbrev pub PartsOf : Float → Option Parts → Type 0
PartsOf x r = MatchOption r (finite x ≡ false) (λ p. HasValue x p.negative (p.digits * 2 ^ p.drops) (2 ^ 149))
