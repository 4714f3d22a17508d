-- The cosine and the sine of an angle, in sixteenths of a degree from 0 to 5,759, as f32. Definitions only.
use Rattle.std.specs.Prelude.{◌≡◌, ℕ, ◌^◌, ◌<◌, true, Float}
use Rattle.std.specs.Float.{binary32}
use Rattle.std.specs.Float.Ieee.{round}
use Rattle.ieee.specs.Literal.{zero32}
use Rattle.ieee.specs.Sign.{is_zero}
use Rattle.sine.specs.Quadrants.{size_of, minus_of, on_of}
use Rattle.angle.specs.declared.Direction.{Direction}

-- 'the f32 nearest to entry over 2^30, ties to even', with the sign of the sine's quadrant
unfoldable pub sine_of : ℕ → Float
sine_of turn = round binary32 (minus_of turn) (size_of turn) (2 ^ 30)

-- the sine 90 degrees on
unfoldable pub cosine_of : ℕ → Float
cosine_of turn = sine_of (on_of turn)

unfoldable pub direction_of : ℕ → Direction
direction_of turn = record { cosine = cosine_of turn; sine = sine_of turn }

-- what is promised of it: 'a zero sine or cosine being +0'
abbrev pub ZerosArePlus : Type 0
ZerosArePlus = (turn : ℕ) → turn < 5760 → (is_zero (sine_of turn) ≡ true → sine_of turn ≡ zero32) × (is_zero (cosine_of turn) ≡ true → cosine_of turn ≡ zero32)
