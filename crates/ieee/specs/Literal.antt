-- The literals that definitions cite, as the bit patterns of an f32. Definitions only.
use Rattle.std.specs.Prelude.{Float}
use Rattle.std.specs.Float.{binary32}
use Rattle.std.specs.Float.Ieee.{of_bits}

-- 0.0
abbrev pub zero32 : Float
zero32 = of_bits binary32 0

-- 1.0
abbrev pub one32 : Float
one32 = of_bits binary32 0x3f80_0000

-- 360.0, a whole turn in degrees
abbrev pub turn32 : Float
turn32 = of_bits binary32 0x43b4_0000

-- 100.0, of per cent
abbrev pub hundred32 : Float
hundred32 = of_bits binary32 0x42c8_0000

-- the f32 nearest to 0.0001
abbrev pub ten_thousandth32 : Float
ten_thousandth32 = of_bits binary32 0x38d1_b717

-- 1,048,576: the limit of shape and repeater numbers
abbrev pub number_limit : Float
number_limit = of_bits binary32 0x4980_0000

-- 2 ^ -23, `f32::EPSILON`
abbrev pub epsilon32 : Float
epsilon32 = of_bits binary32 0x3400_0000
