-- The limit of a shape's numbers. Definitions only.
use Rattle.std.specs.Prelude.{Float}
use Rattle.ieee.specs.Literal.{number_limit}

-- 1,048,576
abbrev pub coordinate_limit : Float
coordinate_limit = number_limit
