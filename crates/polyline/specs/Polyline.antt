-- Finite points. Definitions only.
use Rattle.std.specs.Prelude.{T}
use Rattle.std.specs.Float.Ieee.Scale.{finite}
use Rattle.point.specs.declared.Point.{Point}

-- both coordinates are finite
pub record IsFinite (p : Point) : Type 0 where
  pub x_finite : T (finite p.x)
  pub y_finite : T (finite p.y)
