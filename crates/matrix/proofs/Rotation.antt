-- A rotation by a zero angle leaves the matrix as it is. Assumes nothing.
use mathlib.Core.Path.{◌≡◌}
use lib.Ieee.{Float}
use borrow.Author.Tests.{eq-eqb}
use Rattle.angle.specs.Sixteenths.{turn_of}
use Rattle.matrix.specs.declared.Matrix.{Matrix}
use Rattle.matrix.specs.Matrix.{pre_rotate}

pub rotate_none : (m : Matrix) (degrees : Float) → turn_of degrees ≡ 0 → pre_rotate m degrees ≡ m
unfolding pre_rotate
rotate_none m degrees h = rw (eq-eqb (turn_of degrees) 0 h)
