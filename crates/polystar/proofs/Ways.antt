-- What the code of a perimeter's part gives, and what a polystar keeps of its mark. Assumes nothing.
use Prim.Native.Nat.{ℕ}
use mathlib.Core.Path.{◌≡◌}
use mathlib.Core.Bool.{Bool, true, false}
use lib.Ieee.{Float, binary32, of_int, round, div}
use Rattle.curve.specs.Curve.{two32}
use Rattle.ieee.specs.Operators.{◌⊗◌}
use Rattle.polystar.specs.Polystar.{is_star, is_reversed, pi32, four32, perimeter_of, ring_of}

-- t says whether it is a star, and n is the number of points
module _ (mark : ℕ) (t : Bool) (t_is : t ≡ is_star mark) (count : ℕ) (radius n : Float) (n_is : n ≡ round binary32 false count 1) where
  pub star_perimeter : t ≡ true → div binary32 (two32 ⊗ pi32 ⊗ radius) (n ⊗ two32) ≡ perimeter_of mark count radius
  unfolding perimeter_of of_int
  star_perimeter h = rw (← t_is, h, n_is)

  pub polygon_perimeter : t ≡ false → div binary32 (two32 ⊗ pi32 ⊗ radius) (n ⊗ four32) ≡ perimeter_of mark count radius
  unfolding perimeter_of of_int
  polygon_perimeter h = rw (← t_is, h, n_is)

pub ruleset perimeters = (star_perimeter, polygon_perimeter)

-- a ring hangs on whether it is a star, and which way its points go round
pub rings_alike : (m n : ℕ) → is_star m ≡ is_star n → is_reversed m ≡ is_reversed n
    → (count : ℕ) (radius roundness : Float) → ring_of m count radius roundness ≡ ring_of n count radius roundness
unfolding ring_of perimeter_of
rings_alike m n s r count radius roundness = rw (s, r)
