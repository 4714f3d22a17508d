-- The path of a polystar is that of its points, closed. Assumes nothing.
use mathlib.Core.Path.{◌≡◌, refl}
use mathlib.Core.Bool.{true}
use native.Mathlib.Omega.{arith}
use Rattle.path.specs.Between.{path_along}
use Rattle.segments.specs.Leaves.{Passed}
use Rattle.polystar.specs.declared.Polystar.{Polystar}
use Rattle.polystar.specs.Polystar.{point_at, polystar_path, Sound}

module _ (star : Polystar) where
  pub path_is : path_along true (point_at star) star.count ≡ polystar_path star
  unfolding path_along polystar_path
  path_is = refl

  -- no segment is passed over
  pub none_passed : Sound star → Passed (point_at star) star.count 0
  none_passed sound = record { inside = omega (arith, sound.some); same = omega arith }
