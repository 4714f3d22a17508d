-- How many commands and numbers an ellipse has. Assumes nothing.
use mathlib.Core.Path.{◌≡◌, refl}
use lib.ListN.{length}
use lib.Ieee.{Float}
use Rattle.command.specs.Commands.{numbers_of}
use Rattle.ellipse.specs.Ellipse.{ellipse_path}

module _ (cx cy w h : Float) where
  pub ellipse_count : length (ellipse_path cx cy w h) ≡ 6
  unfolding ellipse_path
  ellipse_count = refl

  pub ellipse_numbers : length (numbers_of (ellipse_path cx cy w h)) ≡ 26
  unfolding ellipse_path
  ellipse_numbers = refl
