-- Every number of an ellipse is an f32 where its centre is: an operation rounded the others. Assumes nothing.
use lib.Ieee.{Float}
use Rattle.ieee.specs.Single.{Single, AllSingle}
use Rattle.ieee.proofs.Single.{add_single, sub_single}
use Rattle.command.specs.Commands.{numbers_of}
use Rattle.rect.proofs.Box.{bounds_single}
use Rattle.ellipse.specs.Ellipse.{tangent_on, ellipse_path}
use Rattle.ellipse.proofs.Each.{EllipseEach, ellipse_each}

pub ellipse_single : (cx cy w h : Float) → Single cx → Single cy → AllSingle (numbers_of (ellipse_path cx cy w h))
ellipse_single cx cy w h X Y =
    let B = bounds_single cx cy w h in
    let numbers : EllipseEach Single cx cy w h = record {
      left = B.left_single;
      top = B.top_single;
      right = B.right_single;
      bottom = B.bottom_single;
      centre_x = X;
      centre_y = Y;
      left_control = sub_single cx (tangent_on w);
      right_control = add_single cx (tangent_on w);
      top_control = sub_single cy (tangent_on h);
      bottom_control = add_single cy (tangent_on h);
    } in
    (ellipse_each numbers).numbers
