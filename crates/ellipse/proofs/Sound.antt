-- The path of an ellipse is a sound command list: where its centre and size are at most 2 ^ 20, the numbers of its commands are at most 2 ^ 22.
-- In units of 2 ^ 19 a side is at most 5, the centre at most 2 and a tangent at most 1, so that a control point is at most 3. Assumes nothing.
use mathlib.Core.Path.{◌≡◌}
use mathlib.Core.Bool.{true}
use Prim.Native.Nat.{◌^◌}
use lib.Dec.{lit≤, lit<}
use lib.Ieee.{Float}
use Rattle.ieee.specs.Operators.{◌⊕◌, ◌⊖◌, ◌⊗◌}
use Rattle.ieee.specs.Sign.{abs}
use Rattle.ieee.specs.Limit.{all_within, Bounded}
use Rattle.ieee.proofs.Bounds.{abs_bounded}
use Rattle.command.specs.Commands.{numbers_of, command_limit}
use Rattle.command.proofs.Bounds.{commands→within}
use Rattle.rect.specs.Bounds.{half, rect_bounds}
use Rattle.rect.proofs.Box.{part, bounds_bounded}
use Rattle.rect.proofs.Tangent.{half_bounded, tangent_bounded, plus_bounded, less_bounded, number_bounded}
use Rattle.ellipse.specs.Ellipse.{tangent_on, ellipse_path}
use Rattle.ellipse.proofs.Each.{EllipseEach, ellipse_each}

on_bounded : (side : Float) → Bounded (part 2) side → Bounded (part 1) (tangent_on side)
unfolding tangent_on
on_bounded side S = tangent_bounded (abs side ⊗ half) (half_bounded (abs side) (abs_bounded (part 2) side S))

-- the centre moved by the tangent on an axis
module _ (c side : Float) (C : Bounded (part 2) c) (S : Bounded (part 2) side) where
  control_plus : Bounded (2 ^ 22) (c ⊕ tangent_on side)
  control_plus = number_bounded 3 (c ⊕ tangent_on side) (lit≤ tt) (plus_bounded 2 c (tangent_on side) (lit< tt) C (on_bounded side S))

  control_less : Bounded (2 ^ 22) (c ⊖ tangent_on side)
  control_less = number_bounded 3 (c ⊖ tangent_on side) (lit≤ tt) (less_bounded 2 c (tangent_on side) (lit< tt) C (on_bounded side S))

pub ellipse_sound : (cx cy w h : Float) → Bounded (2 ^ 20) cx → Bounded (2 ^ 20) cy → Bounded (2 ^ 20) w → Bounded (2 ^ 20) h
    → all_within command_limit (numbers_of (ellipse_path cx cy w h)) ≡ true
ellipse_sound cx cy w h X Y W H =
    let B = bounds_bounded cx cy w h X Y W H in
    let numbers : EllipseEach (Bounded (2 ^ 22)) cx cy w h = record {
      left = number_bounded 3 (rect_bounds cx cy w h).left (lit≤ tt) B.left_bounded;
      top = number_bounded 3 (rect_bounds cx cy w h).top (lit≤ tt) B.top_bounded;
      right = number_bounded 5 (rect_bounds cx cy w h).right (lit≤ tt) B.right_bounded;
      bottom = number_bounded 5 (rect_bounds cx cy w h).bottom (lit≤ tt) B.bottom_bounded;
      centre_x = number_bounded 2 cx (lit≤ tt) X;
      centre_y = number_bounded 2 cy (lit≤ tt) Y;
      left_control = control_less cx w X W;
      right_control = control_plus cx w X W;
      top_control = control_less cy h Y H;
      bottom_control = control_plus cy h Y H;
    } in
    commands→within (ellipse_path cx cy w h) (ellipse_each numbers).numbers
