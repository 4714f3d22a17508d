-- Every number of a rectangle is an f32: an operation rounded it. Assumes nothing.
use lib.Ieee.{Float}
use Rattle.ieee.specs.Operators.{◌⊕◌, ◌⊖◌}
use Rattle.ieee.specs.Single.{Single, AllSingle}
use Rattle.ieee.proofs.Single.{add_single, sub_single}
use Rattle.command.specs.Commands.{numbers_of}
use Rattle.rect.specs.declared.Bounds.{Bounds}
use Rattle.rect.specs.Bounds.{rect_bounds}
use Rattle.rect.specs.Rect.{corner_radius, tangent_of, rect_path}
use Rattle.rect.proofs.Box.{BoundsSingle, bounds_single}
use Rattle.rect.proofs.Each.{RectEach, rect_each}

numbers_single : (box : Bounds) (q : Float) → BoundsSingle box → RectEach Single box q
numbers_single box q B = record {
  left = B.left_single;
  top = B.top_single;
  right = B.right_single;
  bottom = B.bottom_single;
  left_end = add_single box.left q;
  top_end = add_single box.top q;
  right_end = sub_single box.right q;
  bottom_end = sub_single box.bottom q;
  left_control = sub_single (box.left ⊕ q) (tangent_of q);
  top_control = sub_single (box.top ⊕ q) (tangent_of q);
  right_control = add_single (box.right ⊖ q) (tangent_of q);
  bottom_control = add_single (box.bottom ⊖ q) (tangent_of q);
}

pub rect_single : (cx cy w h roundness : Float) → AllSingle (numbers_of (rect_path (rect_bounds cx cy w h) (corner_radius w h roundness)))
rect_single cx cy w h roundness = (rect_each (numbers_single (rect_bounds cx cy w h) (corner_radius w h roundness) (bounds_single cx cy w h))).numbers
