-- The path of a rectangle is a sound command list: where its centre, size and roundness are at most 2 ^ 20, the numbers of its commands are at most 2 ^ 22.
-- In units of 2 ^ 19 a side is at most 5, the radius and the tangent at most 1, so that a control point is at most 7. Assumes nothing.
use mathlib.Core.Path.{◌≡◌}
use mathlib.Core.Bool.{true}
use Prim.Native.Nat.{◌^◌}
use lib.Dec.{lit≤, lit<}
use lib.Ieee.{Float}
use Rattle.ieee.specs.Literal.{zero32}
use Rattle.ieee.specs.Operators.{◌⊕◌, ◌⊖◌, ◌⊗◌}
use Rattle.ieee.specs.Sign.{abs}
use Rattle.ieee.specs.Choice.{min}
use Rattle.ieee.specs.Limit.{all_within, Bounded}
use Rattle.ieee.proofs.Bounds.{zero_bounded, bounded_number, abs_bounded, min_bounded, clamp_bounded}
use Rattle.command.specs.Commands.{numbers_of, command_limit}
use Rattle.command.proofs.Bounds.{commands→within}
use Rattle.rect.specs.declared.Bounds.{Bounds}
use Rattle.rect.specs.Bounds.{half, rect_bounds}
use Rattle.rect.specs.Rect.{corner_radius, tangent_of, rect_path}
use Rattle.rect.proofs.Box.{part, BoundsBounded, bounds_bounded}
use Rattle.rect.proofs.Tangent.{half_bounded, tangent_bounded, plus_bounded, less_bounded, number_bounded}
use Rattle.rect.proofs.Each.{RectEach, rect_each}

radius_bounded : (w h roundness : Float) → Bounded (2 ^ 20) w → Bounded (2 ^ 20) h → Bounded (2 ^ 20) roundness → Bounded (part 1) (corner_radius w h roundness)
unfolding corner_radius
radius_bounded w h roundness W H R =
    let smaller = min_bounded (part 2) (abs w) (abs h) (abs_bounded (part 2) w W) (abs_bounded (part 2) h H) in
    clamp_bounded (part 1) zero32 (min (abs w) (abs h) ⊗ half) roundness (zero_bounded (part 1)) (half_bounded (min (abs w) (abs h)) smaller)
    (bounded_number (2 ^ 20) roundness R)

-- an end is a side moved by the radius, and a control point an end moved by the tangent
numbers_bounded : (box : Bounds) (q : Float) → BoundsBounded box → Bounded (part 1) q → RectEach (Bounded (2 ^ 22)) box q
numbers_bounded box q B Q =
    let S = tangent_bounded q Q in
    let lq = plus_bounded 3 box.left q (lit< tt) B.left_bounded Q in
    let tq = plus_bounded 3 box.top q (lit< tt) B.top_bounded Q in
    let rq = less_bounded 5 box.right q (lit< tt) B.right_bounded Q in
    let bq = less_bounded 5 box.bottom q (lit< tt) B.bottom_bounded Q in
    record {
      left = number_bounded 3 box.left (lit≤ tt) B.left_bounded;
      top = number_bounded 3 box.top (lit≤ tt) B.top_bounded;
      right = number_bounded 5 box.right (lit≤ tt) B.right_bounded;
      bottom = number_bounded 5 box.bottom (lit≤ tt) B.bottom_bounded;
      left_end = number_bounded 4 (box.left ⊕ q) (lit≤ tt) lq;
      top_end = number_bounded 4 (box.top ⊕ q) (lit≤ tt) tq;
      right_end = number_bounded 6 (box.right ⊖ q) (lit≤ tt) rq;
      bottom_end = number_bounded 6 (box.bottom ⊖ q) (lit≤ tt) bq;
      left_control = number_bounded 5 ((box.left ⊕ q) ⊖ tangent_of q) (lit≤ tt) (less_bounded 4 (box.left ⊕ q) (tangent_of q) (lit< tt) lq S);
      top_control = number_bounded 5 ((box.top ⊕ q) ⊖ tangent_of q) (lit≤ tt) (less_bounded 4 (box.top ⊕ q) (tangent_of q) (lit< tt) tq S);
      right_control = number_bounded 7 ((box.right ⊖ q) ⊕ tangent_of q) (lit≤ tt) (plus_bounded 6 (box.right ⊖ q) (tangent_of q) (lit< tt) rq S);
      bottom_control = number_bounded 7 ((box.bottom ⊖ q) ⊕ tangent_of q) (lit≤ tt) (plus_bounded 6 (box.bottom ⊖ q) (tangent_of q) (lit< tt) bq S);
    }

pub rect_sound : (cx cy w h roundness : Float)
    → Bounded (2 ^ 20) cx → Bounded (2 ^ 20) cy → Bounded (2 ^ 20) w → Bounded (2 ^ 20) h → Bounded (2 ^ 20) roundness
    → all_within command_limit (numbers_of (rect_path (rect_bounds cx cy w h) (corner_radius w h roundness))) ≡ true
rect_sound cx cy w h roundness X Y W H R =
    let box = rect_bounds cx cy w h in
    let q = corner_radius w h roundness in
    let numbers = numbers_bounded box q (bounds_bounded cx cy w h X Y W H) (radius_bounded w h roundness W H R) in
    commands→within (rect_path box q) (rect_each numbers).numbers
