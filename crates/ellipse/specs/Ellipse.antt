-- The path of an ellipse: request U1 of document 02, whose words are quoted. `build_ellipse_path` of drawing_paths.rs works the same box out and hands it to
-- `from_oval`, whose body is in no file. The request's other sentences stand elsewhere: 'four numbers' in `entries_of` (crates/item/specs/Rows.antt),
-- '5 no longer meets an el' in `is_held_back` (crates/draw/specs/Items.antt), 'on the 1/1024 grid ellipses enlarge too' in the claim over all calls
-- (crates/enlargement/specs/Claim.antt). Definitions only.
use Rattle.std.specs.Prelude.{List, [], ◌∷◌, Float}
use Rattle.ieee.specs.Operators.{◌⊕◌, ◌⊖◌, ◌⊗◌}
use Rattle.ieee.specs.Sign.{abs}
use Rattle.command.specs.declared.PathCommand.{PathCommand}
use Rattle.command.specs.declared.PathCommand.TheVariants.{Move, Cubic, Close}
use Rattle.rect.specs.declared.Bounds.{Bounds}
use Rattle.rect.specs.Bounds.{half, rect_bounds}
use Rattle.rect.specs.Rect.{tangent_of}

-- 'The tangent on each axis is half that side times 0.5522848, rounded once per operation': the side made positive, as the box has it, times 0.5, and
-- that times the constant by which a round corner's tangent is made too.
unfoldable pub tangent_on : Float → Float
tangent_on side = tangent_of (abs side ⊗ half)

-- 'Begin at the top, go clockwise by right, bottom and left with four cubics and a close', in a box, around a centre, with the sides w and h.
-- 'A curve ends on a side of the box at the centre's other coordinate', so an end has the centre's own bits; 'a control point is the end point with the
-- centre's coordinate plus or minus' the tangent on that axis.
unfoldable pub ellipse_in : Bounds → Float → Float → Float → Float → List PathCommand
ellipse_in box cx cy w h =
    let l = box.left in let t = box.top in let r = box.right in let b = box.bottom in
    let tx = tangent_on w in let ty = tangent_on h in
    Move cx t
    ∷ Cubic (cx ⊕ tx) t r (cy ⊖ ty) r cy
    ∷ Cubic r (cy ⊕ ty) (cx ⊕ tx) b cx b
    ∷ Cubic (cx ⊖ tx) b l (cy ⊕ ty) l cy
    ∷ Cubic l (cy ⊖ ty) (cx ⊖ tx) t cx t
    ∷ Close
    ∷ []

-- of a centre and a size: 'the box is the rectangle's'. 'A zero side is drawn, flat': no side is turned away.
unfoldable pub ellipse_path : Float → Float → Float → Float → List PathCommand
unfolding ellipse_in
ellipse_path cx cy w h = ellipse_in (rect_bounds cx cy w h) cx cy w h
