-- The numbers of an ellipse are the sides of its box, its centre, and the centre moved by a tangent either way. What holds of these ten holds of every
-- number. Assumes nothing.
use lib.Ieee.{Float}
use Rattle.ieee.specs.Operators.{◌⊕◌, ◌⊖◌}
use Rattle.command.proofs.Each.{CommandsEach, each_close, each_move, each_cubic, each_none, each_cons}
use Rattle.rect.specs.Bounds.{rect_bounds}
use Rattle.ellipse.specs.Ellipse.{tangent_on, ellipse_path}

pub record EllipseEach (P : Float → Type 0) (cx cy w h : Float) : Type 0 where
  pub left : P (rect_bounds cx cy w h).left
  pub top : P (rect_bounds cx cy w h).top
  pub right : P (rect_bounds cx cy w h).right
  pub bottom : P (rect_bounds cx cy w h).bottom
  pub centre_x : P cx
  pub centre_y : P cy
  pub left_control : P (cx ⊖ tangent_on w)
  pub right_control : P (cx ⊕ tangent_on w)
  pub top_control : P (cy ⊖ tangent_on h)
  pub bottom_control : P (cy ⊕ tangent_on h)

pub ellipse_each : {P : Float → Type 0} {cx cy w h : Float} → EllipseEach P cx cy w h → CommandsEach P (ellipse_path cx cy w h)
unfolding ellipse_path
ellipse_each E =
    let l = E.left in let t = E.top in let r = E.right in let b = E.bottom in
    let x = E.centre_x in let y = E.centre_y in
    let lc = E.left_control in let rc = E.right_control in let tc = E.top_control in let bc = E.bottom_control in
    each_cons (each_move x t)
    (each_cons (each_cubic rc t r tc r y)
    (each_cons (each_cubic r bc rc b x b)
    (each_cons (each_cubic lc b l bc l y)
    (each_cons (each_cubic l tc lc t x t)
    (each_cons each_close each_none)))))
