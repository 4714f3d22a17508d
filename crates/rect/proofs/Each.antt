-- The numbers of a rectangle are the sides of its box, the ends of its round corners and their control points. An end is a side moved in by the radius,
-- a control point is an end moved out by the tangent. What holds of these twelve holds of every number. Assumes nothing.
use lib.Ieee.{Float, le}
use Rattle.ieee.specs.Operators.{◌⊕◌, ◌⊖◌}
use Rattle.command.proofs.Each.{CommandsEach, each_close, each_move, each_line, each_cubic, each_none, each_cons, each_choice}
use Rattle.rect.specs.declared.Bounds.{Bounds}
use Rattle.rect.specs.Rect.{epsilon, plain_rect, tangent_of, round_rect, rect_path}

pub record RectEach (P : Float → Type 0) (box : Bounds) (q : Float) : Type 0 where
  pub left : P box.left
  pub top : P box.top
  pub right : P box.right
  pub bottom : P box.bottom
  pub left_end : P (box.left ⊕ q)
  pub top_end : P (box.top ⊕ q)
  pub right_end : P (box.right ⊖ q)
  pub bottom_end : P (box.bottom ⊖ q)
  pub left_control : P ((box.left ⊕ q) ⊖ tangent_of q)
  pub top_control : P ((box.top ⊕ q) ⊖ tangent_of q)
  pub right_control : P ((box.right ⊖ q) ⊕ tangent_of q)
  pub bottom_control : P ((box.bottom ⊖ q) ⊕ tangent_of q)

module _ {P : Float → Type 0} {box : Bounds} {q : Float} (E : RectEach P box q) where
  plain_each : CommandsEach P (plain_rect box)
  unfolding plain_rect
  plain_each =
      let l = E.left in let t = E.top in let r = E.right in let b = E.bottom in
      each_cons (each_move l t) (each_cons (each_line r t) (each_cons (each_line r b) (each_cons (each_line l b) (each_cons each_close each_none))))

  round_each : CommandsEach P (round_rect box q)
  unfolding round_rect
  round_each =
      let l = E.left in let t = E.top in let r = E.right in let b = E.bottom in
      let lq = E.left_end in let tq = E.top_end in let rq = E.right_end in let bq = E.bottom_end in
      let ls = E.left_control in let ts = E.top_control in let rs = E.right_control in let bs = E.bottom_control in
      each_cons (each_move lq t)
      (each_cons (each_line rq t)
      (each_cons (each_cubic rs t r ts r tq)
      (each_cons (each_line r bq)
      (each_cons (each_cubic r bs rs b rq b)
      (each_cons (each_line lq b)
      (each_cons (each_cubic ls b l bs l bq)
      (each_cons (each_line l tq)
      (each_cons (each_cubic l ts ls t lq t)
      (each_cons each_close each_none)))))))))

  pub rect_each : CommandsEach P (rect_path box q)
  unfolding rect_path
  rect_each = each_choice (le q epsilon) plain_each round_each
