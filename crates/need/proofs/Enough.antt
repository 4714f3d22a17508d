-- What has a need is drawn, and a need is within the room that is enough for so many vertices or for a row. Assumes nothing.
use Rattle.std.specs.Prelude.{Ok, Err}
use mathlib.Core.Path.{◌≡◌, refl, sym, ap, ◌∙◌}
use mathlib.Core.Bool.{Bool, true, false, cond}
use mathlib.Core.List.{List}
use Prim.Native.Nat.{ℕ}
use lib.Ieee.{Float}
use lib.ListN.{drop}
use Rattle.command.specs.declared.PathCommand.{PathCommand}
use Rattle.command.specs.declared.Refusal.TheVariants.{Unsupported}
use Rattle.command.specs.Outcomes.{Outcome, value_or, list_of}
use Rattle.command.specs.Buffers.{size_of, need_of}
use Rattle.command.proofs.Outcomes.{refused_accepted, checks_passed}
use Rattle.path.proofs.Counts.{path_codes, path_numbers}
use Rattle.shape.specs.declared.Shape.{Shape}
use Rattle.shape.specs.declared.Shape.TheVariants.{Path, Ellipse}
use Rattle.shape.specs.Shape.{path_room, rect_room, ellipse_room, enough_for}
use Rattle.shape.proofs.Enough.{shape_enough}
use Rattle.item.specs.declared.ItemRow.{ItemRow}
use Rattle.item.specs.Rows.{item_row, is_path, is_rect, is_ellipse}
use Rattle.draw.specs.Paths.{draw_path}
use Rattle.draw.specs.Items.{rect_of, item_shape, draw_source, item_checks, draw_item}
use Rattle.draw.proofs.Sources.{drawn_path, drawn_source}
use Rattle.need.specs.Enough.{PathEnough, SourceEnough, ItemEnough, row_room}

-- what has a need is drawn, and the need is the size of its commands
pub drawn_needs : (o : Outcome (List PathCommand)) (need : ℕ × ℕ) → need_of o ≡ Ok need → (o ≡ Ok (list_of o)) × (size_of (list_of o) ≡ need)
drawn_needs (Err r) need e = refused_accepted r need e
drawn_needs (Ok cs) need e = (refl, ap (value_or need) e)

-- ---- the room that is enough
pub path_enough : PathEnough
path_enough closed v n need e =
    let d = drawn_needs (draw_path closed v n) need e in
    let s = drawn_path closed v n (list_of (draw_path closed v n)) d.0 in
    rw (← d.1, s.2) (path_codes closed v n s.0, path_numbers closed v n s.0)

-- the room of a row is that of the shape that it makes
made_room : (row : ItemRow) (v : List Float) (s : Shape) → item_shape row v ≡ Ok s → enough_for s ≡ row_room row
unfolding item_shape row_room
made_room row v s = go (is_path row) (is_rect row) (is_ellipse row)
  where
    go : (p r l : Bool)
        → cond p (Ok (Path row.mark row.count)) (cond r (Ok (rect_of v)) (cond l (Ok Ellipse) (Err Unsupported))) ≡ Ok s
        → enough_for s ≡ cond p (path_room row.count) (cond r rect_room ellipse_room)
    go true r l e = ap enough_for (sym (ap (value_or s) e))
    go false true l e = ap enough_for (sym (ap (value_or s) e))
    go false false true e = ap enough_for (sym (ap (value_or s) e))
    go false false false e = refused_accepted Unsupported s e

pub source_enough : SourceEnough
source_enough row items need e =
    let d = drawn_needs (draw_source row items) need e in
    let s = drawn_source row items (list_of (draw_source row items)) d.0 in
    let v = drop row.place items in
    rw (← d.1, s.commands, ← (made_room row v s.shape s.made)) (shape_enough s.shape v s.fits)

pub item_enough : ItemEnough
unfolding draw_item
item_enough row items need e =
    let d = drawn_needs (draw_item row items) need e in
    let p = checks_passed (item_checks row) (draw_source (item_row row 0) items) (list_of (draw_item row items)) d.0 in
    source_enough (item_row row 0) items need (ap need_of p.1 ∙ ap Ok d.1)
