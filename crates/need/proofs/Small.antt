-- 11 is given by the need: no check before that of the buffers gives it. Assumes nothing.
use Rattle.std.specs.Prelude.{Ok, Err}
use mathlib.Core.Path.{◌≡◌, refl}
use mathlib.Core.Bool.{Bool, true, false, cond, not}
use mathlib.Core.List.{List, [], ◌∷◌}
use native.Mathlib.Omega.{arith}
use lib.Dec.{eqb}
use lib.Ieee.{Float}
use lib.ListN.{drop}
use borrow.Author.Tests.{ne_eqb}
use Rattle.command.specs.declared.PathCommand.{PathCommand}
use Rattle.command.specs.declared.Refusal.TheVariants.{BufferTooSmall, Unsupported}
use Rattle.command.specs.Refusals.{refusal_number}
use Rattle.command.specs.Outcomes.{Outcome, number_of, mapped, Check, checked}
use Rattle.command.specs.Buffers.{fitted, in_buffers}
use Rattle.shape.specs.declared.Shape.{Shape}
use Rattle.shape.specs.declared.Shape.TheVariants.{Path, Ellipse}
use Rattle.shape.specs.Shape.{shape_commands}
use Rattle.item.specs.declared.ItemRow.{ItemRow}
use Rattle.item.specs.Rows.{item_row, is_path, is_rect, is_ellipse}
use Rattle.draw.specs.Paths.{path_checks, draw_path}
use Rattle.draw.specs.Items.{rect_of, item_shape, source_checks, shape_drawn, draw_source, item_checks, draw_item}
use Rattle.need.specs.Enough.{SmallByNeed, PathSmall, ItemSmall}

-- not refused by 11
abbrev pub NotSmall : {A : Type 0} → Outcome A → Type 0
NotSmall o = number_of o ≡ 11 → ⊥

-- none of these checks refuses by 11
abbrev pub NoneSmall : List Check → Type 0
NoneSmall [] = Unit {0}
NoneSmall (c ∷ cs) = (refusal_number c.refusal ≡ 11 → ⊥) × NoneSmall cs

pub checked_not_small : {A : Type 0} (cs : List Check) (o : Outcome A) → NoneSmall cs → NotSmall o → NotSmall (checked cs o)
checked_not_small [] o h g = g
checked_not_small (c ∷ cs) o h g = go c.fails (checked_not_small cs o h.1 g)
  where
    go : (t : Bool) → NotSmall (checked cs o) → NotSmall (cond t (Err c.refusal) (checked cs o))
    go true f = h.0
    go false f = f

-- then 11 is given by the need
pub small_by_need : (o : Outcome (List PathCommand)) → NotSmall o → SmallByNeed o
unfolding fitted
small_by_need (Err r) h codes numbers = ne_eqb (refusal_number r) 11 h
small_by_need (Ok cs) h codes numbers = go (in_buffers codes numbers cs)
  where
    go : (t : Bool) → eqb (number_of (cond t (Ok cs) (Err BufferTooSmall))) 11 ≡ not t
    go true = refl
    go false = refl

-- ---- the two drawing calls
pub path_small : PathSmall
unfolding draw_path path_checks
path_small closed v n =
    small_by_need (draw_path closed v n)
    (checked_not_small (path_checks closed v n) _ (λ h. omega arith, (λ h. omega arith, (λ h. omega arith, (λ h. omega arith, (λ h. omega arith, tt))))) (λ h. omega arith))

shape_not_small : (row : ItemRow) (v : List Float) → NotSmall (shape_drawn row v)
unfolding shape_drawn item_shape
shape_not_small row v = go (is_path row) (is_rect row) (is_ellipse row)
  where
    go : (p r l : Bool)
        → NotSmall (mapped (λ (s : Shape). shape_commands s v)
        (cond p (Ok (Path row.mark row.count)) (cond r (Ok (rect_of v)) (cond l (Ok Ellipse) (Err Unsupported)))))
    go true r l h = omega arith
    go false true l h = omega arith
    go false false true h = omega arith
    go false false false h = omega arith

pub source_not_small : (row : ItemRow) (items : List Float) → NotSmall (draw_source row items)
unfolding draw_source source_checks
source_not_small row items =
    checked_not_small (source_checks row items) _ (λ h. omega arith, (λ h. omega arith, (λ h. omega arith, (λ h. omega arith, (λ h. omega arith, tt)))))
    (shape_not_small row (drop row.place items))

pub item_small : ItemSmall
unfolding draw_item item_checks
item_small row items =
    small_by_need (draw_item row items)
    (checked_not_small (item_checks row) _ (λ h. omega arith, (λ h. omega arith, tt)) (source_not_small (item_row row 0) items))
