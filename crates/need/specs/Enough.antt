-- What is promised of needs, request U2 of document 02: 'Let the estimate give exactly the codes and numbers that the drawing writes. It now reads the
-- vertices and closed flag, refusing 1, 2, 4, 12 and 3 as drawing does.' So a need is no rule of its own: it is `need_of` what drawing comes to
-- (crates/command/specs/Buffers.antt), and that is what the calls promise (crates/jengafir). Here stands what follows. Definitions only.
use Rattle.std.specs.Prelude.{ℕ, ◌≡◌, Bool, false, cond, not, ◌&&◌, List, eqb, leb, Float, Ok, Err}
use Rattle.command.specs.declared.PathCommand.{PathCommand}
use Rattle.command.specs.Outcomes.{Outcome, number_of}
use Rattle.command.specs.Buffers.{fitted, in_buffers, need_of, Within}
use Rattle.shape.specs.Shape.{path_room, rect_room, ellipse_room}
use Rattle.item.specs.declared.ItemRow.{ItemRow}
use Rattle.item.specs.Rows.{item_row, is_path, is_rect}
use Rattle.draw.specs.Paths.{draw_path}
use Rattle.draw.specs.Items.{draw_source, draw_item}

-- 'Its callers give 11 by this need': exactly if there is a need, and one of the two buffers has fewer places. So buffers of just the need are enough, and
-- with a place less in either the answer is refused.
abbrev pub is_small : ℕ → ℕ → Outcome (ℕ × ℕ) → Bool
is_small codes numbers (Err r) = false
is_small codes numbers (Ok need) = not (leb need.0 codes && leb need.1 numbers)

abbrev pub SmallByNeed : Outcome (List PathCommand) → Type 0
SmallByNeed o = (codes numbers : ℕ) → eqb (number_of (fitted (in_buffers codes numbers) o)) 11 ≡ is_small codes numbers (need_of o)

abbrev pub PathSmall : Type 0
PathSmall = (closed : ℕ) (v : List Float) (n : ℕ) → SmallByNeed (draw_path closed v n)

abbrev pub ItemSmall : Type 0
ItemSmall = (row : List ℕ) (items : List Float) → SmallByNeed (draw_item row items)

-- ---- room that is enough, for arrays whose sizes are fixed before a drawing is known

-- for n vertices: never less than their drawing writes
abbrev pub PathEnough : Type 0
PathEnough = (closed : ℕ) (v : List Float) (n : ℕ) (need : ℕ × ℕ) → need_of (draw_path closed v n) ≡ Ok need → Within need (path_room n)

-- for a row, by its kind; a row that is drawn and is no path and no rectangle is an ellipse
unfoldable pub row_room : ItemRow → ℕ × ℕ
row_room row = cond (is_path row) (path_room row.count) (cond (is_rect row) rect_room ellipse_room)

abbrev pub SourceEnough : Type 0
SourceEnough = (row : ItemRow) (items : List Float) (need : ℕ × ℕ) → need_of (draw_source row items) ≡ Ok need → Within need (row_room row)

abbrev pub ItemEnough : Type 0
ItemEnough = (row : List ℕ) (items : List Float) (need : ℕ × ℕ) → need_of (draw_item row items) ≡ Ok need → Within need (row_room (item_row row 0))
