-- What drawing one item row answers, whatever it is given. Definitions only.
use Rattle.std.specs.Prelude.{ℕ, ◌+◌, Bool, cond, not, ◌&&◌, ◌||◌, List, [], ◌∷◌, eqb, ltb, Float, length, get_or, take, drop, Ok, Err}
use Rattle.std.specs.Float.{nan}
use Rattle.ieee.specs.Limit.{all_within}
use Rattle.command.specs.declared.PathCommand.{PathCommand}
use Rattle.command.specs.declared.Refusal.TheVariants.{Empty, TooMany, OutOfRange, Unlisted, Unsupported, OutOfBounds}
use Rattle.command.specs.Outcomes.{Outcome, mapped, Check, ◌gives◌, checked}
use Rattle.rect.specs.Rect.{corner_radius}
use Rattle.shape.specs.declared.Shape.{Shape}
use Rattle.shape.specs.declared.Shape.TheVariants.{Path, Rect, Ellipse}
use Rattle.shape.specs.Shape.{shape_commands}
use Rattle.item.specs.declared.ItemRow.{ItemRow}
use Rattle.item.specs.Rows.{item_row, is_path, is_rect, is_ellipse, is_source, is_listed, entries_of}
use Rattle.draw.specs.Checks.{coordinate_limit}

-- A row that can be asked to be drawn: listed, of the kinds sh, rc, el, sr. The depth is not read, and a hidden row is drawn.
unfoldable pub is_drawable : ItemRow → Bool
unfolding is_listed
is_drawable row = is_listed row && is_source row

-- ---- the questions about a kind, kind by kind; how many numbers it has is `entries_of`, which marks it may bear `is_mark` (crates/item/specs/Rows.antt)

-- what is not drawn yet, document 01's 'held back': all but paths, rectangles and ellipses
abbrev pub is_held_back : ItemRow → Bool
is_held_back row = not (is_path row || is_rect row || is_ellipse row)

-- a path without vertices
abbrev pub has_no_vertices : ItemRow → Bool
has_no_vertices row = is_path row && eqb row.count 0

-- the rectangle whose centre, size and roundness are the first five numbers of v
abbrev pub rect_of : List Float → Shape
rect_of v = Rect (corner_radius (get_or v 2 nan) (get_or v 3 nan) (get_or v 4 nan))

-- The shape of a row whose numbers stand at the start of v. Making one may itself refuse, after all other checks; none does yet, since the kinds without
-- a shape are held back before.
unfoldable pub item_shape : ItemRow → List Float → Outcome Shape
item_shape row v =
    cond (is_path row) (Ok (Path row.mark row.count))
    (cond (is_rect row) (Ok (rect_of v))
    (cond (is_ellipse row) (Ok Ellipse)
    (Err Unsupported)))

-- ---- the call

-- of a row with listed entries, the checks 5, 1, 2, 12, 3 in this order
unfoldable pub source_checks : ItemRow → List Float → List Check
unfolding all_within entries_of
source_checks row items =
    (is_held_back row gives Unsupported)
    ∷ (has_no_vertices row gives Empty)
    ∷ (ltb 1024 row.count gives TooMany)
    ∷ (ltb (length items) (row.place + entries_of row) gives OutOfBounds)
    ∷ (not (all_within coordinate_limit (take (entries_of row) (drop row.place items))) gives OutOfRange)
    ∷ []

-- then its shape, and the commands of that
unfoldable pub shape_drawn : ItemRow → List Float → Outcome (List PathCommand)
unfolding item_shape shape_commands
shape_drawn row v = mapped (λ (s : Shape). shape_commands s v) (item_shape row v)

unfoldable pub draw_source : ItemRow → List Float → Outcome (List PathCommand)
unfolding source_checks shape_drawn
draw_source row items = checked (source_checks row items) (shape_drawn row (drop row.place items))

-- one row: fewer than six entries hold no row, which is 12; then 4, and the checks above
unfoldable pub item_checks : List ℕ → List Check
unfolding is_drawable
item_checks row = (ltb (length row) 6 gives OutOfBounds) ∷ (not (is_drawable (item_row row 0)) gives Unlisted) ∷ []

unfoldable pub draw_item : List ℕ → List Float → Outcome (List PathCommand)
unfolding item_checks draw_source
draw_item row items = checked (item_checks row) (draw_source (item_row row 0) items)
