-- Items as Lottie and the Rust have them, each with its list of children, and rows read as such items. Definitions only.
use Rattle.std.specs.Prelude.{ℕ, ◌+◌, Bool, true, cond, not, ◌&&◌, ◌||◌, List, [], ◌∷◌, ◌++◌, ltb, eqb}
use Rattle.item.specs.declared.ItemRow.{ItemRow}
use Rattle.item.specs.Rows.{is_visible, is_group, is_transform}
use Rattle.nest.specs.Lists.{rows_from}

-- A list of items: the number and the entries of the first item's row, its children, and the items after it.
pub data Items : Type 0 where
  none : Items
  more : ℕ → ItemRow → Items → Items → Items

-- The items at depth d that rows start with, the first of which is row i. Deeper rows belong to an item before them, and a row less deep ends the list.
unfoldable pub items_at : ℕ → ℕ → List ItemRow → Items
items_at d i [] = none
items_at d i (r ∷ rs) =
    cond (ltb r.depth d) none
    (cond (eqb r.depth d) (more i r (items_at (r.depth + 1) (i + 1) rs) (items_at d (i + 1) rs))
    (items_at d (i + 1) rs))

-- the items that n lent rows stand for
unfoldable pub items_of : List ℕ → ℕ → Items
unfolding items_at rows_from
items_of rows n = items_at 0 0 (rows_from rows 0 n)

-- the rows of items: each item's own, its children's, and those of the items after it
unfoldable pub rows_of : Items → List ItemRow
rows_of none = []
rows_of (more i r children rest) = r ∷ (rows_of children ++ rows_of rest)

-- Each child is hidden, a tr, or a group that is empty by the same rule: `group_is_render_merge_noop` of drawing_paths.rs, of a group's children.
unfoldable pub all_empty : Items → Bool
all_empty none = true
all_empty (more i r children rest) = (not (is_visible r) || is_transform r || (is_group r && all_empty children)) && all_empty rest
