-- Lists of item rows, and the rules of document 01 for all rows of a list. Definitions only.
use Rattle.std.specs.Prelude.{ℕ, zero, suc, ◌+◌, Bool, true, cond, ◌&&◌, List, [], ◌∷◌, leb}
use Rattle.item.specs.declared.ItemRow.{ItemRow}
use Rattle.item.specs.Rows.{item_row, is_group}

-- the `left` rows of the list that start at row i
unfoldable pub rows_from : List ℕ → ℕ → ℕ → List ItemRow
rows_from rows i zero = []
rows_from rows i (suc left) = item_row rows i ∷ rows_from rows (i + 1) left

-- at most 8 deep
abbrev pub is_shallow : ItemRow → Bool
is_shallow row = leb row.depth 8

-- how deep the row after this one may be: a group's children follow it one deeper
abbrev pub deepest_after : ItemRow → ℕ
deepest_after row = cond (is_group row) (row.depth + 1) row.depth

-- The first row is at most `deepest` deep, and each later one as the row before it allows. A whole list starts at depth 0.
unfoldable pub is_nested : ℕ → List ItemRow → Bool
is_nested deepest [] = true
is_nested deepest (r ∷ rs) = leb r.depth deepest && is_nested (deepest_after r) rs
