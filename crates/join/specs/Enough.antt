-- What is promised of a merge's need: that 11 is given by it, and that it is within the rooms of the sources, added up. Definitions only.
use Rattle.std.specs.Prelude.{ℕ, ◌+◌, ◌≡◌, List, [], ◌∷◌, map, Float, Ok}
use Rattle.command.specs.Buffers.{need_of, Within}
use Rattle.item.specs.declared.ItemRow.{ItemRow}
use Rattle.item.specs.Rows.{item_row}
use Rattle.need.specs.Enough.{SmallByNeed, row_room}
use Rattle.merge.specs.Decision.{decision}
use Rattle.join.specs.Merge.{draw_merge}

abbrev pub MergeSmall : Type 0
MergeSmall = (rows : List ℕ) (n : ℕ) (items : List Float) → SmallByNeed (draw_merge rows n items)

-- the rooms of the sources, added up
unfoldable pub sources_room : List ItemRow → ℕ × ℕ
sources_room [] = (0, 0)
sources_room (r ∷ rs) = ((row_room r).0 + (sources_room rs).0, (row_room r).1 + (sources_room rs).1)

-- never less than the merge writes
abbrev pub MergeEnough : Type 0
MergeEnough =
    (rows : List ℕ) (n : ℕ) (items : List Float) (numbers : List ℕ) (need : ℕ × ℕ) → decision rows n ≡ Ok numbers
    → need_of (draw_merge rows n items) ≡ Ok need → Within need (sources_room (map (item_row rows) numbers))
