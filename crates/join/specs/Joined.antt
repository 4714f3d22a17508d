-- The rows that a merge joins. Definitions only.
use Rattle.std.specs.Prelude.{ℕ, ◌<◌, ◌≡◌, List, length, get_or, Ok}
use Rattle.item.specs.declared.ItemRow.{ItemRow}
use Rattle.item.specs.Rows.{item_row}
use Rattle.merge.specs.Decision.{decision}

-- r is one of the rows that the first n rows decide to join
pub record JoinedRow (rows : List ℕ) (n : ℕ) (r : ItemRow) : Type 0 where
  pub numbers : List ℕ
  pub decided : decision rows n ≡ Ok numbers
  pub index : ℕ
  pub inside : index < length numbers
  pub is : r ≡ item_row rows (get_or numbers index 0)
