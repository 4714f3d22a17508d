-- What a rule for all rows of a list says of the first row and of the rest. Assumes nothing.
use mathlib.Core.Path.{◌≡◌}
use mathlib.Core.Bool.{true, and-eq-true_iff}
use mathlib.Core.List.{List, ◌∷◌}
use Prim.Native.Nat.{ℕ, ◌≤◌}
use lib.Dec.{leb}
use borrow.Author.Tests.{leb-true}
use Rattle.item.specs.declared.ItemRow.{ItemRow}
use Rattle.nest.specs.Lists.{deepest_after, is_nested}

module _ (deepest : ℕ) (r : ItemRow) (rs : List ItemRow) (e : is_nested deepest (r ∷ rs) ≡ true) where
  pub nested_first : r.depth ≤ deepest
  unfolding is_nested
  nested_first = leb-true r.depth deepest ((and-eq-true_iff (leb r.depth deepest) (is_nested (deepest_after r) rs)).0 e).0

  pub nested_rest : is_nested (deepest_after r) rs ≡ true
  unfolding is_nested
  nested_rest = ((and-eq-true_iff (leb r.depth deepest) (is_nested (deepest_after r) rs)).0 e).1
