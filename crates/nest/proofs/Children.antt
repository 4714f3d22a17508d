-- What the first row inside a group says of whether its children are empty. Assumes nothing.
use Rattle.std.proofs.Common.{◌≡◌, true, false, List, ◌∷◌, ℕ, ◌<◌}
use borrow.Author.Tests.{lt-leb}
use Rattle.item.specs.declared.ItemRow.{ItemRow}
use Rattle.nest.specs.Flat.{is_plain_child, children_empty, group_empty}

module _ (g : ℕ) (r : ItemRow) (rs : List ItemRow) (inside : g < r.depth) where
  module _ (plain : is_plain_child g r ≡ true) where
    pub child_drawn : group_empty r rs ≡ false → children_empty g (r ∷ rs) ≡ false
    unfolding children_empty group_empty
    child_drawn h = rw (lt-leb r.depth g inside, plain, h)

    pub child_empty : group_empty r rs ≡ true → children_empty g (r ∷ rs) ≡ children_empty g rs
    unfolding children_empty group_empty
    child_empty h = rw (lt-leb r.depth g inside, plain, h)

  pub no_child : is_plain_child g r ≡ false → children_empty g (r ∷ rs) ≡ children_empty g rs
  unfolding children_empty
  no_child h = rw (lt-leb r.depth g inside, h)

pub ruleset child_steps = (child_drawn, child_empty, no_child)
