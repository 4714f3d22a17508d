-- Empty groups, decided on flat rows: what the code works out. proofs/Items.antt shows that it is the rule on nested items. Definitions only.
use Rattle.std.specs.Prelude.{ℕ, ◌+◌, Bool, true, cond, not, ◌&&◌, List, [], ◌∷◌, leb, eqb}
use Rattle.item.specs.declared.ItemRow.{ItemRow}
use Rattle.item.specs.Rows.{is_visible, is_group, is_transform}

-- a row inside a group at depth g is a child of it that is visible and no tr
abbrev pub is_plain_child : ℕ → ItemRow → Bool
is_plain_child g row = eqb row.depth (g + 1) && is_visible row && not (is_transform row)

-- Of the rows after a group at depth g, those before the first that is not deeper are inside it. Each of its plain children is an empty group.
unfoldable pub children_empty : ℕ → List ItemRow → Bool
children_empty g [] = true
children_empty g (r ∷ rs) =
    cond (leb r.depth g) true
    (cond (is_plain_child g r) (is_group r && children_empty r.depth rs && children_empty g rs) (children_empty g rs))

-- the row r, with the rows after it, is a group that is empty
unfoldable pub group_empty : ItemRow → List ItemRow → Bool
unfolding children_empty
group_empty r rs = is_group r && children_empty r.depth rs
