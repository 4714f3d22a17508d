-- Closed cases of the definitions, each computed. Assumes nothing.
use mathlib.Core.Path.{◌≡◌, refl}
use mathlib.Core.Bool.{Bool, true, false}
use mathlib.Core.List.{List, [], ◌∷◌, ◌++◌}
use Prim.Native.Nat.{ℕ}
use Rattle.item.specs.Rows.{item_row}
use Rattle.std.specs.List.{list_all}
use Rattle.item.specs.Kinds.{kind_of}
use Rattle.nest.specs.Lists.{rows_from, is_shallow, is_nested}
use Rattle.nest.specs.Items.{none, more, items_at, items_of, rows_of, all_empty}
use Rattle.nest.specs.Flat.{children_empty, group_empty}

-- the six entries of a row of this kind, hidden flag and depth
abbrev row : ℕ → ℕ → ℕ → List ℕ
row kind hidden depth = kind ∷ hidden ∷ depth ∷ 0 ∷ 0 ∷ 0 ∷ []

abbrev group : ℕ → List ℕ
group depth = row 5 0 depth

abbrev rectangle : ℕ → List ℕ
rectangle depth = row 2 0 depth

abbrev hidden_rectangle : ℕ → List ℕ
hidden_rectangle depth = row 2 1 depth

abbrev transform : ℕ → List ℕ
transform depth = row 6 0 depth

-- whether the first of so many rows is an empty group
abbrev first_empty : List ℕ → ℕ → Bool
first_empty rows later = group_empty (item_row rows 0) (rows_from rows 1 later)

-- ---- empty groups: one with a hidden child or a tr, and one that holds such a group; a rectangle beside it is no child
hidden_inside : first_empty (group 0 ++ hidden_rectangle 1) 1 ≡ true
unfolding group_empty children_empty rows_from kind_of
hidden_inside = refl

empty_inside : first_empty (group 0 ++ group 1 ++ hidden_rectangle 2 ++ transform 1 ++ rectangle 0) 4 ≡ true
unfolding group_empty children_empty rows_from kind_of
empty_inside = refl

-- not empty: a rectangle in a group in it, and one after such a group
drawn_inside : first_empty (group 0 ++ group 1 ++ rectangle 2) 2 ≡ false
unfolding group_empty children_empty rows_from kind_of
drawn_inside = refl

drawn_after : first_empty (group 0 ++ group 1 ++ transform 2 ++ rectangle 1) 3 ≡ false
unfolding group_empty children_empty rows_from kind_of
drawn_after = refl

-- a rectangle is no group, and what a hidden group holds does not count
no_group : first_empty (rectangle 0) 0 ≡ false
unfolding group_empty children_empty rows_from kind_of
no_group = refl

hidden_group : first_empty (group 0 ++ row 5 1 1 ++ rectangle 2) 2 ≡ true
unfolding group_empty children_empty rows_from kind_of
hidden_group = refl

-- ---- nesting: a row after a group is one deeper at most, and after another row no deeper; eight deep is the most
one_deeper : is_nested 0 (rows_from (group 0 ++ group 1 ++ rectangle 2 ++ rectangle 0) 0 4) ≡ true
unfolding is_nested rows_from kind_of
one_deeper = refl

two_deeper : is_nested 0 (rows_from (group 0 ++ rectangle 2) 0 2) ≡ false
unfolding is_nested rows_from kind_of
two_deeper = refl

below_rectangle : is_nested 0 (rows_from (rectangle 0 ++ rectangle 1) 0 2) ≡ false
unfolding is_nested rows_from kind_of
below_rectangle = refl

starts_deeper : is_nested 0 (rows_from (rectangle 1) 0 1) ≡ false
unfolding is_nested rows_from kind_of
starts_deeper = refl

eight_deep : list_all is_shallow (rows_from (rectangle 0 ++ rectangle 8) 0 2) ≡ true
unfolding rows_from kind_of
eight_deep = refl

nine_deep : list_all is_shallow (rows_from (rectangle 0 ++ rectangle 9) 0 2) ≡ false
unfolding rows_from kind_of
nine_deep = refl

-- ---- rows read as items: a group with a group and a tr in it, then a rectangle
abbrev five : List ℕ
five = group 0 ++ group 1 ++ rectangle 2 ++ transform 1 ++ rectangle 0

read : items_of five 5
    ≡ more 0 (item_row five 0) (more 1 (item_row five 1) (more 2 (item_row five 2) none none) (more 3 (item_row five 3) none none)) (more 4 (item_row five 4) none none)
unfolding items_of items_at rows_from kind_of
read = refl

-- the group's children are not all empty, and its tr by itself is
items_drawn : all_empty (items_at 1 1 (rows_from five 1 4)) ≡ false
unfolding all_empty items_at rows_from kind_of
items_drawn = refl

items_empty : all_empty (items_at 1 3 (rows_from five 3 2)) ≡ true
unfolding all_empty items_at rows_from kind_of
items_empty = refl

-- as many as are lent
read_three : items_of five 3 ≡ more 0 (item_row five 0) (more 1 (item_row five 1) (more 2 (item_row five 2) none none) none) none
unfolding items_of items_at rows_from kind_of
read_three = refl

read_back : rows_of (items_of five 5) ≡ rows_from five 0 5
unfolding rows_of items_of items_at rows_from kind_of
read_back = refl
