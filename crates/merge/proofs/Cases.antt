-- Closed cases of the decision, each computed. Assumes nothing.
use Rattle.std.specs.Prelude.{Ok, Err}
use mathlib.Core.Path.{◌≡◌, refl}
use mathlib.Core.List.{List, [], ◌∷◌, ◌++◌}
use Prim.Native.Nat.{ℕ}
use Rattle.command.specs.declared.Refusal.TheVariants.{Empty, TooMany, Unlisted, BrokenNesting, NotMergeable, OutOfBounds}
use Rattle.item.specs.Kinds.{kind_of}
use Rattle.merge.specs.Decision.{decision}

-- the six entries of a visible row of this kind, depth and mark
abbrev row : ℕ → ℕ → ℕ → List ℕ
row kind depth mark = kind ∷ 0 ∷ depth ∷ mark ∷ 0 ∷ 0 ∷ []

abbrev rectangle : ℕ → List ℕ
rectangle depth = row 2 depth 0

abbrev hidden_rectangle : ℕ → List ℕ
hidden_rectangle depth = 2 ∷ 1 ∷ depth ∷ 0 ∷ 0 ∷ 0 ∷ []

abbrev group : ℕ → List ℕ
group depth = row 5 depth 0

abbrev transform : List ℕ
transform = row 6 0 0

abbrev fill : List ℕ
fill = row 7 0 0

-- an mm of this mode
abbrev merge : ℕ → List ℕ
merge mode = row 13 0 mode

-- ---- two sources are joined; one is too few, and a hidden or nested one is none
two : decision (rectangle 0 ++ rectangle 0 ++ merge 1) 3 ≡ Ok (0 ∷ 1 ∷ [])
unfolding decision kind_of
two = refl

one : decision (rectangle 0 ++ merge 1) 2 ≡ Err NotMergeable
unfolding decision kind_of
one = refl

one_hidden : decision (rectangle 0 ++ hidden_rectangle 0 ++ merge 1) 3 ≡ Err NotMergeable
unfolding decision kind_of
one_hidden = refl

one_nested : decision (rectangle 0 ++ group 0 ++ hidden_rectangle 1 ++ rectangle 1 ++ merge 1) 5 ≡ Err NotMergeable
unfolding decision kind_of
one_nested = refl

-- ---- before the merge row: an empty group or a tr may stand there; a group with a shape to draw, a style or an mm of another mode may not
after_empty_group : decision (group 0 ++ hidden_rectangle 1 ++ rectangle 0 ++ transform ++ rectangle 0 ++ merge 1) 6 ≡ Ok (2 ∷ 4 ∷ [])
unfolding decision kind_of
after_empty_group = refl

after_group : decision (group 0 ++ rectangle 1 ++ rectangle 0 ++ rectangle 0 ++ merge 1) 5 ≡ Err NotMergeable
unfolding decision kind_of
after_group = refl

after_fill : decision (rectangle 0 ++ rectangle 0 ++ fill ++ merge 1) 4 ≡ Err NotMergeable
unfolding decision kind_of
after_fill = refl

after_other_mode : decision (rectangle 0 ++ rectangle 0 ++ merge 2 ++ merge 1) 4 ≡ Err NotMergeable
unfolding decision kind_of
after_other_mode = refl

-- ---- after it: a style may stand there, and an mm with no new sources; no mm after a style, no source, and no group, even an empty one
fill_after : decision (rectangle 0 ++ rectangle 0 ++ merge 1 ++ fill) 4 ≡ Ok (0 ∷ 1 ∷ [])
unfolding decision kind_of
fill_after = refl

merge_after : decision (rectangle 0 ++ rectangle 0 ++ merge 1 ++ merge 2) 4 ≡ Ok (0 ∷ 1 ∷ [])
unfolding decision kind_of
merge_after = refl

merge_after_transform : decision (rectangle 0 ++ rectangle 0 ++ merge 1 ++ transform ++ hidden_rectangle 0 ++ merge 1) 6 ≡ Ok (0 ∷ 1 ∷ [])
unfolding decision kind_of
merge_after_transform = refl

merge_after_fill : decision (rectangle 0 ++ rectangle 0 ++ merge 1 ++ fill ++ merge 2) 5 ≡ Err NotMergeable
unfolding decision kind_of
merge_after_fill = refl

source_after : decision (rectangle 0 ++ rectangle 0 ++ merge 1 ++ rectangle 0) 4 ≡ Err NotMergeable
unfolding decision kind_of
source_after = refl

group_after : decision (rectangle 0 ++ rectangle 0 ++ merge 1 ++ group 0) 4 ≡ Err NotMergeable
unfolding decision kind_of
group_after = refl

-- ---- the order of the checks: no rows, too many, too few entries, depth, unlisted entries, nesting
no_rows : decision [] 0 ≡ Err Empty
unfolding decision kind_of
no_rows = refl

many_rows : decision [] 257 ≡ Err TooMany
unfolding decision kind_of
many_rows = refl

short_list : decision (rectangle 9 ++ row 15 0 0) 3 ≡ Err OutOfBounds
unfolding decision kind_of
short_list = refl

deep : decision (row 15 0 0 ++ rectangle 9) 2 ≡ Err TooMany
unfolding decision kind_of
deep = refl

unlisted : decision (rectangle 1 ++ row 15 0 0) 2 ≡ Err Unlisted
unfolding decision kind_of
unlisted = refl

broken : decision (rectangle 0 ++ rectangle 1) 2 ≡ Err BrokenNesting
unfolding decision kind_of
broken = refl
