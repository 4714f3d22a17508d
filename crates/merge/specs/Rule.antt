-- The merge rule on a list of nested items: `build_supported_merge_path` of drawing_paths.rs, with no override. Definitions only.
use Rattle.std.specs.Prelude.{ℕ, Bool, true, false, cond, not, ◌&&◌, ◌||◌, List, [], ◌∷◌, leb, eqb, length}
use Rattle.item.specs.declared.ItemRow.{ItemRow}
use Rattle.item.specs.Rows.{is_visible, is_source, is_group, is_transform, is_style, is_merge}
use Rattle.nest.specs.Items.{Items, none, more, all_empty}

-- what the rule reads of an item: the number and the entries of its row, and whether all its children are empty
pub record Entry : Type 0 where
  pub number : ℕ
  pub row : ItemRow
  pub empty : Bool

unfoldable pub entries : Items → List Entry
unfolding all_empty
entries none = []
entries (more i r children rest) = record { number = i; row = r; empty = all_empty children } ∷ entries rest

-- ---- what an item is to the rule

-- a visible mm
abbrev pub is_merge_entry : Entry → Bool
is_merge_entry e = is_visible e.row && is_merge e.row

-- a visible mm of mode 1
abbrev pub is_union : Entry → Bool
is_union e = is_merge_entry e && eqb e.row.mark 1

abbrev pub is_source_entry : Entry → Bool
is_source_entry e = is_visible e.row && is_source e.row

-- hidden, a tr, or an empty group
abbrev pub is_passed : Entry → Bool
is_passed e = not (is_visible e.row) || is_transform e.row || (is_group e.row && e.empty)

-- Of items, nearest first: back to the previous visible mm there are only hidden ones, empty groups and tr. It is `render_merge_path_has_no_new_sources`.
unfoldable pub no_new_sources : List Entry → Bool
no_new_sources [] = false
no_new_sources (e ∷ es) = is_merge_entry e || (is_passed e && no_new_sources es)

-- what may stand before the merge item
abbrev pub may_precede : Entry → Bool
may_precede e = is_passed e || is_source_entry e

-- what may stand after it, with the items before this one, nearest first: hidden, fl, st, gf, gs, tr, tm, rp, or an mm with no new sources
abbrev pub may_follow : List Entry → Entry → Bool
may_follow back e = not (is_visible e.row) || is_transform e.row || is_style e.row || (is_merge e.row && no_new_sources back)

-- ---- the rule

-- The merge item is the first visible mm of mode 1.
-- Whether there is one, the items before it, it and those before it with the nearest first, and the items after it.
unfoldable pub found : List Entry → Bool
found [] = false
found (e ∷ es) = is_union e || found es

unfoldable pub before : List Entry → List Entry
before [] = []
before (e ∷ es) = cond (is_union e) [] (e ∷ before es)

unfoldable pub up_to : List Entry → List Entry → List Entry
up_to back [] = back
up_to back (e ∷ es) = cond (is_union e) (e ∷ back) (up_to (e ∷ back) es)

unfoldable pub after : List Entry → List Entry
after [] = []
after (e ∷ es) = cond (is_union e) es (after es)

-- each item before the merge item may be there
unfoldable pub early : List Entry → Bool
early [] = true
early (e ∷ es) = may_precede e && early es

-- each item after it, with the items before that one, nearest first
unfoldable pub late : List Entry → List Entry → Bool
unfolding no_new_sources
late back [] = true
late back (e ∷ es) = may_follow back e && late (e ∷ back) es

-- the row numbers of the sources, in order
unfoldable pub sources : List Entry → List ℕ
sources [] = []
sources (e ∷ es) = cond (is_source_entry e) (e.number ∷ sources es) (sources es)

-- the rule says yes
unfoldable pub joins : List Entry → Bool
unfolding found early before sources late up_to after
joins es = found es && early (before es) && leb 2 (length (sources (before es))) && late (up_to [] es) (after es)
