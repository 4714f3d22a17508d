-- The merge rule on flat rows: what the code works out. proofs/Flat.antt shows that it is the rule on nested items. Definitions only.
use Rattle.std.specs.Prelude.{ℕ, ◌+◌, Bool, true, cond, not, ◌&&◌, ◌||◌, List, [], ◌∷◌, eqb, leb, take, drop, Option, None, Some, Ok, Err}
use Rattle.command.specs.declared.Refusal.TheVariants.{NotMergeable}
use Rattle.command.specs.Outcomes.{Outcome}
use Rattle.item.specs.declared.ItemRow.{ItemRow}
use Rattle.item.specs.Rows.{is_visible, is_source, is_transform, is_style, is_merge}
use Rattle.nest.specs.Flat.{group_empty}

-- a visible row at depth 0
abbrev pub is_top : ItemRow → Bool
is_top row = is_visible row && eqb row.depth 0

abbrev pub is_union_row : ItemRow → Bool
is_union_row row = is_top row && is_merge row && eqb row.mark 1

abbrev pub is_source_row : ItemRow → Bool
is_source_row row = is_top row && is_source row

abbrev pub source_count : ItemRow → ℕ
source_count row = cond (is_source_row row) 1 0

-- the numbers of the source rows, the first row being row i
unfoldable pub sources_from : ℕ → List ItemRow → List ℕ
sources_from i [] = []
sources_from i (r ∷ rs) = cond (is_source_row r) (i ∷ sources_from (i + 1) rs) (sources_from (i + 1) rs)

-- the row r, with the rows after it, may stand before the merge row
unfoldable pub precedes : ItemRow → List ItemRow → Bool
unfolding group_empty
precedes r rs = not (is_top r) || is_source r || is_transform r || group_empty r rs

-- the merge row and the number of sources before it, of rows that start at row i with k sources before them
unfoldable pub scan_from : ℕ → ℕ → List ItemRow → Option (ℕ × ℕ)
unfolding precedes
scan_from i k [] = None
scan_from i k (r ∷ rs) = cond (is_union_row r) (Some (i, k)) (cond (precedes r rs) (scan_from (i + 1) (k + source_count r) rs) None)

-- a row may follow the merge row, where `clean` tells that an mm in its place would have no new sources
abbrev pub follows : Bool → ItemRow → Bool
follows clean row = not (is_top row) || is_transform row || is_style row || (is_merge row && clean)

-- the same of an mm after such a row
abbrev pub clean_after : Bool → ItemRow → Bool
clean_after clean row = cond (is_top row) (is_merge row || (is_transform row && clean)) clean

-- each of the rows may follow
unfoldable pub late_from : Bool → List ItemRow → Bool
late_from clean [] = true
late_from clean (r ∷ rs) = follows clean r && late_from (clean_after clean r) rs

-- what a scan of rows comes to: the rows before the merge row, where two sources or more are among them, and after it only what may follow
unfoldable pub chosen : Option (ℕ × ℕ) → List ItemRow → Outcome (List ItemRow)
unfolding late_from
chosen None rs = Err NotMergeable
chosen (Some (m, c)) rs = cond (leb 2 c && late_from true (drop (m + 1) rs)) (Ok (take m rs)) (Err NotMergeable)

-- the rows before the merge row
unfoldable pub rows_before : List ItemRow → Outcome (List ItemRow)
unfolding scan_from chosen
rows_before rs = chosen (scan_from 0 0 rs) rs
