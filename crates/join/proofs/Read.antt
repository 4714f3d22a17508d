-- What a merge reads: of the item list the numbers of the joined rows alone, of the rows no entry past the row number; of a hidden row its kind, flag and depth, and of a visible
-- row the mark too, but the place and count only of a source outside any group. Assumes nothing.
use Rattle.std.specs.Prelude.{Ok, Err}
use mathlib.Core.Path.{◌≡◌, refl, ap, ap₂, ◌∙◌}
use mathlib.Core.Bool.{true}
use mathlib.Core.List.{List, [], ◌∷◌, map}
use Prim.Native.Nat.{ℕ, zero, suc, ◌+◌, ◌*◌, ◌≤◌, ◌<◌}
use native.Mathlib.Nat.{zero-lt-suc}
use native.Mathlib.Omega.{arith}
use lib.Ieee.{Float, nan}
use lib.ListN.{length, get_or}
use Rattle.item.specs.declared.ItemRow.{ItemRow}
use Rattle.command.specs.Outcomes.{Outcome, and_then}
use Rattle.item.specs.Rows.{item_row, is_visible, is_listed, entries_of}
use Rattle.draw.specs.Items.{draw_source}
use Rattle.draw.proofs.Read.{source_read}
use Rattle.std.specs.List.{list_all}
use Rattle.nest.specs.Lists.{rows_from}
use Rattle.nest.proofs.Rows.{row_read}
use Rattle.nest.proofs.Alike.{Alike, ends, goes}
use Rattle.merge.specs.Decision.{decision}
use Rattle.merge.specs.Flat.{is_source_row}
use Rattle.merge.proofs.Alike.{decision_alike, decision_read}
use Rattle.join.specs.Merge.{followed_by, draw_sources, draw_joined, draw_merge}
use Rattle.join.specs.Joined.{JoinedRow}
use Rattle.join.proofs.Joined.{joined_below, joined_source}

-- ---- the item list

sources_read : (rows : List ℕ) (items items' : List Float) (numbers : List ℕ)
    → ((i : ℕ) → i < length numbers → draw_source (item_row rows (get_or numbers i 0)) items' ≡ draw_source (item_row rows (get_or numbers i 0)) items)
    → draw_sources (map (item_row rows) numbers) items' ≡ draw_sources (map (item_row rows) numbers) items
unfolding draw_sources
sources_read rows items items' [] same = refl
sources_read rows items items' (m ∷ ms) same =
    ap₂ followed_by (same 0 (zero-lt-suc (length ms))) (sources_read rows items items' ms (λ i h. same (suc i) (omega arith)))

-- the numbers of a hidden or nested row, or of one after the merge row, may be any
pub merge_items : (rows : List ℕ) (n : ℕ) (items items' : List Float) → length items' ≡ length items
    → ((r : ItemRow) → JoinedRow rows n r → (j : ℕ) → r.place ≤ j → j < r.place + entries_of r → j < length items → get_or items' j nan ≡ get_or items j nan)
    → draw_merge rows n items' ≡ draw_merge rows n items
unfolding draw_merge draw_joined
merge_items rows n items items' long same = go (decision rows n) refl
  where
    go : (d : Outcome (List ℕ)) → decision rows n ≡ d → and_then d (draw_joined rows items') ≡ and_then d (draw_joined rows items)
    go (Err r) e = refl
    go (Ok numbers) e =
        sources_read rows items items' numbers
        (λ i h. let r : ItemRow = item_row rows (get_or numbers i 0) in source_read r items items' long (same r (record { numbers = numbers; decided = e; index = i; inside = h; is = refl })))

-- ---- the rows

rows_same : (rows rows' numbers : List ℕ) → ((i : ℕ) → i < length numbers → item_row rows (get_or numbers i 0) ≡ item_row rows' (get_or numbers i 0))
    → map (item_row rows) numbers ≡ map (item_row rows') numbers
rows_same rows rows' [] same = refl
rows_same rows rows' (m ∷ ms) same = ap₂ ◌∷◌ (same 0 (zero-lt-suc (length ms))) (rows_same rows rows' ms (λ i h. same (suc i) (omega arith)))

-- one decision, and the same source rows
same_merge : (rows rows' : List ℕ) (n : ℕ) (items : List Float) → decision rows n ≡ decision rows' n
    → ((i : ℕ) → i < n → is_source_row (item_row rows i) ≡ true → item_row rows i ≡ item_row rows' i) → draw_merge rows n items ≡ draw_merge rows' n items
unfolding draw_merge draw_joined
same_merge rows rows' n items e same = go (decision rows n) refl ∙ ap (λ (d : Outcome (List ℕ)). and_then d (draw_joined rows' items)) e
  where
    go : (d : Outcome (List ℕ)) → decision rows n ≡ d → and_then d (draw_joined rows items) ≡ and_then d (draw_joined rows' items)
    go (Err r) f = refl
    go (Ok numbers) f =
        ap (λ (rs : List ItemRow). draw_sources rs items)
        (rows_same rows rows' numbers
        (λ i h. let m : ℕ = get_or numbers i 0 in same m (joined_below rows n numbers f i h) (joined_source rows n numbers f i h)))

pub merge_read : (n : ℕ) (rows rows' : List ℕ) (items : List Float) → 6 * n ≤ length rows → 6 * n ≤ length rows' → ((j : ℕ) → j < 6 * n → get_or rows j 0 ≡ get_or rows' j 0)
    → draw_merge rows n items ≡ draw_merge rows' n items
merge_read n rows rows' items l l' same =
    same_merge rows rows' n items (decision_read n rows rows' l l' same) (λ i h v. row_read rows rows' i (λ j g. same j (omega arith)))

-- two rows of one kind, hidden flag and depth, of one mark where they are visible, and the same where they are sources outside any group
pub record SameRead (r q : ItemRow) : Type 0 where
  pub kind : r.kind ≡ q.kind
  pub hidden : r.hidden ≡ q.hidden
  pub depth : r.depth ≡ q.depth
  pub mark : is_visible r ≡ true → r.mark ≡ q.mark
  pub source : is_source_row r ≡ true → r ≡ q

rows_alike : (rows rows' : List ℕ) (left i : ℕ) → ((j : ℕ) → j < i + left → SameRead (item_row rows j) (item_row rows' j)) → Alike (rows_from rows i left) (rows_from rows' i left)
unfolding rows_from
rows_alike rows rows' zero i same = ends
rows_alike rows rows' (suc left) i same =
    let s = same i (omega arith) in
    goes (record { kind = s.kind; hidden = s.hidden; depth = s.depth; mark = s.mark })
    (rows_alike rows rows' left (i + 1) (λ j h. same j (omega arith)))

-- the place, mark and count of a hidden row, and the place and count of a visible one that is no source outside any group, may be any that keep the rules for one row
pub merge_rows : (rows rows' : List ℕ) (n : ℕ) (items : List Float) → length rows ≡ length rows' → ((i : ℕ) → i < n → SameRead (item_row rows i) (item_row rows' i))
    → list_all is_listed (rows_from rows 0 n) ≡ list_all is_listed (rows_from rows' 0 n) → draw_merge rows n items ≡ draw_merge rows' n items
merge_rows rows rows' n items l same listed =
    same_merge rows rows' n items (decision_alike rows rows' n l (rows_alike rows rows' n 0 (λ j h. same j (omega arith))) listed) (λ i h. (same i h).source)
