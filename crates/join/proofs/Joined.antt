-- Which rows a merge joins: source rows before the merge row, so visible ones of the first n at depth 0, and at most 255. Assumes nothing.
use Rattle.std.specs.Prelude.{Option, None, Some, Ok, Err}
use mathlib.Core.Path.{◌≡◌, refl, sym, ap, ◌∙◌}
use mathlib.Core.Bool.{Bool, true, false, cond, ◌&&◌}
use mathlib.Core.List.{List, [], ◌∷◌}
use Prim.Native.Nat.{ℕ, zero, suc, ◌+◌, ◌≤◌, ◌<◌}
use native.Mathlib.Omega.{arith}
use lib.Dec.{leb}
use lib.ListN.{length, get_or, take, drop}
use Rattle.command.specs.declared.Refusal.TheVariants.{NotMergeable}
use Rattle.item.specs.declared.ItemRow.{ItemRow}
use Rattle.item.specs.Rows.{item_row}
use Rattle.nest.specs.Lists.{rows_from}
use Rattle.merge.specs.Flat.{is_source_row, sources_from, scan_from, late_from}
use Rattle.merge.specs.Decision.{decision}
use Rattle.merge.proofs.Passed.{decision_passed}
use Rattle.merge.proofs.Flat.{settled, flat_ruling, ruling_flat, length_rows, take_rows, scan_inside}

-- ---- the sources among rows

pub sources_few : (rs : List ItemRow) (i : ℕ) → length (sources_from i rs) ≤ length rs
unfolding sources_from
sources_few [] i = omega arith
sources_few (r ∷ rs) i = go (is_source_row r) (sources_few rs (i + 1))
  where
    go : (b : Bool) → length (sources_from (i + 1) rs) ≤ length rs → length (cond b (i ∷ sources_from (i + 1) rs) (sources_from (i + 1) rs)) ≤ suc (length rs)
    go true h = omega arith
    go false h = omega arith

-- the row of this number is a source, and below an end
record SourceBelow (rows : List ℕ) (end r : ℕ) : Type 0 where
  below : r < end
  source : is_source_row (item_row rows r) ≡ true

source_at : (rows : List ℕ) (left i k : ℕ) → k < length (sources_from i (rows_from rows i left)) → SourceBelow rows (i + left) (get_or (sources_from i (rows_from rows i left)) k 0)
unfolding sources_from rows_from
source_at rows zero i k h = absurd (omega arith)
source_at rows (suc left) i k h = go (is_source_row (item_row rows i)) refl k h (source_at rows left (i + 1))
  where
    rest : List ℕ
    rest = sources_from (i + 1) (rows_from rows (i + 1) left)

    later : (k : ℕ) → SourceBelow rows (i + 1 + left) (get_or rest k 0) → SourceBelow rows (i + suc left) (get_or rest k 0)
    later k s = record { below = omega arith; source = s.source }

    go : (b : Bool) → is_source_row (item_row rows i) ≡ b → (k : ℕ) → k < length (cond b (i ∷ rest) rest)
        → ((j : ℕ) → j < length rest → SourceBelow rows (i + 1 + left) (get_or rest j 0)) → SourceBelow rows (i + suc left) (get_or (cond b (i ∷ rest) rest) k 0)
    go true e zero h ih = record { below = omega arith; source = e }
    go true e (suc k) h ih = later k (ih k (omega arith))
    go false e k h ih = later k (ih k h)

-- ---- what a decision joins

-- the sources of the first m rows, fewer than n, which are at most 256
record Decided (rows : List ℕ) (n : ℕ) (numbers : List ℕ) : Type 0 where
  end : ℕ
  end_below : end < n
  few : n ≤ 256
  are : numbers ≡ sources_from 0 (rows_from rows 0 end)

settled_joined : (rs : List ItemRow) (s : Option (ℕ × ℕ)) (numbers : List ℕ) → scan_from 0 0 rs ≡ s → settled s rs ≡ Ok numbers
    → (m : ℕ) × (m < length rs) × (numbers ≡ sources_from 0 (take m rs))
unfolding settled
settled_joined rs None numbers e h = let z : ◌≡◌ {A = ℕ} 0 1 = cc in absurd (omega arith)
settled_joined rs (Some (m, c)) numbers e h = (m, scan_inside rs m c e, go (leb 2 c && late_from true (drop (m + 1) rs)) h)
  where
    go : (b : Bool) → cond b (Ok (sources_from 0 (take m rs))) (Err NotMergeable) ≡ Ok numbers → numbers ≡ sources_from 0 (take m rs)
    go true f = cc
    go false f = cc

decided : (rows : List ℕ) (n : ℕ) (numbers : List ℕ) → decision rows n ≡ Ok numbers → Decided rows n numbers
unfolding flat_ruling
decided rows n numbers e =
    let p = decision_passed rows n numbers e in
    let s = settled_joined (rows_from rows 0 n) (scan_from 0 0 (rows_from rows 0 n)) numbers refl (sym (ruling_flat rows n) ∙ p.1) in
    let below : s.0 < n = omega (arith, length_rows rows 0 n) in
    record {
      end = s.0;
      end_below = below;
      few = p.0;
      are = s.2 ∙ ap (sources_from 0) (take_rows rows s.0 0 n (omega arith));
    }

few_of : (rows : List ℕ) (m : ℕ) (numbers : List ℕ) → numbers ≡ sources_from 0 (rows_from rows 0 m) → length numbers ≤ m
few_of rows m numbers e = omega (arith, ap length e, sources_few (rows_from rows 0 m) 0, length_rows rows 0 m)

at_of : (rows : List ℕ) (m n : ℕ) (numbers : List ℕ) → m < n → numbers ≡ sources_from 0 (rows_from rows 0 m) → (i : ℕ) → i < length numbers → SourceBelow rows n (get_or numbers i 0)
at_of rows m n numbers l e i h =
    let s : SourceBelow rows (0 + m) (get_or numbers i 0) = rw e (source_at rows m 0 i (omega (arith, ap length e))) in
    record { below = omega arith; source = s.source }

module _ (rows : List ℕ) (n : ℕ) (numbers : List ℕ) (e : decision rows n ≡ Ok numbers) where
  pub joined_few : length numbers ≤ 255
  joined_few = let d = decided rows n numbers e in omega (arith, few_of rows d.end numbers d.are)

  joined_at : (i : ℕ) → i < length numbers → SourceBelow rows n (get_or numbers i 0)
  joined_at = let d = decided rows n numbers e in at_of rows d.end n numbers d.end_below d.are

  pub joined_below : (i : ℕ) → i < length numbers → get_or numbers i 0 < n
  joined_below i h = (joined_at i h).below

  pub joined_source : (i : ℕ) → i < length numbers → is_source_row (item_row rows (get_or numbers i 0)) ≡ true
  joined_source i h = (joined_at i h).source
