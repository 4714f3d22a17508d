-- Which entries lent rows read, and rows cut from a list. Assumes nothing.
use mathlib.Core.Path.{◌≡◌, refl, ap, ap₂, ◌∙◌}
use mathlib.Core.List.{List, ◌∷◌}
use Rattle.std.proofs.Common.{map, drop-drop}
use Rattle.std.specs.List.{slice_range}
use Rattle.std.proofs.lemmas.List.{get_or-take, get_or-drop}
use Prim.Native.Nat.{ℕ, zero, suc, ◌+◌, ◌*◌, ◌<◌, ◌≤◌}
use native.Mathlib.Nat.{sub-zero}
use native.Mathlib.Omega.{arith}
use lib.ListN.{get_or, take, drop, length}
use Rattle.std.specs.Simd.{first_chunks}
use Rattle.item.specs.Rows.{item_row, row_of}
use Rattle.nest.specs.Lists.{rows_from}

-- ---- entries past the row number are not read

module _ (rows rows' : List ℕ) where
  pub row_read : (i : ℕ) → ((j : ℕ) → j < 6 * i + 6 → get_or rows j 0 ≡ get_or rows' j 0) → item_row rows i ≡ item_row rows' i
  row_read i same =
      rw (same (6 * i) (omega arith), same (6 * i + 1) (omega arith), same (6 * i + 2) (omega arith), same (6 * i + 3) (omega arith), same (6 * i + 4) (omega arith), same (6 * i + 5) (omega arith))

  from_read : (i left : ℕ) → ((j : ℕ) → j < 6 * (i + left) → get_or rows j 0 ≡ get_or rows' j 0) → rows_from rows i left ≡ rows_from rows' i left
  unfolding rows_from
  from_read i zero same = refl
  from_read i (suc left) same =
      ap₂ ◌∷◌ (row_read i (λ j h. same j (omega arith))) (from_read (i + 1) left (λ j h. same j (omega arith)))

pub rows_read : (n : ℕ) (rows rows' : List ℕ) → ((j : ℕ) → j < 6 * n → get_or rows j 0 ≡ get_or rows' j 0) → rows_from rows 0 n ≡ rows_from rows' 0 n
rows_read n rows rows' same = from_read rows rows' 0 n (λ j h. same j (omega arith))

-- ---- rows lent as one list, cut into rows of six

module _ (rows : List ℕ) (i : ℕ) where
  entry : (k : ℕ) → k < 6 → get_or (take 6 (drop (6 * i) rows)) k 0 ≡ get_or rows (6 * i + k) 0
  entry k h = get_or-take 6 (drop (6 * i) rows) k 0 h ∙ get_or-drop (6 * i) rows k 0

  chunk_row : row_of (take 6 (drop (6 * i) rows)) ≡ item_row rows i
  chunk_row =
      let first : get_or (take 6 (drop (6 * i) rows)) 0 0 ≡ get_or rows (6 * i) 0 = entry 0 (omega arith) ∙ ap (λ (k : ℕ). get_or rows k 0) (omega arith) in
      rw (first, entry 1 (omega arith), entry 2 (omega arith), entry 3 (omega arith), entry 4 (omega arith), entry 5 (omega arith))

chunks_from : (rows : List ℕ) (i n : ℕ) → map row_of (first_chunks 6 n (drop (6 * i) rows)) ≡ rows_from rows i n
unfolding rows_from
chunks_from rows i zero = refl
chunks_from rows i (suc n) =
    let next : drop 6 (drop (6 * i) rows) ≡ drop (6 * (i + 1)) rows = drop-drop 6 (6 * i) rows ∙ ap (λ (k : ℕ). drop k rows) (omega arith) in
    ap₂ ◌∷◌ (chunk_row rows i) (ap (λ (l : List ℕ). map row_of (first_chunks 6 n l)) next ∙ chunks_from rows (i + 1) n)

rows_cut : (rows : List ℕ) (n : ℕ) → map row_of (first_chunks 6 n rows) ≡ rows_from rows 0 n
rows_cut rows n = chunks_from rows 0 n

take_chunks : {X : Type 0} (size n k : ℕ) (xs : List X) → n ≤ k → take n (first_chunks size k xs) ≡ first_chunks size n xs
take_chunks size zero k xs h = refl
take_chunks size (suc n) zero xs h = absurd (omega arith)
take_chunks size (suc n) (suc k) xs h = ap (λ cs. take size xs ∷ cs) (take_chunks size n k (drop size xs) (omega arith))

-- of so many rows cut, the first n
length_chunks : {X : Type 0} (size k : ℕ) (xs : List X) → length (first_chunks size k xs) ≡ k
length_chunks size zero xs = refl
length_chunks size (suc k) xs = ap suc (length_chunks size k (drop size xs))

pub rows_first : (rows : List ℕ) (n k : ℕ) → n ≤ length (first_chunks 6 k rows) → map row_of (slice_range (first_chunks 6 k rows) 0 n) ≡ rows_from rows 0 n
rows_first rows n k h =
    let e : length (first_chunks 6 k rows) ≡ k = length_chunks 6 k rows in
    ap (λ (m : ℕ). map row_of (take m (first_chunks 6 k rows))) (sub-zero n) ∙ ap (map row_of) (take_chunks 6 n k rows (omega arith)) ∙ rows_cut rows n
