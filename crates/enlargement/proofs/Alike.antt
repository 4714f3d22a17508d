-- The claim, proved, for each of the factors 2, 4, 8, 16, 32 and 64; and for a plate that is enlarged by multiplying every number. Assumes nothing.
use mathlib.Core.Path.{◌≡◌, refl, sym, ap, ◌∙◌}
use mathlib.Core.List.{List, map}
use Prim.Native.Nat.{ℕ, ◌≤◌}
use lib.Ieee.{Float, nan, mul}
use lib.ListN.{get_or, length-map, get_or-map}
use Rattle.item.specs.Rows.{item_row}
use Rattle.enlargement.specs.Plates.{Plate, OfVertices, OfRow, OfMerge, PlateOnGrid}
use Rattle.enlargement.specs.Plates.{times, MultipliedAt, Enlarged, enlarge}
use Rattle.enlargement.specs.Claim.{AnsweredAlike, EnlargedAlike}
use Rattle.enlargement.specs.Buffers.{FilledAlike}
use Rattle.enlargement.proofs.Buffers.{filled_alike}
use Rattle.enlargement.proofs.Claim.{answered}

-- the third demand
pub answered_alike : EnlargedAlike
answered_alike k K p p' G E = let A = answered k K p p' G E in (A, filled_alike k p p' A)

-- ---- a plate enlarged by multiplying every number

product_nan : (k : ℕ) → times k nan ≡ nan
unfolding mul
product_nan k = refl

multiplied_all : (k : ℕ) (read : ℕ → Type 0) (v : List Float) → MultipliedAt k read v (map (times k) v)
multiplied_all k read v = record {
  same_length = length-map v (times k);
  multiplied = λ i r h. ap (λ (d : Float). get_or (map (times k) v) i d) (sym (product_nan k)) ∙ get_or-map (times k) v i nan;
}

enlarged_all : (k : ℕ) (p : Plate) → Enlarged k p (enlarge k p)
unfolding enlarge
enlarged_all k p = record {
  lent = refl;
  vertices = multiplied_all k (OfVertices p.lent.count) p.vertices;
  row = multiplied_all k (OfRow (item_row p.lent.row 0)) p.items;
  rows = multiplied_all k (OfMerge p.lent.rows p.lent.row_count) p.items;
  numbers = refl;
  least = refl;
  repeater = refl;
}

-- 2, 4, 8, 16, 32 and 64 times as large
pub plate_enlarged : (k : ℕ) → k ≤ 6 → (p : Plate) → PlateOnGrid p → AnsweredAlike k p (enlarge k p) × FilledAlike k p (enlarge k p)
plate_enlarged k K p G = answered_alike k K p (enlarge k p) G (enlarged_all k p)
