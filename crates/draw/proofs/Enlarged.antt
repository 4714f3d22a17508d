-- A drawing of enlarged items is the enlarged drawing: the refusals are the same, and every number of the commands is multiplied. What is not read may
-- differ freely. Assumes nothing.
use Rattle.std.specs.Prelude.{Ok}
use mathlib.Core.Path.{◌≡◌, sym, subst}
use mathlib.Core.Bool.{true, false}
use mathlib.Core.List.{List, [], ◌∷◌}
use Prim.Native.Nat.{ℕ, zero, suc, ◌+◌, ◌*◌, ◌^◌, ◌≤◌, ◌<◌}
use native.Mathlib.Nat.{le_refl, zero-lt-suc}
use native.Mathlib.Omega.{arith}
use lib.Dec.{lit≤, lit<}
use lib.Ieee.{Float, nan}
use lib.ListN.{length, get_or, take, drop, length-drop}
use lib.Seq.{get_or-drop}
use Rattle.ieee.specs.Limit.{all_within, Bounded, AllBounded}
use Rattle.ieee.specs.Grid.{On, Twin}
use Rattle.ieee.proofs.Grid.{weaken, scale_on}
use Rattle.ieee.proofs.Bounds.{on_bounded, all_bounded→within}
use Rattle.command.specs.Outcomes.{Outcome, mapped, Check, checked}
use Rattle.command.specs.Enlarged.{Twins, DrawingTwin}
use Rattle.command.proofs.Enlarged.{twins_weaken, drawing_refused, drawing_accepted, drawing_checked}
use Rattle.path.specs.Path.{path_commands}
use Rattle.path.proofs.Multiplied.{path_twins}
use Rattle.rect.proofs.Enlarged.{rect_twins}
use Rattle.ellipse.proofs.Enlarged.{ellipse_twins}
use Rattle.shape.specs.declared.Shape.{Shape}
use Rattle.shape.specs.declared.Shape.TheVariants.{Path, Ellipse}
use Rattle.shape.specs.Shape.{shape_commands}
use Rattle.item.specs.declared.ItemRow.{ItemRow}
use Rattle.item.specs.Rows.{item_row, is_path, entries_of}
use Rattle.draw.specs.Checks.{coordinate_limit}
use Rattle.draw.specs.Paths.{path_checks, draw_path}
use Rattle.draw.specs.Items.{rect_of, source_checks, shape_drawn, draw_source, item_checks, draw_item}
use Rattle.draw.proofs.ByKind.{kinds_relate}
use Rattle.draw.proofs.Sources.{source_passed, path_passed}
use Rattle.draw.proofs.Sound.{limit_value}

-- ---- the limit: 2 ^ 13 on the grid, and 2 ^ 19 after the enlargement, are below it
all_bounded_take : (n k : ℕ) (xs : List Float) → ((i : ℕ) → i < k → i < length xs → Bounded n (get_or xs i nan)) → AllBounded n (take k xs)
all_bounded_take n zero xs at = tt
all_bounded_take n (suc k) [] at = tt
all_bounded_take n (suc k) (x ∷ xs) at = (at 0 (zero-lt-suc k) (zero-lt-suc (length xs)), all_bounded_take n k xs (λ i h l. at (suc i) (omega arith) (omega arith)))

grid_bounded : {b : ℕ} {x : Float} → b ≤ 20 → On 10 b x → Bounded (2 ^ 20) x
grid_bounded {b} {x} B X = on_bounded 10 20 x (weaken 10 b 10 20 x (le_refl 10) B X)

-- the first numbers of two lists of one length, multiplied where there are any
module _ {k : ℕ} (K : k ≤ 6) (n : ℕ) (v v' : List Float) (same : length v' ≡ length v) (twins : (i : ℕ) → i < n → i < length v → Twin k 10 13 (get_or v i nan) (get_or v' i nan)) where
  first_within : all_within coordinate_limit (take n v) ≡ true
  first_within = all_bounded→within (2 ^ 20) coordinate_limit (take n v) limit_value (all_bounded_take (2 ^ 20) n v (λ i h l. grid_bounded (lit≤ tt) (twins i h l).grid))

  enlarged_within : all_within coordinate_limit (take n v') ≡ true
  enlarged_within =
      all_bounded→within (2 ^ 20) coordinate_limit (take n v') limit_value
      (all_bounded_take (2 ^ 20) n v'
      (λ i h l.
      let t = twins i h (omega arith) in
      let K' : 13 + k ≤ 20 = omega arith in
      rw t.is (grid_bounded K' (scale_on k 10 13 (get_or v i nan) t.grid))))

-- ---- a vertex list
-- the grid and the bound are those of a rectangle's commands, so that all kinds have one
list_twins : (k : ℕ) → k ≤ 6 → (closed count : ℕ) (v v' : List Float) → ((i : ℕ) → i < 6 * count → Twin k 10 13 (get_or v i nan) (get_or v' i nan))
    → Twins k 35 16 (path_commands closed v count) (path_commands closed v' count)
list_twins k K closed count v v' twins =
    twins_weaken k 10 14 35 16 (path_commands closed v count) (path_commands closed v' count) (lit≤ tt) (lit≤ tt) (path_twins k K closed count v v' twins)

module _ (k : ℕ) (K : k ≤ 6) (closed count : ℕ) (v v' : List Float) (same : length v' ≡ length v)
    (twins : (i : ℕ) → i < 6 * count → i < length v → Twin k 10 13 (get_or v i nan) (get_or v' i nan)) where
  path_checks_lem : path_checks closed v' count ≡ path_checks closed v count
  unfolding path_checks
  path_checks_lem = rw (same, first_within K (6 * count) v v' same twins, enlarged_within K (6 * count) v v' same twins)

  pub path_outcome : DrawingTwin k 35 16 (draw_path closed v count) (draw_path closed v' count)
  unfolding draw_path
  path_outcome =
      subst (λ (cs : List Check). DrawingTwin k 35 16 (draw_path closed v count) (checked cs (Ok (path_commands closed v' count)))) (sym path_checks_lem)
      (drawing_checked (path_checks closed v count)
      (λ pass.
      let inside = (path_passed closed v count pass).inside in
      drawing_accepted (list_twins k K closed count v v' (λ i h. twins i h (omega arith)))))

-- ---- a row with listed entries
-- a shape whose numbers stand at the start of v, kind by kind
shape_twins : (k : ℕ) → k ≤ 6 → (row : ItemRow) (v v' : List Float) → ((i : ℕ) → i < entries_of row → Twin k 10 13 (get_or v i nan) (get_or v' i nan))
    → DrawingTwin k 35 16 (shape_drawn row v) (shape_drawn row v')
unfolding shape_drawn shape_commands
shape_twins k K row v v' twins = kinds_relate Alike row v v' path rectangle ellipse (λ r. drawing_refused r)
  where
    Alike : Outcome Shape → Outcome Shape → Type 0
    Alike o o' = DrawingTwin k 35 16 (mapped (λ (s : Shape). shape_commands s v) o) (mapped (λ (s : Shape). shape_commands s v') o')

    first : (n : ℕ) → entries_of row ≡ n → (i : ℕ) → i < n → Twin k 10 13 (get_or v i nan) (get_or v' i nan)
    first n e i h = twins i (rw e h)

    path : is_path row ≡ true → entries_of row ≡ 6 * row.count → Alike (Ok (Path row.mark row.count)) (Ok (Path row.mark row.count))
    path p e = drawing_accepted (list_twins k K row.mark row.count v v' (first (6 * row.count) e))

    rectangle : is_path row ≡ false → entries_of row ≡ 5 → Alike (Ok (rect_of v)) (Ok (rect_of v'))
    rectangle p e =
        let at = first 5 e in
        drawing_accepted
        (rect_twins k K (get_or v 0 nan) (get_or v 1 nan) (get_or v 2 nan) (get_or v 3 nan) (get_or v 4 nan) (get_or v' 0 nan) (get_or v' 1 nan) (get_or v' 2 nan) (get_or v' 3 nan) (get_or v' 4 nan)
        (at 0 (lit< tt)) (at 1 (lit< tt)) (at 2 (lit< tt)) (at 3 (lit< tt)) (at 4 (lit< tt)))

    ellipse : is_path row ≡ false → entries_of row ≡ 4 → Alike (Ok Ellipse) (Ok Ellipse)
    ellipse p e = let at = first 4 e in drawing_accepted (ellipse_twins K (at 0 (lit< tt)) (at 1 (lit< tt)) (at 2 (lit< tt)) (at 3 (lit< tt)))

module _ (k : ℕ) (K : k ≤ 6) (row : ItemRow) (items items' : List Float) (same : length items' ≡ length items)
    (twins : (i : ℕ) → row.place ≤ i → i < row.place + entries_of row → i < length items → Twin k 10 13 (get_or items i nan) (get_or items' i nan)) where
  abbrev v : List Float
  v = drop row.place items

  abbrev v' : List Float
  v' = drop row.place items'

  same_dropped : length v' ≡ length v
  same_dropped = rw (length-drop row.place items, length-drop row.place items', same)

  dropped_twins : (i : ℕ) → i < entries_of row → i < length v → Twin k 10 13 (get_or v i nan) (get_or v' i nan)
  dropped_twins i h l =
      let inside : row.place + i < length items = omega (arith, length-drop row.place items) in
      rw (get_or-drop row.place items i nan, get_or-drop row.place items' i nan) (twins (row.place + i) (omega arith) (omega arith) inside)

  source_checks_lem : source_checks row items' ≡ source_checks row items
  unfolding source_checks
  source_checks_lem =
      rw (same, first_within K (entries_of row) v v' same_dropped dropped_twins, enlarged_within K (entries_of row) v v' same_dropped dropped_twins)

  pub source_outcome : DrawingTwin k 35 16 (draw_source row items) (draw_source row items')
  unfolding draw_source
  source_outcome =
      subst (λ (cs : List Check). DrawingTwin k 35 16 (draw_source row items) (checked cs (shape_drawn row v'))) (sym source_checks_lem)
      (drawing_checked (source_checks row items)
      (λ pass.
      let inside = (source_passed row items pass).inside in
      shape_twins k K row v v' (λ i h. dropped_twins i h (omega (arith, length-drop row.place items)))))

-- ---- an item row
pub item_outcome : (k : ℕ) → k ≤ 6 → (row : List ℕ) (items items' : List Float) → length items' ≡ length items
    → ((i : ℕ) → (item_row row 0).place ≤ i → i < (item_row row 0).place + entries_of (item_row row 0) → i < length items → Twin k 10 13 (get_or items i nan) (get_or items' i nan))
    → DrawingTwin k 35 16 (draw_item row items) (draw_item row items')
unfolding draw_item
item_outcome k K row items items' same twins = drawing_checked (item_checks row) (λ pass. source_outcome k K (item_row row 0) items items' same twins)
