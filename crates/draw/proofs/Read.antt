-- What drawing a row reads of the item list: the numbers of that row and no others. Assumes nothing.
use Rattle.std.specs.Prelude.{Ok}
use mathlib.Core.Path.{◌≡◌, refl, sym, ap, ap₂, ◌∙◌}
use mathlib.Core.Bool.{true, false}
use mathlib.Core.List.{List, ◌∷◌}
use Prim.Native.Nat.{ℕ, zero, suc, ◌+◌, ◌*◌, ◌≤◌, ◌<◌}
use native.Mathlib.Omega.{arith}
use lib.Dec.{eqb, lit<}
use lib.Ieee.{Float, nan}
use lib.ListN.{length, get_or, take, drop, length-drop, length-take}
use lib.Seq.{get_or-take, get_or-drop, ext_get_or}
use Rattle.command.specs.declared.PathCommand.{PathCommand}
use Rattle.command.specs.Outcomes.{Outcome, mapped, Check, checked}
use Rattle.command.proofs.Outcomes.{checks_relate}
use Rattle.path.specs.Path.{vertex_at, vertices_of, bezier_path, path_commands}
use Rattle.shape.specs.declared.Shape.{Shape}
use Rattle.shape.specs.declared.Shape.TheVariants.{Path, Ellipse}
use Rattle.shape.specs.Shape.{shape_commands}
use Rattle.item.specs.declared.ItemRow.{ItemRow}
use Rattle.item.specs.Rows.{is_path, entries_of}
use Rattle.draw.specs.Items.{rect_of, source_checks, shape_drawn, draw_source}
use Rattle.draw.proofs.ByKind.{kinds_relate}
use Rattle.draw.proofs.Sources.{source_passed}

vertices_read : (n : ℕ) (v v' : List Float) → ((i : ℕ) → i < 6 * n → get_or v' i nan ≡ get_or v i nan) → vertices_of n v' ≡ vertices_of n v
unfolding vertices_of
vertices_read zero v v' same = refl
vertices_read (suc n) v v' same = ap₂ ◌∷◌ first (vertices_read n (drop 6 v) (drop 6 v') rest)
  where
    first : vertex_at v' 0 ≡ vertex_at v 0
    first = rw (same 0 (omega arith), same 1 (omega arith), same 2 (omega arith), same 3 (omega arith), same 4 (omega arith), same 5 (omega arith))

    rest : (i : ℕ) → i < 6 * n → get_or (drop 6 v') i nan ≡ get_or (drop 6 v) i nan
    rest i h = rw (get_or-drop 6 v i nan, get_or-drop 6 v' i nan) (same (6 + i) (omega arith))

-- a shape whose numbers stand at the start of v, kind by kind
shape_read : (row : ItemRow) (v v' : List Float) → ((i : ℕ) → i < entries_of row → get_or v' i nan ≡ get_or v i nan) → shape_drawn row v' ≡ shape_drawn row v
unfolding shape_drawn shape_commands path_commands
shape_read row v v' same = kinds_relate Same row v v' path rectangle ellipse (λ r. refl)
  where
    Same : Outcome Shape → Outcome Shape → Type 0
    Same o o' = mapped (λ (s : Shape). shape_commands s v') o' ≡ mapped (λ (s : Shape). shape_commands s v) o

    first : (n : ℕ) → entries_of row ≡ n → (i : ℕ) → i < n → get_or v' i nan ≡ get_or v i nan
    first n e i h = same i (rw e h)

    path : is_path row ≡ true → entries_of row ≡ 6 * row.count → Same (Ok (Path row.mark row.count)) (Ok (Path row.mark row.count))
    path p e = ap (λ (vs : List _). Ok (bezier_path (eqb row.mark 1) vs)) (vertices_read row.count v v' (first (6 * row.count) e))

    rectangle : is_path row ≡ false → entries_of row ≡ 5 → Same (Ok (rect_of v)) (Ok (rect_of v'))
    rectangle p e = let at = first 5 e in rw (at 0 (lit< tt), at 1 (lit< tt), at 2 (lit< tt), at 3 (lit< tt), at 4 (lit< tt))

    ellipse : is_path row ≡ false → entries_of row ≡ 4 → Same (Ok Ellipse) (Ok Ellipse)
    ellipse p e = let at = first 4 e in rw (at 0 (lit< tt), at 1 (lit< tt), at 2 (lit< tt), at 3 (lit< tt))

take_read : (n : ℕ) (v v' : List Float) → length v' ≡ length v → ((i : ℕ) → i < n → i < length v → get_or v' i nan ≡ get_or v i nan) → take n v' ≡ take n v
take_read n v v' long same =
    ext_get_or nan (take n v') (take n v) (length-take n v' ∙ rw long (sym (length-take n v)))
    (λ i l.
    let inside : i < n = omega (arith, length-take n v') in
    let there : i < length v = omega (arith, length-take n v') in
    rw (get_or-take n v' i nan, get_or-take n v i nan) (same i inside there))

module _ (row : ItemRow) (items items' : List Float) (long : length items' ≡ length items)
    (same : (j : ℕ) → row.place ≤ j → j < row.place + entries_of row → j < length items → get_or items' j nan ≡ get_or items j nan) where
  abbrev v : List Float
  v = drop row.place items

  abbrev v' : List Float
  v' = drop row.place items'

  long_dropped : length v' ≡ length v
  long_dropped = rw (length-drop row.place items, length-drop row.place items', long)

  same_dropped : (i : ℕ) → i < entries_of row → i < length v → get_or v' i nan ≡ get_or v i nan
  same_dropped i h l =
      let inside : row.place + i < length items = omega (arith, length-drop row.place items) in
      rw (get_or-drop row.place items i nan, get_or-drop row.place items' i nan) (same (row.place + i) (omega arith) (omega arith) inside)

  checks_read : source_checks row items' ≡ source_checks row items
  unfolding source_checks
  checks_read = rw (long, take_read (entries_of row) v v' long_dropped same_dropped)

  pub source_read : draw_source row items' ≡ draw_source row items
  unfolding draw_source
  source_read =
      ap (λ (cs : List Check). checked cs (shape_drawn row v')) checks_read
      ∙ checks_relate (λ (o o' : Outcome (List PathCommand)). o' ≡ o) (λ r. refl) (source_checks row items) (shape_drawn row v) (shape_drawn row v')
      (λ pass.
      let inside = (source_passed row items pass).inside in
      shape_read row v v' (λ i h. same_dropped i h (omega (arith, length-drop row.place items))))
