-- What a source or a vertex list that is drawn has met: each check, so that its numbers are there and within the limit, and its commands are the
-- shape's, which are few.
-- Assumes nothing.
use Rattle.std.specs.Prelude.{Ok, Err}
use mathlib.Core.Path.{◌≡◌, refl, sym, ap}
use mathlib.Core.Bool.{true, false, ◌&&◌}
use mathlib.Core.List.{List}
use Prim.Native.Nat.{ℕ, ◌+◌, ◌*◌, ◌≤◌, ◌<◌}
use native.Mathlib.Omega.{arith}
use lib.Dec.{eqb}
use lib.Ieee.{Float}
use lib.ListN.{length, take, drop, length-drop}
use borrow.Author.Tests.{eqb-false, ltb-false, not-false}
use Rattle.ieee.specs.Limit.{all_within}
use Rattle.command.specs.declared.PathCommand.{PathCommand}
use Rattle.command.specs.Commands.{numbers_of}
use Rattle.command.specs.Outcomes.{Outcome, mapped, list_of, AllPass}
use Rattle.command.proofs.Outcomes.{refused_accepted, checks_passed}
use Rattle.command.proofs.Lists.{numbers_few}
use Rattle.path.specs.Path.{path_commands}
use Rattle.path.proofs.Paths.{path_commands_few}
use Rattle.shape.specs.declared.Shape.{Shape}
use Rattle.shape.specs.declared.Shape.TheVariants.{Path, Ellipse}
use Rattle.shape.specs.Shape.{shape_commands, Fit}
use Rattle.shape.proofs.Enough.{few}
use Rattle.item.specs.declared.ItemRow.{ItemRow}
use Rattle.item.specs.Rows.{item_row, is_path, entries_of}
use Rattle.draw.specs.Checks.{coordinate_limit}
use Rattle.draw.specs.Paths.{path_checks, draw_path}
use Rattle.draw.specs.Items.{has_no_vertices, rect_of, item_shape, source_checks, shape_drawn, draw_source, item_checks, draw_item}
use Rattle.draw.proofs.ByKind.{kinds_hold}

-- ---- the checks of a row, passed
pub record SourcePassed (row : ItemRow) (items : List Float) : Type 0 where
  pub some : has_no_vertices row ≡ false
  pub few : row.count ≤ 1024
  pub inside : row.place + entries_of row ≤ length items
  pub numbers_within : all_within coordinate_limit (take (entries_of row) (drop row.place items)) ≡ true

pub source_passed : (row : ItemRow) (items : List Float) → AllPass (source_checks row items) → SourcePassed row items
unfolding source_checks
source_passed row items pass = record {
  some = search not-false;
  few = omega (arith, ltb-false, pass);
  inside = omega (arith, ltb-false, pass);
  numbers_within = search not-false;
}

pub entries_dropped : (row : ItemRow) (items : List Float) → row.place + entries_of row ≤ length items → entries_of row ≤ length (drop row.place items)
entries_dropped row items h = rw length-drop (omega arith)

-- ---- a source that is drawn
-- the row's numbers are the first of those from its place on
pub record DrawnSource (row : ItemRow) (items : List Float) (cs : List PathCommand) : Type 0 where
  pub passed : SourcePassed row items
  pub shape : Shape
  pub made : item_shape row (drop row.place items) ≡ Ok shape
  pub fits : Fit shape (drop row.place items)
  pub commands : cs ≡ shape_commands shape (drop row.place items)
  pub drawn : shape_drawn row (drop row.place items) ≡ Ok cs

made_fits : (row : ItemRow) (v : List Float) (s : Shape) → has_no_vertices row ≡ false → row.count ≤ 1024 → entries_of row ≤ length v → item_shape row v ≡ Ok s → Fit s v
made_fits row v s some few inside = kinds_hold Fits row v path rectangle ellipse (λ r e. refused_accepted r s e)
  where
    Fits : Outcome Shape → Type 0
    Fits o = o ≡ Ok s → Fit s v

    path : is_path row ≡ true → entries_of row ≡ 6 * row.count → Fits (Ok (Path row.mark row.count))
    path p n e =
        let is : Path row.mark row.count ≡ s = cc in
        let test : (is_path row && eqb row.count 0) ≡ false = some in
        let one : row.count ≡ 0 → ⊥ = eqb-false row.count 0 (rw p at test) in
        rw (← is) (record { some = omega arith; few = omega arith; inside = omega arith })

    rectangle : is_path row ≡ false → entries_of row ≡ 5 → Fits (Ok (rect_of v))
    rectangle p n e = let is : rect_of v ≡ s = cc in rw (← is) (record { some = omega arith; few = omega arith; inside = omega arith })

    ellipse : is_path row ≡ false → entries_of row ≡ 4 → Fits (Ok Ellipse)
    ellipse p n e = let is : Ellipse ≡ s = cc in rw (← is) (record { some = omega arith; few = omega arith; inside = omega arith })

pub drawn_source : (row : ItemRow) (items : List Float) (cs : List PathCommand) → draw_source row items ≡ Ok cs → DrawnSource row items cs
unfolding draw_source shape_drawn
drawn_source row items cs e =
    let v = drop row.place items in
    let p = checks_passed (source_checks row items) (shape_drawn row v) cs e in
    go (source_passed row items p.0) p.1 (item_shape row v) refl p.1
  where
    go : SourcePassed row items → shape_drawn row (drop row.place items) ≡ Ok cs → (o : Outcome Shape) → item_shape row (drop row.place items) ≡ o
        → mapped (λ (s : Shape). shape_commands s (drop row.place items)) o ≡ Ok cs → DrawnSource row items cs
    go P d (Err r) is e = refused_accepted r cs e
    go P d (Ok s) is e = record {
      passed = P;
      shape = s;
      made = is;
      fits = made_fits row (drop row.place items) s P.some P.few (entries_dropped row items P.inside) is;
      commands = sym (ap list_of e);
      drawn = d;
    }

-- ---- how much that is
module _ (row : ItemRow) (items : List Float) (cs : List PathCommand) (e : draw_source row items ≡ Ok cs) where
  pub source_few : length cs ≤ 1026
  source_few =
      let s = drawn_source row items cs e in
      rw s.commands (few s.shape (drop row.place items) s.fits)

  pub source_numbers_few : length (numbers_of cs) ≤ 6 * 1026
  source_numbers_few = omega (arith, numbers_few cs, source_few)

pub drawn_item_few : (row : List ℕ) (items : List Float) (cs : List PathCommand) → draw_item row items ≡ Ok cs → length cs ≤ 1026
unfolding draw_item
drawn_item_few row items cs e = source_few (item_row row 0) items cs (checks_passed (item_checks row) (draw_source (item_row row 0) items) cs e).1

-- ---- a vertex list
pub record PassedPath (closed : ℕ) (v : List Float) (count : ℕ) : Type 0 where
  pub some : 0 < count
  pub few : count ≤ 1024
  pub inside : 6 * count ≤ length v
  pub numbers_within : all_within coordinate_limit (take (6 * count) v) ≡ true

pub path_passed : (closed : ℕ) (v : List Float) (count : ℕ) → AllPass (path_checks closed v count) → PassedPath closed v count
unfolding path_checks
path_passed closed v count pass = record {
  some = omega (arith, eqb-false, pass);
  few = omega (arith, ltb-false, pass);
  inside = omega (arith, ltb-false, pass);
  numbers_within = search not-false;
}

module _ (closed : ℕ) (v : List Float) (count : ℕ) (cs : List PathCommand) (e : draw_path closed v count ≡ Ok cs) where
  pub drawn_path : (0 < count) × (count ≤ 1024) × (cs ≡ path_commands closed v count)
  unfolding draw_path
  drawn_path =
      let p = checks_passed (path_checks closed v count) (Ok (path_commands closed v count)) cs e in
      let s = path_passed closed v count p.0 in
      (s.some, s.few, sym (ap list_of p.1))

  pub drawn_path_few : length cs ≤ 1026
  drawn_path_few = rw drawn_path.2 (path_commands_few closed v count drawn_path.0 drawn_path.1)
