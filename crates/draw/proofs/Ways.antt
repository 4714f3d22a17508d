-- What each way out of a function of this crate owes, as the code meets it: a premise for each test and for each call's result.
-- Assumes nothing.
use Rattle.std.specs.Prelude.{Ok, Err, ◌⊎◌}
use mathlib.Core.Path.{◌≡◌, sym, ap, ◌∙◌}
use mathlib.Core.Bool.{Bool, true, false, not}
use mathlib.Core.List.{List, [], ◌∷◌}
use Prim.Native.Nat.{ℕ, ◌+◌, ◌-◌, ◌*◌, ◌≤◌, ◌<◌}
use native.Mathlib.Nat.{le_refl}
use native.Mathlib.Omega.{arith}
use lib.Ieee.{Float, nan}
use lib.ListN.{length, get_or, take, drop, length-drop}
use lib.Seq.{length-take-le, take_all, get_or-take}
use borrow.Author.Tests.{eqb-false, lt-ltb, le-ltb}
use Rattle.ieee.specs.Limit.{all_within}
use Rattle.command.specs.declared.Refusal.{Refusal}
use Rattle.command.specs.declared.Refusal.TheVariants.{Empty, TooMany, OutOfRange, Unsupported, OutOfBounds}
use Rattle.command.specs.Outcomes.{Outcome, mapped, and_then, ◌gives◌, checked}
use Rattle.command.proofs.Outcomes.{checks_passed}
use Rattle.command.proofs.Verdicts.{behind_fault, behind_value, behind_refused, behind_passed, all_pass}
use Rattle.rect.specs.Rect.{corner_radius}
use Rattle.shape.specs.declared.Shape.TheVariants.{Path, Rect, Ellipse}
use Rattle.shape.specs.Shape.{shape_commands, Fit}
use Rattle.shape.specs.declared.Drawing.{Drawing}
use Rattle.shape.specs.Drawings.{commands_of}
use Rattle.item.specs.declared.Kind.TheVariants as Kind
use Rattle.item.specs.declared.ItemRow.{ItemRow}
use Rattle.item.specs.Rows.{item_row, row_of, entries_of}
use Rattle.path.specs.Path.{path_commands}
use Rattle.item.proofs.Entries.{entries_path, entries_rect, entries_ellipse}
use Rattle.draw.specs.Checks.{coordinate_limit}
use Rattle.draw.specs.Paths.{path_checks, draw_path}
use Rattle.draw.proofs.Sources.{SourcePassed, source_passed, path_passed}
use Rattle.draw.specs.Items.{is_held_back, has_no_vertices, item_shape, source_checks, shape_drawn, draw_source, item_checks, draw_item}

-- ---- check_path and draw_path
module _ (closed : ℕ) (v : List Float) (count : ℕ) where
  module _ (verdict : Outcome (Unit {0})) (verdict_is : verdict ≡ checked (path_checks closed v count) (Ok tt)) where
    pub path_ready : verdict ≡ Ok tt → Fit (Path closed count) v
    path_ready e =
        let P = path_passed closed v count (all_pass (path_checks closed v count) verdict verdict_is e) in
        record { some = omega (arith, P.some); few = omega (arith, P.few); inside = P.inside }

    pub path_fault : (r : Refusal) → verdict ≡ Err r → draw_path closed v count ≡ Err r
    unfolding draw_path
    path_fault r e = behind_refused (path_checks closed v count) verdict verdict_is r e (Ok (path_commands closed v count))

pub taken : (v : List Float) (n : ℕ) → n ≤ length v → n ≡ length (take n v)
taken v n h = sym (length-take-le n v h)

-- ---- shape_of
tail : (l : List Float) (a : ℕ) → take (length l - a) (drop a l) ≡ drop a l
tail l a = take_all (length l - a) (drop a l) (rw length-drop (le_refl (length l - a)))

module _ (row : ItemRow) (items : List Float) (some : has_no_vertices row ≡ false) (few : row.count ≤ 1024) (inside : row.place + entries_of row ≤ length items) where
  abbrev from : List Float
  from = drop row.place items

  -- the slice from the row's place on
  abbrev list : List Float
  list = take (length items - row.place) from

  list_is : list ≡ from
  list_is = tail items row.place

  list_long : length list ≡ length items - row.place
  list_long = ap length list_is ∙ length-drop row.place items

  pub place_inside : row.place ≤ length items
  place_inside = omega arith

  module _ (h : row.kind ≡ Kind.Path) where
    pub shape_path : Ok (shape_commands (Path row.mark row.count) list) ≡ shape_drawn row from
    unfolding shape_drawn item_shape
    shape_path = rw (h, list_is)

    pub path_fits : Fit (Path row.mark row.count) list
    path_fits =
        let is : entries_of row ≡ 6 * row.count = entries_path row (rw h) in
        let one : row.count ≡ 0 → ⊥ = eqb-false row.count 0 (rw h at some) in
        record { some = omega arith; few = omega arith; inside = omega (arith, list_long) }

  module _ (h : row.kind ≡ Kind.Rect) where
    five : entries_of row ≡ 5
    five = entries_rect row (rw h) (rw h)

    pub five_inside : 4 < length list
    five_inside = omega (arith, five, list_long)

    pub shape_rect : (radius : Float)
        → radius ≡ corner_radius (get_or list 2 nan) (get_or list 3 nan) (get_or list 4 nan)
        → Ok (shape_commands (Rect radius) list) ≡ shape_drawn row from
    unfolding shape_drawn item_shape
    shape_rect radius e = rw (h, e, list_is)

    pub rect_fits : (radius : Float) → Fit (Rect radius) list
    rect_fits radius = record { some = omega arith; few = omega arith; inside = omega (arith, five, list_long) }

  module _ (h : row.kind ≡ Kind.Ellipse) where
    pub shape_ellipse : Ok (shape_commands Ellipse list) ≡ shape_drawn row from
    unfolding shape_drawn item_shape
    shape_ellipse = rw (h, list_is)

    pub ellipse_fits : Fit Ellipse list
    ellipse_fits =
        let four : entries_of row ≡ 4 = entries_ellipse row (rw h) (rw h) (rw h) in
        record { some = omega arith; few = omega arith; inside = omega (arith, list_long) }

pub ruleset kinds = (
  place_inside,
  shape_path,
  path_fits,
  five_inside,
  shape_rect,
  rect_fits,
  shape_ellipse,
  ellipse_fits,
)

-- ---- check_source
module _ (row : ItemRow) (items : List Float) where
  abbrev v : List Float
  v = drop row.place items

  -- what the checks come to
  abbrev verdict : Outcome (Unit {0})
  verdict = checked (source_checks row items) (Ok tt)

  module _ (held : Bool) (held_is : held ≡ is_held_back row) where
    pub source_held : held ≡ true → Err Unsupported ≡ verdict
    unfolding source_checks
    source_held a = rw (← held_is, a)

    module _ (a : held ≡ false) (empty : Bool) (empty_is : empty ≡ has_no_vertices row) where
      pub source_empty : empty ≡ true → Err Empty ≡ verdict
      unfolding source_checks
      source_empty b = rw (← held_is, a, ← empty_is, b)

      module _ (b : empty ≡ false) where
        pub source_many : 1024 < row.count → Err TooMany ≡ verdict
        unfolding source_checks
        source_many c = rw (← held_is, a, ← empty_is, b, lt-ltb 1024 row.count c)

        module _ (c : row.count ≤ 1024) (n : ℕ) (n_is : n ≡ entries_of row) where
          source_outside : length items < row.place + entries_of row → Err OutOfBounds ≡ verdict
          unfolding source_checks
          source_outside d =
              rw (← held_is, a, ← empty_is, b, le-ltb 1024 row.count c, lt-ltb (length items) (row.place + entries_of row) d)

          pub source_short : (length items < n) ⊎ (length items - n < row.place) → Err OutOfBounds ≡ verdict
          source_short d = source_outside (omega arith)

          module _ (d : n ≤ length items) where
            module _ (e : row.place ≤ length items - n) where
              pub end_inside : row.place + n ≤ length items
              end_inside = omega arith

              entries_inside : row.place + entries_of row ≤ length items
              entries_inside = omega arith

              module _ (t : Bool) (t_is : t ≡ all_within coordinate_limit (take (row.place + n - row.place) v)) where
                same : take (row.place + n - row.place) v ≡ take (entries_of row) v
                same =
                    let e : row.place + n - row.place ≡ entries_of row = omega arith in
                    ap (λ (k : ℕ). take k v) e

                judged : t ≡ all_within coordinate_limit (take (entries_of row) v)
                judged = t_is ∙ ap (all_within coordinate_limit) same

                -- the last check, with the others passed
                last : checked ((not t gives OutOfRange) ∷ []) (Ok tt) ≡ verdict
                unfolding source_checks
                last =
                    rw (
                      ← held_is,
                      a,
                      ← empty_is,
                      b,
                      le-ltb 1024 row.count c,
                      le-ltb (length items) (row.place + entries_of row) entries_inside,
                      ← judged,
                    )

                pub source_beyond : t ≡ false → Err OutOfRange ≡ verdict
                source_beyond f = rw f at last

                pub source_passes : t ≡ true → Ok tt ≡ verdict
                source_passes f = rw f at last

pub ruleset sources = (
  source_held,
  source_empty,
  source_many,
  source_short,
  end_inside,
  source_beyond,
  source_passes,
)

-- ---- a row behind its checks: what shape_of asks, and what draw_source owes
module _ (row : ItemRow) (items : List Float) (u : Outcome (Unit {0})) (u_is : u ≡ checked (source_checks row items) (Ok tt)) where
  abbrev rest : List Float
  rest = drop row.place items

  pub source_fault : (r : Refusal) → u ≡ Err r → draw_source row items ≡ Err r
  unfolding draw_source
  source_fault r e = behind_refused (source_checks row items) u u_is r e (shape_drawn row rest)

  module _ (e : u ≡ Ok tt) where
    passed : SourcePassed row items
    passed = source_passed row items (all_pass (source_checks row items) u u_is e)

    pub some_vertices : has_no_vertices row ≡ false
    some_vertices = passed.some

    pub few_vertices : row.count ≤ 1024
    few_vertices = passed.few

    pub numbers_inside : row.place + entries_of row ≤ length items
    numbers_inside = passed.inside

    module _ (k : Outcome Drawing) (k_is : mapped commands_of k ≡ shape_drawn row rest) where
      pub source_made : mapped commands_of k ≡ draw_source row items
      unfolding draw_source
      source_made = k_is ∙ sym (behind_passed (source_checks row items) u u_is e (shape_drawn row rest))

      pub source_made_as : (o : Outcome Drawing) → k ≡ o → draw_source row items ≡ mapped commands_of o
      source_made_as o is = sym source_made ∙ ap (mapped commands_of) is

pub ruleset behind_checks = (some_vertices, few_vertices, numbers_inside)

-- ---- check_row
taken_at : (row : List ℕ) (k : ℕ) → k < 6 → get_or (take 6 row) k 0 ≡ get_or row k 0
taken_at row k h = get_or-take 6 row k 0 h

pub row_taken : (row entries : List ℕ) → entries ≡ take 6 row → row_of entries ≡ item_row row 0
row_taken row entries is = rw is (grind (arith, taken_at row))

-- ---- draw_item
module _ (row : List ℕ) (items : List Float) (u : Outcome ItemRow) (u_is : u ≡ checked (item_checks row) (Ok (item_row row 0))) where
  pub item_fault : (r : Refusal) → u ≡ Err r → draw_item row items ≡ Err r
  unfolding draw_item
  item_fault r e = behind_fault (item_checks row) (draw_source (item_row row 0) items) (item_row row 0) r (sym u_is ∙ e)

  pub item_drawn : (r : ItemRow) → u ≡ Ok r → draw_item row items ≡ draw_source r items
  unfolding draw_item
  item_drawn r e =
      let here : checked (item_checks row) (Ok (item_row row 0)) ≡ Ok r = sym u_is ∙ e in
      behind_value (item_checks row) (draw_source (item_row row 0) items) (item_row row 0) r here
      ∙ ap (λ (o : Outcome ItemRow). and_then o (λ (x : ItemRow). draw_source x items)) (checks_passed (item_checks row) (Ok (item_row row 0)) r here).1
