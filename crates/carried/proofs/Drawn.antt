-- The path of a list is a part of what each call draws: of its own drawing, of that of a row, and of that of a merge, after the rows before it.
-- Assumes nothing.
use Rattle.std.specs.Prelude.{Ok, Err}
use mathlib.Core.Path.{◌≡◌, refl, sym, ap, ap₂, ◌∙◌}
use mathlib.Core.Bool.{true}
use mathlib.Core.List.{List, [], ◌∷◌, ◌++◌, map, append-nil, append_assoc}
use Prim.Native.Nat.{ℕ, zero, suc, ◌<◌}
use native.Mathlib.Omega.{arith}
use lib.Ieee.{Float}
use lib.ListN.{length, get_or, take, drop}
use Rattle.command.specs.declared.PathCommand.{PathCommand}
use Rattle.command.specs.Outcomes.{Outcome, and_then, list_of}
use Rattle.command.proofs.Outcomes.{refused_accepted, checks_passed}
use Rattle.path.specs.Path.{path_commands}
use Rattle.shape.specs.Shape.{shape_commands}
use Rattle.item.specs.declared.ItemRow.{ItemRow}
use Rattle.item.specs.Rows.{item_row, is_path}
use Rattle.draw.specs.Items.{item_shape, source_checks, shape_drawn, draw_source, item_checks, draw_item}
use Rattle.draw.proofs.Sources.{drawn_path}
use Rattle.join.specs.Merge.{followed_by, draw_sources, draw_joined, draw_merge}
use Rattle.carried.specs.Segments.{DrawnIn}
use Rattle.draw.specs.Paths.{draw_path}
use Rattle.carried.proofs.Written.{wrote_commands}
use Rattle.carried.specs.Law.{PathDrawn, RowDrawn, SourceDrawn}

-- a drawing that is the path and nothing else
alone : (o : Outcome (List PathCommand)) (closed : ℕ) (v : List Float) (count : ℕ) → o ≡ Ok (path_commands closed v count) → DrawnIn o 0 closed v count
alone o closed v count e = record { before = []; after = []; place = refl; drawn = e ∙ ap Ok (sym (append-nil (path_commands closed v count))) }

pub path_drawn : PathDrawn
path_drawn closed v count codes numbers w =
    let (cs, e) = wrote_commands (draw_path closed v count) codes numbers w in
    alone _ closed v count (e ∙ ap Ok (drawn_path closed v count cs e).2)

-- ---- a row

-- the commands of a path row that is drawn
source_path : (row : ItemRow) (items : List Float) (cs : List PathCommand) → is_path row ≡ true → draw_source row items ≡ Ok cs
    → cs ≡ path_commands row.mark (drop row.place items) row.count
unfolding draw_source shape_drawn item_shape shape_commands
source_path row items cs path e =
    let v : List Float = drop row.place items in
    let drawn : shape_drawn row v ≡ Ok cs = (checks_passed (source_checks row items) (shape_drawn row v) cs e).1 in
    sym (ap list_of (rw path at drawn))

pub row_drawn : RowDrawn
unfolding draw_item
row_drawn row items codes numbers w path =
    let (cs, e) = wrote_commands (draw_item row items) codes numbers w in
    let s : draw_source (item_row row 0) items ≡ Ok cs = (checks_passed (item_checks row) (draw_source (item_row row 0) items) cs e).1 in
    alone _ _ _ _ (e ∙ ap Ok (source_path (item_row row 0) items cs path s))

-- ---- the rows of a merge

-- one drawing after another that is accepted: both are
record Followed (o p : Outcome (List PathCommand)) : Type 0 where
  first : List PathCommand
  second : List PathCommand
  first_is : o ≡ Ok first
  second_is : p ≡ Ok second

followed : (o p : Outcome (List PathCommand)) (cs : List PathCommand) → followed_by o p ≡ Ok cs → Followed o p
unfolding followed_by
followed (Err r) p cs e = refused_accepted r cs e
followed (Ok bs) (Err r) cs e = refused_accepted r cs e
followed (Ok bs) (Ok ds) cs e = record { first = bs; second = ds; first_is = refl; second_is = refl }

-- one row's path among those of others: what is drawn before it is the drawing of the rows before it
record PartDrawn (front o : Outcome (List PathCommand)) (closed : ℕ) (v : List Float) (count : ℕ) : Type 0 where
  before : List PathCommand
  after : List PathCommand
  before_is : front ≡ Ok before
  drawn : o ≡ Ok (before ++ path_commands closed v count ++ after)

module _ (rows : List ℕ) (items : List Float) where
  -- the drawing of the rows of these numbers
  abbrev rows_drawn : List ℕ → Outcome (List PathCommand)
  rows_drawn numbers = draw_sources (map (item_row rows) numbers) items

  -- a path row is drawn after the rows before it
  rows_part : (numbers : List ℕ) (index : ℕ) (row : ItemRow) (cs : List PathCommand) → index < length numbers → row ≡ item_row rows (get_or numbers index 0)
      → is_path row ≡ true → rows_drawn numbers ≡ Ok cs
      → PartDrawn (rows_drawn (take index numbers)) (rows_drawn numbers) row.mark (drop row.place items) row.count
  unfolding draw_sources followed_by
  rows_part [] index row cs h is path e = absurd (omega arith)
  rows_part (m ∷ ms) zero row cs h is path e =
      let f = followed (draw_source (item_row rows m) items) (rows_drawn ms) cs e in
      let own = source_path row items f.first path (ap (λ (r : ItemRow). draw_source r items) is ∙ f.first_is) in
      record {
        before = [];
        after = f.second;
        before_is = refl;
        drawn = ap₂ followed_by (f.first_is ∙ ap Ok own) f.second_is;
      }
  rows_part (m ∷ ms) (suc index) row cs h is path e =
      let f = followed (draw_source (item_row rows m) items) (rows_drawn ms) cs e in
      let later = rows_part ms index row f.second (omega arith) is path f.second_is in
      record {
        before = f.first ++ later.before;
        after = later.after;
        before_is = ap₂ followed_by f.first_is later.before_is;
        drawn = ap₂ followed_by f.first_is later.drawn ∙ simp append_assoc;
      }

pub source_drawn : SourceDrawn
unfolding draw_merge draw_joined
source_drawn rows n items joined index row codes numbers w decided h is path =
    let (cs, e) = wrote_commands (draw_merge rows n items) codes numbers w in
    let merged : draw_merge rows n items ≡ rows_drawn rows items joined = ap (λ (d : Outcome (List ℕ)). and_then d (draw_joined rows items)) decided in
    let part = rows_part rows items joined index row cs h is path (sym merged ∙ e) in
    record {
      before = part.before;
      after = part.after;
      place = sym (ap (λ (o : Outcome (List PathCommand)). length (list_of o)) part.before_is);
      drawn = merged ∙ part.drawn;
    }
