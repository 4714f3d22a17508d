-- Every number of a drawing is an f32 where those that are read are; a refusal has no numbers. Assumes nothing.
use Rattle.std.specs.Prelude.{Ok, Err}
use Prim.Native.Nat.{ℕ, ◌+◌, ◌*◌, ◌≤◌, ◌<◌}
use native.Mathlib.Omega.{arith}
use mathlib.Core.List.{List}
use lib.Dec.{lit<}
use lib.Ieee.{Float, nan}
use lib.ListN.{length, get_or, drop}
use lib.Seq.{get_or-drop}
use Rattle.command.specs.declared.PathCommand.{PathCommand}
use Rattle.command.specs.declared.Refusal.{Refusal}
use Rattle.command.specs.Commands.{numbers_of}
use Rattle.command.specs.Outcomes.{Outcome, mapped, list_of}
use Rattle.command.proofs.Outcomes.{checks_hold}
use Rattle.path.specs.Path.{path_commands}
use Rattle.shape.specs.declared.Shape.{Shape}
use Rattle.shape.specs.Shape.{shape_commands}
use Rattle.item.specs.declared.ItemRow.{ItemRow}
use Rattle.item.specs.Rows.{item_row, entries_of}
use Rattle.draw.specs.Paths.{path_checks, draw_path}
use Rattle.draw.specs.Items.{source_checks, shape_drawn, draw_source, item_checks, draw_item}
use Rattle.draw.proofs.ByKind.{kinds_hold}
use Rattle.draw.proofs.Sources.{source_passed, path_passed}
use Rattle.ieee.specs.Single.{AllSingle, Single}
use Rattle.rect.proofs.Single.{rect_single}
use Rattle.ellipse.proofs.Single.{ellipse_single}
use Rattle.path.proofs.Single.{commands_single}

abbrev SingleOutcome : Outcome (List PathCommand) → Type 0
SingleOutcome o = AllSingle (numbers_of (list_of o))

none_single : (r : Refusal) → SingleOutcome (Err r)
none_single r = tt

pub path_drawn_single : (closed count : ℕ) (v : List Float) → ((i : ℕ) → i < 6 * count → i < length v → Single (get_or v i nan)) → AllSingle (numbers_of (list_of (draw_path closed v count)))
unfolding draw_path
path_drawn_single closed count v at =
    checks_hold SingleOutcome none_single (path_checks closed v count) (Ok (path_commands closed v count))
    (λ pass. let inside = (path_passed closed v count pass).inside in commands_single closed count v (λ i h. at i h (omega arith)))

-- a shape whose numbers stand at the start of v, kind by kind
shape_single : (row : ItemRow) (v : List Float) → ((i : ℕ) → i < entries_of row → Single (get_or v i nan)) → SingleOutcome (shape_drawn row v)
unfolding shape_drawn shape_commands
shape_single row v at =
    kinds_hold (λ (o : Outcome Shape). SingleOutcome (mapped (λ (s : Shape). shape_commands s v) o)) row v
    (λ p e. commands_single row.mark row.count v (λ i h. at i (rw e h)))
    (λ p e. rect_single (get_or v 0 nan) (get_or v 1 nan) (get_or v 2 nan) (get_or v 3 nan) (get_or v 4 nan))
    (λ p e. ellipse_single (get_or v 0 nan) (get_or v 1 nan) (get_or v 2 nan) (get_or v 3 nan) (at 0 (rw e (lit< tt))) (at 1 (rw e (lit< tt))))
    (λ r. tt)

-- the numbers that are read are f32
abbrev pub ReadSingle : ItemRow → List Float → Type 0
ReadSingle row items = (i : ℕ) → row.place ≤ i → i < row.place + entries_of row → i < length items → Single (get_or items i nan)

pub source_single : (row : ItemRow) (items : List Float) → ReadSingle row items → AllSingle (numbers_of (list_of (draw_source row items)))
unfolding draw_source
source_single row items at =
    checks_hold SingleOutcome none_single (source_checks row items) (shape_drawn row (drop row.place items))
    (λ pass.
    let inside = (source_passed row items pass).inside in
    shape_single row (drop row.place items) (λ i h. rw (get_or-drop row.place items i nan) (at (row.place + i) (omega arith) (omega arith) (omega arith))))

pub item_drawn_single : (row : List ℕ) (items : List Float) → ReadSingle (item_row row 0) items → AllSingle (numbers_of (list_of (draw_item row items)))
unfolding draw_item
item_drawn_single row items at = checks_hold SingleOutcome none_single (item_checks row) (draw_source (item_row row 0) items) (λ pass. source_single (item_row row 0) items at)
