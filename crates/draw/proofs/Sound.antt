-- What a drawing call answers is a sound command list: every number of it is within the limit of command lists. A refusal has no numbers. Assumes nothing.
use Rattle.std.specs.Prelude.{Ok, Err}
use mathlib.Core.Path.{◌≡◌, refl, subst}
use mathlib.Core.Bool.{true, false}
use mathlib.Core.List.{List, []}
use Prim.Native.Nat.{ℕ, ◌*◌, ◌^◌, ◌≤◌, ◌<◌}
use lib.Dec.{lit<}
use lib.Ieee.{Float, nan, of_bits}
use lib.Ieee.Exact.{HasValue}
use lib.ListN.{length, get_or, take, drop}
use Rattle.ieee.specs.Limit.{all_within, Bounded}
use Rattle.ieee.proofs.Bounds.{all_within→bounded, all_bounded_at}
use Rattle.command.specs.declared.PathCommand.{PathCommand}
use Rattle.command.specs.declared.Refusal.{Refusal}
use Rattle.command.specs.Commands.{numbers_of, command_limit}
use Rattle.command.specs.Outcomes.{Outcome, mapped, list_of}
use Rattle.command.proofs.Outcomes.{checks_hold}
use Rattle.path.specs.Path.{path_commands}
use Rattle.path.proofs.Accepted.{path_sound}
use Rattle.rect.proofs.Sound.{rect_sound}
use Rattle.ellipse.proofs.Sound.{ellipse_sound}
use Rattle.shape.specs.declared.Shape.{Shape}
use Rattle.shape.specs.declared.Shape.TheVariants.{Path, Ellipse}
use Rattle.shape.specs.Shape.{shape_commands}
use Rattle.item.specs.declared.ItemRow.{ItemRow}
use Rattle.item.specs.Rows.{item_row, is_path, entries_of}
use Rattle.draw.specs.Checks.{coordinate_limit}
use Rattle.draw.specs.Paths.{path_checks, draw_path}
use Rattle.draw.specs.Items.{rect_of, source_checks, shape_drawn, draw_source, item_checks, draw_item}
use Rattle.draw.proofs.ByKind.{kinds_hold}
use Rattle.draw.proofs.Sources.{source_passed, entries_dropped, path_passed}

-- the commands of an outcome are within the limit
abbrev pub SoundOutcome : Outcome (List PathCommand) → Type 0
SoundOutcome o = all_within command_limit (numbers_of (list_of o)) ≡ true

pub refusal_sound : all_within command_limit [] ≡ true
unfolding all_within
refusal_sound = refl

none_sound : (r : Refusal) → SoundOutcome (Err r)
none_sound r = refusal_sound

-- ---- a vertex list
pub draw_path_sound : (closed : ℕ) (v : List Float) (count : ℕ) → SoundOutcome (draw_path closed v count)
unfolding draw_path
draw_path_sound closed v count =
    checks_hold SoundOutcome none_sound (path_checks closed v count) (Ok (path_commands closed v count))
    (λ pass. let P = path_passed closed v count pass in path_sound closed count v P.numbers_within P.inside)

pub drawn_path_sound : (closed : ℕ) (v : List Float) (count : ℕ) (cs : List PathCommand) → draw_path closed v count ≡ Ok cs → all_within command_limit (numbers_of cs) ≡ true
drawn_path_sound closed v count cs e = subst SoundOutcome e (draw_path_sound closed v count)

-- ---- an item row
pub limit_value : HasValue coordinate_limit false (2 ^ 20) 1
unfolding of_bits
limit_value = (refl, refl)

-- a shape whose numbers stand at the start of v, kind by kind
shape_sound : (row : ItemRow) (v : List Float) → all_within coordinate_limit (take (entries_of row) v) ≡ true → entries_of row ≤ length v → SoundOutcome (shape_drawn row v)
unfolding shape_drawn shape_commands
shape_sound row v w h = kinds_hold SoundShape row v path rectangle ellipse (λ r. refusal_sound)
  where
    SoundShape : Outcome Shape → Type 0
    SoundShape o = SoundOutcome (mapped (λ (s : Shape). shape_commands s v) o)

    first : (n : ℕ) → entries_of row ≡ n → (i : ℕ) → i < n → Bounded (2 ^ 20) (get_or v i nan)
    first n e i l = all_bounded_at (2 ^ 20) n v (all_within→bounded (2 ^ 20) coordinate_limit (take n v) limit_value (rw e at w)) (rw e at h) i l

    path : is_path row ≡ true → entries_of row ≡ 6 * row.count → SoundShape (Ok (Path row.mark row.count))
    path p e = path_sound row.mark row.count v (rw e at w) (rw e at h)

    rectangle : is_path row ≡ false → entries_of row ≡ 5 → SoundShape (Ok (rect_of v))
    rectangle p e =
        let at = first 5 e in
        rect_sound (get_or v 0 nan) (get_or v 1 nan) (get_or v 2 nan) (get_or v 3 nan) (get_or v 4 nan) (at 0 (lit< tt)) (at 1 (lit< tt)) (at 2 (lit< tt)) (at 3 (lit< tt)) (at 4 (lit< tt))

    ellipse : is_path row ≡ false → entries_of row ≡ 4 → SoundShape (Ok Ellipse)
    ellipse p e =
        let at = first 4 e in
        ellipse_sound (get_or v 0 nan) (get_or v 1 nan) (get_or v 2 nan) (get_or v 3 nan) (at 0 (lit< tt)) (at 1 (lit< tt)) (at 2 (lit< tt)) (at 3 (lit< tt))

pub source_sound : (row : ItemRow) (items : List Float) → SoundOutcome (draw_source row items)
unfolding draw_source
source_sound row items =
    checks_hold SoundOutcome none_sound (source_checks row items) (shape_drawn row (drop row.place items))
    (λ pass. let P = source_passed row items pass in shape_sound row (drop row.place items) P.numbers_within (entries_dropped row items P.inside))

pub draw_item_sound : (row : List ℕ) (items : List Float) → SoundOutcome (draw_item row items)
unfolding draw_item
draw_item_sound row items = checks_hold SoundOutcome none_sound (item_checks row) (draw_source (item_row row 0) items) (λ pass. source_sound (item_row row 0) items)

pub drawn_item_sound : (row : List ℕ) (items : List Float) (cs : List PathCommand) → draw_item row items ≡ Ok cs → all_within command_limit (numbers_of cs) ≡ true
drawn_item_sound row items cs e = subst SoundOutcome e (draw_item_sound row items)
