-- What a shape that the checks let pass needs is within the room that is enough for it, and it has at most 1,026 commands. Assumes nothing.
use mathlib.Core.List.{List}
use Prim.Native.Nat.{ℕ, ◌≤◌}
use native.Mathlib.Omega.{arith}
use lib.ListN.{length, get_or}
use lib.Ieee.{Float, nan}
use Rattle.command.specs.Buffers.{size_of, Within}
use Rattle.command.proofs.Lists.{codes_length}
use Rattle.path.specs.Path.{Sound}
use Rattle.path.proofs.Paths.{path_commands_few}
use Rattle.path.proofs.Counts.{path_codes, path_numbers}
use Rattle.rect.proofs.Ways.{rect_room_lem}
use Rattle.rect.specs.Rect.{rect_path}
use Rattle.ellipse.specs.Ellipse.{ellipse_path}
use Rattle.ellipse.proofs.Ways.{ellipse_count, ellipse_numbers}
use Rattle.shape.specs.declared.Shape.{Shape}
use Rattle.shape.specs.declared.Shape.TheVariants.{Path, Rect, Ellipse}
use Rattle.shape.specs.Shape.{bounds_of, shape_commands, Fit, enough_for}

pub path_sound : (closed count : ℕ) (v : List Float) → Fit (Path closed count) v → Sound v count
path_sound closed count v f = record { some = omega (arith, f.some); few = omega (arith, f.few); inside = f.inside }

pub shape_enough : (s : Shape) (v : List Float) → Fit s v → Within (size_of (shape_commands s v)) (enough_for s)
unfolding shape_commands
shape_enough (Path closed count) v f =
    let sound = path_sound closed count v f in
    (path_codes closed v count sound.some, path_numbers closed v count sound.some)
shape_enough (Rect radius) v f = rw (codes_length (rect_path (bounds_of v) radius)) (rect_room_lem (bounds_of v) radius)
shape_enough Ellipse v f =
    let x = get_or v 0 nan in let y = get_or v 1 nan in let w = get_or v 2 nan in let h = get_or v 3 nan in
    (omega (arith, codes_length (ellipse_path x y w h), ellipse_count x y w h), omega (arith, ellipse_numbers x y w h))

pub few : (s : Shape) (v : List Float) → Fit s v → length (shape_commands s v) ≤ 1026
unfolding shape_commands
few (Path closed count) v f =
    let sound = path_sound closed count v f in
    path_commands_few closed v count sound.some sound.few
few (Rect radius) v f = omega (arith, (rect_room_lem (bounds_of v) radius).0)
few Ellipse v f = omega (arith, ellipse_count (get_or v 0 nan) (get_or v 1 nan) (get_or v 2 nan) (get_or v 3 nan))
