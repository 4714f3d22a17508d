-- Every number of a polystar's path is an f32, and the path is made of the eight numbers alone. Assumes nothing.
use Prim.Native.Nat.{ℕ, ◌<◌}
use mathlib.Core.Path.{◌≡◌}
use mathlib.Core.List.{List}
use lib.Dec.{lit<}
use lib.Ieee.{Float, nan}
use lib.ListN.{get_or}
use Rattle.ieee.specs.Single.{AllSingle}
use Rattle.ieee.specs.Operators.{◌⊗◌}
use Rattle.ieee.proofs.Single.{add_single}
use Rattle.command.specs.Commands.{numbers_of}
use Rattle.path.proofs.Single.{round_single}
use Rattle.angle.specs.Direction.{direction_of}
use Rattle.polystar.specs.declared.Polystar.{Polystar}
use Rattle.polystar.specs.Polystar.{polystar_of, turn_at, ring_at, vertex_toward, point_at, polystar_path}

-- an end is a sum, and a control point is one too
pub polystar_single : (star : Polystar) → AllSingle (numbers_of (polystar_path star))
unfolding polystar_path point_at vertex_toward
polystar_single star =
    round_single (point_at star) star.count
    (λ k h.
    let w = direction_of (turn_at star k) in
    (add_single star.centre.x ((ring_at star k).radius ⊗ w.cosine), add_single star.centre.y ((ring_at star k).radius ⊗ w.sine)))

-- all but the points, which are counted before
pub polystar_read : (mark count : ℕ) (v v' : List Float) → ((i : ℕ) → i < 8 → get_or v' i nan ≡ get_or v i nan) → polystar_of mark count v' ≡ polystar_of mark count v
unfolding polystar_of
polystar_read mark count v v' same =
    rw (same 0 (lit< tt), same 1 (lit< tt), same 3 (lit< tt), same 4 (lit< tt), same 5 (lit< tt), same 6 (lit< tt), same 7 (lit< tt))
