-- How much of a rectangle there is at most. Assumes nothing.
use mathlib.Core.Bool.{Bool, true, false, cond}
use Prim.Native.Nat.{◌≤◌}
use native.Mathlib.Omega.{arith}
use lib.ListN.{length}
use lib.Ieee.{Float, le}
use Rattle.command.specs.Commands.{numbers_of}
use Rattle.rect.specs.declared.Bounds.{Bounds}
use Rattle.rect.specs.Rect.{epsilon, plain_rect, round_rect, rect_path}

-- how many commands and numbers there are
pub rect_room_lem : (box : Bounds) (q : Float) → (length (rect_path box q) ≤ 10) × (length (numbers_of (rect_path box q)) ≤ 34)
unfolding rect_path
rect_room_lem box q = go (le q epsilon)
  where
    go : (t : Bool)
        → (length (cond t (plain_rect box) (round_rect box q)) ≤ 10) × (length (numbers_of (cond t (plain_rect box) (round_rect box q))) ≤ 34)
    go true = unfold plain_rect in (omega arith, omega arith)
    go false = unfold round_rect in (omega arith, omega arith)
