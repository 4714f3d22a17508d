-- One segment by the test whether it is a line: the command, how many numbers it has, and the place after them. Assumes nothing.
use mathlib.Core.Path.{◌≡◌, refl}
use mathlib.Core.Bool.{Bool, true, false, cond}
use Prim.Native.Nat.{ℕ, ◌+◌, ◌≤◌}
use native.Mathlib.Omega.{arith}
use lib.ListN.{length}
use Rattle.command.specs.declared.PathCommand.{PathCommand}
use Rattle.command.specs.declared.PathCommand.TheVariants.{Line, Cubic}
use Rattle.command.specs.Commands.{coordinates_of}
use Rattle.path.specs.declared.BezierVertex.{BezierVertex}
use Rattle.path.specs.Path.{out_x, out_y, in_x, in_y, is_line, bezier_segment}

module _ (a b : BezierVertex) where
  abbrev pub line_or_cubic : Bool → PathCommand
  line_or_cubic t = cond t (Line b.x b.y) (Cubic (out_x a) (out_y a) (in_x b) (in_y b) b.x b.y)

  pub segment_is : (t : Bool) → t ≡ is_line a b → bezier_segment a b ≡ line_or_cubic t
  unfolding bezier_segment
  segment_is t e = rw e

  -- an end, or two control points and an end
  pub segment_numbers : (2 ≤ length (coordinates_of (bezier_segment a b))) × (length (coordinates_of (bezier_segment a b)) ≤ 6)
  unfolding bezier_segment
  segment_numbers = go (is_line a b)
    where
      go : (t : Bool) → (2 ≤ length (coordinates_of (line_or_cubic t))) × (length (coordinates_of (line_or_cubic t)) ≤ 6)
      go true = (omega arith, omega arith)
      go false = (omega arith, omega arith)

  -- the place after the end is the place after the segment's numbers
  pub place_after : (t : Bool) (at end : ℕ) → t ≡ is_line a b → end ≡ cond t at (at + 4) → end + 2 ≡ at + length (coordinates_of (bezier_segment a b))
  place_after t at end t_is end_is = rw (segment_is t t_is, end_is) (go t)
    where
      go : (s : Bool) → cond s at (at + 4) + 2 ≡ at + length (coordinates_of (line_or_cubic s))
      go true = refl
      go false = omega arith
