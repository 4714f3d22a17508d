-- What a shape draws, and room that is enough for it. Definitions only.
use Rattle.std.specs.Prelude.{ℕ, ◌+◌, ◌*◌, ◌<◌, ◌≤◌, List, Float, length, get_or}
use Rattle.std.specs.Float.{nan}
use Rattle.command.specs.declared.PathCommand.{PathCommand}
use Rattle.path.specs.Path.{path_commands}
use Rattle.rect.specs.declared.Bounds.{Bounds}
use Rattle.rect.specs.declared.Frame.{Frame}
use Rattle.rect.specs.Bounds.{rect_bounds}
use Rattle.rect.specs.Rect.{rect_path}
use Rattle.ellipse.specs.Ellipse.{ellipse_path}
use Rattle.shape.specs.declared.Shape.{Shape}
use Rattle.shape.specs.declared.Shape.TheVariants.{Path, Rect, Ellipse}

-- the centre and the size that are the first four numbers of v
abbrev pub frame_of : List Float → Frame
frame_of v = record { centre = record { x = get_or v 0 nan; y = get_or v 1 nan }; size = record { x = get_or v 2 nan; y = get_or v 3 nan } }

-- the box whose centre and size are the first four numbers of v
abbrev pub bounds_of : List Float → Bounds
bounds_of v = rect_bounds (get_or v 0 nan) (get_or v 1 nan) (get_or v 2 nan) (get_or v 3 nan)

-- the commands of a shape whose numbers are the first ones of v: six a vertex, or centre and size
unfoldable pub shape_commands : Shape → List Float → List PathCommand
shape_commands (Path closed count) v = path_commands closed v count
shape_commands (Rect radius) v = rect_path (bounds_of v) radius
shape_commands Ellipse v = ellipse_path (get_or v 0 nan) (get_or v 1 nan) (get_or v 2 nan) (get_or v 3 nan)

-- how many numbers of its list a shape has: six a vertex, or centre and size
abbrev pub numbers_in : Shape → ℕ
numbers_in (Path closed count) = 6 * count
numbers_in (Rect radius) = 4
numbers_in Ellipse = 4

-- what the checks leave to the drawing of a shape: its numbers are there, those of one vertex or more and of at most 1,024
pub record Fit (s : Shape) (v : List Float) : Type 0 where
  pub some : 0 < numbers_in s
  pub few : numbers_in s ≤ 6 * 1024
  pub inside : numbers_in s ≤ length v

-- ---- Room that is enough for a shape, whatever its numbers: what it needs is within this (`shape_enough` in proofs/Enough.antt).

-- n vertices, open or closed: document 01's 'n + 2 codes and 6n + 2 numbers for n vertices, never less than a drawing writes'
abbrev pub path_room : ℕ → ℕ × ℕ
path_room n = (n + 2, 6 * n + 2)

-- a rectangle: what round corners need; sharp ones need 5 codes and 8 numbers
abbrev pub rect_room : ℕ × ℕ
rect_room = (10, 34)

-- an ellipse: every one needs just this
abbrev pub ellipse_room : ℕ × ℕ
ellipse_room = (6, 26)

abbrev pub enough_for : Shape → ℕ × ℕ
enough_for (Path closed count) = path_room count
enough_for (Rect radius) = rect_room
enough_for Ellipse = ellipse_room
