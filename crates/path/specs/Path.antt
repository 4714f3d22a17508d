-- The path of a vertex list: `build_bezier_path` of drawing_paths.rs, as a list of commands. Definitions only.
use Rattle.std.specs.Prelude.{ℕ, zero, suc, ◌+◌, ◌*◌, ◌≤◌, ◌<◌, Bool, true, false, cond, ◌&&◌, List, [], ◌∷◌, ◌++◌, Float, length, get_or, drop, eqb}
use Rattle.std.specs.Float.{nan, binary32}
use Rattle.std.specs.Float.Ieee.{add, sub}
use Rattle.ieee.specs.Literal.{ten_thousandth32}
use Rattle.ieee.specs.Limit.{within}
use Rattle.command.specs.declared.PathCommand.{PathCommand}
use Rattle.command.specs.declared.PathCommand.TheVariants.{Move, Line, Cubic, Close}
use Rattle.path.specs.declared.BezierVertex.{BezierVertex}

-- the six numbers of the vertex at place k: the vertex, its in-tangent, its out-tangent
abbrev pub vertex_at : List Float → ℕ → BezierVertex
vertex_at v k = record {
  x = get_or v (6 * k) nan;
  y = get_or v (6 * k + 1) nan;
  ix = get_or v (6 * k + 2) nan;
  iy = get_or v (6 * k + 3) nan;
  ox = get_or v (6 * k + 4) nan;
  oy = get_or v (6 * k + 5) nan;
}

-- the first n vertices of a list of numbers
unfoldable pub vertices_of : ℕ → List Float → List BezierVertex
vertices_of zero v = []
vertices_of (suc n) v = vertex_at v 0 ∷ vertices_of n (drop 6 v)

-- the vertices numbered from k on, n of them
unfoldable pub vertices_from : (ℕ → BezierVertex) → ℕ → ℕ → List BezierVertex
vertices_from vertex k zero = []
vertices_from vertex k (suc n) = vertex k ∷ vertices_from vertex (suc k) n

-- the f32 nearest to 1e-4, `EPSILON` of `approx_eq_vec2`
abbrev pub linear_tolerance : Float
linear_tolerance = ten_thousandth32

-- within 1e-4 of each other, equality included
abbrev pub approx_eq : Float → Float → Bool
approx_eq a b = within linear_tolerance (sub binary32 a b)

-- two points are within 1e-4 of each other in each axis
abbrev pub approx_eq_point : Float → Float → Float → Float → Bool
approx_eq_point ax ay bx by = approx_eq ax bx && approx_eq ay by

-- the control points of the segment from a to b are a plus its out-tangent and b plus its in-tangent
abbrev pub out_x : BezierVertex → Float
out_x a = add binary32 a.x a.ox

abbrev pub out_y : BezierVertex → Float
out_y a = add binary32 a.y a.oy

abbrev pub in_x : BezierVertex → Float
in_x b = add binary32 b.x b.ix

abbrev pub in_y : BezierVertex → Float
in_y b = add binary32 b.y b.iy

-- both control points are near their ends, `is_linear_segment`
abbrev pub is_line : BezierVertex → BezierVertex → Bool
is_line a b = approx_eq_point a.x a.y (out_x a) (out_y a) && approx_eq_point (in_x b) (in_y b) b.x b.y

-- the segment between two vertices: a line, or a cubic
unfoldable pub bezier_segment : BezierVertex → BezierVertex → PathCommand
bezier_segment a b = cond (is_line a b) (Line b.x b.y) (Cubic (out_x a) (out_y a) (in_x b) (in_y b) b.x b.y)

-- a segment per neighbour pair, from a on
unfoldable pub bezier_segments : BezierVertex → List BezierVertex → List PathCommand
bezier_segments a [] = []
bezier_segments a (b ∷ bs) = bezier_segment a b ∷ bezier_segments b bs

-- One vertex is a move and a line to it, flag ignored. If closed, the segments go on back to the first vertex, and a close follows.
unfoldable pub bezier_path : Bool → List BezierVertex → List PathCommand
unfolding bezier_segments
bezier_path closed [] = []
bezier_path closed (a ∷ []) = Move a.x a.y ∷ Line a.x a.y ∷ []
bezier_path false (a ∷ (b ∷ bs)) = Move a.x a.y ∷ bezier_segments a (b ∷ bs)
bezier_path true (a ∷ (b ∷ bs)) = Move a.x a.y ∷ bezier_segments a ((b ∷ bs) ++ a ∷ []) ++ Close ∷ []

-- how many commands that is, for one vertex or more
abbrev pub bezier_count : ℕ → ℕ → ℕ
bezier_count closed count = cond (eqb count 1) 2 (cond (eqb closed 1) (count + 2) count)

-- the commands of the first `count` vertices of v, with the closed flag as a number
unfoldable pub path_commands : ℕ → List Float → ℕ → List PathCommand
unfolding bezier_path vertices_of
path_commands closed v count = bezier_path (eqb closed 1) (vertices_of count v)

-- what the checks leave to the drawing of a vertex list
pub record Sound (v : List Float) (count : ℕ) : Type 0 where
  pub some : 0 < count
  pub few : count ≤ 1024
  pub inside : 6 * count ≤ length v
