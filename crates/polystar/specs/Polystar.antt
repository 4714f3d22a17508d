-- Polystars, the kind sr: request U5 of document 02, over `build_star_path`, `build_polygon_path` and `unit_perpendicular` of drawing_paths.rs. A mark says
-- whether one is a star or a polygon; its eight numbers stand at the start of a list: centre, points, outer radius, inner radius, outer and inner
-- roundness in percent, rotation in degrees. Definitions only.
use Rattle.std.specs.Prelude.{ℕ, ◌*◌, ◌%◌, ◌≤◌, ◌<◌, ◌≡◌, Bool, true, cond, ◌&&◌, ◌||◌, List, eqb, ltb, leb, pos, ◌+ℤ◌, ◌-ℤ◌, Float, length, get_or}
use Rattle.std.specs.Float.{nan, binary32}
use Rattle.std.specs.Float.Ieee.{of_bits, of_int, div, neg, le}
use Rattle.ieee.specs.Literal.{zero32, one32, hundred32, epsilon32, number_limit}
use Rattle.curve.specs.Curve.{two32}
use Rattle.ieee.specs.Operators.{◌⊕◌, ◌⊗◌}
use Rattle.ieee.specs.Sign.{abs}
use Rattle.ieee.specs.Limit.{within}
use Rattle.ieee.specs.Whole.{whole_near}
use Rattle.ieee.specs.Root.{hypot_of}
use Rattle.point.specs.declared.Point.{Point}
use Rattle.command.specs.declared.PathCommand.{PathCommand}
use Rattle.path.specs.declared.BezierVertex.{BezierVertex}
use Rattle.path.specs.Path.{vertices_from, bezier_path}
use Rattle.sine.specs.declared.Turn.{Turn}
use Rattle.angle.specs.declared.Direction.{Direction}
use Rattle.angle.specs.Sixteenths.{sixteenths_of, reduced}
use Rattle.angle.specs.Direction.{direction_of}
use Rattle.angle.proofs.Reduced.{reduced_below}
use Rattle.polystar.specs.declared.Ring.{Ring}
use Rattle.polystar.specs.declared.Polystar.{Polystar}

-- ---- the mark: '1 star, 2 polygon, plus 4 for direction 3'

abbrev pub is_star : ℕ → Bool
is_star mark = eqb (mark % 4) 1

-- direction 3: the points go round the other way
abbrev pub is_reversed : ℕ → Bool
is_reversed mark = leb 4 mark

-- ---- how many points, and 'no star'

-- of so many whole points: a star has an inner one after each
abbrev pub point_count : ℕ → ℕ → ℕ
point_count mark whole = cond (is_star mark) (2 * whole) whole

-- 'below 2 for a star or 3 for a polygon'
abbrev pub has_few_points : ℕ → ℕ → Bool
has_few_points mark whole = ltb whole (cond (is_star mark) 2 3)

-- 'at most 2^-23 in absolute value'
abbrev pub is_tiny : Float → Bool
is_tiny radius = within epsilon32 radius

-- 'a radius that this kind uses': a polygon does not use the inner one
abbrev pub is_degenerate : ℕ → ℕ → Float → Float → Bool
is_degenerate mark whole outer inner = has_few_points mark whole || is_tiny outer || (is_star mark && is_tiny inner)

-- ---- the tangents

-- 3.1415927, which is `PI`
abbrev pub pi32 : Float
pi32 = of_bits binary32 0x4049_0fdb

-- 4.0
abbrev pub four32 : Float
four32 = of_bits binary32 0x4080_0000

-- the perimeter's part for a point: of a star's `total_points as f32 * 2.0`, and of a polygon's `count as f32 * 4.0`
unfoldable pub perimeter_of : ℕ → ℕ → Float → Float
perimeter_of mark count radius = div binary32 (two32 ⊗ pi32 ⊗ radius) (of_int binary32 (pos count) ⊗ cond (is_star mark) two32 four32)

-- `direction`
abbrev pub sign_of : ℕ → Float
sign_of mark = cond (is_reversed mark) (neg one32) one32

-- the points at one distance from the centre: 'radii are taken absolute', roundness is a part of a hundred, then perimeter · roundness · direction
unfoldable pub ring_of : ℕ → ℕ → Float → Float → Ring
ring_of mark count radius roundness = record {
  radius = abs radius;
  tangent = perimeter_of mark count (abs radius) ⊗ div binary32 roundness hundred32 ⊗ sign_of mark;
}

-- ---- a polystar of so many points

-- where the first point stands: the rotation in sixteenths, rounded as in U4, minus 1,440
unfoldable pub start_of : Float → Turn
start_of rotation =
    let z = sixteenths_of rotation -ℤ pos 1440 in
    record { sixteenths = reduced z; reduced = reduced_below z }

-- every point of a polygon is an outer one
unfoldable pub polystar_of : ℕ → ℕ → List Float → Polystar
polystar_of mark count v =
    let outer = ring_of mark count (get_or v 3 nan) (get_or v 5 nan) in
    record {
      centre = record { x = get_or v 0 nan; y = get_or v 1 nan };
      count = count;
      start = start_of (get_or v 7 nan);
      reversed = is_reversed mark;
      outer = outer;
      inner = cond (is_star mark) (ring_of mark count (get_or v 4 nan) (get_or v 6 nan)) outer;
    }

-- ---- its points

-- 'the whole number nearest to 5,760 times i over m, half up'
abbrev pub steps_to : ℕ → ℕ → ℕ
steps_to m i = whole_near (5760 * i) m

-- where point i of so many stands: so many sixteenths of a degree on from the first point, or back for direction 3
unfoldable pub turn_from : ℕ → ℕ → Bool → ℕ → ℕ
turn_from count start reversed i = reduced (cond reversed (pos start -ℤ pos (steps_to count i)) (pos start +ℤ pos (steps_to count i)))

abbrev pub turn_at : Polystar → ℕ → ℕ
turn_at star i = turn_from star.count star.start.sixteenths star.reversed i

-- `long_flag`: the points of even number are outer ones
abbrev pub ring_at : Polystar → ℕ → Ring
ring_at star i = cond (eqb (i % 2) 0) star.outer star.inner

-- a vector of length 1 across the one to (x, y); a point within 2^-23 of the centre has none
unfoldable pub unit_perpendicular : Float → Float → Point
unit_perpendicular x y =
    let length = hypot_of binary32 x y in
    cond (le length epsilon32) (record { x = zero32; y = zero32 }) (record { x = div binary32 y length; y = div binary32 (neg x) length })

-- the vertex at a distance from the centre in a direction, with its tangents
unfoldable pub vertex_toward : Float → Float → Ring → Direction → BezierVertex
vertex_toward cx cy ring toward =
    let x = ring.radius ⊗ toward.cosine in
    let y = ring.radius ⊗ toward.sine in
    let normal = unit_perpendicular x y in
    record {
      x = cx ⊕ x;
      y = cy ⊕ y;
      ix = normal.x ⊗ ring.tangent;
      iy = normal.y ⊗ ring.tangent;
      ox = neg normal.x ⊗ ring.tangent;
      oy = neg normal.y ⊗ ring.tangent;
    }

unfoldable pub point_at : Polystar → ℕ → BezierVertex
point_at star i = vertex_toward star.centre.x star.centre.y (ring_at star i) (direction_of (turn_at star i))

-- ---- its path: that of its vertices, closed

unfoldable pub polystar_path : Polystar → List PathCommand
unfolding bezier_path vertices_from
polystar_path star = bezier_path true (vertices_from (point_at star) 0 star.count)

-- ---- what the checks leave to the drawing of one

pub record Drawable (count : ℕ) (v : List Float) : Type 0 where
  pub some : 2 < count
  pub few : count ≤ 1024
  pub inside : 8 ≤ length v
  pub rotation_within : within number_limit (get_or v 7 nan) ≡ true

pub record Sound (star : Polystar) : Type 0 where
  pub some : 2 < star.count
  pub few : star.count ≤ 1024
