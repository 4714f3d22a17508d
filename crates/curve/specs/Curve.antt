-- The length of a curve by chords: `eval_quad`, `eval_cubic`, `approx_quad_length` and `approx_cubic_length` of drawing_paths.rs, and `distance` of
-- values.rs. Definitions only.
use Rattle.std.specs.Prelude.{ℕ, zero, suc, pos, Float}
use Rattle.std.specs.Float.Ieee.{div, of_int, of_bits}
use Rattle.std.specs.Float.{binary32}
use Rattle.ieee.specs.Literal.{zero32, one32}
use Rattle.ieee.specs.Operators.{◌⊕◌, ◌⊖◌, ◌⊗◌}
use Rattle.ieee.specs.Fused.{fma}
use Rattle.ieee.specs.Root.{hypot_of}
use Rattle.point.specs.declared.Point.{Point}

-- 2.0
abbrev pub two32 : Float
two32 = of_bits binary32 0x4000_0000

-- 3.0
abbrev pub three32 : Float
three32 = of_bits binary32 0x4040_0000

-- `powi(2)` and `powi(3)`
abbrev pub squared : Float → Float
squared t = t ⊗ t

abbrev pub cubed : Float → Float
cubed t = t ⊗ (t ⊗ t)

unfoldable pub distance : Point → Point → Float
distance a b = hypot_of binary32 (b.x ⊖ a.x) (b.y ⊖ a.y)

-- One coordinate of `eval_quad`.
unfoldable pub quad_at : Float → Float → Float → Float → Float
quad_at start control end t =
    let u = one32 ⊖ t in
    let first = fma binary32 (u ⊗ u) start (two32 ⊗ u ⊗ t ⊗ control) in
    fma binary32 (t ⊗ t) end first

unfoldable pub eval_quad : Point → Point → Point → Float → Point
eval_quad start control end t = record {
  x = quad_at start.x control.x end.x t;
  y = quad_at start.y control.y end.y t;
}

-- One coordinate of `eval_cubic`.
unfoldable pub cubic_at : Float → Float → Float → Float → Float → Float
cubic_at start control1 control2 end t =
    let u = one32 ⊖ t in
    let first = fma binary32 (cubed u) start (three32 ⊗ squared u ⊗ t ⊗ control1) in
    let second = fma binary32 (three32 ⊗ u ⊗ squared t) control2 first in
    fma binary32 (cubed t) end second

unfoldable pub eval_cubic : Point → Point → Point → Point → Float → Point
eval_cubic start control1 control2 end t = record {
  x = cubic_at start.x control1.x control2.x end.x t;
  y = cubic_at start.y control1.y control2.y end.y t;
}

-- `step as f32 / steps as f32`
unfoldable pub step_of : ℕ → ℕ → Float
step_of steps step = div binary32 (of_int binary32 (pos step)) (of_int binary32 (pos steps))

-- The points between which a curve's chords run: the start, and the point of each step.
unfoldable pub quad_point : Point → Point → Point → ℕ → Point
quad_point start control end zero = start
quad_point start control end (suc n) = eval_quad start control end (step_of 24 (suc n))

unfoldable pub cubic_point : Point → Point → Point → Point → ℕ → Point
cubic_point start control1 control2 end zero = start
cubic_point start control1 control2 end (suc n) = eval_cubic start control1 control2 end (step_of 32 (suc n))

-- The first n chords between such points, added up from 0 one by one.
unfoldable pub chords : (ℕ → Point) → ℕ → Float
chords point zero = zero32
chords point (suc n) = chords point n ⊕ distance (point n) (point (suc n))

-- The length of the first n chords. Inside a curve the running length is the length before the curve plus this.
unfoldable pub quad_length_after : ℕ → Point → Point → Point → Float
quad_length_after n start control end = chords (quad_point start control end) n

unfoldable pub cubic_length_after : ℕ → Point → Point → Point → Point → Float
cubic_length_after n start control1 control2 end = chords (cubic_point start control1 control2 end) n

-- 24 chords a quad, 32 a cubic
abbrev pub quad_length : Point → Point → Point → Float
quad_length start control end = quad_length_after 24 start control end

abbrev pub cubic_length : Point → Point → Point → Point → Float
cubic_length start control1 control2 end = cubic_length_after 32 start control1 control2 end
