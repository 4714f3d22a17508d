-- What each way out of a function of this crate owes, as the code meets it. Assumes nothing.
use mathlib.Core.Path.{◌≡◌, ap₂}
use lib.Ieee.{Float, binary32}
use Rattle.ieee.specs.Literal.{one32}
use Rattle.ieee.specs.Fused.{fma}
use Rattle.ieee.specs.Root.{hypot_of}
use Rattle.point.specs.declared.Point.{Point}
use Rattle.ieee.specs.Operators.{◌⊖◌, ◌⊗◌}
use Rattle.curve.specs.Curve.{two32, three32, squared, cubed, distance, quad_at, eval_quad, cubic_at, eval_cubic}

pub distance_is : (a b : Point) (r : Float) → r ≡ hypot_of binary32 (b.x ⊖ a.x) (b.y ⊖ a.y) → r ≡ distance a b
unfolding distance
distance_is a b r e = e

-- ---- eval_quad
quad_at_lem : (s c e t inner r : Float)
    → inner ≡ fma binary32 ((one32 ⊖ t) ⊗ (one32 ⊖ t)) s (two32 ⊗ (one32 ⊖ t) ⊗ t ⊗ c)
    → r ≡ fma binary32 (t ⊗ t) e inner → r ≡ quad_at s c e t
unfolding quad_at
quad_at_lem s c e t inner r i o = rw i at o

pub quad_is : (start control end : Point) (t x1 x y1 y : Float)
    → x1 ≡ fma binary32 ((one32 ⊖ t) ⊗ (one32 ⊖ t)) start.x (two32 ⊗ (one32 ⊖ t) ⊗ t ⊗ control.x)
    → x ≡ fma binary32 (t ⊗ t) end.x x1
    → y1 ≡ fma binary32 ((one32 ⊖ t) ⊗ (one32 ⊖ t)) start.y (two32 ⊗ (one32 ⊖ t) ⊗ t ⊗ control.y)
    → y ≡ fma binary32 (t ⊗ t) end.y y1
    → ◌≡◌ {A = Point} (record { x = x; y = y }) (eval_quad start control end t)
unfolding eval_quad
quad_is start control end t x1 x y1 y a b c d =
    ap₂ (λ (x y : Float). record { x = x; y = y }) (quad_at_lem start.x control.x end.x t x1 x a b) (quad_at_lem start.y control.y end.y t y1 y c d)

-- ---- eval_cubic
cubic_at_lem : (s c1 c2 e t inner middle r : Float)
    → inner ≡ fma binary32 (cubed (one32 ⊖ t)) s (three32 ⊗ squared (one32 ⊖ t) ⊗ t ⊗ c1)
    → middle ≡ fma binary32 (three32 ⊗ (one32 ⊖ t) ⊗ squared t) c2 inner
    → r ≡ fma binary32 (cubed t) e middle → r ≡ cubic_at s c1 c2 e t
unfolding cubic_at
cubic_at_lem s c1 c2 e t inner middle r i m o = rw (m, i) at o

pub cubic_is : (start control1 control2 end : Point) (t x1 x2 x y1 y2 y : Float)
    → x1 ≡ fma binary32 (cubed (one32 ⊖ t)) start.x (three32 ⊗ squared (one32 ⊖ t) ⊗ t ⊗ control1.x)
    → y1 ≡ fma binary32 (cubed (one32 ⊖ t)) start.y (three32 ⊗ squared (one32 ⊖ t) ⊗ t ⊗ control1.y)
    → x2 ≡ fma binary32 (three32 ⊗ (one32 ⊖ t) ⊗ squared t) control2.x x1
    → y2 ≡ fma binary32 (three32 ⊗ (one32 ⊖ t) ⊗ squared t) control2.y y1
    → x ≡ fma binary32 (cubed t) end.x x2
    → y ≡ fma binary32 (cubed t) end.y y2
    → ◌≡◌ {A = Point} (record { x = x; y = y }) (eval_cubic start control1 control2 end t)
unfolding eval_cubic
cubic_is start control1 control2 end t x1 x2 x y1 y2 y a b c d e f =
    ap₂ (λ (x y : Float). record { x = x; y = y })
    (cubic_at_lem start.x control1.x control2.x end.x t x1 x2 x a c e)
    (cubic_at_lem start.y control1.y control2.y end.y t y1 y2 y b d f)

pub ruleset ways = (distance_is, quad_is, cubic_is)
