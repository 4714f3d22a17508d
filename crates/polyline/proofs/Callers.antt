-- What a caller of `polyline::length` cites: the points of a curve are finite where those that make it are within the limit of command lists. Assumes nothing.
use mathlib.Core.Logic.{∥∥₁_elim}
use Prim.Native.Nat.{ℕ, ◌^◌, ◌≤◌}
use native.Mathlib.Omega.{arith}
use lib.Dec.{T_prop}
use Rattle.ieee.proofs.Bounds.{bounded_finite}
use Rattle.point.specs.declared.Point.{Point}
use Rattle.curve.specs.Curve.{quad_point, cubic_point}
use Rattle.curve.proofs.Rising.{Inside, quad_inside, cubic_inside}
use Rattle.polyline.specs.Polyline.{IsFinite}

inside_finite : (b : ℕ) (p : Point) → Inside b p → IsFinite p
inside_finite b p I = record { x_finite = bounded_finite b p.x I.x_bounded; y_finite = bounded_finite b p.y I.y_bounded }

finite_prop : (p : Point) → IsProp (IsFinite p)
finite_prop p = hlevel T_prop

pub quad_finite : (start control end : Point) → ∥ Inside (2 ^ 22) start × Inside (2 ^ 22) control × Inside (2 ^ 22) end ∥₁ → (k : ℕ) → k ≤ 24 → IsFinite (quad_point start control end k)
quad_finite start control end I k h =
    ∥∥₁_elim I (finite_prop _) (λ i. inside_finite (2 ^ 29) (quad_point start control end k) (quad_inside 22 (omega arith) start control end i.0 i.1 i.2 k h))

pub cubic_finite : (start control1 control2 end : Point) → ∥ Inside (2 ^ 22) start × Inside (2 ^ 22) control1 × Inside (2 ^ 22) control2 × Inside (2 ^ 22) end ∥₁ → (k : ℕ) → k ≤ 32
    → IsFinite (cubic_point start control1 control2 end k)
cubic_finite start control1 control2 end I k h =
    ∥∥₁_elim I (finite_prop _) (λ i. inside_finite (2 ^ 29) (cubic_point start control1 control2 end k) (cubic_inside 22 (omega arith) start control1 control2 end i.0 i.1 i.2 i.3 k h))
