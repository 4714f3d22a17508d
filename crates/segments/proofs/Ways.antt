-- What each way out of a function of this crate owes, as the code meets it: a premise for each test and for each call's result.
-- Assumes nothing.
use mathlib.Core.Path.{◌≡◌, refl, sym, ap, ◌∙◌}
use mathlib.Core.Bool.{Bool, true, false, not, ◌&&◌, and-eq-true_iff}
use Prim.Native.Nat.{ℕ, ◌+◌, ◌-◌, ◌*◌, ◌/◌, ◌<◌}
use native.Mathlib.Omega.{arith}
use lib.ListN.{length}
use Rattle.command.specs.declared.PathCommand.{PathCommand}
use Rattle.command.specs.Commands.{coordinates_of}
use Rattle.path.specs.declared.BezierVertex.{BezierVertex}
use Rattle.path.specs.Path.{approx_eq, approx_eq_point, out_x, out_y, in_x, in_y, bezier_segment}
use Rattle.path.proofs.Segment.{segment_is}
use Rattle.segments.specs.Leaves.{leaves, Passed}
use Rattle.segments.proofs.Tally.{rest, rest_step}

-- ---- cubics_before
leave_six : (a b : BezierVertex) → leaves a ≡ true → length (coordinates_of (bezier_segment a b)) ≡ 6
leave_six a b h =
    ap (λ (c : PathCommand). length (coordinates_of c))
    (segment_is a b false (go (approx_eq a.x (out_x a)) (approx_eq a.y (out_y a)) (approx_eq_point (in_x b) (in_y b) b.x b.y) h))
  where
    go : (t p q : Bool) → not t ≡ true → false ≡ ((t && p) && q)
    go true p q e = let z : ◌≡◌ {A = ℕ} 0 1 = cc in absurd (omega arith)
    go false p q e = refl

-- four more, where none of them may be a line
pub passed_four : (vertex : ℕ → BezierVertex) (count k : ℕ) → Passed vertex count (4 * k) → k < (count - 1) / 4 → (t : Bool)
    → t ≡ ((leaves (vertex (4 * k)) && leaves (vertex (4 * k + 1))) && (leaves (vertex (4 * k + 2)) && leaves (vertex (4 * k + 3)))) → t ≡ true
    → Passed vertex count (4 * (k + 1))
passed_four vertex count k P h t is e =
    let p = leaves (vertex (4 * k)) in
    let q = leaves (vertex (4 * k + 1)) in
    let r = leaves (vertex (4 * k + 2)) in
    let s = leaves (vertex (4 * k + 3)) in
    let all = (and-eq-true_iff (p && q) (r && s)).0 (sym is ∙ e) in
    let low = (and-eq-true_iff p q).0 all.0 in
    let high = (and-eq-true_iff r s).0 all.1 in
    record {
      inside = omega arith;
      same =
          omega (
            arith,
            P.same,
            step (4 * k) (4 * k + 1) refl (omega arith) low.0,
            step (4 * k + 1) (4 * k + 2) (omega arith) (omega arith) low.1,
            step (4 * k + 2) (4 * k + 3) (omega arith) (omega arith) high.0,
            step (4 * k + 3) (4 * (k + 1)) (omega arith) (omega arith) high.1,
          );
    }
  where
    step : (i j : ℕ) → i + 1 ≡ j → i + 1 < count → leaves (vertex i) ≡ true → rest vertex count i ≡ 6 + rest vertex count j
    step i j e g l =
        rest_step vertex count i g ∙ ap (λ (n : ℕ). n + rest vertex count (i + 1)) (leave_six (vertex i) (vertex (i + 1)) l)
        ∙ ap (λ (n : ℕ). 6 + rest vertex count n) e
