-- The path of a rectangle on the grid of 1 / 1024, enlarged by a power of two: the same commands, with every number multiplied. Assumes nothing.
use mathlib.Core.Path.{refl, sym, subst}
use mathlib.Core.Bool.{false}
use Prim.Native.Nat.{ℕ, ◌*◌, ◌^◌, ◌≤◌}
use native.Mathlib.Omega.{arith}
use lib.Dec.{lit≤, lit<}
use lib.Pow.{pow_pos}
use lib.Ieee.{Float, neg, of_bits, binary32}
use lib.Ieee.Exact.{HasValue}
use Rattle.ieee.specs.Literal.{zero32}
use Rattle.ieee.specs.Operators.{◌⊕◌, ◌⊖◌, ◌⊗◌}
use Rattle.ieee.specs.Sign.{abs}
use Rattle.ieee.specs.Choice.{min}
use Rattle.ieee.specs.Grid.{On, Twin}
use Rattle.ieee.proofs.Cut.{cut_exact}
use Rattle.ieee.proofs.Operations.{sub_is}
use Rattle.ieee.proofs.Twins.{finer, zero_twin, twin_abs, twin_add, twin_sub, twin_min, twin_clamp}
use Rattle.ieee.proofs.Counted.{Counted, counted, counted_neg, counted_add}
use Rattle.ieee.proofs.Limits.{twin_le_small}
use Rattle.command.specs.Enlarged.{Twins}
use Rattle.command.proofs.Enlarged.{twin_close, twin_move, twin_line, twin_cubic, twins_none, twins_cons, twins_choice}
use Rattle.rect.specs.declared.Bounds.{Bounds}
use Rattle.rect.specs.Bounds.{half, rect_bounds}
use Rattle.rect.specs.Rect.{epsilon, corner_radius, plain_rect, round_rect, rect_path}
use Rattle.rect.proofs.Box.{BoundsTwin, bounds_twin}
use Rattle.rect.proofs.Tangent.{half_twin, tangent_twin, number_twin, plus_tangent, less_tangent}

epsilon_value : HasValue epsilon false 1 (2 ^ 23)
unfolding of_bits
epsilon_value = (refl, refl)

-- ---- the box and the radius
-- What the commands need of them: besides the sides and the radius, the far sides less the radius, which are at most 2 ^ 15 too.
record RectTwin (k : ℕ) (box box' : Bounds) (q q' : Float) : Type 0 where
  sides : BoundsTwin k box box'
  radius_twin : Twin k 11 13 q q'
  right_inner : Twin k 11 15 (box.right ⊖ q) (box'.right ⊖ q')
  bottom_inner : Twin k 11 15 (box.bottom ⊖ q) (box'.bottom ⊖ q')

-- At most 2 ^ 14 + 2 ^ 13 + 2 ^ 13, which is 2 ^ 15. From powers of two alone it would be 2 ^ 16, since 2 ^ 14 + 2 ^ 13 is none.
far_counted : {l w : Float} → On 11 14 l → On 11 13 w → Counted 11 (3 * 2 ^ 24) (l ⊕ w)
far_counted {l} {w} L W =
    counted_add binary32 11 15 (lit≤ tt) (lit≤ tt) (3 * 2 ^ 24) (lit≤ tt) (cut_exact 24 3 24 (lit< tt)) (2 ^ 25) (2 ^ 24) l w (lit≤ tt) (counted L) (counted W)

inner_counted : {r q : Float} → Counted 11 (3 * 2 ^ 24) r → On 11 13 q → Counted 11 (1 * 2 ^ 26) (r ⊖ q)
inner_counted {r} {q} R Q =
    subst (λ (z : Float). Counted 11 (1 * 2 ^ 26) z) (sym (sub_is binary32 r q))
    (counted_add binary32 11 15 (lit≤ tt) (lit≤ tt) (1 * 2 ^ 26) (lit≤ tt) (cut_exact 24 1 26 (lit< tt)) (3 * 2 ^ 24) (2 ^ 24) r (neg q) (lit≤ tt) R
    (counted_neg (counted Q)))

inner_on : {l w q : Float} → On 11 14 l → On 11 13 w → On 11 13 q → On 11 15 ((l ⊕ w) ⊖ q)
inner_on L W Q =
    let inner = inner_counted (far_counted L W) Q in
    record { sign = inner.sign; count = inner.count; value = inner.value; bound = inner.bound }

module _ {k : ℕ} (K : k ≤ 6) where
  inner_twin : {l l' w w' q q' : Float} → Twin k 11 14 l l' → Twin k 10 13 w w' → Twin k 11 15 (l ⊕ w) (l' ⊕ w') → Twin k 11 13 q q'
      → Twin k 11 15 ((l ⊕ w) ⊖ q) ((l' ⊕ w') ⊖ q')
  inner_twin {l} {l'} {w} {w'} {q} {q'} L W far Q = record {
    grid = inner_on L.grid (finer 11 13 (lit≤ tt) (lit≤ tt) W).grid Q.grid;
    is = (twin_sub binary32 k 11 15 (l ⊕ w) (l' ⊕ w') q q' (lit≤ tt) (omega arith) far (finer 11 15 (lit≤ tt) (lit≤ tt) Q)).is;
  }

  -- the roundness, clamped to 0 .. half the smaller side
  corner_twin : {w w' h h' r r' : Float} → Twin k 10 13 w w' → Twin k 10 13 h h' → Twin k 10 13 r r' → Twin k 11 13 (corner_radius w h r) (corner_radius w' h' r')
  unfolding corner_radius
  corner_twin {w} {w'} {h} {h'} {r} {r'} W H R =
      let smaller = twin_min k 10 13 (abs w) (abs w') (abs h) (abs h') (twin_abs k 10 13 w w' W) (twin_abs k 10 13 h h' H) in
      twin_clamp k 11 13 zero32 zero32 (min (abs w) (abs h) ⊗ half) (min (abs w') (abs h') ⊗ half) r r' (zero_twin k 11 13) (half_twin K smaller)
      (finer 11 13 (lit≤ tt) (lit≤ tt) R)

  rect_twin : {cx cx' cy cy' w w' h h' r r' : Float} → Twin k 10 13 cx cx' → Twin k 10 13 cy cy' → Twin k 10 13 w w' → Twin k 10 13 h h' → Twin k 10 13 r r'
      → RectTwin k (rect_bounds cx cy w h) (rect_bounds cx' cy' w' h') (corner_radius w h r) (corner_radius w' h' r')
  unfolding rect_bounds
  rect_twin {w = w} {w' = w'} {h = h} {h' = h'} CX CY W H R =
      let B = bounds_twin K CX CY W H in
      let radius = corner_twin W H R in
      record {
        sides = B;
        radius_twin = radius;
        right_inner = inner_twin B.left_twin (twin_abs k 10 13 w w' W) B.right_twin radius;
        bottom_inner = inner_twin B.top_twin (twin_abs k 10 13 h h' H) B.bottom_twin radius;
      }

  -- ---- the commands
  plain_twins : {box box' : Bounds} → BoundsTwin k box box' → Twins k 35 16 (plain_rect box) (plain_rect box')
  unfolding plain_rect
  plain_twins B =
      let l = number_twin B.left_twin tt in
      let t = number_twin B.top_twin tt in
      let r = number_twin B.right_twin tt in
      let b = number_twin B.bottom_twin tt in
      twins_cons (twin_move l t) (twins_cons (twin_line r t) (twins_cons (twin_line r b) (twins_cons (twin_line l b) (twins_cons twin_close twins_none))))

  module _ {box box' : Bounds} {q q' : Float} (R : RectTwin k box box' q q') where
    -- a side plus the radius
    plus_radius : {x x' : Float} → Twin k 11 14 x x' → Twin k 11 15 (x ⊕ q) (x' ⊕ q')
    plus_radius {x} {x'} X = twin_add binary32 k 11 14 x x' q q' (lit≤ tt) (omega arith) X (finer 11 14 (lit≤ tt) (lit≤ tt) R.radius_twin)

    round_twins : Twins k 35 16 (round_rect box q) (round_rect box' q')
    unfolding round_rect
    round_twins =
        let l = number_twin R.sides.left_twin tt in
        let t = number_twin R.sides.top_twin tt in
        let r = number_twin R.sides.right_twin tt in
        let b = number_twin R.sides.bottom_twin tt in
        let lq = number_twin (plus_radius R.sides.left_twin) tt in
        let tq = number_twin (plus_radius R.sides.top_twin) tt in
        let rq = number_twin R.right_inner tt in
        let bq = number_twin R.bottom_inner tt in
        let tangent = tangent_twin K R.radius_twin in
        let ls = less_tangent K (plus_radius R.sides.left_twin) tangent in
        let ts = less_tangent K (plus_radius R.sides.top_twin) tangent in
        let rs = plus_tangent K R.right_inner tangent in
        let bs = plus_tangent K R.bottom_inner tangent in
        twins_cons (twin_move lq t)
        (twins_cons (twin_line rq t)
        (twins_cons (twin_cubic rs t r ts r tq)
        (twins_cons (twin_line r bq)
        (twins_cons (twin_cubic r bs rs b rq b)
        (twins_cons (twin_line lq b)
        (twins_cons (twin_cubic ls b l bs l bq)
        (twins_cons (twin_line l tq)
        (twins_cons (twin_cubic l ts ls t lq t)
        (twins_cons twin_close twins_none)))))))))

    path_twins : Twins k 35 16 (rect_path box q) (rect_path box' q')
    unfolding rect_path
    path_twins =
        twins_choice (twin_le_small k 11 13 q q' epsilon 1 (2 ^ 23) R.radius_twin (pow_pos 23) epsilon_value (lit< tt)) (plain_twins R.sides) round_twins

pub rect_twins : (k : ℕ) → k ≤ 6 → (cx cy w h r cx' cy' w' h' r' : Float)
    → Twin k 10 13 cx cx' → Twin k 10 13 cy cy' → Twin k 10 13 w w' → Twin k 10 13 h h' → Twin k 10 13 r r'
    → Twins k 35 16 (rect_path (rect_bounds cx cy w h) (corner_radius w h r)) (rect_path (rect_bounds cx' cy' w' h') (corner_radius w' h' r'))
rect_twins k K cx cy w h r cx' cy' w' h' r' CX CY W H R = path_twins K (rect_twin K CX CY W H R)
