-- The length of a line, a quad or a cubic whose coordinates are on a grid, enlarged by a power of two: it is multiplied too, as is the length after each of a curve's chords.
-- Assumes nothing.
use mathlib.Core.Bool.{Bool, true, ◌&&◌}
use mathlib.Core.List.{List, [], ◌∷◌}
use Prim.Native.Nat.{ℕ, zero, suc, ◌+◌, ◌≤◌, ◌<◌}
use native.Mathlib.Nat.{le_refl}
use native.Mathlib.Omega.{arith}
use lib.Dec.{T}
use lib.Ieee.{Float, binary32, add, sub, mul, div, neg, of_int, of_bits, of_fields, round, sum, size, units, odd, span, climb}
use lib.Ieee.Fits.{and_l, and_r}
use Rattle.ieee.specs.Literal.{one32}
use Rattle.ieee.specs.Operators.{◌⊖◌, ◌⊗◌}
use Rattle.ieee.specs.Fused.{fma}
use Rattle.ieee.specs.Grid.{on, On, Twin}
use Rattle.ieee.proofs.Tests.{all_up_to, up_to}
use Rattle.ieee.proofs.Grid.{on→On}
use Rattle.ieee.proofs.Twins.{finer, zero_twin, twin_add_absorb, twin_sub, twin_mul_right, twin_fma}
use Rattle.ieee.proofs.Hypot.{twin_hypot}
use Rattle.point.specs.declared.Point.{Point}
use Rattle.curve.specs.Curve.{two32, three32, squared, cubed, distance, quad_at, eval_quad, cubic_at, eval_cubic, step_of, quad_point, cubic_point, chords, quad_length_after, cubic_length_after}

-- p' is p with both coordinates times 2 ^ k, and those of p are on the grid
pub record PointTwin (k q b : ℕ) (p p' : Point) : Type 0 where
  pub x_twin : Twin k q b p.x p'.x
  pub y_twin : Twin k q b p.y p'.y

finer_point : {k q b : ℕ} (q' b' : ℕ) {p p' : Point} → q ≤ q' → b ≤ b' → PointTwin k q b p p' → PointTwin k q' b' p p'
finer_point q' b' Q B P = record { x_twin = finer q' b' Q B P.x_twin; y_twin = finer q' b' Q B P.y_twin }

-- ---- the weights at each step, by a computed test
-- the weights of a quad's start, control point and end
abbrev quad_weights : Float → List Float
quad_weights t = let u = one32 ⊖ t in u ⊗ u ∷ two32 ⊗ u ⊗ t ∷ t ⊗ t ∷ []

-- the weights of a cubic's start, control points and end
abbrev cubic_weights : Float → List Float
cubic_weights t = let u = one32 ⊖ t in cubed u ∷ three32 ⊗ squared u ⊗ t ∷ three32 ⊗ u ⊗ squared t ∷ cubed t ∷ []

-- whole multiples of 2 ^ -r, and at most 1: the test, and what it says
abbrev weights_on : ℕ → List Float → Bool
weights_on r [] = true
weights_on r (w ∷ ws) = on r 0 w && weights_on r ws

abbrev WeightsOn : ℕ → List Float → Type 0
WeightsOn r [] = Unit {0}
WeightsOn r (w ∷ ws) = On r 0 w × WeightsOn r ws

weights_on_lem : (r : ℕ) (ws : List Float) → T (weights_on r ws) → WeightsOn r ws
weights_on_lem r [] t = tt
weights_on_lem r (w ∷ ws) t = (on→On r 0 w (and_l (on r 0 w) (weights_on r ws) t), weights_on_lem r ws (and_r (on r 0 w) (weights_on r ws) t))

quad_test : T (all_up_to 24 (λ n. weights_on 33 (quad_weights (step_of 24 n))))
unfolding step_of add sub neg mul div of_int of_bits of_fields round sum size units odd span climb
quad_test = tt

cubic_test : T (all_up_to 32 (λ n. weights_on 15 (cubic_weights (step_of 32 n))))
unfolding step_of add sub neg mul div of_int of_bits of_fields round sum size units odd span climb
cubic_test = tt

quad_weights_lem : (n : ℕ) → n ≤ 24 → WeightsOn 33 (quad_weights (step_of 24 n))
quad_weights_lem n h = weights_on_lem 33 (quad_weights (step_of 24 n)) (up_to 24 (λ n. weights_on 33 (quad_weights (step_of 24 n))) quad_test n h)

cubic_weights_lem : (n : ℕ) → n ≤ 32 → WeightsOn 15 (cubic_weights (step_of 32 n))
cubic_weights_lem n h = weights_on_lem 15 (cubic_weights (step_of 32 n)) (up_to 32 (λ n. weights_on 15 (cubic_weights (step_of 32 n))) cubic_test n h)

-- ---- points of a curve
module _ {k q b r : ℕ} (Q : r + q ≤ 149) where
  -- a point times its weight, and one more of them added
  share : {w x x' : Float} → b + k ≤ 127 → On r 0 w → Twin k q b x x' → Twin k (r + q) b (w ⊗ x) (w ⊗ x')
  share {w} {x} {x'} B W X = finer (r + q) b (omega arith) (omega arith) (twin_mul_right binary32 k q b r 0 x x' w (omega arith) (omega arith) X W)

  more : {d : ℕ} {w x x' z z' : Float} → b ≤ d → suc d + k ≤ 127 → On r 0 w → Twin k q b x x' → Twin k (r + q) d z z' → Twin k (r + q) (suc d) (fma binary32 w x z) (fma binary32 w x' z')
  more {d} {w} {x} {x'} {z} {z'} D B W X Z = twin_fma binary32 k r 0 q b d d w x x' z z' Q (omega arith) (le_refl d) B W X Z

module _ {k q b : ℕ} (Q : 33 + q ≤ 149) (B : b + 2 + k ≤ 127) where
  quad_at_lem : (t : Float) {s s' c c' e e' : Float} → WeightsOn 33 (quad_weights t) → Twin k q b s s' → Twin k q b c c' → Twin k q b e e'
      → Twin k (33 + q) (suc (suc b)) (quad_at s c e t) (quad_at s' c' e' t)
  unfolding quad_at
  quad_at_lem t W S C E = more Q (omega arith) (omega arith) W.1.1.0 E (more Q (le_refl b) (omega arith) W.0 S (share Q (omega arith) W.1.0 C))

  module _ {s s' c c' e e' : Point} (S : PointTwin k q b s s') (C : PointTwin k q b c c') (E : PointTwin k q b e e') where
    quad_point_lem : (n : ℕ) → n ≤ 24 → PointTwin k (33 + q) (suc (suc b)) (quad_point s c e n) (quad_point s' c' e' n)
    unfolding quad_point eval_quad
    quad_point_lem zero h = finer_point (33 + q) (suc (suc b)) (omega arith) (omega arith) S
    quad_point_lem (suc n) h =
        let W = quad_weights_lem (suc n) h in
        record { x_twin = quad_at_lem (step_of 24 (suc n)) W S.x_twin C.x_twin E.x_twin; y_twin = quad_at_lem (step_of 24 (suc n)) W S.y_twin C.y_twin E.y_twin }

module _ {k q b : ℕ} (Q : 15 + q ≤ 149) (B : b + 3 + k ≤ 127) where
  cubic_at_lem : (t : Float) {s s' c c' d d' e e' : Float} → WeightsOn 15 (cubic_weights t) → Twin k q b s s' → Twin k q b c c' → Twin k q b d d' → Twin k q b e e'
      → Twin k (15 + q) (suc (suc (suc b))) (cubic_at s c d e t) (cubic_at s' c' d' e' t)
  unfolding cubic_at
  cubic_at_lem t W S C D E =
      more Q (omega arith) (omega arith) W.1.1.1.0 E
      (more Q (omega arith) (omega arith) W.1.1.0 D (more Q (le_refl b) (omega arith) W.0 S (share Q (omega arith) W.1.0 C)))

  module _ {s s' c c' d d' e e' : Point} (S : PointTwin k q b s s') (C : PointTwin k q b c c') (D : PointTwin k q b d d') (E : PointTwin k q b e e') where
    cubic_point_lem : (n : ℕ) → n ≤ 32 → PointTwin k (15 + q) (suc (suc (suc b))) (cubic_point s c d e n) (cubic_point s' c' d' e' n)
    unfolding cubic_point eval_cubic
    cubic_point_lem zero h = finer_point (15 + q) (suc (suc (suc b))) (omega arith) (omega arith) S
    cubic_point_lem (suc n) h =
        let W = cubic_weights_lem (suc n) h in
        record { x_twin = cubic_at_lem (step_of 32 (suc n)) W S.x_twin C.x_twin D.x_twin E.x_twin; y_twin = cubic_at_lem (step_of 32 (suc n)) W S.y_twin C.y_twin D.y_twin E.y_twin }

-- ---- chords
chord_twin : {k q b : ℕ} → q + 23 ≤ 149 → suc (suc b) + k ≤ 127 → {p p' r r' : Point} → PointTwin k q b p p' → PointTwin k q b r r'
    → Twin k (q + 23) (suc (suc b)) (distance p r) (distance p' r')
unfolding distance
chord_twin {k} {q} {b} Q B {p} {p'} {r} {r'} P R =
    let dx = twin_sub binary32 k q b r.x r'.x p.x p'.x (omega arith) (omega arith) R.x_twin P.x_twin in
    let dy = twin_sub binary32 k q b r.y r'.y p.y p'.y (omega arith) (omega arith) R.y_twin P.y_twin in
    twin_hypot binary32 k q (suc b) (r.x ⊖ p.x) (r'.x ⊖ p'.x) (r.y ⊖ p.y) (r'.y ⊖ p'.y) Q B dx dy

-- The bound is the same however many chords there are.
chords_twin : {k q b c : ℕ} → q + 23 ≤ 149 → b + 26 < c → c + k ≤ 127 → {p p' : ℕ → Point} (m : ℕ) → ((i : ℕ) → i ≤ m → PointTwin k q b (p i) (p' i))
    → (n : ℕ) → n ≤ m → Twin k (q + 23) c (chords p n) (chords p' n)
unfolding chords
chords_twin {k} {q} {b} {c} Q C K m P zero h = zero_twin k (q + 23) c
chords_twin {k} {q} {b} {c} Q C K {p} {p'} m P (suc n) h =
    twin_add_absorb binary32 k (q + 23) c (suc (suc b)) (chords p n) (chords p' n) (distance (p n) (p (suc n))) (distance (p' n) (p' (suc n))) Q K (omega arith)
    (chords_twin Q C K m P n (omega arith)) (chord_twin Q (omega arith) (P n (omega arith)) (P (suc n) h))

-- ---- the laws to cite: one grid and one bound for a line, a quad and a cubic
module _ (k q b : ℕ) (Q : q + 56 ≤ 149) (B : b + 30 + k ≤ 127) where
  pub distance_twin : {s s' e e' : Point} → PointTwin k q b s s' → PointTwin k q b e e' → Twin k (q + 56) (b + 30) (distance s e) (distance s' e')
  distance_twin S E = finer (q + 56) (b + 30) (omega arith) (omega arith) (chord_twin (omega arith) (omega arith) S E)

  pub quad_twin : {s s' c c' e e' : Point} → PointTwin k q b s s' → PointTwin k q b c c' → PointTwin k q b e e' → (n : ℕ) → n ≤ 24
      → Twin k (q + 56) (b + 30) (quad_length_after n s c e) (quad_length_after n s' c' e')
  unfolding quad_length_after
  quad_twin S C E n h =
      finer (q + 56) (b + 30) (omega arith) (omega arith)
      (chords_twin {c = b + 30} (omega arith) (omega arith) (omega arith) 24 (quad_point_lem (omega arith) (omega arith) S C E) n h)

  pub cubic_twin : {s s' c c' d d' e e' : Point} → PointTwin k q b s s' → PointTwin k q b c c' → PointTwin k q b d d' → PointTwin k q b e e' → (n : ℕ) → n ≤ 32
      → Twin k (q + 56) (b + 30) (cubic_length_after n s c d e) (cubic_length_after n s' c' d' e')
  unfolding cubic_length_after
  cubic_twin S C D E n h =
      finer (q + 56) (b + 30) (omega arith) (omega arith)
      (chords_twin {c = b + 30} (omega arith) (omega arith) (omega arith) 32 (cubic_point_lem (omega arith) (omega arith) S C D E) n h)
