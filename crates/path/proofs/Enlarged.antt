-- Vertices on the grid of 1 / 1024 and their multiples by a power of two, and the test for a line between them. Assumes nothing.
use mathlib.Core.Path.{◌≡◌, refl}
use mathlib.Core.Bool.{false}
use mathlib.Core.List.{List, [], ◌∷◌, ◌++◌}
use Prim.Native.Nat.{ℕ, zero, suc, ◌+◌, ◌*◌, ◌^◌, ◌≤◌, ◌<◌}
use native.Mathlib.Nat.{le_refl}
use native.Mathlib.Omega.{arith}
use lib.Dec.{lit≤, lit<}
use lib.Pow.{pow_pos}
use lib.ListN.{get_or, drop}
use lib.Seq.{get_or-drop}
use lib.Ieee.{Float, nan, sub, of_bits, binary32}
use lib.Ieee.Exact.{HasValue}
use Rattle.ieee.specs.Grid.{Twin}
use Rattle.ieee.proofs.Twins.{twin_weaken, twin_sub}
use Rattle.ieee.proofs.Limits.{twin_small}
use Rattle.path.specs.declared.BezierVertex.{BezierVertex}
use Rattle.path.specs.Path.{vertex_at, vertices_of, linear_tolerance, approx_eq}

-- ---- vertices
-- the six numbers of a vertex and of its multiple
pub record VertexTwin (k : ℕ) (a a' : BezierVertex) : Type 0 where
  pub x_twin : Twin k 10 13 a.x a'.x
  pub y_twin : Twin k 10 13 a.y a'.y
  pub ix_twin : Twin k 10 13 a.ix a'.ix
  pub iy_twin : Twin k 10 13 a.iy a'.iy
  pub ox_twin : Twin k 10 13 a.ox a'.ox
  pub oy_twin : Twin k 10 13 a.oy a'.oy

-- two lists of them, of one length
pub data VertexTwins (k : ℕ) : List BezierVertex → List BezierVertex → Type 0 where
  none : VertexTwins k [] []
  more : {a a' : BezierVertex} {vs vs' : List BezierVertex} → VertexTwin k a a' → VertexTwins k vs vs' → VertexTwins k (a ∷ vs) (a' ∷ vs')

pub add_last : {k : ℕ} {vs vs' : List BezierVertex} {b b' : BezierVertex} → VertexTwins k vs vs' → VertexTwin k b b' → VertexTwins k (vs ++ b ∷ []) (vs' ++ b' ∷ [])
add_last none B = more B none
add_last (more A As) B = more A (add_last As B)

pub vertices_twins : (k n : ℕ) (v v' : List Float) → ((i : ℕ) → i < 6 * n → Twin k 10 13 (get_or v i nan) (get_or v' i nan)) → VertexTwins k (vertices_of n v) (vertices_of n v')
unfolding vertices_of
vertices_twins k zero v v' twins = none
vertices_twins k (suc n) v v' twins = more first (vertices_twins k n (drop 6 v) (drop 6 v') rest)
  where
    first : VertexTwin k (vertex_at v 0) (vertex_at v' 0)
    first = record { x_twin = twins 0 (omega arith); y_twin = twins 1 (omega arith); ix_twin = twins 2 (omega arith); iy_twin = twins 3 (omega arith); ox_twin = twins 4 (omega arith); oy_twin = twins 5 (omega arith) }

    rest : (i : ℕ) → i < 6 * n → Twin k 10 13 (get_or (drop 6 v) i nan) (get_or (drop 6 v') i nan)
    rest i h = rw (get_or-drop 6 v i nan, get_or-drop 6 v' i nan) (twins (6 + i) (omega arith))

-- the f32 nearest to 1e-4
tolerance_value : HasValue linear_tolerance false 13743895 (2 ^ 37)
unfolding of_bits
tolerance_value = (refl, refl)

pub wide : {k : ℕ} {x x' : Float} → Twin k 10 13 x x' → Twin k 10 14 x x'
wide {k} {x} {x'} X = twin_weaken k 10 13 10 14 x x' (le_refl 10) (lit≤ tt) X

module _ {k : ℕ} (K : k ≤ 6) where
  -- ---- the test for a line: on this grid, within 1e-4 is equal
  pub approx_same : {a a' b b' : Float} → Twin k 10 14 a a' → Twin k 10 14 b b' → approx_eq a' b' ≡ approx_eq a b
  approx_same {a} {a'} {b} {b'} A B =
      twin_small k 10 15 (sub binary32 a b) (sub binary32 a' b') linear_tolerance 13743895 (2 ^ 37)
      (twin_sub binary32 k 10 14 a a' b b' (lit≤ tt) (omega arith) A B) (pow_pos 37) tolerance_value (lit< tt)
