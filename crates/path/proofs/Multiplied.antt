-- The path of a vertex list on the grid of 1 / 1024, enlarged by a power of two: the same commands, with every number multiplied. Assumes nothing.
use mathlib.Core.Bool.{Bool, true, false, ◌&&◌}
use mathlib.Core.List.{List}
use Prim.Native.Nat.{ℕ, ◌*◌, ◌≤◌, ◌<◌}
use native.Mathlib.Omega.{arith}
use lib.Dec.{eqb, lit≤}
use lib.ListN.{get_or}
use lib.Ieee.{Float, nan, add, binary32}
use Rattle.ieee.specs.Grid.{Twin}
use Rattle.ieee.proofs.Twins.{twin_add}
use Rattle.command.specs.declared.PathCommand.TheVariants.{Move}
use Rattle.command.specs.Enlarged.{CommandTwin, Twins}
use Rattle.command.proofs.Enlarged.{twin_close, twin_move, twin_line, twin_cubic, twin_choice, twins_none, twins_cons, twins_append}
use Rattle.path.specs.declared.BezierVertex.{BezierVertex}
use Rattle.path.specs.Path.{bezier_segment, bezier_segments, bezier_path, path_commands}
use Rattle.path.proofs.Enlarged.{VertexTwin, VertexTwins, none, more, add_last, vertices_twins, wide, approx_same}

module _ {k : ℕ} (K : k ≤ 6) where
  plus : {x x' y y' : Float} → Twin k 10 13 x x' → Twin k 10 13 y y' → Twin k 10 14 (add binary32 x y) (add binary32 x' y')
  plus {x} {x'} {y} {y'} X Y = twin_add binary32 k 10 13 x x' y y' (lit≤ tt) (omega arith) X Y

  -- ---- segments
  segment_twin : {a a' b b' : BezierVertex} → VertexTwin k a a' → VertexTwin k b b' → CommandTwin k 10 14 (bezier_segment a b) (bezier_segment a' b')
  unfolding bezier_segment
  segment_twin A B =
      let cx = plus A.x_twin A.ox_twin in
      let cy = plus A.y_twin A.oy_twin in
      let dx = plus B.x_twin B.ix_twin in
      let dy = plus B.y_twin B.iy_twin in
      let x = wide B.x_twin in
      let y = wide B.y_twin in
      twin_choice (λ i. (approx_same K (wide A.x_twin) cx i && approx_same K (wide A.y_twin) cy i) && (approx_same K dx x i && approx_same K dy y i)) (twin_line x y) (twin_cubic cx cy dx dy x y)

  segments_twins : {a a' : BezierVertex} {bs bs' : List BezierVertex} → VertexTwin k a a' → VertexTwins k bs bs' → Twins k 10 14 (bezier_segments a bs) (bezier_segments a' bs')
  unfolding bezier_segments
  segments_twins A none = twins_none
  segments_twins A (more B Bs) = twins_cons (segment_twin A B) (segments_twins B Bs)

  -- ---- the path
  start_twin : {a a' : BezierVertex} → VertexTwin k a a' → CommandTwin k 10 14 (Move a.x a.y) (Move a'.x a'.y)
  start_twin A = twin_move (wide A.x_twin) (wide A.y_twin)

  bezier_twins : (closed : Bool) {vs vs' : List BezierVertex} → VertexTwins k vs vs' → Twins k 10 14 (bezier_path closed vs) (bezier_path closed vs')
  unfolding bezier_path
  bezier_twins closed none = twins_none
  bezier_twins closed (more A none) = twins_cons (start_twin A) (twins_cons (twin_line (wide A.x_twin) (wide A.y_twin)) twins_none)
  bezier_twins false (more A (more B Bs)) = twins_cons (start_twin A) (segments_twins A (more B Bs))
  bezier_twins true (more A (more B Bs)) = twins_cons (start_twin A) (twins_append (segments_twins A (add_last (more B Bs) A)) (twins_cons twin_close twins_none))

-- What stands past the vertices may differ freely.
pub path_twins : (k : ℕ) → k ≤ 6 → (closed count : ℕ) (v v' : List Float) → ((i : ℕ) → i < 6 * count → Twin k 10 13 (get_or v i nan) (get_or v' i nan))
    → Twins k 10 14 (path_commands closed v count) (path_commands closed v' count)
unfolding path_commands
path_twins k K closed count v v' twins = bezier_twins K (eqb closed 1) (vertices_twins k count v v' twins)
