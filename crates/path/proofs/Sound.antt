-- The path of a vertex list is a sound command list: where the numbers of the vertices are at most 2 ^ 20, those of the commands are at most 2 ^ 22. A control point is a sum of
-- two, so 2 ^ 21 would do. Assumes nothing.
use mathlib.Core.Bool.{Bool, true, false, cond}
use mathlib.Core.List.{List, [], ◌∷◌, ◌++◌}
use Prim.Native.Nat.{ℕ, zero, suc, ◌+◌, ◌*◌, ◌≤◌, ◌<◌}
use native.Mathlib.Omega.{arith}
use lib.Ieee.{Float, nan, add, binary32}
use lib.ListN.{get_or, drop}
use lib.Seq.{get_or-drop}
use Rattle.ieee.specs.Limit.{Bounded, AllBounded}
use Rattle.ieee.proofs.Each.{each_append}
use Rattle.ieee.proofs.Bounds.{Reach, bounded_weaken, add_bounded}
use Rattle.command.specs.declared.PathCommand.TheVariants.{Line, Cubic, Close}
use Rattle.command.specs.Commands.{coordinates_of, numbers_of}
use Rattle.command.proofs.Bounds.{bounded_append}
use Rattle.path.specs.declared.BezierVertex.{BezierVertex}
use Rattle.path.specs.Path.{vertex_at, vertices_of, is_line, out_x, out_y, in_x, in_y, bezier_segment, bezier_segments, bezier_path}

-- ---- vertices whose six numbers are at most n
pub record VertexBounded (n : ℕ) (a : BezierVertex) : Type 0 where
  pub x_bounded : Bounded n a.x
  pub y_bounded : Bounded n a.y
  pub ix_bounded : Bounded n a.ix
  pub iy_bounded : Bounded n a.iy
  pub ox_bounded : Bounded n a.ox
  pub oy_bounded : Bounded n a.oy

abbrev pub VerticesBounded : ℕ → List BezierVertex → Type 0
VerticesBounded n [] = Unit {0}
VerticesBounded n (a ∷ vs) = VertexBounded n a × VerticesBounded n vs

add_last : (n : ℕ) (vs : List BezierVertex) (b : BezierVertex) → VerticesBounded n vs → VertexBounded n b → VerticesBounded n (vs ++ b ∷ [])
add_last n [] b A B = (B, tt)
add_last n (a ∷ vs) b A B = (A.0, add_last n vs b A.1 B)

pub vertices_bounded : (n count : ℕ) (v : List Float) → ((i : ℕ) → i < 6 * count → Bounded n (get_or v i nan)) → VerticesBounded n (vertices_of count v)
unfolding vertices_of
vertices_bounded n zero v b = tt
vertices_bounded n (suc count) v b = (first, vertices_bounded n count (drop 6 v) rest)
  where
    first : VertexBounded n (vertex_at v 0)
    first = record { x_bounded = b 0 (omega arith); y_bounded = b 1 (omega arith); ix_bounded = b 2 (omega arith); iy_bounded = b 3 (omega arith); ox_bounded = b 4 (omega arith); oy_bounded = b 5 (omega arith) }

    rest : (i : ℕ) → i < 6 * count → Bounded n (get_or (drop 6 v) i nan)
    rest i h = rw (get_or-drop 6 v i nan) (b (6 + i) (omega arith))

-- ---- commands whose numbers are at most c, where the sum of two numbers is
module _ (n c : ℕ) (W : n ≤ c) (R : Reach binary32 (n + n) c) where
  wide : (x : Float) → Bounded n x → Bounded c x
  wide x X = bounded_weaken n c x W X

  plus : (x y : Float) → Bounded n x → Bounded n y → Bounded c (add binary32 x y)
  plus x y X Y = add_bounded binary32 n n c x y R X Y

  segment_bounded : (a b : BezierVertex) → VertexBounded n a → VertexBounded n b → AllBounded c (coordinates_of (bezier_segment a b))
  unfolding bezier_segment
  segment_bounded a b A B = go (is_line a b)
    where
      x : Bounded c b.x
      x = wide b.x B.x_bounded

      y : Bounded c b.y
      y = wide b.y B.y_bounded

      go : (t : Bool) → AllBounded c (coordinates_of (cond t (Line b.x b.y) (Cubic (out_x a) (out_y a) (in_x b) (in_y b) b.x b.y)))
      go true = (x, (y, tt))
      go false =
          let cx = plus a.x a.ox A.x_bounded A.ox_bounded in
          let cy = plus a.y a.oy A.y_bounded A.oy_bounded in
          let dx = plus b.x b.ix B.x_bounded B.ix_bounded in
          let dy = plus b.y b.iy B.y_bounded B.iy_bounded in
          (cx, (cy, (dx, (dy, (x, (y, tt))))))

  segments_bounded : (a : BezierVertex) (bs : List BezierVertex) → VertexBounded n a → VerticesBounded n bs → AllBounded c (numbers_of (bezier_segments a bs))
  unfolding bezier_segments
  segments_bounded a [] A B = tt
  segments_bounded a (b ∷ bs) A B =
      each_append (Bounded c) (coordinates_of (bezier_segment a b)) (numbers_of (bezier_segments b bs)) (segment_bounded a b A B.0) (segments_bounded b bs B.0 B.1)

  pub bezier_bounded : (closed : Bool) (vs : List BezierVertex) → VerticesBounded n vs → AllBounded c (numbers_of (bezier_path closed vs))
  unfolding bezier_path
  bezier_bounded closed [] A = tt
  bezier_bounded closed (a ∷ []) A =
      let x = wide a.x A.0.x_bounded in
      let y = wide a.y A.0.y_bounded in
      (x, (y, (x, (y, tt))))
  bezier_bounded false (a ∷ (b ∷ bs)) A = (wide a.x A.0.x_bounded, (wide a.y A.0.y_bounded, segments_bounded a (b ∷ bs) A.0 A.1))
  bezier_bounded true (a ∷ (b ∷ bs)) A =
      let back = segments_bounded a ((b ∷ bs) ++ a ∷ []) A.0 (add_last n (b ∷ bs) a A.1 A.0) in
      (wide a.x A.0.x_bounded, (wide a.y A.0.y_bounded, bounded_append c (bezier_segments a ((b ∷ bs) ++ a ∷ [])) (Close ∷ []) back tt))
