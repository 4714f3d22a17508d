-- Laws of vertices that are worked out by number: how many they are, each of them, the segments between them, and a closed path of them as a move,
-- these, the segment back and a close. Assumes nothing.
use mathlib.Core.Path.{◌≡◌, refl, ap, ap₂, ◌∙◌}
use mathlib.Core.Bool.{Bool, true, false}
use mathlib.Core.List.{List, [], ◌∷◌, ◌++◌, append_assoc, append-nil}
use Prim.Native.Nat.{ℕ, zero, suc, ◌+◌, ◌-◌, ◌≤◌, ◌<◌}
use native.Mathlib.Nat.{not-suc-le-zero, le_of_suc-le-suc}
use native.Mathlib.Omega.{arith}
use lib.Ieee.{Float}
use lib.ListN.{length, get_or, drop}
use lib.Dec.{eqb}
use mir.Val.{Fits}
use mir.Syntax.{w64}
use Rattle.command.specs.declared.PathCommand.{PathCommand}
use Rattle.command.specs.declared.PathCommand.TheVariants.{Move, Line, Close}
use Rattle.command.specs.Commands.{coordinates_of, numbers_of}
use Rattle.command.proofs.Lists.{numbers_append}
use Rattle.path.specs.declared.BezierVertex.{BezierVertex}
use Rattle.path.specs.Path.{vertex_at, vertices_of, vertices_from, bezier_segment, bezier_segments, bezier_path, path_commands}
use Rattle.path.specs.Between.{segments_along, path_along}
use Rattle.path.proofs.Paths.{shift, segments_length, segments_at, last_of, segments_more}

pub next_fits : (count : ℕ) → count ≤ 1024 → (k : ℕ) → k < count → Fits w64 (k + 1)
next_fits count few k h = record { fits = omega arith }

module _ (vertex : ℕ → BezierVertex) where
  pub from_length : (k n : ℕ) → length (vertices_from vertex k n) ≡ n
  unfolding vertices_from
  from_length k zero = refl
  from_length k (suc n) = ap suc (from_length (suc k) n)

  pub from_at : (k n j : ℕ) (d : BezierVertex) → j < n → get_or (vertices_from vertex k n) j d ≡ vertex (k + j)
  unfolding vertices_from
  from_at k zero j d h = absurd (not-suc-le-zero h)
  from_at k (suc n) zero d h = ap vertex (omega arith)
  from_at k (suc n) (suc j) d h = from_at (suc k) n j d (le_of_suc-le-suc h) ∙ ap vertex (omega arith)

pub last_from : (vertex : ℕ → BezierVertex) (k n : ℕ) → last_of (vertex k) (vertices_from vertex (suc k) n) ≡ vertex (k + n)
unfolding vertices_from last_of
last_from vertex k zero = ap vertex (omega arith)
last_from vertex k (suc n) = last_from vertex (suc k) n ∙ ap vertex (omega arith)

module _ (vertex : ℕ → BezierVertex) (count : ℕ) where
  pub along_length : length (segments_along vertex count) ≡ count - 1
  unfolding segments_along
  along_length = segments_length (vertex 0) (vertices_from vertex 1 (count - 1)) ∙ from_length vertex 1 (count - 1)

  pub along_at : (k : ℕ) → k + 1 < count → get_or (segments_along vertex count) k Close ≡ bezier_segment (vertex k) (vertex (k + 1))
  unfolding segments_along vertices_from
  along_at k h =
      let n = count - 1 in
      let bs = vertices_from vertex 1 n in
      let inside : k < length bs = rw (from_length vertex 1 n) (omega arith) in
      segments_at (vertex 0) bs k (vertex 0) inside
      ∙ ap₂ bezier_segment (from_at vertex 0 (suc n) k (vertex 0) (omega arith) ∙ ap vertex (omega arith))
      (from_at vertex 1 n k (vertex 0) (omega arith) ∙ ap vertex (omega arith))

module _ (vertex : ℕ → BezierVertex) where
  abbrev start : PathCommand
  start = Move (vertex 0).x (vertex 0).y

  -- an open path is a move and the segments between the vertices
  pub open_is : (count : ℕ) → 1 < count → bezier_path false (vertices_from vertex 0 count) ≡ Move (vertex 0).x (vertex 0).y ∷ segments_along vertex count
  unfolding bezier_path vertices_from segments_along
  open_is zero h = absurd (omega arith)
  open_is (suc zero) h = absurd (omega arith)
  open_is (suc (suc m)) h =
      let e : suc (suc m) - 1 ≡ suc m = omega arith in
      rw e

  -- a closed one has the segment back to the first vertex and a close after these
  pub round_is : (count : ℕ) → 1 < count → bezier_path true (vertices_from vertex 0 count)
      ≡ (Move (vertex 0).x (vertex 0).y ∷ segments_along vertex count) ++ bezier_segment (vertex (count - 1)) (vertex 0) ∷ Close ∷ []
  unfolding bezier_path vertices_from segments_along
  round_is zero h = absurd (omega arith)
  round_is (suc zero) h = absurd (omega arith)
  round_is (suc (suc m)) h =
      let e : suc (suc m) - 1 ≡ suc m = omega arith in
      let first = vertex 0 in
      let bs = vertices_from vertex 1 (suc m) in
      rw e
      (ap (λ (cs : List PathCommand). start ∷ (cs ++ Close ∷ [])) (segments_more first bs first)
      ∙ ap (λ (cs : List PathCommand). start ∷ cs) (append_assoc (bezier_segments first bs) (bezier_segment (last_of first bs) first ∷ []) (Close ∷ []))
      ∙ ap (λ (z : BezierVertex). start ∷ (bezier_segments first bs ++ bezier_segment z first ∷ Close ∷ []))
      (last_from vertex 0 (suc m) ∙ ap vertex (omega arith)))

module _ (vertex : ℕ → BezierVertex) (count : ℕ) where
  abbrev pub begin : PathCommand
  begin = Move (vertex 0).x (vertex 0).y

  -- one vertex is a move and a line to it, open or closed
  pub along_one : (c : Bool) → count ≡ 1 → path_along c vertex count ≡ begin ∷ Line (vertex 0).x (vertex 0).y ∷ []
  unfolding path_along bezier_path vertices_from
  along_one true e = rw e
  along_one false e = rw e

  -- an open path is a move and the segments between the vertices
  pub along_open : 1 < count → path_along false vertex count ≡ begin ∷ segments_along vertex count
  unfolding path_along
  along_open h = open_is vertex count h

  -- a closed one has the segment back to the first vertex and a close after these
  pub along_closed : 1 < count
      → path_along true vertex count ≡ (begin ∷ segments_along vertex count) ++ bezier_segment (vertex (count - 1)) (vertex 0) ∷ Close ∷ []
  unfolding path_along
  along_closed h = round_is vertex count h

-- ---- the vertices of a list of numbers
from_next : (vertex : ℕ → BezierVertex) (k n : ℕ) → vertices_from (λ (j : ℕ). vertex (suc j)) k n ≡ vertices_from vertex (suc k) n
unfolding vertices_from
from_next vertex k zero = refl
from_next vertex k (suc n) = ap (λ (l : List BezierVertex). vertex (suc k) ∷ l) (from_next vertex (suc k) n)

from_same : (f g : ℕ → BezierVertex) → ((j : ℕ) → f j ≡ g j) → (k n : ℕ) → vertices_from f k n ≡ vertices_from g k n
unfolding vertices_from
from_same f g same k zero = refl
from_same f g same k (suc n) = ap₂ (λ (a : BezierVertex) (l : List BezierVertex). a ∷ l) (same k) (from_same f g same (suc k) n)

listed : (n : ℕ) (v : List Float) → vertices_of n v ≡ vertices_from (vertex_at v) 0 n
unfolding vertices_of vertices_from
listed zero v = refl
listed (suc n) v =
    ap (λ (l : List BezierVertex). vertex_at v 0 ∷ l)
    (listed n (drop 6 v) ∙ from_same (vertex_at (drop 6 v)) (λ (j : ℕ). vertex_at v (suc j)) (shift v) 0 n ∙ from_next (vertex_at v) 0 n)

pub commands_along : (closed count : ℕ) (v : List Float) → path_commands closed v count ≡ path_along (eqb closed 1) (vertex_at v) count
unfolding path_commands path_along
commands_along closed count v = ap (bezier_path (eqb closed 1)) (listed count v)

-- the numbers of a closed path are those of the path left open and of the segment back
pub round_numbers : (cs left : List PathCommand) (back : PathCommand) → cs ≡ left ++ back ∷ Close ∷ [] → numbers_of cs ≡ numbers_of left ++ coordinates_of back
round_numbers cs left back is =
    ap numbers_of is ∙ numbers_append left (back ∷ Close ∷ []) ∙ ap (λ (xs : List Float). numbers_of left ++ xs) (append-nil (coordinates_of back))
