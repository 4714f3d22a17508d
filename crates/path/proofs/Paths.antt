-- Laws of `path_commands`: its length, and the command at each place. Assumes nothing.
use mathlib.Core.Path.{◌≡◌, refl, ap, ap₂, ◌∙◌}
use mathlib.Core.Bool.{Bool, true, false, cond}
use mathlib.Core.List.{List, [], ◌∷◌, ◌++◌}
use Prim.Native.Nat.{ℕ, zero, suc, ◌+◌, ◌-◌, ◌*◌, ◌≤◌, ◌<◌}
use native.Mathlib.Nat.{not-suc-le-zero, le_of_suc-le-suc}
use native.Mathlib.Omega.{arith}
use lib.ListN.{length, get_or, drop, length-append, get_or-append}
use lib.Seq.{get_or-drop, get_or-append_seam}
use lib.Ieee.{Float, nan}
use lib.Dec.{eqb}
use borrow.Author.Tests.{ne_eqb}
use Rattle.path.specs.Path.{path_commands, bezier_count}
use Rattle.command.specs.declared.PathCommand.{PathCommand}
use Rattle.command.specs.declared.PathCommand.TheVariants.{Close}
use Rattle.path.specs.declared.BezierVertex.{BezierVertex}
use Rattle.path.specs.Path.{vertex_at, vertices_of, bezier_segment, bezier_segments, bezier_path}

-- ---- the vertices

shift_one : (v : List Float) (k j : ℕ) → get_or (drop 6 v) (6 * k + j) nan ≡ get_or v (6 * suc k + j) nan
shift_one v k j = get_or-drop 6 v (6 * k + j) nan ∙ ap (λ (m : ℕ). get_or v m nan) (omega arith)

shift_first : (v : List Float) (k : ℕ) → get_or (drop 6 v) (6 * k) nan ≡ get_or v (6 * suc k) nan
shift_first v k = get_or-drop 6 v (6 * k) nan ∙ ap (λ (m : ℕ). get_or v m nan) (omega arith)

pub shift : (v : List Float) (k : ℕ) → vertex_at (drop 6 v) k ≡ vertex_at v (suc k)
shift v k = λ i. record {
  x = shift_first v k i;
  y = shift_one v k 1 i;
  ix = shift_one v k 2 i;
  iy = shift_one v k 3 i;
  ox = shift_one v k 4 i;
  oy = shift_one v k 5 i;
}

pub vertices_length : (n : ℕ) (v : List Float) → length (vertices_of n v) ≡ n
unfolding vertices_of
vertices_length zero v = refl
vertices_length (suc n) v = ap suc (vertices_length n (drop 6 v))

pub vertices_at : (n : ℕ) (v : List Float) (k : ℕ) (d : BezierVertex) → k < n → get_or (vertices_of n v) k d ≡ vertex_at v k
unfolding vertices_of
vertices_at zero v k d h = absurd (not-suc-le-zero h)
vertices_at (suc n) v zero d h = refl
vertices_at (suc n) v (suc k) d h = vertices_at n (drop 6 v) k d (le_of_suc-le-suc h) ∙ shift v k

-- ---- the segments

pub segments_length : (a : BezierVertex) (bs : List BezierVertex) → length (bezier_segments a bs) ≡ length bs
unfolding bezier_segments
segments_length a [] = refl
segments_length a (b ∷ bs) = ap suc (segments_length b bs)

pub segments_at : (a : BezierVertex) (bs : List BezierVertex) (j : ℕ) (d : BezierVertex) → j < length bs
    → get_or (bezier_segments a bs) j Close ≡ bezier_segment (get_or (a ∷ bs) j d) (get_or bs j d)
unfolding bezier_segments
segments_at a [] j d h = absurd (not-suc-le-zero h)
segments_at a (b ∷ bs) zero d h = refl
segments_at a (b ∷ bs) (suc j) d h = segments_at b bs j d (le_of_suc-le-suc h)

-- the last of a vertex and those after it
unfoldable pub last_of : BezierVertex → List BezierVertex → BezierVertex
last_of a [] = a
last_of a (b ∷ bs) = last_of b bs

-- one vertex more is one segment more, from the last
pub segments_more : (a : BezierVertex) (bs : List BezierVertex) (c : BezierVertex)
    → bezier_segments a (bs ++ c ∷ []) ≡ bezier_segments a bs ++ bezier_segment (last_of a bs) c ∷ []
unfolding bezier_segments last_of
segments_more a [] c = refl
segments_more a (b ∷ bs) c = ap (λ (cs : List PathCommand). bezier_segment a b ∷ cs) (segments_more b bs c)

-- ---- the path

pub path_length_lem : (c : Bool) (n : ℕ) (v : List Float) → 1 < n → length (bezier_path c (vertices_of n v)) ≡ cond c (n + 2) n
unfolding vertices_of bezier_path
path_length_lem c zero v h = absurd (not-suc-le-zero h)
path_length_lem c (suc zero) v h = absurd (not-suc-le-zero (le_of_suc-le-suc h))
path_length_lem false (suc (suc m)) v h = rw (segments_length, vertices_length m (drop 6 (drop 6 v)))
path_length_lem true (suc (suc m)) v h =
    rw (length-append, segments_length, length-append, vertices_length m (drop 6 (drop 6 v))) (omega arith)

inner : (c : Bool) (a b : BezierVertex) (bs : List BezierVertex) (j : ℕ) (d : BezierVertex) → j < length (b ∷ bs)
    → get_or (bezier_path c (a ∷ (b ∷ bs))) (suc j) Close ≡ bezier_segment (get_or (a ∷ (b ∷ bs)) j d) (get_or (b ∷ bs) j d)
unfolding bezier_path
inner false a b bs j d h = segments_at a (b ∷ bs) j d h
inner true a b bs j d h =
    let more : j < length ((b ∷ bs) ++ a ∷ []) = rw length-append (omega arith) in
    get_or-append (bezier_segments a ((b ∷ bs) ++ a ∷ [])) (Close ∷ []) Close j (rw segments_length more)
    ∙ segments_at a ((b ∷ bs) ++ a ∷ []) j d more
    ∙ ap₂ bezier_segment (get_or-append (a ∷ (b ∷ bs)) (a ∷ []) d j (omega arith)) (get_or-append (b ∷ bs) (a ∷ []) d j h)

back : (a b : BezierVertex) (bs : List BezierVertex) (d : BezierVertex)
    → get_or (bezier_path true (a ∷ (b ∷ bs))) (suc (length (b ∷ bs))) Close ≡ bezier_segment (get_or (a ∷ (b ∷ bs)) (length (b ∷ bs)) d) a
unfolding bezier_path
back a b bs d =
    let more : length (b ∷ bs) < length ((b ∷ bs) ++ a ∷ []) = rw length-append (omega arith) in
    get_or-append (bezier_segments a ((b ∷ bs) ++ a ∷ [])) (Close ∷ []) Close (length (b ∷ bs)) (rw segments_length more)
    ∙ segments_at a ((b ∷ bs) ++ a ∷ []) (length (b ∷ bs)) d more
    ∙ ap₂ bezier_segment (get_or-append (a ∷ (b ∷ bs)) (a ∷ []) d (length (b ∷ bs)) (omega arith)) (get_or-append_seam (b ∷ bs) a [] d)

pub path_inner : (c : Bool) (n : ℕ) (v : List Float) (k : ℕ) → (k ≡ 0 → ⊥) → k < n
    → get_or (bezier_path c (vertices_of n v)) k Close ≡ bezier_segment (vertex_at v (k - 1)) (vertex_at v k)
unfolding vertices_of
path_inner c zero v k p h = absurd (not-suc-le-zero h)
path_inner c (suc zero) v k p h = absurd (p (omega arith))
path_inner c (suc (suc m)) v zero p h = absurd (p refl)
path_inner c (suc (suc m)) v (suc j) p h =
    inner c (vertex_at v 0) (vertex_at (drop 6 v) 0) (vertices_of m (drop 6 (drop 6 v))) j (vertex_at v 0) (rw vertices_length (omega arith))
    ∙ ap₂ bezier_segment
    (vertices_at (suc (suc m)) v j (vertex_at v 0) (omega arith) ∙ ap (λ (i : ℕ). vertex_at v i) (omega arith))
    (vertices_at (suc (suc m)) v (suc j) (vertex_at v 0) h)

pub path_back : (n : ℕ) (v : List Float) → 1 < n → get_or (bezier_path true (vertices_of n v)) n Close ≡ bezier_segment (vertex_at v (n - 1)) (vertex_at v 0)
unfolding vertices_of
path_back zero v h = absurd (not-suc-le-zero h)
path_back (suc zero) v h = absurd (not-suc-le-zero (le_of_suc-le-suc h))
path_back (suc (suc m)) v h =
    let l : length (vertices_of m (drop 6 (drop 6 v))) ≡ m = vertices_length m (drop 6 (drop 6 v)) in
    rw l at (back (vertex_at v 0) (vertex_at (drop 6 v) 0) (vertices_of m (drop 6 (drop 6 v))) (vertex_at v 0))
    ∙ ap₂ bezier_segment (vertices_at (suc (suc m)) v (suc m) (vertex_at v 0) (omega arith) ∙ ap (λ (i : ℕ). vertex_at v i) (omega arith)) refl

-- the length, as the code counts it
pub path_commands_length : (closed : ℕ) (v : List Float) (count : ℕ) → 0 < count → length (path_commands closed v count) ≡ bezier_count closed count
unfolding path_commands bezier_path vertices_of
path_commands_length closed v zero h = absurd (not-suc-le-zero h)
path_commands_length closed v (suc zero) h = refl
path_commands_length closed v (suc (suc n)) h =
    path_length_lem (eqb closed 1) (suc (suc n)) v (omega arith) ∙ rw (ne_eqb (suc (suc n)) 1 (λ e. omega arith)) refl

pub path_commands_few : (closed : ℕ) (v : List Float) (count : ℕ) → 0 < count → count ≤ 1024 → length (path_commands closed v count) ≤ 1026
path_commands_few closed v count h f = rw (path_commands_length closed v count h) (few (eqb count 1) (eqb closed 1))
  where
    few : (b c : Bool) → cond b 2 (cond c (count + 2) count) ≤ 1026
    few true c = omega arith
    few false true = omega arith
    few false false = omega arith
