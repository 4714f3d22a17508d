-- Every number of a path is an f32: it is lent, or a sum. Assumes nothing.
use Prim.Native.Nat.{ℕ, zero, suc, ◌+◌, ◌*◌, ◌<◌}
use native.Mathlib.Omega.{arith}
use mathlib.Core.Path.{sym, subst}
use mathlib.Core.Bool.{Bool, true, false, cond}
use mathlib.Core.List.{List, [], ◌∷◌, ◌++◌}
use lib.Dec.{eqb}
use lib.Ieee.{Float, nan}
use lib.ListN.{get_or, drop}
use lib.Seq.{get_or-drop}
use Rattle.command.specs.declared.PathCommand.TheVariants.{Line, Cubic, Close}
use Rattle.command.specs.Commands.{coordinates_of, numbers_of}
use Rattle.command.proofs.Lists.{numbers_append}
use Rattle.path.specs.declared.BezierVertex.{BezierVertex}
use Rattle.path.specs.Path.{vertices_of, vertices_from, out_x, out_y, in_x, in_y, is_line, bezier_segment, bezier_segments, bezier_path, path_commands}
use Rattle.ieee.specs.Single.{AllSingle, Single}
use Rattle.ieee.proofs.Single.{add_single}
use Rattle.ieee.proofs.Each.{each_append}

abbrev AllEnds : List BezierVertex → Type 0
AllEnds [] = Unit {0}
AllEnds (a ∷ more) = (Single a.x × Single a.y) × AllEnds more

ends_append : (more : List BezierVertex) (b : BezierVertex) → AllEnds more → Single b.x → Single b.y → AllEnds (more ++ b ∷ [])
ends_append [] b A X Y = ((X, Y), tt)
ends_append (a ∷ more) b A X Y = (A.0, ends_append more b A.1 X Y)

segment_single : (a b : BezierVertex) → Single b.x → Single b.y → AllSingle (coordinates_of (bezier_segment a b))
unfolding bezier_segment
segment_single a b X Y = go (is_line a b)
  where
    go : (t : Bool) → AllSingle (coordinates_of (cond t (Line b.x b.y) (Cubic (out_x a) (out_y a) (in_x b) (in_y b) b.x b.y)))
    go true = (X, (Y, tt))
    go false = (add_single a.x a.ox, (add_single a.y a.oy, (add_single b.x b.ix, (add_single b.y b.iy, (X, (Y, tt))))))

segments_single : (a : BezierVertex) (bs : List BezierVertex) → AllEnds bs → AllSingle (numbers_of (bezier_segments a bs))
unfolding bezier_segments
segments_single a [] E = tt
segments_single a (b ∷ bs) E = each_append Single (coordinates_of (bezier_segment a b)) (numbers_of (bezier_segments b bs)) (segment_single a b E.0.0 E.0.1) (segments_single b bs E.1)

path_single : (closed : Bool) (vs : List BezierVertex) → AllEnds vs → AllSingle (numbers_of (bezier_path closed vs))
unfolding bezier_path
path_single closed [] E = tt
path_single closed (a ∷ []) E = (E.0.0, (E.0.1, (E.0.0, (E.0.1, tt))))
path_single false (a ∷ (b ∷ bs)) E = (E.0.0, (E.0.1, segments_single a (b ∷ bs) E.1))
path_single true (a ∷ (b ∷ bs)) E =
    let round = (b ∷ bs) ++ a ∷ [] in (
      E.0.0,
      (
        E.0.1,
        subst AllSingle (sym (numbers_append (bezier_segments a round) (Close ∷ [])))
            (each_append Single (numbers_of (bezier_segments a round)) [] (segments_single a round (ends_append (b ∷ bs) a E.1 E.0.0 E.0.1)) tt),
      ),
    )

vertices_ends : (n : ℕ) (v : List Float) → ((i : ℕ) → i < 6 * n → Single (get_or v i nan)) → AllEnds (vertices_of n v)
unfolding vertices_of
vertices_ends zero v at = tt
vertices_ends (suc n) v at =
    ((at 0 (omega arith), at 1 (omega arith)), vertices_ends n (drop 6 v) (λ i h. rw (get_or-drop 6 v i nan) (at (6 + i) (omega arith))))

-- the ends of numbered vertices, and their closed path
from_ends : (vertex : ℕ → BezierVertex) (k n : ℕ) → ((i : ℕ) → i < k + n → Single (vertex i).x × Single (vertex i).y) → AllEnds (vertices_from vertex k n)
unfolding vertices_from
from_ends vertex k zero at = tt
from_ends vertex k (suc n) at = (at k (omega arith), from_ends vertex (suc k) n (λ i h. at i (omega arith)))

pub round_single : (vertex : ℕ → BezierVertex) (count : ℕ) → ((k : ℕ) → k < count → Single (vertex k).x × Single (vertex k).y)
    → AllSingle (numbers_of (bezier_path true (vertices_from vertex 0 count)))
round_single vertex count at = path_single true (vertices_from vertex 0 count) (from_ends vertex 0 count (λ k h. at k (omega arith)))

pub commands_single : (closed count : ℕ) (v : List Float) → ((i : ℕ) → i < 6 * count → Single (get_or v i nan)) → AllSingle (numbers_of (path_commands closed v count))
unfolding path_commands
commands_single closed count v at = path_single (eqb closed 1) (vertices_of count v) (vertices_ends count v at)
