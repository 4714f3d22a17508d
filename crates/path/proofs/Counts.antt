-- The path of n vertices has at most n + 2 codes and 6 n + 2 numbers. Assumes nothing.
use mathlib.Core.Path.{ap}
use mathlib.Core.Bool.{Bool, true, false, cond}
use mathlib.Core.List.{List, [], ◌∷◌, ◌++◌}
use Prim.Native.Nat.{ℕ, zero, suc, ◌+◌, ◌*◌, ◌≤◌, ◌<◌}
use native.Mathlib.Nat.{not-suc-le-zero}
use native.Mathlib.Omega.{arith}
use lib.Dec.{eqb}
use lib.Ieee.{Float}
use lib.ListN.{length, drop, length-append}
use Rattle.command.specs.declared.PathCommand.TheVariants.{Close}
use Rattle.command.specs.Commands.{codes_of, numbers_of}
use Rattle.command.proofs.Lists.{numbers_few, numbers_append, codes_length}
use Rattle.path.specs.declared.BezierVertex.{BezierVertex}
use Rattle.path.specs.Path.{vertex_at, vertices_of, bezier_segments, bezier_path, path_commands}
use Rattle.path.proofs.Paths.{vertices_length, segments_length, path_commands_length}

-- codes
pub path_codes : (closed : ℕ) (v : List Float) (n : ℕ) → 0 < n → length (codes_of (path_commands closed v n)) ≤ n + 2
path_codes closed v n h = rw (codes_length (path_commands closed v n), path_commands_length closed v n h) (go (eqb n 1) (eqb closed 1))
  where
    go : (b c : Bool) → cond b 2 (cond c (n + 2) n) ≤ n + 2
    go true c = omega arith
    go false true = omega arith
    go false false = omega arith

-- numbers
segments_few : (a : BezierVertex) (bs : List BezierVertex) → length (numbers_of (bezier_segments a bs)) ≤ 6 * length bs
segments_few a bs = rw segments_length at (numbers_few (bezier_segments a bs))

few : (c : Bool) (n : ℕ) (v : List Float) → 0 < n → length (numbers_of (bezier_path c (vertices_of n v))) ≤ 6 * n + 2
unfolding bezier_path vertices_of
few c zero v h = absurd (not-suc-le-zero h)
few c (suc zero) v h = omega arith
few false (suc (suc m)) v h =
    omega (
      arith,
      segments_few (vertex_at v 0) (vertex_at (drop 6 v) 0 ∷ vertices_of m (drop 6 (drop 6 v))),
      vertices_length m (drop 6 (drop 6 v)),
    )
few true (suc (suc m)) v h =
    let bs : List BezierVertex = (vertex_at (drop 6 v) 0 ∷ vertices_of m (drop 6 (drop 6 v))) ++ vertex_at v 0 ∷ [] in
    omega (
      arith,
      segments_few (vertex_at v 0) bs,
      length-append (vertex_at (drop 6 v) 0 ∷ vertices_of m (drop 6 (drop 6 v))) (vertex_at v 0 ∷ []),
      vertices_length m (drop 6 (drop 6 v)),
      ap length (numbers_append (bezier_segments (vertex_at v 0) bs) (Close ∷ [])),
      length-append (numbers_of (bezier_segments (vertex_at v 0) bs)) [],
    )

pub path_numbers : (closed : ℕ) (v : List Float) (n : ℕ) → 0 < n → length (numbers_of (path_commands closed v n)) ≤ 6 * n + 2
unfolding path_commands
path_numbers closed v n h = few (eqb closed 1) n v h
