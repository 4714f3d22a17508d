-- The length of a path whose numbers are on a grid, enlarged by a power of two: it is multiplied too, as is the length after each of its commands, however many there are.
-- Assumes nothing.
use mathlib.Core.Path.{sym, subst}
use mathlib.Core.List.{List, [], ◌∷◌, map}
use Prim.Native.Nat.{ℕ, ◌+◌, ◌≤◌}
use native.Mathlib.Nat.{le_refl}
use native.Mathlib.Omega.{arith}
use lib.ListN.{take}
use lib.Ieee.{Float, binary32}
use Rattle.ieee.specs.Grid.{scale, On, Twin}
use Rattle.ieee.proofs.Twins.{zero_twin, twin_of, twin_add_absorb}
use Rattle.command.specs.declared.PathCommand.{PathCommand}
use Rattle.command.specs.declared.PathCommand.TheVariants.{Move, Line, Cubic, Close, Quad}
use Rattle.command.specs.Commands.{coordinates_of, numbers_of}
use Rattle.command.specs.Enlarged.{enlarged, AllOn, Twins}
use Rattle.command.proofs.Enlarged.{twins_take}
use Rattle.ieee.proofs.Each.{each_split}
use Rattle.point.specs.declared.Point.{Point}
use Rattle.curve.specs.Curve.{distance, quad_length, cubic_length}
use Rattle.curve.proofs.Enlarged.{PointTwin, distance_twin, quad_twin, cubic_twin}
use Rattle.std.specs.Prelude.{Option, Some, None}
use Rattle.measure.specs.declared.Pen.{Pen}
use Rattle.measure.specs.Length.{start_pen, added, move_to, arrive, line_to, quad_to, cubic_to, closing, close, step, steps, length_after, path_length}

-- both nowhere, or at a point and at its multiple
pub data PlaceTwin (k q b : ℕ) : Option Point → Option Point → Type 0 where
  nowhere : PlaceTwin k q b None None
  at : {p p' : Point} → PointTwin k q b p p' → PlaceTwin k q b (Some p) (Some p')

-- the length, the last point and the contour's start; the length's grid is finer than that of the points
pub record PenTwin (k q b : ℕ) (p p' : Pen) : Type 0 where
  pub length_twin : Twin k (q + 56) (b + 55) p.length p'.length
  pub point_twin : PlaceTwin k q b p.point p'.point
  pub contour_twin : PlaceTwin k q b p.start p'.start

pub start_twin : (k q b : ℕ) → PenTwin k q b start_pen start_pen
unfolding start_pen
start_twin k q b = record { length_twin = zero_twin k (q + 56) (b + 55); point_twin = nowhere; contour_twin = nowhere }

-- a point and its multiple
at_point : {q b : ℕ} (k : ℕ) {x y : Float} → On q b x → On q b y → PointTwin k q b (record { x = x; y = y }) (record { x = scale k x; y = scale k y })
at_point {q} {b} k {x} {y} X Y = record { x_twin = twin_of k q b x X; y_twin = twin_of k q b y Y }

-- a segment's length from each point
abbrev SegmentTwin : (k q b : ℕ) → (Point → Float) → (Point → Float) → Type 0
SegmentTwin k q b f f' = (p p' : Point) → PointTwin k q b p p' → Twin k (q + 56) (b + 30) (f p) (f' p')

module _ {k q b : ℕ} (Q : q + 56 ≤ 149) (B : b + 55 + k ≤ 127) where
  -- ---- one segment, from wherever the pen is
  added_twin : {l l' : Float} {p p' : Option Point} (f f' : Point → Float) → Twin k (q + 56) (b + 55) l l' → PlaceTwin k q b p p' → SegmentTwin k q b f f'
      → Twin k (q + 56) (b + 55) (added l p f) (added l' p' f')
  unfolding added
  added_twin f f' L nowhere F = L
  added_twin {l} {l'} f f' L (at {p} {p'} P) F = twin_add_absorb binary32 k (q + 56) (b + 55) (b + 30) l l' (f p) (f' p') Q B (omega arith) L (F p p' P)

  module _ {p p' : Pen} (P : PenTwin k q b p p') where
    arrive_twin : {e e' : Point} {l l' : Float} → PointTwin k q b e e' → Twin k (q + 56) (b + 55) l l' → PenTwin k q b (arrive p e l) (arrive p' e' l')
    unfolding arrive
    arrive_twin E L = record { length_twin = L; point_twin = at E; contour_twin = P.contour_twin }

    segment_twin : {e e' : Point} (f f' : Point → Float) → PointTwin k q b e e' → SegmentTwin k q b f f'
        → PenTwin k q b (arrive p e (added p.length p.point f)) (arrive p' e' (added p'.length p'.point f'))
    segment_twin f f' E F = arrive_twin E (added_twin f f' P.length_twin P.point_twin F)

    move_twin : {e e' : Point} → PointTwin k q b e e' → PenTwin k q b (move_to p e) (move_to p' e')
    unfolding move_to
    move_twin E = record { length_twin = P.length_twin; point_twin = at E; contour_twin = at E }

    line_twin : {e e' : Point} → PointTwin k q b e e' → PenTwin k q b (line_to p e) (line_to p' e')
    unfolding line_to
    line_twin {e} {e'} E = segment_twin (λ s. distance s e) (λ s. distance s e') E (λ s s' S. distance_twin k q b Q (omega arith) S E)

    quad_to_twin : {c c' e e' : Point} → PointTwin k q b c c' → PointTwin k q b e e' → PenTwin k q b (quad_to p c e) (quad_to p' c' e')
    unfolding quad_to
    quad_to_twin {c} {c'} {e} {e'} C E = segment_twin (λ s. quad_length s c e) (λ s. quad_length s c' e') E (λ s s' S. quad_twin k q b Q (omega arith) S C E 24 (le_refl 24))

    cubic_to_twin : {c c' d d' e e' : Point} → PointTwin k q b c c' → PointTwin k q b d d' → PointTwin k q b e e' → PenTwin k q b (cubic_to p c d e) (cubic_to p' c' d' e')
    unfolding cubic_to
    cubic_to_twin {c} {c'} {d} {d'} {e} {e'} C D E =
        segment_twin (λ s. cubic_length s c d e) (λ s. cubic_length s c' d' e') E (λ s s' S. cubic_twin k q b Q (omega arith) S C D E 32 (le_refl 32))

    closing_twin : {s s' : Option Point} → PlaceTwin k q b s s' → Twin k (q + 56) (b + 55) (closing p.length p.point s) (closing p'.length p'.point s')
    unfolding closing
    closing_twin nowhere = P.length_twin
    closing_twin (at {p = e} {p' = e'} E) = added_twin (λ s. distance s e) (λ s. distance s e') P.length_twin P.point_twin (λ s s' S. distance_twin k q b Q (omega arith) S E)

    close_twin : PenTwin k q b (close p) (close p')
    unfolding close
    close_twin = record { length_twin = closing_twin P.contour_twin; point_twin = P.contour_twin; contour_twin = P.contour_twin }

    enlarged_twin : (c : PathCommand) → AllOn q b (coordinates_of c) → PenTwin k q b (step p c) (step p' (enlarged k c))
    unfolding step
    enlarged_twin (Move x y) C = move_twin (at_point k C.0 C.1.0)
    enlarged_twin (Line x y) C = line_twin (at_point k C.0 C.1.0)
    enlarged_twin (Cubic ax ay bx by x y) C = cubic_to_twin (at_point k C.0 C.1.0) (at_point k C.1.1.0 C.1.1.1.0) (at_point k C.1.1.1.1.0 C.1.1.1.1.1.0)
    enlarged_twin Close C = close_twin
    enlarged_twin (Quad ax ay x y) C = quad_to_twin (at_point k C.0 C.1.0) (at_point k C.1.1.0 C.1.1.1.0)

  -- ---- a command, and commands one after another
  enlarged_twins : {p p' : Pen} (cs : List PathCommand) → PenTwin k q b p p' → AllOn q b (numbers_of cs) → PenTwin k q b (steps p cs) (steps p' (map (enlarged k) cs))
  unfolding steps
  enlarged_twins {p = p} {p' = p'} [] P C = P
  enlarged_twins {p = p} {p' = p'} (c ∷ cs) P C =
      let s = each_split (On q b) (coordinates_of c) (numbers_of cs) C in
      enlarged_twins {p = step p c} {p' = step p' (enlarged k c)} cs (enlarged_twin P c s.0) s.1

  pub steps_twins : {p p' : Pen} {cs cs' : List PathCommand} → PenTwin k q b p p' → Twins k q b cs cs' → PenTwin k q b (steps p cs) (steps p' cs')
  steps_twins {p} {p'} {cs} P C = subst (λ (ds : List PathCommand). PenTwin k q b (steps p cs) (steps p' ds)) (sym C.commands) (enlarged_twins cs P C.grid)

-- ---- the length of a path, and after its first n commands
module _ (k q b : ℕ) (cs cs' : List PathCommand) (Q : q + 56 ≤ 149) (B : b + 55 + k ≤ 127) (C : Twins k q b cs cs') where
  pub pen_twins : PenTwin k q b (length_after cs) (length_after cs')
  unfolding length_after
  pen_twins = steps_twins Q B (start_twin k q b) C

  pub length_twins : Twin k (q + 56) (b + 55) (path_length cs) (path_length cs')
  unfolding path_length
  length_twins = pen_twins.length_twin

pub running_twins : (k q b : ℕ) (cs cs' : List PathCommand) → q + 56 ≤ 149 → b + 55 + k ≤ 127 → Twins k q b cs cs' → (n : ℕ)
    → PenTwin k q b (length_after (take n cs)) (length_after (take n cs'))
running_twins k q b cs cs' Q B C n = pen_twins k q b (take n cs) (take n cs') Q B (twins_take n C)
