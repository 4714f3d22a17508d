-- A segment's command is one function of the vertex carried over and the next, in the path of a list and in the buffers of a call that draws it.
-- Assumes nothing.
use mathlib.Core.Path.{◌≡◌, refl, sym, ap, ap₂, ◌∙◌}
use mathlib.Core.Bool.{Bool, true, false, cond, ◌&&◌, ◌||◌, and-eq-true_iff}
use mathlib.Core.List.{List, ◌++◌}
use Prim.Native.Nat.{ℕ, ◌+◌, ◌<◌}
use native.Mathlib.Omega.{arith}
use lib.Dec.{eqb, ltb}
use lib.Ieee.{Float}
use lib.ListN.{length, get_or, length-append, get_or-append}
use lib.Seq.{get_or-append-add}
use borrow.Author.Tests.{ltb-true, eqb-true, eq-eqb, ne_eqb}
use Rattle.command.specs.declared.PathCommand.{PathCommand}
use Rattle.command.specs.declared.PathCommand.TheVariants.{Close}
use Rattle.command.specs.Commands.{code_of, coordinates_of}
use Rattle.path.specs.Path.{bezier_segment, path_commands}
use Rattle.path.proofs.Paths.{path_inner, path_back, path_length_lem}
use Rattle.carried.specs.Segments.{is_segment, start_of, next_of}
use Rattle.carried.specs.Law.{SegmentWritten, SegmentsAlike}
use Rattle.carried.proofs.Written.{drawn_written}

-- ---- in the path of a list

-- command k of the path is the segment's
record SegmentAt (closed : ℕ) (v : List Float) (count k : ℕ) : Type 0 where
  inside : k < length (path_commands closed v count)
  is : get_or (path_commands closed v count) k Close ≡ bezier_segment (start_of v k) (next_of v count k)

module _ (closed : ℕ) (v : List Float) (count k : ℕ) where
  -- a segment to a vertex past the first
  between : 0 < k → k < count → SegmentAt closed v count k
  unfolding path_commands
  between some below = record {
    inside = rw (path_length_lem (eqb closed 1) count v (omega arith)) (less (eqb closed 1));
    is = rw (ne_eqb k count (λ e. omega arith)) (path_inner (eqb closed 1) count v k (λ e. omega arith) below);
  }
    where
      less : (c : Bool) → k < cond c (count + 2) count
      less true = omega arith
      less false = below

  -- a closed path's segment back to the first
  back : k ≡ count → closed ≡ 1 → 1 < count → SegmentAt closed v count k
  unfolding path_commands
  back last shut more = rw (last, shut)
      (record {
        inside = rw (path_length_lem true count v more) (omega arith);
        is = rw (eq-eqb count count refl) (path_back count v more);
      })

  segment_at : is_segment closed count k ≡ true → SegmentAt closed v count k
  segment_at e =
      let p = (and-eq-true_iff (ltb 0 k) (ltb k count || (eqb k count && (eqb closed 1 && ltb 1 count)))).0 e in
      go (ltb k count) refl p.1 (ltb-true 0 k p.0)
    where
      go : (t : Bool) → ltb k count ≡ t → (t || (eqb k count && (eqb closed 1 && ltb 1 count))) ≡ true → 0 < k → SegmentAt closed v count k
      go true h f some = between some (ltb-true k count h)
      go false h f some =
          let p = (and-eq-true_iff (eqb k count) (eqb closed 1 && ltb 1 count)).0 f in
          let q = (and-eq-true_iff (eqb closed 1) (ltb 1 count)).0 p.1 in
          back (eqb-true k count p.0) (eqb-true closed 1 q.0) (ltb-true 1 count q.1)

-- ---- in the buffers

-- a command of the middle one of three lists, which starts at a place
middle : (bs cs ds : List PathCommand) (p k : ℕ) → length bs ≡ p → k < length cs → get_or (bs ++ cs ++ ds) (p + k) Close ≡ get_or cs k Close
middle bs cs ds p k place h =
    get_or-append (bs ++ cs) ds Close (p + k) (rw length-append (omega arith)) ∙ rw (← place) (get_or-append-add bs cs k Close)

pub segment_written : SegmentWritten
segment_written o codes numbers p closed v count k w d e =
    let s = segment_at closed v count k e in
    let path : List PathCommand = path_commands closed v count in
    let all : List PathCommand = d.before ++ path ++ d.after in
    let there : p + k < length all = rw (length-append, length-append) (omega (arith, d.place, s.inside)) in
    drawn_written o codes numbers all (p + k) w d.drawn there
    ∙ ap (λ (c : PathCommand). (code_of c, coordinates_of c)) (middle d.before path d.after p k d.place s.inside ∙ s.is)

pub segments_alike : SegmentsAlike
segments_alike o o' codes codes' numbers numbers' p p' closed closed' v v' count count' k k' w d e w' d' e' start next =
    segment_written o codes numbers p closed v count k w d e
    ∙ ap (λ (c : PathCommand). (code_of c, coordinates_of c)) (ap₂ bezier_segment start next)
    ∙ sym (segment_written o' codes' numbers' p' closed' v' count' k' w' d' e')
