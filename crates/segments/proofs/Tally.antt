-- The numbers of a path of numbered vertices are counted from vertex to vertex: those so far and those of the segments to come are all.
-- Assumes nothing.
use mathlib.Core.Path.{◌≡◌, sym, ap, ◌∙◌}
use mathlib.Core.Bool.{Bool, true, false, cond}
use mathlib.Core.List.{List, [], ◌∷◌, ◌++◌}
use Prim.Native.Nat.{ℕ, ◌+◌, ◌-◌, ◌*◌, ◌^◌, ◌≤◌, ◌<◌}
use native.Mathlib.Omega.{arith}
use lib.ListN.{length, drop, length-append, drop_of_length-le}
use mir.Val.{Fits}
use mir.Syntax.{w64}
use Rattle.command.specs.declared.PathCommand.{PathCommand}
use Rattle.command.specs.declared.PathCommand.TheVariants.{Close}
use Rattle.command.specs.Commands.{coordinates_of, numbers_of}
use Rattle.command.proofs.Lists.{numbers_few, split}
use Rattle.path.specs.declared.BezierVertex.{BezierVertex}
use Rattle.path.specs.Path.{is_line, bezier_segment}
use Rattle.path.specs.Between.{path_along, segments_along}
use Rattle.path.proofs.Segment.{segment_numbers, place_after}
use Rattle.path.proofs.Along.{along_length, along_at, begin, along_one, along_open, along_closed, round_numbers}

-- ---- the numbers of the segments from vertex j on
module _ (vertex : ℕ → BezierVertex) (count : ℕ) where
  abbrev pub rest : ℕ → ℕ
  rest j = length (numbers_of (drop j (segments_along vertex count)))

  pub rest_step : (j : ℕ) → j + 1 < count → rest j ≡ length (coordinates_of (bezier_segment (vertex j) (vertex (j + 1)))) + rest (j + 1)
  rest_step j h =
      split (segments_along vertex count) j (omega (arith, along_length vertex count))
      ∙ ap (λ (c : PathCommand). length (coordinates_of c) + rest (j + 1)) (along_at vertex count j h)

  pub rest_none : (j : ℕ) → count ≤ j + 1 → rest j ≡ 0
  rest_none j h =
      ap (λ (l : List PathCommand). length (numbers_of l))
      (drop_of_length-le (segments_along vertex count) {i = j} (omega (arith, along_length vertex count)))

-- the place after a segment's end fits where a cubic's would
after_end_fits : (at : ℕ) (t : Bool) (end : ℕ) → at + 6 < 2 ^ 64 → end ≡ cond t at (at + 4) → Fits w64 (end + 2)
after_end_fits at t end h e = record { fits = rw e (go t) }
  where
    go : (u : Bool) → cond u at (at + 4) + 2 < 2 ^ 64
    go true = omega arith
    go false = omega arith

-- ---- a walk from vertex to vertex
-- The first k vertices have been come to, of which a is the last. The numbers of a move and of the segments up to it, and those from it on, are all.
pub record Tally (vertex : ℕ → BezierVertex) (count : ℕ) (a : BezierVertex) (k at : ℕ) : Type 0 where
  pub some : 0 < k
  pub inside : k ≤ count
  pub here : a ≡ vertex (k - 1)
  pub few : at + 4 ≤ 6 * k
  pub all : at + rest vertex count (k - 1) ≡ 2 + length (numbers_of (segments_along vertex count))

module _ (vertex : ℕ → BezierVertex) (count : ℕ) where
  module _ (a : BezierVertex) (k at : ℕ) (T : Tally vertex count a k at) where
    pub tally_more : (b : BezierVertex) (t : Bool) (end : ℕ) → t ≡ is_line a b → end ≡ cond t at (at + 4) → k < count → b ≡ vertex k
        → Tally vertex count b (k + 1) (end + 2)
    tally_more b t end t_is end_is h is =
        let before : k - 1 + 1 ≡ k = omega (arith, T.some) in
        let same : k + 1 - 1 ≡ k = omega arith in
        let step : rest vertex count (k - 1) ≡ length (coordinates_of (bezier_segment a b)) + rest vertex count k =
        rw (T.here, is) (rw before at (rest_step vertex count (k - 1) (omega (arith, T.some)))) in
        record {
          some = omega arith;
          inside = omega arith;
          here = rw same is;
          few = omega (arith, T.few, place_after a b t at end t_is end_is, segment_numbers a b);
          all = rw same (omega (arith, T.all, step, place_after a b t at end t_is end_is));
        }

pub ruleset tallies = (tally_more, rest_none)

-- ---- the total
module _ (vertex : ℕ → BezierVertex) (count : ℕ) where
  abbrev size : Bool → ℕ
  size closed = length (numbers_of (path_along closed vertex count))

  pub one_total : (closed : Bool) → count ≡ 1 → 4 ≡ size closed
  one_total closed e = sym (ap (λ (l : List PathCommand). length (numbers_of l)) (along_one vertex count closed e))

  module _ (at : ℕ) (at_is : at ≡ 2 + length (numbers_of (segments_along vertex count))) where
    pub back_fits : count ≤ 1024 → at + 4 < 2 ^ 64
    back_fits few = omega (arith, numbers_few (segments_along vertex count), along_length vertex count)

    pub closed_fits : count ≤ 1024 → (t : Bool) (end : ℕ) → end ≡ cond t at (at + 4) → Fits w64 (end + 2)
    closed_fits few t end e = after_end_fits at t end (omega (arith, numbers_few (segments_along vertex count), along_length vertex count)) e

    pub open_total : 1 < count → (closed : Bool) → closed ≡ false → at ≡ size closed
    open_total several closed e = rw e (omega (arith, ap (λ (l : List PathCommand). length (numbers_of l)) (along_open vertex count several)))

  -- the path left open, the segment from the last vertex back to the first, and a close
  pub closed_total : (closed : Bool) → closed ≡ true → (end at : ℕ) (t : Bool) → end ≡ cond t at (at + 4) → (z a : BezierVertex) → t ≡ is_line z a
      → z ≡ vertex (count - 1) → a ≡ vertex 0 → at ≡ 2 + length (numbers_of (segments_along vertex count)) → 0 < count → (n : ℕ) → n ≡ count → (n ≡ 1 → ⊥) → end + 2 ≡ size closed
  closed_total closed c end at t end_is z a t_is z_is a_is at_is some n same more =
      let several : 1 < count = omega arith in
      let left : List PathCommand = begin vertex count ∷ segments_along vertex count in
      let cs = path_along true vertex count in
      let is : cs ≡ left ++ bezier_segment z a ∷ Close ∷ [] = rw (z_is, a_is) (along_closed vertex count several) in
      let m : length (numbers_of cs) ≡ length (numbers_of left) + length (coordinates_of (bezier_segment z a)) =
      ap length (round_numbers cs left (bezier_segment z a) is) ∙ length-append (numbers_of left) (coordinates_of (bezier_segment z a)) in
      rw c (omega (arith, m, place_after z a t at end t_is end_is))

pub ruleset totals = (one_total, back_fits, closed_fits, open_total, closed_total)
