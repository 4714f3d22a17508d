-- The segments between vertices that are known by number are written one after another, and each vertex is carried over from the segment that it ends
-- to the one that it starts. Assumes nothing.
use mathlib.Core.Path.{◌≡◌, refl, sym, ap, ap₂, ◌∙◌}
use mathlib.Core.List.{List, [], ◌∷◌, ◌++◌, append_assoc, append-nil}
use Prim.Native.Nat.{ℕ, ◌+◌, ◌-◌, ◌≤◌, ◌<◌}
use native.Mathlib.Omega.{arith}
use lib.Ieee.{Float}
use lib.ListN.{length, take, drop, length-append}
use lib.Seq.{sets, length-sets}
use Rattle.std.proofs.lemmas.List.{take_more, take-append-drop, take_all}
use Rattle.command.specs.declared.PathCommand.{PathCommand}
use Rattle.command.specs.declared.PathCommand.TheVariants.{Close}
use Rattle.command.specs.Commands.{coordinates_of, codes_of, numbers_of}
use Rattle.command.proofs.Buffers.{sets_append}
use Rattle.command.proofs.Lists.{split, codes_append, numbers_append}
use Rattle.path.specs.declared.BezierVertex.{BezierVertex}
use Rattle.path.specs.Path.{bezier_segment}
use Rattle.path.specs.Between.{segments_along}
use Rattle.path.proofs.Segment.{segment_numbers}
use Rattle.path.proofs.Along.{along_length, along_at}
use Rattle.sheet.specs.declared.Sheet.{Sheet}
use Rattle.sheet.specs.Sheets.{HasRoom, Wrote}
use Rattle.sheet.proofs.Written.{codes_both, numbers_both}
use Rattle.segment_writer.specs.Followed.{Followed, FollowedRoom}

-- ---- commands one after another, of which the last may be followed or not
one_command : (c : PathCommand) → length (numbers_of (c ∷ [])) ≡ length (coordinates_of c)
one_command c = ap length (append-nil (coordinates_of c))

module _ (cs : List PathCommand) (c : PathCommand) (some : 2 ≤ length (coordinates_of c)) (p q : Sheet) (F : Followed cs p q) where
  -- a command that the list is followed by has numbers enough
  followed_more : (r : Sheet) → Followed (c ∷ []) q r → Followed (cs ++ c ∷ []) p r
  followed_more r G = record {
    same_codes = G.same_codes ∙ F.same_codes;
    same_numbers = G.same_numbers ∙ F.same_numbers;
    codes_at = omega (arith, codes_both cs (c ∷ []), F.codes_at, G.codes_at);
    numbers_at = omega (arith, numbers_both cs (c ∷ []), F.numbers_at, G.numbers_at);
    codes_are =
        rw (codes_append cs (c ∷ []), sets_append (codes_of cs) (codes_of (c ∷ [])) p.codes.now p.at.codes) (rw (F.codes_are, F.codes_at) at G.codes_are);
    numbers_same = G.numbers_same ∙ F.numbers_same;
    numbers_are =
        λ more h.
        G.numbers_are more h
        ∙ F.numbers_are (numbers_of (c ∷ []) ++ more) (omega (arith, length-append (numbers_of (c ∷ [])) more))
        ∙ ap (sets p.numbers.now p.at.numbers) (sym (append_assoc (numbers_of cs) (numbers_of (c ∷ [])) more) ∙ ap (λ (l : List Float). l ++ more) (sym (numbers_append cs (c ∷ []))));
  }

  followed_last : (r : Sheet) → Wrote (c ∷ []) q r → Wrote (cs ++ c ∷ []) p r
  followed_last r W = record {
    same_codes = W.same_codes ∙ F.same_codes;
    same_numbers = W.same_numbers ∙ F.same_numbers;
    codes_at = omega (arith, codes_both cs (c ∷ []), F.codes_at, W.codes_at);
    numbers_at = omega (arith, numbers_both cs (c ∷ []), F.numbers_at, W.numbers_at);
    codes_are =
        rw (codes_append cs (c ∷ []), sets_append (codes_of cs) (codes_of (c ∷ [])) p.codes.now p.at.codes) (rw (F.codes_are, F.codes_at) at W.codes_are);
    numbers_are =
        W.numbers_are ∙ F.numbers_are (numbers_of (c ∷ [])) (omega (arith, one_command c))
        ∙ ap (sets p.numbers.now p.at.numbers) (sym (numbers_append cs (c ∷ [])));
  }

  codes_length_same : length q.codes.now ≡ length p.codes.now
  codes_length_same = rw (F.codes_are, length-sets p.codes.now p.at.codes (codes_of cs)) refl

  module _ (all more : List PathCommand) (is : all ≡ (cs ++ c ∷ []) ++ more) (room : HasRoom all p) where
    followed_room : 2 ≤ length (numbers_of more) → FollowedRoom c q
    followed_room h = let r = rw is at room in record {
      code_fits = omega (arith, codes_both (cs ++ c ∷ []) more, codes_both cs (c ∷ []), r.codes_fit, F.codes_at, codes_length_same);
      numbers_fit =
          omega (arith, numbers_both (cs ++ c ∷ []) more, numbers_both cs (c ∷ []), one_command c, r.numbers_fit, F.numbers_at, F.numbers_same);
    }

    last_fits : HasRoom (c ∷ []) q
    last_fits = let r = rw is at room in record {
      codes_fit = omega (arith, codes_both (cs ++ c ∷ []) more, codes_both cs (c ∷ []), r.codes_fit, F.codes_at, codes_length_same);
      numbers_fit = omega (arith, numbers_both (cs ++ c ∷ []) more, numbers_both cs (c ∷ []), r.numbers_fit, F.numbers_at, F.numbers_same);
    }

-- ---- from vertex to vertex
-- the segments up to vertex k - 1 are written, and that vertex is carried over
pub record Carried (vertex : ℕ → BezierVertex) (count : ℕ) (p q : Sheet) (a : BezierVertex) (k : ℕ) : Type 0 where
  pub written : Followed (take (k - 1) (segments_along vertex count)) p q
  pub here : a ≡ vertex (k - 1)
  pub some : 0 < k
  pub inside : k < count

module _ (vertex : ℕ → BezierVertex) (count : ℕ) where
  abbrev ds : List PathCommand
  ds = segments_along vertex count

  part : (k : ℕ) → 0 < k → k < count → take k ds ≡ take (k - 1) ds ++ bezier_segment (vertex (k - 1)) (vertex k) ∷ []
  part k some inside =
      let e : k - 1 + 1 ≡ k = omega arith in
      rw e at (take_more ds (k - 1) Close (omega (arith, along_length vertex count)))
      ∙ ap (λ (c : PathCommand). take (k - 1) ds ++ c ∷ []) (rw e at (along_at vertex count (k - 1) (omega arith)))

  module _ (p q : Sheet) (a : BezierVertex) (k : ℕ) (C : Carried vertex count p q a k) (b : BezierVertex) (b_is : b ≡ vertex k) where
    c_is : bezier_segment (vertex (k - 1)) (vertex k) ≡ bezier_segment a b
    c_is = ap₂ bezier_segment (sym C.here) (sym b_is)

    part_is : take k ds ≡ take (k - 1) ds ++ bezier_segment a b ∷ []
    part_is = part k C.some C.inside ∙ ap (λ (c : PathCommand). take (k - 1) ds ++ c ∷ []) c_is

    all_is : ds ≡ (take (k - 1) ds ++ bezier_segment a b ∷ []) ++ drop k ds
    all_is = sym (take-append-drop k ds) ∙ ap (λ (l : List PathCommand). l ++ drop k ds) part_is

    two : 2 ≤ length (coordinates_of (bezier_segment a b))
    two = (segment_numbers a b).0

    -- the segment is followed by another
    two_more : k < count - 1 → 2 ≤ length (numbers_of (drop k ds))
    two_more h =
        omega (
          arith,
          split ds k (omega (arith, along_length vertex count)),
          ap (λ (c : PathCommand). length (coordinates_of c)) (along_at vertex count k (omega arith)),
          segment_numbers (vertex k) (vertex (k + 1)),
        )

    pub carried_room : (n : ℕ) → n ≡ count → k < n - 1 → HasRoom ds p → FollowedRoom (bezier_segment a b) q
    carried_room n e h room = followed_room (take (k - 1) ds) (bezier_segment a b) two p q C.written ds (drop k ds) all_is room (two_more (omega arith))

    pub carried_on : (n : ℕ) → n ≡ count → k < n - 1 → (r : Sheet) → Followed (bezier_segment a b ∷ []) q r → Carried vertex count p r b (k + 1)
    carried_on n e h r F =
        let same : k + 1 - 1 ≡ k = omega arith in
        record {
          written = rw (same, part_is) (followed_more (take (k - 1) ds) (bezier_segment a b) two p q C.written r F);
          here = rw same b_is;
          some = omega arith;
          inside = omega arith;
        }

  -- the last segment is written and nothing else
  module _ (p q : Sheet) (a : BezierVertex) (k : ℕ) (C : Carried vertex count p q a k) (n : ℕ) (n_is : n ≡ count) (last : n - 1 ≤ k) (b : BezierVertex)
      (b_is : b ≡ vertex (n - 1)) (c : PathCommand) (is : c ≡ bezier_segment a b) where
    last_is : b ≡ vertex k
    last_is = b_is ∙ ap vertex (omega (arith, C.inside))

    pub last_room : HasRoom ds p → HasRoom (c ∷ []) q
    last_room room =
        rw is (last_fits (take (k - 1) ds) (bezier_segment a b) (two p q a k C b last_is) p q C.written ds (drop k ds) (all_is p q a k C b last_is) room)

    pub last_wrote : (r : Sheet) → Wrote (c ∷ []) q r → Wrote ds p r
    last_wrote r W =
        let e : ds ≡ take (k - 1) ds ++ bezier_segment a b ∷ [] =
        sym (take_all k ds (omega (arith, along_length vertex count))) ∙ part_is p q a k C b last_is in
        rw e (followed_last (take (k - 1) ds) (bezier_segment a b) (two p q a k C b last_is) p q C.written r (rw is at W))

pub ruleset carryings = (carried_room, carried_on, last_room, last_wrote)
