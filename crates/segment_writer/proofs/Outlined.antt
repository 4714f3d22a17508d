-- The path of an outline is written in parts: a move, the segments between the vertices, and what closes it. Assumes nothing.
use mathlib.Core.Path.{◌≡◌, refl}
use mathlib.Core.Bool.{Bool, true, false}
use mathlib.Core.List.{List, [], ◌∷◌, ◌++◌, append-nil}
use Prim.Native.Nat.{ℕ, ◌-◌, ◌<◌}
use native.Mathlib.Omega.{arith}
use Rattle.command.specs.declared.PathCommand.{PathCommand}
use Rattle.command.specs.declared.PathCommand.TheVariants.{Move, Close}
use Rattle.path.specs.declared.BezierVertex.{BezierVertex}
use Rattle.path.specs.Path.{bezier_segment}
use Rattle.path.specs.Between.{path_along, segments_along}
use Rattle.path.proofs.Along.{along_open, along_closed}
use Rattle.sheet.specs.declared.Sheet.{Sheet}
use Rattle.sheet.specs.Sheets.{HasRoom, Wrote}
use Rattle.sheet.proofs.Written.{room_first, room_next, wrote_none, wrote_both}

module _ (vertex : ℕ → BezierVertex) (count : ℕ) (some : 0 < count) (n : ℕ) (n_is : n ≡ count) (more : n ≡ 1 → ⊥) (first : BezierVertex)
    (first_is : first ≡ vertex 0) where
  abbrev begin : PathCommand
  begin = Move first.x first.y

  abbrev segments : List PathCommand
  segments = segments_along vertex count

  abbrev back : Bool → List PathCommand
  back false = []
  back true = bezier_segment (vertex (count - 1)) first ∷ Close ∷ []

  whole : (closed : Bool) → path_along closed vertex count ≡ (begin ∷ []) ++ (segments ++ back closed)
  whole false = rw (first_is, append-nil) (along_open vertex count (omega arith))
  whole true = rw first_is (along_closed vertex count (omega arith))

  module _ (closed : Bool) (p : Sheet) (room : HasRoom (path_along closed vertex count) p) where
    pub begin_room : HasRoom (begin ∷ []) p
    begin_room = room_first (path_along closed vertex count) (begin ∷ []) (segments ++ back closed) (whole closed) p p room

    module _ (q : Sheet) (w : Wrote (begin ∷ []) p q) where
      after : HasRoom (segments ++ back closed) q
      after = room_next (path_along closed vertex count) (begin ∷ []) (segments ++ back closed) (whole closed) p q room w

      pub segments_room : HasRoom segments q
      segments_room = room_first (segments ++ back closed) segments (back closed) refl q q after

      module _ (r : Sheet) (v : Wrote segments q r) where
        all_wrote : (s : Sheet) → Wrote (back closed) r s → Wrote (path_along closed vertex count) p s
        all_wrote s x =
            wrote_both (path_along closed vertex count) (begin ∷ []) (segments ++ back closed) (whole closed) p q s w
            (wrote_both (segments ++ back closed) segments (back closed) refl q r s v x)

        pub open_wrote : closed ≡ false → Wrote (path_along closed vertex count) p r
        open_wrote e = all_wrote r (rw e (wrote_none r))

        module _ (e : closed ≡ true) (last : BezierVertex) (last_is : last ≡ vertex (count - 1)) (c : PathCommand) (c_is : c ≡ bezier_segment last first) where
          back_is : c ∷ Close ∷ [] ≡ back closed
          back_is = rw (e, c_is, last_is)

          pub back_room : HasRoom (c ∷ Close ∷ []) r
          back_room = rw back_is (room_next (segments ++ back closed) segments (back closed) refl q r after v)

          pub closed_wrote : (s : Sheet) → Wrote (c ∷ Close ∷ []) r s → Wrote (path_along closed vertex count) p s
          closed_wrote s x = all_wrote s (rw back_is at x)

pub ruleset outlines = (segments_room, open_wrote, back_room, closed_wrote)
