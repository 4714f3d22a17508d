-- 11 is given by what a merge needs, and that is within the room that is enough for its sources. Assumes nothing.
use Rattle.std.specs.Prelude.{Ok, Err}
use mathlib.Core.Path.{◌≡◌, refl, sym, ap, ◌∙◌}
use mathlib.Core.Bool.{Bool, true, false, cond, not}
use mathlib.Core.List.{List, [], ◌∷◌, map}
use Prim.Native.Nat.{ℕ, ◌+◌}
use native.Mathlib.Omega.{arith}
use lib.Ieee.{Float}
use Rattle.command.specs.declared.PathCommand.{PathCommand}
use Rattle.command.specs.declared.Refusal.TheVariants.{NotMergeable}
use Rattle.command.specs.Outcomes.{Outcome, and_then, value_or}
use Rattle.command.specs.Buffers.{size_of, need_of, Within}
use Rattle.command.proofs.Outcomes.{refused_accepted}
use Rattle.item.specs.declared.ItemRow.{ItemRow}
use Rattle.item.specs.Rows.{item_row}
use Rattle.draw.specs.Items.{draw_source}
use Rattle.need.specs.Enough.{row_room}
use Rattle.need.proofs.Enough.{source_enough}
use Rattle.need.proofs.Small.{NotSmall, checked_not_small, small_by_need, source_not_small}
use Rattle.nest.specs.Items.{items_of}
use Rattle.merge.specs.Rule.{entries, before, sources, joins}
use Rattle.merge.specs.Decision.{decision, row_checks, ruling}
use Rattle.join.specs.Merge.{followed_by, draw_sources, draw_joined, draw_merge}
use Rattle.join.specs.Sources.{need_after}
use Rattle.join.specs.Enough.{MergeSmall, sources_room, MergeEnough}
use Rattle.join.proofs.Ways.{need_room}

-- a need after another, within two rooms
both_within : (a b r s : ℕ × ℕ) → Within a r → Within b s → Within (a.0 + b.0, a.1 + b.1) (r.0 + s.0, r.1 + s.1)
both_within a b r s h g = (omega (arith, h.0, g.0), omega (arith, h.1, g.1))

-- one drawing after another
followed_within : (o p : Outcome (List PathCommand)) (r s need : ℕ × ℕ) → ((n : ℕ × ℕ) → need_of o ≡ Ok n → Within n r)
    → ((n : ℕ × ℕ) → need_of p ≡ Ok n → Within n s) → need_of (followed_by o p) ≡ Ok need → Within need (r.0 + s.0, r.1 + s.1)
unfolding followed_by need_after
followed_within (Err q) p r s need f g e = refused_accepted q need e
followed_within (Ok cs) (Err q) r s need f g e = refused_accepted q need e
followed_within (Ok cs) (Ok ds) r s need f g e =
    let n = size_of cs in
    let m = size_of ds in
    let sum = need_room (Ok cs) (Ok ds) n.0 n.1 refl in
    rw (← ap (value_or need) (sym sum ∙ e)) (both_within n m r s (f n refl) (g m refl))

sources_within : (rs : List ItemRow) (items : List Float) (need : ℕ × ℕ) → need_of (draw_sources rs items) ≡ Ok need → Within need (sources_room rs)
unfolding draw_sources sources_room
sources_within [] items need e = rw (← ap (value_or need) e) (omega arith, omega arith)
sources_within (r ∷ rs) items need e =
    followed_within (draw_source r items) (draw_sources rs items) (row_room r) (sources_room rs) need (source_enough r items) (sources_within rs items) e

pub merge_enough : MergeEnough
unfolding draw_merge draw_joined
merge_enough rows n items numbers need d e = sources_within (map (item_row rows) numbers) items need (rw d at e)

-- ---- 11 by the need
ruled_not_small : (rows : List ℕ) (n : ℕ) → NotSmall (ruling rows n)
unfolding ruling
ruled_not_small rows n = go (not (joins (entries (items_of rows n)))) (sources (before (entries (items_of rows n))))
  where
    go : (t : Bool) (numbers : List ℕ) → NotSmall (cond t (Err NotMergeable) (Ok numbers))
    go true numbers h = omega arith
    go false numbers h = omega arith

decided_not_small : (rows : List ℕ) (n : ℕ) → NotSmall (decision rows n)
unfolding decision row_checks
decided_not_small rows n =
    checked_not_small (row_checks rows n) (ruling rows n)
    (λ h. omega arith, (λ h. omega arith, (λ h. omega arith, (λ h. omega arith, (λ h. omega arith, (λ h. omega arith, tt)))))) (ruled_not_small rows n)

followed_not_small : (o p : Outcome (List PathCommand)) → NotSmall o → NotSmall p → NotSmall (followed_by o p)
unfolding followed_by
followed_not_small (Err r) p h g = h
followed_not_small (Ok cs) (Err r) h g = g
followed_not_small (Ok cs) (Ok ds) h g = g

sources_not_small : (rs : List ItemRow) (items : List Float) → NotSmall (draw_sources rs items)
unfolding draw_sources
sources_not_small [] items = λ h. omega arith
sources_not_small (r ∷ rs) items = followed_not_small (draw_source r items) (draw_sources rs items) (source_not_small r items) (sources_not_small rs items)

pub merge_small : MergeSmall
unfolding draw_merge draw_joined
merge_small rows n items = small_by_need (draw_merge rows n items) (go (decision rows n) (decided_not_small rows n))
  where
    go : (o : Outcome (List ℕ)) → NotSmall o → NotSmall (and_then o (draw_joined rows items))
    go (Err r) h = h
    go (Ok numbers) h = sources_not_small (map (item_row rows) numbers) items
