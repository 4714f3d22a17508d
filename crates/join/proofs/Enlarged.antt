-- A merge of enlarged items is the enlarged merge: the refusals are the same, and every number of the commands is multiplied. The numbers of rows that
-- are not joined may differ
-- freely. Assumes nothing.
use Rattle.std.specs.Prelude.{Ok, Err}
use mathlib.Core.Path.{◌≡◌, refl}
use mathlib.Core.List.{List, [], ◌∷◌, map}
use Prim.Native.Nat.{ℕ, suc, ◌+◌, ◌≤◌, ◌<◌}
use native.Mathlib.Nat.{zero-lt-suc}
use native.Mathlib.Omega.{arith}
use lib.Ieee.{Float, nan}
use lib.ListN.{length, get_or}
use Rattle.ieee.specs.Grid.{Twin}
use Rattle.command.specs.declared.PathCommand.{PathCommand}
use Rattle.command.specs.Commands.{numbers_of}
use Rattle.command.specs.Outcomes.{Outcome, and_then, list_of}
use Rattle.command.specs.Enlarged.{AllOn, enlarged_drawing, DrawingTwin}
use Rattle.command.proofs.Enlarged.{twins_none, twins_append, drawing_refused, drawing_accepted}
use Rattle.item.specs.declared.ItemRow.{ItemRow}
use Rattle.item.specs.Rows.{item_row, entries_of}
use Rattle.draw.specs.Items.{draw_source}
use Rattle.draw.proofs.Enlarged.{source_outcome}
use Rattle.merge.specs.Decision.{decision}
use Rattle.join.specs.Merge.{followed_by, draw_sources, draw_joined, draw_merge}
use Rattle.join.specs.Joined.{JoinedRow}

module _ {k q b : ℕ} where
  drawing_followed : {o o' p p' : Outcome (List PathCommand)} → DrawingTwin k q b o o' → DrawingTwin k q b p p' → DrawingTwin k q b (followed_by o p) (followed_by o' p')
  unfolding followed_by
  drawing_followed {o} {o'} {p} {p'} O P = rw (O.outcome, P.outcome) (go o p O.grid P.grid)
    where
      go : (o p : Outcome (List PathCommand)) → AllOn q b (numbers_of (list_of o)) → AllOn q b (numbers_of (list_of p)) → DrawingTwin k q b (followed_by o p) (followed_by (enlarged_drawing k o) (enlarged_drawing k p))
      go (Err r) (Err s) A B = drawing_refused _
      go (Err r) (Ok ds) A B = drawing_refused r
      go (Ok cs) (Err r) A B = drawing_refused r
      go (Ok cs) (Ok ds) A B = drawing_accepted (twins_append {cs = cs} {ds = ds} (record { commands = refl; grid = A }) (record { commands = refl; grid = B }))

sources_outcome : (k q b : ℕ) (rows : List ℕ) (items items' : List Float) (numbers : List ℕ)
    → ((i : ℕ) → i < length numbers → DrawingTwin k q b (draw_source (item_row rows (get_or numbers i 0)) items) (draw_source (item_row rows (get_or numbers i 0)) items'))
    → DrawingTwin k q b (draw_sources (map (item_row rows) numbers) items) (draw_sources (map (item_row rows) numbers) items')
unfolding draw_sources
sources_outcome k q b rows items items' [] twins = drawing_accepted twins_none
sources_outcome k q b rows items items' (m ∷ ms) twins =
    drawing_followed (twins 0 (zero-lt-suc (length ms))) (sources_outcome k q b rows items items' ms (λ i h. twins (suc i) (omega arith)))

-- the decision reads no number of the items, so it is the same for both
pub merge_outcome : (k : ℕ) → k ≤ 6 → (rows : List ℕ) (n : ℕ) (items items' : List Float) → length items' ≡ length items
    → ((r : ItemRow) → JoinedRow rows n r → (j : ℕ) → r.place ≤ j → j < r.place + entries_of r → j < length items → Twin k 10 13 (get_or items j nan) (get_or items' j nan))
    → DrawingTwin k 35 16 (draw_merge rows n items) (draw_merge rows n items')
unfolding draw_merge draw_joined
merge_outcome k K rows n items items' long twins = go (decision rows n) refl
  where
    go : (d : Outcome (List ℕ)) → decision rows n ≡ d → DrawingTwin k 35 16 (and_then d (draw_joined rows items)) (and_then d (draw_joined rows items'))
    go (Err r) e = drawing_refused r
    go (Ok numbers) e =
        sources_outcome k 35 16 rows items items' numbers
        (λ i h.
        let r : ItemRow = item_row rows (get_or numbers i 0) in
        source_outcome k K r items items' long (twins r (record { numbers = numbers; decided = e; index = i; inside = h; is = refl })))
