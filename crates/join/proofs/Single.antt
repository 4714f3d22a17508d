-- Every number of a merge is an f32 where those that are read are. Assumes nothing.
use Rattle.std.specs.Prelude.{Ok, Err}
use Prim.Native.Nat.{ℕ, suc, ◌<◌}
use native.Mathlib.Nat.{zero-lt-suc}
use native.Mathlib.Omega.{arith}
use mathlib.Core.Path.{◌≡◌, refl, sym, subst}
use mathlib.Core.List.{List, [], ◌∷◌, map}
use lib.Ieee.{Float}
use lib.ListN.{length, get_or}
use Rattle.command.specs.declared.PathCommand.{PathCommand}
use Rattle.command.specs.Commands.{numbers_of}
use Rattle.command.specs.Outcomes.{Outcome, and_then, list_of}
use Rattle.command.proofs.Lists.{numbers_append}
use Rattle.item.specs.declared.ItemRow.{ItemRow}
use Rattle.item.specs.Rows.{item_row}
use Rattle.draw.specs.Items.{draw_source}
use Rattle.merge.specs.Decision.{decision}
use Rattle.join.specs.Merge.{followed_by, draw_sources, draw_joined, draw_merge}
use Rattle.join.specs.Joined.{JoinedRow}
use Rattle.ieee.specs.Single.{Single, AllSingle}
use Rattle.draw.proofs.Single.{ReadSingle, source_single}
use Rattle.ieee.proofs.Each.{each_append}

followed_single : (o p : Outcome (List PathCommand)) → AllSingle (numbers_of (list_of o)) → AllSingle (numbers_of (list_of p)) → AllSingle (numbers_of (list_of (followed_by o p)))
unfolding followed_by
followed_single (Err r) p O P = tt
followed_single (Ok cs) (Err r) O P = tt
followed_single (Ok cs) (Ok ds) O P = subst AllSingle (sym (numbers_append cs ds)) (each_append Single (numbers_of cs) (numbers_of ds) O P)

sources_single : (rows : List ℕ) (items : List Float) (numbers : List ℕ) → ((i : ℕ) → i < length numbers → ReadSingle (item_row rows (get_or numbers i 0)) items)
    → AllSingle (numbers_of (list_of (draw_sources (map (item_row rows) numbers) items)))
unfolding draw_sources
sources_single rows items [] at = tt
sources_single rows items (m ∷ ms) at =
    followed_single (draw_source (item_row rows m) items) (draw_sources (map (item_row rows) ms) items) (source_single (item_row rows m) items (at 0 (zero-lt-suc (length ms))))
    (sources_single rows items ms (λ i h. at (suc i) (omega arith)))

pub merge_drawn_single : (rows : List ℕ) (n : ℕ) (items : List Float) → ((r : ItemRow) → JoinedRow rows n r → ReadSingle r items) → AllSingle (numbers_of (list_of (draw_merge rows n items)))
unfolding draw_merge draw_joined
merge_drawn_single rows n items at = go (decision rows n) refl
  where
    go : (d : Outcome (List ℕ)) → decision rows n ≡ d → AllSingle (numbers_of (list_of (and_then d (draw_joined rows items))))
    go (Err r) e = tt
    go (Ok numbers) e = sources_single rows items numbers (λ i h. at (item_row rows (get_or numbers i 0)) (record { numbers = numbers; decided = e; index = i; inside = h; is = refl }))
