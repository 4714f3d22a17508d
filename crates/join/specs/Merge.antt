-- What a merge answers, whatever it is given. Definitions only.
use Rattle.std.specs.Prelude.{ℕ, List, [], ◌∷◌, ◌++◌, map, Float, Ok}
use Rattle.command.specs.declared.PathCommand.{PathCommand}
use Rattle.command.specs.Outcomes.{Outcome, mapped, and_then}
use Rattle.item.specs.declared.ItemRow.{ItemRow}
use Rattle.item.specs.Rows.{item_row}
use Rattle.draw.specs.Items.{draw_source}
use Rattle.merge.specs.Decision.{decision}

-- one drawing after another: the first refusal, or the commands of both
unfoldable pub followed_by : Outcome (List PathCommand) → Outcome (List PathCommand) → Outcome (List PathCommand)
followed_by o p = and_then o (λ (cs : List PathCommand). mapped (λ (ds : List PathCommand). cs ++ ds) p)

-- the sources judged by 5, 1, 2, 12, 3 and drawn, one after another
unfoldable pub draw_sources : List ItemRow → List Float → Outcome (List PathCommand)
unfolding followed_by draw_source
draw_sources [] items = Ok []
draw_sources (r ∷ rs) items = followed_by (draw_source r items) (draw_sources rs items)

-- the rows of these numbers, drawn
unfoldable pub draw_joined : List ℕ → List Float → List ℕ → Outcome (List PathCommand)
unfolding draw_sources
draw_joined rows items numbers = draw_sources (map (item_row rows) numbers) items

-- the merge of the first n rows, all but the check of the buffers: what the rows decide, drawn
unfoldable pub draw_merge : List ℕ → ℕ → List Float → Outcome (List PathCommand)
unfolding decision draw_joined
draw_merge rows n items = and_then (decision rows n) (draw_joined rows items)
