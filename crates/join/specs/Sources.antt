-- What the passes over the rows before a merge row work out: the rows' drawings one after another, and the room that they need. Definitions only.
use Rattle.std.specs.Prelude.{ℕ, ◌+◌, Bool, true, false, cond, List, [], ◌∷◌, Float, Ok, Err}
use Rattle.command.specs.declared.PathCommand.{PathCommand}
use Rattle.command.specs.Outcomes.{Outcome, mapped}
use Rattle.item.specs.declared.ItemRow.{ItemRow}
use Rattle.draw.specs.Items.{draw_source}
use Rattle.merge.specs.Flat.{is_source_row}
use Rattle.join.specs.Merge.{followed_by}

abbrev pub is_accepted : Outcome (List PathCommand) → Bool
is_accepted (Err r) = false
is_accepted (Ok cs) = true

-- a row draws nothing where it is no source
unfoldable pub draw_row : ItemRow → List Float → Outcome (List PathCommand)
unfolding draw_source
draw_row row items = cond (is_source_row row) (draw_source row items) (Ok [])

unfoldable pub draw_rows : List ItemRow → List Float → Outcome (List PathCommand)
unfolding followed_by draw_row
draw_rows [] items = Ok []
draw_rows (r ∷ rs) items = followed_by (draw_row r items) (draw_rows rs items)

-- a need with so much room before it
unfoldable pub need_after : ℕ → ℕ → Outcome (ℕ × ℕ) → Outcome (ℕ × ℕ)
need_after codes numbers o = mapped (λ (n : ℕ × ℕ). (codes + n.0, numbers + n.1)) o
