-- What a merge comes to on its rows: a refusal, or which rows are joined. Definitions only.
use Rattle.std.specs.Prelude.{ℕ, ◌*◌, ◌≡◌, ◌≤◌, not, List, [], ◌∷◌, ltb, eqb, length, Ok, Err}
use Rattle.std.specs.List.{list_all}
use Rattle.command.specs.declared.Refusal.TheVariants.{Empty, TooMany, Unlisted, BrokenNesting, NotMergeable, OutOfBounds}
use Rattle.command.specs.Outcomes.{Outcome, mapped, Check, ◌gives◌, checked}
use Rattle.item.specs.declared.ItemRow.{ItemRow}
use Rattle.item.specs.Rows.{is_listed}
use Rattle.nest.specs.Lists.{rows_from, is_shallow, is_nested}
use Rattle.nest.specs.Items.{items_of}
use Rattle.merge.specs.Rule.{entries, before, sources, joins}
use Rattle.merge.specs.Flat.{sources_from}

-- the merge rule on the items that n rows stand for: 7, or the sources before the merge item
unfoldable pub ruling : List ℕ → ℕ → Outcome (List ℕ)
unfolding items_of entries joins sources before
ruling rows n =
    let items = entries (items_of rows n) in
    checked ((not (joins items) gives NotMergeable) ∷ []) (Ok (sources (before items)))

-- the checks on the rows, each over all rows before the next: 1, 2 for the row number, 12, 2 for depth, 4, 6
unfoldable pub row_checks : List ℕ → ℕ → List Check
unfolding rows_from is_listed is_nested
row_checks rows n =
    (eqb n 0 gives Empty)
    ∷ (ltb 256 n gives TooMany)
    ∷ (ltb (length rows) (6 * n) gives OutOfBounds)
    ∷ (not (list_all is_shallow (rows_from rows 0 n)) gives TooMany)
    ∷ (not (list_all is_listed (rows_from rows 0 n)) gives Unlisted)
    ∷ (not (is_nested 0 (rows_from rows 0 n)) gives BrokenNesting)
    ∷ []

-- the whole order: the checks on the rows, then the merge rule
unfoldable pub decision : List ℕ → ℕ → Outcome (List ℕ)
unfolding row_checks ruling
decision rows n = checked (row_checks rows n) (ruling rows n)

-- what an answer of `decide`, the rows before the merge row, says: its refusal, or the sources among these rows
unfoldable pub said : Outcome (List ItemRow) → Outcome (List ℕ)
unfolding sources_from
said answer = mapped (λ (before : List ItemRow). sources_from 0 before) answer

-- what a decision leaves to the joining: so many of the list's first rows
abbrev pub Settled : List ℕ → Outcome (List ItemRow) → Type 0
Settled rows (Err r) = Unit {0}
Settled rows (Ok before) = (length before ≤ 256) × (6 * length before ≤ length rows) × (before ≡ rows_from rows 0 (length before))
