-- What drawing a vertex list answers, whatever it is given. Definitions only.
use Rattle.std.specs.Prelude.{ℕ, ◌*◌, not, List, [], ◌∷◌, eqb, ltb, Float, length, take, Ok}
use Rattle.ieee.specs.Limit.{all_within}
use Rattle.command.specs.declared.PathCommand.{PathCommand}
use Rattle.command.specs.declared.Refusal.TheVariants.{Empty, TooMany, OutOfRange, Unlisted, OutOfBounds}
use Rattle.command.specs.Outcomes.{Outcome, Check, ◌gives◌, checked}
use Rattle.path.specs.Path.{path_commands}
use Rattle.draw.specs.Checks.{coordinate_limit}

-- the checks 1, 2, 4, 12, 3 in this order: numbers past the lent vertices are not read
unfoldable pub path_checks : ℕ → List Float → ℕ → List Check
unfolding all_within
path_checks closed v count =
    (eqb count 0 gives Empty)
    ∷ (ltb 1024 count gives TooMany)
    ∷ (ltb 1 closed gives Unlisted)
    ∷ (ltb (length v) (6 * count) gives OutOfBounds)
    ∷ (not (all_within coordinate_limit (take (6 * count) v)) gives OutOfRange)
    ∷ []

-- then the commands
unfoldable pub draw_path : ℕ → List Float → ℕ → Outcome (List PathCommand)
unfolding path_checks path_commands
draw_path closed v count = checked (path_checks closed v count) (Ok (path_commands closed v count))
