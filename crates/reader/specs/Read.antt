-- One command as a code and the numbers from a place on: the order of its checks, and the command. Definitions only.
use Rattle.std.specs.Prelude.{ℕ, ◌+◌, cond, not, List, [], ◌∷◌, eqb, ltb, Float, length, get_or, take, drop, Ok}
use Rattle.std.specs.Float.{nan}
use Rattle.ieee.specs.Limit.{all_within}
use Rattle.command.specs.declared.PathCommand.{PathCommand}
use Rattle.command.specs.declared.PathCommand.TheVariants.{Move, Line, Cubic, Close, Quad}
use Rattle.command.specs.declared.Refusal.TheVariants.{OutOfRange, Unlisted, OutOfBounds}
use Rattle.command.specs.Commands.{command_limit}
use Rattle.command.specs.Outcomes.{Outcome, mapped, Check, ◌gives◌, checked}

-- how many numbers a command has: move 0 and line 1 two, cubic 2 six, close 3 none, quad 4 four
unfoldable pub size_of_code : ℕ → ℕ
size_of_code c = cond (ltb c 2) 2 (cond (eqb c 2) 6 (cond (eqb c 4) 4 0))

-- the command with this code whose numbers stand at the start of v
unfoldable pub command_at : ℕ → List Float → PathCommand
command_at c v =
    cond (eqb c 0) (Move (get_or v 0 nan) (get_or v 1 nan))
    (cond (eqb c 1) (Line (get_or v 0 nan) (get_or v 1 nan))
    (cond (eqb c 2) (Cubic (get_or v 0 nan) (get_or v 1 nan) (get_or v 2 nan) (get_or v 3 nan) (get_or v 4 nan) (get_or v 5 nan))
    (cond (eqb c 3) Close (Quad (get_or v 0 nan) (get_or v 1 nan) (get_or v 2 nan) (get_or v 3 nan)))))

-- the checks 4, 12, 3 in this order
unfoldable pub command_checks : ℕ → List Float → List Check
command_checks c v =
    (ltb 4 c gives Unlisted)
    ∷ (ltb (length v) (size_of_code c) gives OutOfBounds)
    ∷ (not (all_within command_limit (take (size_of_code c) v)) gives OutOfRange)
    ∷ []

-- then the command: numbers past its own are not read
unfoldable pub read_command : ℕ → List Float → Outcome PathCommand
read_command c v = checked (command_checks c v) (Ok (command_at c v))

-- the command whose numbers start at a place of a list, and the place after them
unfoldable pub read_from : ℕ → List Float → ℕ → Outcome (PathCommand × ℕ)
read_from code numbers place = mapped (λ (c : PathCommand). (c, place + size_of_code code)) (read_command code (drop place numbers))
