-- Reading a command list from its start, a command at a time, up to a length or to its end: the code's own way to lengths. Definitions only.
use Rattle.std.specs.Prelude.{ℕ, suc, Bool, true, false, cond, List, [], ◌∷◌, Float, drop, Option, Some, None, Ok}
use Rattle.std.specs.Float.Ieee.{le}
use Rattle.command.specs.declared.PathCommand.{PathCommand}
use Rattle.command.specs.Outcomes.{Outcome, mapped, and_then}
use Rattle.reader.specs.Read.{size_of_code, read_command}
use Rattle.judge.specs.Lists.{read_list}
use Rattle.measure.specs.declared.Pen.{Pen}
use Rattle.measure.specs.Length.{step}

-- a walk to the end stops nowhere, one up to a length where that is reached
unfoldable pub is_there : Option Float → Float → Bool
is_there None x = false
is_there (Some least) x = le least x

-- From a pen on, after n commands: whether it stopped before the end, after how many commands, and how long they are.
unfoldable pub walk_from : Option Float → Pen → ℕ → List ℕ → List Float → Outcome (Bool × ℕ × Float)
walk_from until pen n [] v =
    cond (is_there until pen.length) (Ok (true, n, pen.length)) (mapped (λ (cs : List PathCommand). (false, n, pen.length)) (read_list [] v))
walk_from until pen n (c ∷ cs) v =
    cond (is_there until pen.length) (Ok (true, n, pen.length))
    (and_then (read_command c v) (λ (p : PathCommand). walk_from until (step pen p) (suc n) cs (drop (size_of_code c) v)))
