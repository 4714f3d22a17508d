-- What measuring a lent command list answers, whatever it is given. Definitions only.
use Rattle.std.specs.Prelude.{ℕ, List, Float}
use Rattle.command.specs.Outcomes.{Outcome, mapped}
use Rattle.judge.specs.Lists.{judge_list}
use Rattle.measure.specs.Length.{path_length}

-- the list is judged, then measured; an empty list has length 0
unfoldable pub measure_list : List ℕ → List Float → Outcome Float
measure_list codes numbers = mapped path_length (judge_list codes numbers)
