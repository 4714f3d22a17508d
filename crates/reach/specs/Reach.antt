-- Long enough yet: document 02, U3. 'Stop reading at the first command whose running length reaches L, and report how many commands were read'.
-- Definitions only.
use Rattle.std.specs.Prelude.{ℕ, zero, suc, ◌≡◌, Bool, true, false, cond, not, ◌&&◌, List, [], ◌∷◌, ltb, Float, length, take, Ok, Err}
use Rattle.std.proofs.Math.Option.{Option, none, some}
use Rattle.std.specs.Float.Ieee.{le}
use Rattle.std.specs.Float.Ieee.Scale.{finite}
use Rattle.ieee.specs.Literal.{zero32}
use Rattle.command.specs.declared.Refusal.TheVariants.{TooMany, OutOfRange}
use Rattle.command.specs.Outcomes.{Outcome, mapped, value_or, Check, ◌gives◌, checked, Told}
use Rattle.judge.specs.Lists.{most_commands, place_of}
use Rattle.length.specs.Lists.{measure_list}

-- ---- 'the fewest whose length is at least L'

-- the length of the first n commands, as a list by themselves: n codes, and just the numbers that belong to them
unfoldable pub first_length : ℕ → List ℕ → List Float → Outcome Float
first_length n codes numbers = measure_list (take n codes) (take (place_of n codes) numbers)

-- it is at least L. The length of no commands is 0, so 'L = 0 is yes after none', whatever the list holds.
unfoldable pub long_enough : List ℕ → List Float → Float → ℕ → Bool
long_enough codes numbers least n = value_or false (mapped (le least) (first_length n codes numbers))

-- one more, if there is a number
unfoldable pub one_more : Option ℕ → Option ℕ
one_more none = none
one_more (some n) = some (suc n)

-- the least number from 0 to `last` for which a test holds, if it holds for any; `FewestIsLeast` (specs/Stops.antt) says that it is
unfoldable pub fewest : (ℕ → Bool) → ℕ → Option ℕ
fewest test zero = cond (test 0) (some 0) none
fewest test (suc last) = cond (test 0) (some 0) (one_more (fewest (λ (n : ℕ). test (suc n)) last))

-- ---- the reply, and how many commands were read

-- Yes after the fewest: what lies past them goes unseen, numbers left over too. Where none are long enough the list is refused as the length refuses it,
-- or else the reply is no, after all of them.
unfoldable pub yes_or_no : Option ℕ → ℕ → Outcome Float → Outcome (Bool × ℕ)
yes_or_no (some n) all measured = Ok (true, n)
yes_or_no none all measured = mapped (λ (x : Float). (false, all)) measured

-- L 'must be finite and not negative'; a -0 is 0
unfoldable pub is_length : Float → Bool
is_length least = finite least && le zero32 least

-- 'The list's length limit comes first, then L'
abbrev pub reach_checks : List ℕ → Float → List Check
reach_checks codes least = (ltb most_commands (length codes) gives TooMany) ∷ (not (is_length least) gives OutOfRange) ∷ []

unfoldable pub length_reaches : List ℕ → List Float → Float → Outcome (Bool × ℕ)
length_reaches codes numbers least =
    checked (reach_checks codes least) (yes_or_no (fewest (long_enough codes numbers least) (length codes)) (length codes) (measure_list codes numbers))

-- ---- what the call promises

-- yes is 1, and no is 0
abbrev pub reply_mark : Bool × ℕ → ℕ
reply_mark reply = cond reply.0 1 0

abbrev pub commands_read : Bool × ℕ → ℕ
commands_read reply = reply.1

-- The reply is told at a place of the caller's, and the number of commands read beside it: 0 for a refusal.
pub record Replied (o : Outcome (Bool × ℕ)) (number read reached reached' : ℕ) : Type 0 where
  pub reply_told : Told (mapped reply_mark o) number reached reached'
  pub read_is : read ≡ value_or 0 (mapped commands_read o)
