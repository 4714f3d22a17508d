-- A command list as codes and numbers: the order of its checks, its commands, and the numbers of one command. Definitions only.
use Rattle.std.specs.Prelude.{ℕ, zero, suc, ◌+◌, not, List, [], ◌∷◌, eqb, ltb, Float, length, get_or, take, drop, Ok}
use Rattle.command.specs.declared.PathCommand.{PathCommand}
use Rattle.command.specs.declared.Refusal.TheVariants.{TooMany, OutOfBounds}
use Rattle.command.specs.Outcomes.{Outcome, number_of, mapped, and_then, list_of, ◌gives◌, checked}
use Rattle.reader.specs.Read.{size_of_code, read_command}

-- ---- the list

-- one command more in front of those that are read
unfoldable pub in_front : Outcome (List PathCommand) → PathCommand → Outcome (List PathCommand)
in_front rest c = mapped (λ (cs : List PathCommand). c ∷ cs) rest

-- the first faulty command in list order counts; numbers left over after the last command come last, as 12
unfoldable pub read_list : List ℕ → List Float → Outcome (List PathCommand)
read_list [] v = checked ((not (eqb (length v) 0) gives OutOfBounds) ∷ []) (Ok [])
read_list (c ∷ cs) v = and_then (read_command c v) (in_front (read_list cs (drop (size_of_code c) v)))

-- the length limit is first: over 262,144 commands is 2
abbrev pub most_commands : ℕ
most_commands = 262144

unfoldable pub judge_list : List ℕ → List Float → Outcome (List PathCommand)
judge_list codes numbers = checked ((ltb most_commands (length codes) gives TooMany) ∷ []) (read_list codes numbers)

-- an outcome without its commands
abbrev pub without_commands : Outcome (List PathCommand) → Outcome (Unit {0})
without_commands o = mapped (λ (cs : List PathCommand). tt) o

-- ---- one command of it

-- how many numbers the first k commands have, which is where those of command k start
unfoldable pub place_of : ℕ → List ℕ → ℕ
place_of zero cs = 0
place_of (suc k) [] = 0
place_of (suc k) (c ∷ cs) = size_of_code c + place_of k cs

-- commands of which command k is asked for: a missing one, k of count or more, is 12
unfoldable pub asked_for : ℕ → ℕ → List PathCommand → Outcome (List PathCommand)
asked_for k count cs = checked ((not (ltb k count) gives OutOfBounds) ∷ []) (Ok cs)

-- the list is judged as for its length, then command k is asked for
unfoldable pub judge_command : List ℕ → List Float → ℕ → Outcome (List PathCommand)
judge_command codes numbers k = and_then (judge_list codes numbers) (asked_for k (length codes))

-- where the numbers of command k stand: the place of the first, and how many they are
unfoldable pub find_command : List ℕ → List Float → ℕ → Outcome (ℕ × ℕ)
find_command codes numbers k = mapped (λ (cs : List PathCommand). (place_of k codes, size_of_code (get_or codes k 3))) (judge_command codes numbers k)

-- the number that tells why there is no part: 0 where there is one
unfoldable pub command_fault : List ℕ → List Float → ℕ → ℕ
command_fault codes numbers k = number_of (judge_command codes numbers k)

-- the numbers of command k, as a part of the list: none for a refusal
unfoldable pub command_part : List ℕ → List Float → ℕ → List Float
command_part codes numbers k =
    list_of (mapped (λ (cs : List PathCommand). take (size_of_code (get_or codes k 3)) (drop (place_of k codes) numbers)) (judge_command codes numbers k))
