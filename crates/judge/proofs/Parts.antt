-- The place and the count that are told of a command's numbers cut the part that is handed back, and the number is the same. Assumes nothing.
use Rattle.std.specs.Prelude.{Ok, Err}
use mathlib.Core.Path.{◌≡◌, refl}
use mathlib.Core.List.{List}
use Prim.Native.Nat.{ℕ}
use lib.Ieee.{Float}
use lib.ListN.{get_or, take, drop}
use Rattle.command.specs.declared.PathCommand.{PathCommand}
use Rattle.command.specs.Outcomes.{Outcome, number_of, mapped, list_of}
use Rattle.reader.specs.Read.{size_of_code}
use Rattle.judge.specs.Lists.{place_of, judge_command, find_command, command_fault, command_part}

-- the part of a list from a place on, of so many numbers: none for a refusal
abbrev part_at : List Float → Outcome (ℕ × ℕ) → List Float
part_at v o = list_of (mapped (λ (n : ℕ × ℕ). take n.1 (drop n.0 v)) o)

module _ (codes : List ℕ) (numbers : List Float) (k : ℕ) where
  abbrev found : List PathCommand → ℕ × ℕ
  found cs = (place_of k codes, size_of_code (get_or codes k 3))

  pub found_part : part_at numbers (find_command codes numbers k) ≡ command_part codes numbers k
  unfolding find_command command_part
  found_part = go (judge_command codes numbers k)
    where
      go : (o : Outcome (List PathCommand)) → part_at numbers (mapped found o)
          ≡ list_of (mapped (λ (cs : List PathCommand). take (size_of_code (get_or codes k 3)) (drop (place_of k codes) numbers)) o)
      go (Err r) = refl
      go (Ok cs) = refl

  pub found_fault : number_of (find_command codes numbers k) ≡ command_fault codes numbers k
  unfolding find_command command_fault
  found_fault = go (judge_command codes numbers k)
    where
      go : (o : Outcome (List PathCommand)) → number_of (mapped found o) ≡ number_of o
      go (Err r) = refl
      go (Ok cs) = refl
