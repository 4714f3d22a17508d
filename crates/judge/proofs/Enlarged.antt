-- Judging a command list whose numbers are on a grid, and the same list enlarged by a power of two: both have one answer, and a command's numbers are multiplied. Assumes nothing.
use Rattle.std.specs.Prelude.{Ok, Err}
use mathlib.Core.Path.{◌≡◌, refl, sym, ap, ap₂, ◌∙◌}
use mathlib.Core.Bool.{Bool, true, false, cond, not, ◌&&◌}
use mathlib.Core.List.{List, [], ◌∷◌, map}
use Prim.Native.Nat.{ℕ, zero, suc, ◌+◌, ◌≤◌}
use native.Mathlib.Omega.{arith}
use lib.Dec.{ltb}
use lib.Ieee.{Float}
use lib.ListN.{length, get_or, take, drop}
use Rattle.ieee.specs.Limit.{all_within}
use Rattle.ieee.specs.Grid.{scale}
use Rattle.command.specs.declared.PathCommand.{PathCommand}
use Rattle.command.specs.declared.Refusal.TheVariants.{TooMany, OutOfBounds}
use Rattle.command.specs.Commands.{codes_of, numbers_of, command_limit}
use Rattle.command.specs.Outcomes.{Outcome, number_of, mapped, and_then, list_of, Check, ◌gives◌, checked}
use Rattle.command.specs.Enlarged.{AllOn, Twins}
use Rattle.command.proofs.Lists.{codes_length}
use Rattle.command.proofs.Enlarged.{grid_within, twins_codes, twins_numbers, twins_length, twins_grid}
use Rattle.reader.specs.Read.{size_of_code}
use Rattle.judge.specs.Lists.{read_list, judge_list, place_of, asked_for, judge_command, find_command, command_fault, command_part}
use Rattle.judge.proofs.Lists.{commands_read_lem}

-- ---- a list within the limit, judged: only its length counts
all_within_lem : (q b : ℕ) (xs : List Float) → b ≤ 22 → AllOn q b xs → all_within command_limit xs ≡ true
unfolding all_within
all_within_lem q b [] B X = refl
all_within_lem q b (x ∷ xs) B X = ap₂ (λ (s t : Bool). s && t) (grid_within q b x B X.0) (all_within_lem q b xs B X.1)

-- the one check that is left
abbrev pub length_check : ℕ → List Check
length_check n = (ltb 262144 n gives TooMany) ∷ []

-- read, it is its commands
pub grid_read : (q b : ℕ) (cs : List PathCommand) → b ≤ 22 → AllOn q b (numbers_of cs) → read_list (codes_of cs) (numbers_of cs) ≡ Ok cs
grid_read q b cs B X = commands_read_lem cs (all_within_lem q b (numbers_of cs) B X)

judged : (q b : ℕ) (cs : List PathCommand) → b ≤ 22 → AllOn q b (numbers_of cs) → judge_list (codes_of cs) (numbers_of cs) ≡ checked (length_check (length cs)) (Ok cs)
unfolding judge_list
judged q b cs B X = ap₂ (λ (n : ℕ) (o : Outcome (List PathCommand)). checked (length_check n) o) (codes_length cs) (grid_read q b cs B X)

-- what is told of the list asked for command j, whatever its commands are
asked_alike : {A : Type 0} (a : A) (j n : ℕ) (cs cs' : List PathCommand)
    → mapped (λ (ps : List PathCommand). a) (asked_for j n cs') ≡ mapped (λ (ps : List PathCommand). a) (asked_for j n cs)
unfolding asked_for
asked_alike a j n cs cs' = go (ltb j n)
  where
    go : (there : Bool) → mapped (λ (ps : List PathCommand). a) (checked ((not there gives OutOfBounds) ∷ []) (Ok cs'))
        ≡ mapped (λ (ps : List PathCommand). a) (checked ((not there gives OutOfBounds) ∷ []) (Ok cs))
    go true = refl
    go false = refl

take_map : (f : Float → Float) (n : ℕ) (v : List Float) → take n (map f v) ≡ map f (take n v)
take_map f zero v = refl
take_map f (suc n) [] = refl
take_map f (suc n) (x ∷ v) = ap (λ (u : List Float). f x ∷ u) (take_map f n v)

drop_map : (f : Float → Float) (n : ℕ) (v : List Float) → drop n (map f v) ≡ map f (drop n v)
drop_map f zero v = refl
drop_map f (suc n) [] = refl
drop_map f (suc n) (x ∷ v) = drop_map f n v

module _ {k q b : ℕ} {cs cs' : List PathCommand} (t : Twins k q b cs cs') where
  -- ---- where the numbers of command j stand, and how many there are
  pub place_twins : (j : ℕ) → place_of j (codes_of cs') ≡ place_of j (codes_of cs)
  place_twins j = ap (place_of j) (twins_codes t)

  pub size_twins : (j : ℕ) → size_of_code (get_or (codes_of cs') j 3) ≡ size_of_code (get_or (codes_of cs) j 3)
  size_twins j = ap (λ (codes : List ℕ). size_of_code (get_or codes j 3)) (twins_codes t)

  numbers_at : (j : ℕ) → take (size_of_code (get_or (codes_of cs') j 3)) (drop (place_of j (codes_of cs')) (numbers_of cs'))
      ≡ map (scale k) (take (size_of_code (get_or (codes_of cs) j 3)) (drop (place_of j (codes_of cs)) (numbers_of cs)))
  numbers_at j =
      let n = size_of_code (get_or (codes_of cs) j 3) in
      let m = place_of j (codes_of cs) in
      (λ i. take (size_twins j i) (drop (place_twins j i) (twins_numbers t i)))
      ∙ ap (take n) (drop_map (scale k) m (numbers_of cs))
      ∙ take_map (scale k) n (drop m (numbers_of cs))

  module _ (B : b + k ≤ 22) where
    pub judged_first : judge_list (codes_of cs) (numbers_of cs) ≡ checked (length_check (length cs)) (Ok cs)
    judged_first = judged q b cs (omega arith) t.grid

    pub judged_enlarged : judge_list (codes_of cs') (numbers_of cs') ≡ checked (length_check (length cs)) (Ok cs')
    judged_enlarged = judged q (b + k) cs' B (twins_grid t) ∙ ap (λ (n : ℕ). checked (length_check n) (Ok cs')) (twins_length t)

    -- what is the same of the refusal and of the commands is the same of the judged lists
    pub judge_alike : {A : Type 0} (f g : Outcome (List PathCommand) → A) → f (Err TooMany) ≡ g (Err TooMany) → f (Ok cs') ≡ g (Ok cs)
        → f (judge_list (codes_of cs') (numbers_of cs')) ≡ g (judge_list (codes_of cs) (numbers_of cs))
    judge_alike f g r d = ap f judged_enlarged ∙ go (ltb 262144 (length cs)) ∙ sym (ap g judged_first)
      where
        go : (many : Bool) → f (cond many (Err TooMany) (Ok cs')) ≡ g (cond many (Err TooMany) (Ok cs))
        go true = r
        go false = d

    -- ---- one command
    module _ (j : ℕ) where
      -- one thing that is told of both, whatever the commands are
      told_alike : {A : Type 0} (a : A) → mapped (λ (ps : List PathCommand). a) (judge_command (codes_of cs') (numbers_of cs') j)
          ≡ mapped (λ (ps : List PathCommand). a) (judge_command (codes_of cs) (numbers_of cs) j)
      unfolding judge_command
      told_alike a =
          let told : Outcome (List PathCommand) → Outcome _ = λ o. mapped (λ (ps : List PathCommand). a) (and_then o (asked_for j (length (codes_of cs)))) in
          ap (λ (codes : List ℕ). mapped (λ (ps : List PathCommand). a) (and_then (judge_list (codes_of cs') (numbers_of cs')) (asked_for j (length codes)))) (twins_codes t)
          ∙ judge_alike told told refl (asked_alike a j (length (codes_of cs)) cs cs')

      pub fault_twins : command_fault (codes_of cs') (numbers_of cs') j ≡ command_fault (codes_of cs) (numbers_of cs) j
      unfolding command_fault
      fault_twins = sym (number (judge_command (codes_of cs') (numbers_of cs') j)) ∙ ap number_of (told_alike tt) ∙ number (judge_command (codes_of cs) (numbers_of cs) j)
        where
          number : (o : Outcome (List PathCommand)) → number_of (mapped (λ (ps : List PathCommand). tt {0}) o) ≡ number_of o
          number (Err r) = refl
          number (Ok ps) = refl

      pub part_twins : command_part (codes_of cs') (numbers_of cs') j ≡ map (scale k) (command_part (codes_of cs) (numbers_of cs) j)
      unfolding command_part
      part_twins =
          let part = take (size_of_code (get_or (codes_of cs) j 3)) (drop (place_of j (codes_of cs)) (numbers_of cs)) in
          ap (λ (v : List Float). list_of (mapped (λ (ps : List PathCommand). v) (judge_command (codes_of cs') (numbers_of cs') j))) (numbers_at j)
          ∙ ap list_of (told_alike (map (scale k) part))
          ∙ go part (judge_command (codes_of cs) (numbers_of cs) j)
        where
          go : (v : List Float) (o : Outcome (List PathCommand))
              → list_of (mapped (λ (ps : List PathCommand). map (scale k) v) o) ≡ map (scale k) (list_of (mapped (λ (ps : List PathCommand). v) o))
          go v (Err r) = refl
          go v (Ok ps) = refl

      pub found_twins : find_command (codes_of cs') (numbers_of cs') j ≡ find_command (codes_of cs) (numbers_of cs) j
      unfolding find_command
      found_twins =
          (λ i. mapped (λ (ps : List PathCommand). (place_twins j i, size_twins j i)) (judge_command (codes_of cs') (numbers_of cs') j))
          ∙ told_alike (place_of j (codes_of cs), size_of_code (get_or (codes_of cs) j 3))
