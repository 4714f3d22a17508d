-- What each way out of a function of this crate owes, as the code meets it: a premise for each test and for each call's result.
-- Assumes nothing.
use Rattle.std.specs.Prelude.{Ok, Err}
use Rattle.std.specs.Prelude.{Ok, Err}
use mathlib.Core.Path.{◌≡◌, refl, sym, ap, ◌∙◌}
use mathlib.Core.Bool.{Bool, true, false, not}
use mathlib.Core.List.{List, [], ◌∷◌}
use Prim.Native.Nat.{ℕ, zero, suc, ◌+◌, ◌-◌, ◌*◌, ◌≤◌, ◌<◌}
use native.Mathlib.Nat.{add-sub_cancel_left}
use native.Mathlib.Numerals.{add-one}
use native.Mathlib.Omega.{arith}
use lib.Dec.{ltb}
use lib.Ieee.{Float}
use lib.ListN.{length, get_or, take, drop, length-drop}
pub use Rattle.std.proofs.lemmas.List.{length-take-le}
use borrow.Author.Tests.{lt-ltb, le-ltb, ltb-false, ltb-true, not-false}
use Rattle.command.specs.declared.PathCommand.{PathCommand}
use Rattle.command.specs.declared.Refusal.{Refusal}
use Rattle.command.specs.declared.Refusal.TheVariants.{TooMany, OutOfBounds}
use Rattle.command.specs.Outcomes.{Outcome, number_of, mapped, and_then, value_or, list_of, ◌gives◌, checked}
use Rattle.command.proofs.Outcomes.{refused_accepted, checks_passed}
use Rattle.reader.specs.Read.{size_of_code, read_command, read_from}
pub use Rattle.reader.proofs.Commands.{size_most}
use Rattle.reader.proofs.Commands.{accepted_read}
use Rattle.judge.specs.Lists.{in_front, read_list, judge_list, without_commands, place_of, asked_for, judge_command, find_command, command_fault, command_part}
use Rattle.judge.proofs.Walk.{Left, walk_start, list_many, walk_refused, walk_next, walk_over, walk_end}

-- ---- judge: a walk with nothing to carry
abbrev pub nothing : Unit {0} → List PathCommand → Unit {0}
nothing s cs = tt

module _ (codes : List ℕ) (numbers : List Float) where
  pub judge_many : 262144 < length codes → Err TooMany ≡ without_commands (judge_list codes numbers)
  judge_many a = list_many nothing codes numbers tt a

  pub judge_start : Left nothing codes numbers tt tt 0 0
  judge_start = walk_start nothing codes numbers tt

  module _ (i place : ℕ) (left : Left nothing codes numbers tt tt i place) where
    pub judge_inside : place ≤ length numbers
    judge_inside = left.inside

    module _ (h : i < length codes) (r : Outcome (PathCommand × ℕ)) (r_is : r ≡ read_from (get_or codes i 0) numbers place) where
      pub judge_refused : length codes ≤ 262144 → (refusal : Refusal) → r ≡ Err refusal → Err refusal ≡ without_commands (judge_list codes numbers)
      judge_refused few refusal e = walk_refused nothing codes numbers tt tt i place left h r r_is few refusal e

      pub judge_next : (p : PathCommand) (next : ℕ) → r ≡ Ok (p, next) → Left nothing codes numbers tt tt (i + 1) next
      judge_next p next e = walk_next nothing codes numbers tt tt i place left h r r_is p next e tt (λ cs. refl) (i + 1) refl

    module _ (few : length codes ≤ 262144) (h : length codes ≤ i) where
      pub judge_over : place < length numbers → Err OutOfBounds ≡ without_commands (judge_list codes numbers)
      judge_over a = walk_over nothing codes numbers tt tt i place left few h a

      pub judge_sound : length numbers ≤ place → Ok tt ≡ without_commands (judge_list codes numbers)
      judge_sound a = walk_end nothing codes numbers tt tt i place left few h a

pub ruleset judging = (judge_many, judge_start, judge_inside, judge_refused, judge_next, judge_over, judge_sound)

-- ---- judge_command
-- `asked_for` reads no command of the list
asked : (k count : ℕ) (o : Outcome (List PathCommand))
    → and_then (without_commands o) (λ (u : Unit {0}). checked ((not (ltb k count) gives OutOfBounds) ∷ []) (Ok tt)) ≡ without_commands (and_then o (asked_for k count))
unfolding asked_for
asked k count (Err r) = refl
asked k count (Ok cs) = go (ltb k count)
  where
    go : (b : Bool) → checked ((not b gives OutOfBounds) ∷ []) (Ok (tt {0})) ≡ without_commands (checked ((not b gives OutOfBounds) ∷ []) (Ok cs))
    go true = refl
    go false = refl

module _ (codes : List ℕ) (numbers : List Float) (k : ℕ) (j : Outcome (Unit {0})) (j_is : j ≡ without_commands (judge_list codes numbers)) where
  abbrev asks : Outcome (Unit {0}) → Outcome (Unit {0})
  asks o = and_then o (λ (u : Unit {0}). checked ((not (ltb k (length codes)) gives OutOfBounds) ∷ []) (Ok tt))

  pub asked_fault : (r : Refusal) → j ≡ Err r → Err r ≡ without_commands (judge_command codes numbers k)
  unfolding judge_command
  asked_fault r e = ap (λ (x : Outcome (Unit {0})). asks (x)) (sym e) ∙ ap asks j_is ∙ asked k (length codes) (judge_list codes numbers)

  module _ (e : j ≡ Ok tt) where
    sound : asks (Ok tt) ≡ without_commands (judge_command codes numbers k)
    unfolding judge_command
    sound = ap (λ (x : Outcome (Unit {0})). asks (x)) (sym e) ∙ ap asks j_is ∙ asked k (length codes) (judge_list codes numbers)

    pub asked_sound : k < length codes → Ok tt ≡ without_commands (judge_command codes numbers k)
    asked_sound h = rw (lt-ltb k (length codes) h) at sound

    pub asked_missing : length codes ≤ k → Err OutOfBounds ≡ without_commands (judge_command codes numbers k)
    asked_missing h = rw (le-ltb k (length codes) h) at sound

pub ruleset asking = (asked_fault, asked_sound, asked_missing)

-- ---- place_of
place_suc : (codes : List ℕ) (i : ℕ) → i < length codes → place_of i codes + size_of_code (get_or codes i 0) ≡ place_of (suc i) codes
unfolding place_of
place_suc [] i h = absurd (omega arith)
place_suc (c ∷ cs) zero h = omega arith
place_suc (c ∷ cs) (suc i) h = let e = place_suc cs i (omega arith) in omega arith

pub place_most : (i : ℕ) (codes : List ℕ) → place_of i codes ≤ 6 * i
unfolding place_of
place_most zero codes = omega arith
place_most (suc i) [] = omega arith
place_most (suc i) (c ∷ cs) = let e = place_most i cs in omega (arith, size_most c)

pub place_start : (codes : List ℕ) → place_of 0 codes ≡ 0
unfolding place_of
place_start codes = refl

pub place_next : (codes : List ℕ) (i : ℕ) → i < length codes → place_of (i + 1) codes ≡ place_of i codes + size_of_code (get_or codes i 0)
place_next codes i h = rw add-one (sym (place_suc codes i h))

-- the first k codes by themselves have as many numbers
place_front : (k : ℕ) (codes : List ℕ) → place_of k (take k codes) ≡ place_of k codes
unfolding place_of
place_front zero codes = refl
place_front (suc k) [] = refl
place_front (suc k) (c ∷ cs) = ap (λ (n : ℕ). size_of_code c + n) (place_front k cs)

pub place_taken : (codes : List ℕ) (k i : ℕ) → i ≡ k → place_of i (take k codes) ≡ place_of k codes
place_taken codes k i e = ap (λ (n : ℕ). place_of n (take k codes)) e ∙ place_front k codes

pub ruleset places = (place_start, place_next, place_most, size_most, place_taken, length-take-le)

-- ---- accepted lists
-- the first command of an accepted list is read, and so are the rest
pub record Front (c : ℕ) (cs : List ℕ) (v : List Float) (ps : List PathCommand) : Type 0 where
  pub command : PathCommand
  pub rest : List PathCommand
  pub read_is : read_command c v ≡ Ok command
  pub rest_is : read_list cs (drop (size_of_code c) v) ≡ Ok rest
  pub is : ps ≡ command ∷ rest

pub front : (c : ℕ) (cs : List ℕ) (v : List Float) (ps : List PathCommand) → read_list (c ∷ cs) v ≡ Ok ps → Front c cs v ps
unfolding read_list in_front
front c cs v ps e = go (read_command c v) refl (read_list cs (drop (size_of_code c) v)) refl e
  where
    go : (o : Outcome PathCommand) → read_command c v ≡ o → (q : Outcome (List PathCommand)) → read_list cs (drop (size_of_code c) v) ≡ q → and_then o (in_front q) ≡ Ok ps → Front c cs v ps
    go (Err r) p q s e = refused_accepted r ps e
    go (Ok x) p (Err r) s e = refused_accepted r ps e
    go (Ok x) p (Ok xs) s e = record { command = x; rest = xs; read_is = p; rest_is = s; is = sym (ap list_of e) }

-- an accepted list is not too long, so judging it is reading it
pub judged_read : (codes : List ℕ) (v : List Float) (ps : List PathCommand) → judge_list codes v ≡ Ok ps → (length codes ≤ 262144) × (read_list codes v ≡ Ok ps)
unfolding judge_list
judged_read codes v ps e =
    let p = checks_passed ((ltb 262144 (length codes) gives TooMany) ∷ []) (read_list codes v) ps e in
    (ltb-false 262144 (length codes) p.0.0, p.1)

-- in an accepted list the numbers of each command are inside
accepted_inside : (codes : List ℕ) (v : List Float) (ps : List PathCommand) (k d : ℕ) → read_list codes v ≡ Ok ps → k < length codes
    → place_of k codes + size_of_code (get_or codes k d) ≤ length v
unfolding place_of
accepted_inside [] v ps k d e h = absurd (omega arith)
accepted_inside (c ∷ cs) v ps zero d e h =
    let f = front c cs v ps e in
    let s = (accepted_read c v f.command f.read_is).inside in
    omega arith
accepted_inside (c ∷ cs) v ps (suc k) d e h =
    let f = front c cs v ps e in
    let s = (accepted_read c v f.command f.read_is).inside in
    let i = accepted_inside cs (drop (size_of_code c) v) f.rest k d f.rest_is (omega arith) in
    let l = length-drop (size_of_code c) v in
    omega arith

-- inside a list no default is read
get_d_any : (l : List ℕ) (i d d' : ℕ) → i < length l → get_or l i d ≡ get_or l i d'
get_d_any [] i d d' h = absurd (omega arith)
get_d_any (x ∷ l) zero d d' h = refl
get_d_any (x ∷ l) (suc i) d d' h = get_d_any l i d d' (omega arith)

-- an answer for a command, taken apart
record Answer (codes : List ℕ) (numbers : List Float) (k : ℕ) : Type 0 where
  few : length codes ≤ 262144
  there : k < length codes
  commands : List PathCommand
  is_read : read_list codes numbers ≡ Ok commands
  is : judge_command codes numbers k ≡ Ok commands

answer_of : (codes : List ℕ) (numbers : List Float) (k : ℕ) (ps : List PathCommand) → judge_command codes numbers k ≡ Ok ps → Answer codes numbers k
unfolding judge_command asked_for
answer_of codes numbers k ps e = go (judge_list codes numbers) refl e
  where
    go : (o : Outcome (List PathCommand)) → judge_list codes numbers ≡ o → and_then o (asked_for k (length codes)) ≡ Ok ps → Answer codes numbers k
    go (Err r) p e = refused_accepted r ps e
    go (Ok cs) p e =
        let s = judged_read codes numbers cs p in
        let t = checks_passed ((not (ltb k (length codes)) gives OutOfBounds) ∷ []) (Ok cs) ps e in
        record {
          few = s.0;
          there = ltb-true k (length codes) (not-false (ltb k (length codes)) t.0.0);
          commands = cs;
          is_read = s.1;
          is = ap (λ (x : Outcome (List PathCommand)). and_then x (asked_for k (length codes))) p ∙ e ∙ sym t.1;
        }

-- ---- find_command
-- what is told of command k, whatever the commands are
abbrev found : List ℕ → ℕ → List PathCommand → ℕ × ℕ
found codes k cs = (place_of k codes, size_of_code (get_or codes k 3))

module _ (codes : List ℕ) (numbers : List Float) (k : ℕ) (j : Outcome (Unit {0})) (j_is : j ≡ without_commands (judge_command codes numbers k)) where
  pub find_refused : (r : Refusal) → j ≡ Err r → Err r ≡ find_command codes numbers k
  unfolding find_command
  find_refused r e = go (judge_command codes numbers k) ((sym e) ∙ j_is)
    where
      go : (o : Outcome (List PathCommand)) → Err r ≡ without_commands o → Err r ≡ mapped (found codes k) o
      go (Err q) e = cc
      go (Ok cs) e = refused_accepted r tt e

  module _ (e : j ≡ Ok tt) where
    answer : Answer codes numbers k
    answer = go (judge_command codes numbers k) refl ((sym e) ∙ j_is)
      where
        go : (o : Outcome (List PathCommand)) → judge_command codes numbers k ≡ o → Ok tt ≡ without_commands o → Answer codes numbers k
        go (Err q) p e = refused_accepted q tt (sym e)
        go (Ok cs) p e = answer_of codes numbers k cs p

    pub command_few : length codes ≤ 262144
    command_few = answer.few

    pub command_there : k < length codes
    command_there = answer.there

    pub command_inside : k ≤ length codes
    command_inside = let h = command_there in omega arith

    pub find_at : (place n : ℕ) → place ≡ place_of k codes → n ≡ size_of_code (get_or codes k 0) → (Ok (place, n)) ≡ find_command codes numbers k
    unfolding find_command
    find_at place n place_is n_is =
        (λ i. Ok (place_is i, (n_is ∙ ap size_of_code (get_d_any codes k 0 3 command_there)) i))
        ∙ ap (mapped (found codes k)) (sym answer.is)

pub ruleset finding = (find_refused, command_few, command_there, command_inside, find_at)

-- ---- command_fault, command_part
module _ (codes : List ℕ) (numbers : List Float) (k : ℕ) (f : Outcome (ℕ × ℕ)) (f_is : f ≡ find_command codes numbers k) where
  pub fault_number : (n : ℕ) → n ≡ number_of f → n ≡ command_fault codes numbers k
  unfolding command_fault find_command
  fault_number n n_is = n_is ∙ ap number_of f_is ∙ go (judge_command codes numbers k)
    where
      go : (o : Outcome (List PathCommand)) → number_of (mapped (found codes k) o) ≡ number_of o
      go (Err r) = refl
      go (Ok cs) = refl

  pub part_none : (r : Refusal) → f ≡ Err r → [] ≡ command_part codes numbers k
  unfolding command_part find_command
  part_none r e = go (judge_command codes numbers k) ((sym e) ∙ f_is)
    where
      go : (o : Outcome (List PathCommand)) → Err r ≡ mapped (found codes k) o
          → [] ≡ list_of (mapped (λ (cs : List PathCommand). take (size_of_code (get_or codes k 3)) (drop (place_of k codes) numbers)) o)
      go (Err q) e = refl
      go (Ok cs) e = refused_accepted r (found codes k cs) e

  module _ (start count : ℕ) (e : f ≡ Ok (start, count)) where
    located : Answer codes numbers k × (◌≡◌ {A = ℕ × ℕ} (found codes k []) (start, count))
    unfolding find_command
    located = go (judge_command codes numbers k) refl ((sym e) ∙ f_is)
      where
        go : (o : Outcome (List PathCommand)) → judge_command codes numbers k ≡ o → (Ok (start, count)) ≡ mapped (found codes k) o → Answer codes numbers k × (◌≡◌ {A = ℕ × ℕ} (found codes k []) (start, count))
        go (Err q) p e = refused_accepted q (start, count) (sym e)
        go (Ok cs) p e = (answer_of codes numbers k cs p, sym (ap (value_or (start, count)) e))

    start_is : place_of k codes ≡ start
    start_is = ap (λ (x : ℕ × ℕ). x.0) located.1

    count_is : size_of_code (get_or codes k 3) ≡ count
    count_is = ap (λ (x : ℕ × ℕ). x.1) located.1

    pub part_inside : start + count ≤ length numbers
    part_inside =
        let s = located.0 in
        rw (← start_is, ← count_is) (accepted_inside codes numbers s.commands k 3 s.is_read s.there)

    pub part_start_fits : start * 4 < 18446744073709551616
    part_start_fits =
        let few = located.0.few in
        let there = located.0.there in
        let is = start_is in
        omega (arith, place_most k codes)

    pub part_fits : length numbers < 18446744073709551616 → start + count < 18446744073709551616
    part_fits l = let h = part_inside in omega arith

    pub part_sound : take (start + count - start) (drop start numbers) ≡ command_part codes numbers k
    unfolding command_part
    part_sound =
        ap (λ (m : ℕ). take m (drop start numbers)) (add-sub_cancel_left start count)
        ∙ sym (λ i. take (count_is i) (drop (start_is i) numbers))
        ∙ sym (ap (λ (o : Outcome (List PathCommand)). list_of (mapped (λ (cs : List PathCommand). take (size_of_code (get_or codes k 3)) (drop (place_of k codes) numbers)) o)) located.0.is)

pub ruleset parts = (fault_number, part_none, part_inside, part_start_fits, part_fits, part_sound)
