-- A walk down a command list, a command at a time, that carries a state: what is left, folded from the state as it is, gives what the whole gives from
-- the first state.
-- Judging, which goes to the end of a list and carries nothing, stands on these laws. Assumes nothing.
use Rattle.std.specs.Prelude.{Ok, Err}
use mathlib.Core.Path.{◌≡◌, refl, sym, ap, ◌∙◌}
use mathlib.Core.List.{List, [], ◌∷◌}
use Prim.Native.Nat.{ℕ, suc, ◌+◌, ◌≤◌, ◌<◌, zero-le}
use native.Mathlib.Numerals.{add-one}
use native.Mathlib.Omega.{arith}
use lib.Ieee.{Float}
use lib.ListN.{length, get_or, drop, length-drop, drop_of_length-le}
use lib.Seq.{drop-cons}
use borrow.Author.Tests.{eq-eqb, ne_eqb, lt-ltb, le-ltb}
use Rattle.command.specs.declared.PathCommand.{PathCommand}
use Rattle.command.specs.declared.Refusal.{Refusal}
use Rattle.command.specs.declared.Refusal.TheVariants.{TooMany, OutOfBounds}
use Rattle.command.specs.Outcomes.{Outcome, mapped, and_then}
use Rattle.reader.specs.Read.{size_of_code, read_command, read_from}
use Rattle.reader.proofs.Commands.{Taken, read_refused, read_taken}
use Rattle.judge.specs.Lists.{in_front, read_list, judge_list}

-- after the last command
pub left_over : (u : List Float) → (length u ≡ 0 → ⊥) → read_list [] u ≡ Err OutOfBounds
unfolding read_list
left_over u e = rw (ne_eqb (length u) 0 e)

pub none_over : (u : List Float) → length u ≡ 0 → read_list [] u ≡ Ok []
unfolding read_list
none_over u e = rw (eq-eqb (length u) 0 e)

module _ {S B : Type 0} (fold : S → List PathCommand → B) (codes : List ℕ) (numbers : List Float) (first : S) where
  -- from code i and from a place of the numbers on
  pub record Left (now : S) (i place : ℕ) : Type 0 where
    pub inside : place ≤ length numbers
    pub whole : mapped (fold now) (read_list (drop i codes) (drop place numbers)) ≡ mapped (fold first) (read_list codes numbers)

  pub walk_start : Left first 0 0
  walk_start = record { inside = zero-le; whole = refl }

  pub list_many : 262144 < length codes → Err TooMany ≡ mapped (fold first) (judge_list codes numbers)
  unfolding judge_list
  list_many a = rw (lt-ltb 262144 (length codes) a)

  list_few : length codes ≤ 262144 → mapped (fold first) (read_list codes numbers) ≡ mapped (fold first) (judge_list codes numbers)
  unfolding judge_list
  list_few a = rw (le-ltb 262144 (length codes) a)

  module _ (now : S) (i place : ℕ) (left : Left now i place) where
    abbrev v : List Float
    v = drop place numbers

    module _ (h : i < length codes) (read : Outcome (PathCommand × ℕ)) (read_is : read ≡ read_from (get_or codes i 0) numbers place) where
      abbrev c : ℕ
      c = get_or codes i 0

      abbrev rest : Outcome (List PathCommand)
      rest = read_list (drop (suc i) codes) (drop (size_of_code c) v)

      here : mapped (fold now) (and_then (read_command c v) (in_front rest)) ≡ mapped (fold first) (read_list codes numbers)
      unfolding read_list
      here = ap (λ (l : List ℕ). mapped (fold now) (read_list l v)) (sym (drop-cons codes i 0 h)) ∙ left.whole

      pub walk_refused : length codes ≤ 262144 → (r : Refusal) → read ≡ Err r → Err r ≡ mapped (fold first) (judge_list codes numbers)
      walk_refused few r e =
          sym (ap (λ (o : Outcome PathCommand). mapped (fold now) (and_then o (in_front rest))) (read_refused c numbers place read read_is r e))
          ∙ here
          ∙ list_few few

      module _ (p : PathCommand) (next : ℕ) (e : read ≡ Ok (p, next)) where
        taken : Taken c numbers place p next
        taken = read_taken c numbers place read read_is left.inside p next e

        -- a state whose fold is that of the state before with the command in front
        pub walk_next : (then : S) → ((cs : List PathCommand) → fold then cs ≡ fold now (p ∷ cs)) → (j : ℕ) → j ≡ i + 1 → Left then j next
        walk_next then on_it j j_is =
            rw (j_is, add-one)
            (record {
              inside = taken.inside;
              whole =
                  rw taken.rest
                  (sym (one rest) ∙ ap (λ (o : Outcome PathCommand). mapped (fold now) (and_then o (in_front rest))) (sym taken.read_is) ∙ here);
            })
          where
            one : (o : Outcome (List PathCommand)) → mapped (fold now) (in_front o p) ≡ mapped (fold then) o
            one (Err r) = unfold in_front in refl
            one (Ok cs) = unfold in_front in (ap Ok (sym (on_it cs)))

    module _ (few : length codes ≤ 262144) (h : length codes ≤ i) where
      ended : mapped (fold now) (read_list [] v) ≡ mapped (fold first) (judge_list codes numbers)
      ended = ap (λ (l : List ℕ). mapped (fold now) (read_list l v)) (sym (drop_of_length-le codes {i = i} h)) ∙ left.whole ∙ list_few few

      pub walk_over : place < length numbers → Err OutOfBounds ≡ mapped (fold first) (judge_list codes numbers)
      walk_over a =
          let e : length v ≡ 0 → ⊥ = λ z. omega (arith, length-drop place numbers) in
          sym (ap (mapped (fold now)) (left_over v e)) ∙ ended

      pub walk_end : length numbers ≤ place → Ok (fold now []) ≡ mapped (fold first) (judge_list codes numbers)
      walk_end a =
          let e : length v ≡ 0 = omega (arith, length-drop place numbers) in
          sym (ap (mapped (fold now)) (none_over v e)) ∙ ended
