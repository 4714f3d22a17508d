-- What each way out of a function of this crate owes, as the code meets it: a premise for each test and for each call's result.
-- Assumes nothing.
use Rattle.std.specs.Prelude.{Option, Some, None, Ok, Err}
use mathlib.Core.Path.{◌≡◌, refl, sym, ap, ◌∙◌}
use mathlib.Core.Bool.{Bool, true, false}
use mathlib.Core.List.{List, [], ◌∷◌}
use Prim.Native.Nat.{ℕ, suc, ◌+◌, ◌≤◌, ◌<◌, zero-le}
use native.Mathlib.Numerals.{add-one}
use native.Mathlib.Omega.{arith}
use lib.Ieee.{Float, le}
use lib.ListN.{length, get_or, drop, length-drop, drop_of_length-le}
use lib.Seq.{drop-cons}
use borrow.Author.Tests.{lt-ltb}
use Rattle.command.specs.declared.PathCommand.{PathCommand}
use Rattle.command.specs.declared.Refusal.{Refusal}
use Rattle.command.specs.declared.Refusal.TheVariants.{TooMany, OutOfBounds}
use Rattle.command.specs.Refusals.{refusal_number}
use Rattle.command.specs.Outcomes.{Outcome, mapped, and_then, Told}
use Rattle.reader.specs.Read.{size_of_code, read_command, read_from}
use Rattle.reader.proofs.Commands.{read_refused, read_taken}
use Rattle.judge.specs.Lists.{read_list, judge_list}
use Rattle.judge.proofs.Walk.{left_over, none_over}
use Rattle.measure.specs.declared.Pen.{Pen}
use Rattle.measure.specs.Length.{start_pen, step}
use Rattle.length.specs.Lists.{measure_list}
use Rattle.length.specs.Walk.{is_there, walk_from}
use Rattle.length.proofs.Walks.{length_of, walk_end}

-- ---- is_there
module _ (until : Option Float) (pen : Pen) where
  pub there_never : until ≡ None → false ≡ is_there until pen.length
  unfolding is_there
  there_never e = rw e

  pub there_reached : (least : Float) → until ≡ Some least → le least pen.length ≡ is_there until pen.length
  unfolding is_there
  there_reached least e = rw e

pub ruleset there = (there_never, there_reached)

-- ---- the walk, taken apart
module _ (until : Option Float) (pen : Pen) (n : ℕ) (v : List Float) where
  walk_stopped : (codes : List ℕ) → is_there until pen.length ≡ true → walk_from until pen n codes v ≡ Ok (true, n, pen.length)
  unfolding walk_from
  walk_stopped [] e = rw e
  walk_stopped (c ∷ cs) e = rw e

  walk_ended : is_there until pen.length ≡ false → walk_from until pen n [] v ≡ mapped (λ (cs : List PathCommand). (false, n, pen.length)) (read_list [] v)
  unfolding walk_from
  walk_ended e = rw e

  walk_onward : (c : ℕ) (cs : List ℕ) → is_there until pen.length ≡ false
      → walk_from until pen n (c ∷ cs) v ≡ and_then (read_command c v) (λ (p : PathCommand). walk_from until (step pen p) (suc n) cs (drop (size_of_code c) v))
  unfolding walk_from
  walk_onward c cs e = rw e

-- ---- walk
module _ (codes : List ℕ) (numbers : List Float) (until : Option Float) where
  -- the walk from the start
  abbrev whole_walk : Outcome (Bool × ℕ × Float)
  whole_walk = walk_from until start_pen 0 codes numbers

  -- what is left, walked from the pen as it is, gives what the whole gives from the first pen
  pub record LeftToWalk (pen : Pen) (i place : ℕ) : Type 0 where
    pub codes_inside : i ≤ length codes
    pub numbers_inside : place ≤ length numbers
    pub whole : walk_from until pen i (drop i codes) (drop place numbers) ≡ whole_walk

  pub walk_start : (pen : Pen) → pen ≡ start_pen → LeftToWalk pen 0 0
  walk_start pen pen_is = rw pen_is (record { codes_inside = zero-le; numbers_inside = zero-le; whole = refl })

  module _ (pen : Pen) (i place : ℕ) (left : LeftToWalk pen i place) (b : Bool) (b_is : b ≡ is_there until pen.length) where
    abbrev v : List Float
    v = drop place numbers

    pub walk_there : b ≡ true → Ok (true, i, pen.length) ≡ whole_walk
    walk_there e = sym (walk_stopped until pen i v (drop i codes) (sym b_is ∙ e)) ∙ left.whole

    module _ (e : b ≡ false) where
      short : is_there until pen.length ≡ false
      short = sym b_is ∙ e

      -- at the end of the list
      module _ (at : length codes ≤ i) where
        abbrev at_end : List PathCommand → Bool × ℕ × Float
        at_end cs = (false, i, pen.length)

        ended : mapped at_end (read_list [] v) ≡ whole_walk
        ended =
            sym (walk_ended until pen i v short)
            ∙ ap (λ (l : List ℕ). walk_from until pen i l v) (sym (drop_of_length-le codes {i = i} (omega arith)))
            ∙ left.whole

        pub walk_over : place < length numbers → Err OutOfBounds ≡ whole_walk
        walk_over a = sym (ap (mapped at_end) (left_over v (λ z. omega (arith, length-drop place numbers)))) ∙ ended

        pub walk_done : length numbers ≤ place → Ok (false, i, pen.length) ≡ whole_walk
        walk_done a = sym (ap (mapped at_end) (none_over v (omega (arith, length-drop place numbers)))) ∙ ended

      -- one command more
      module _ (h : i < length codes) (r : Outcome (PathCommand × ℕ)) (r_is : r ≡ read_from (get_or codes i 0) numbers place) where
        abbrev c : ℕ
        c = get_or codes i 0

        -- the walk after a command
        abbrev after : PathCommand → Outcome (Bool × ℕ × Float)
        after p = walk_from until (step pen p) (suc i) (drop (suc i) codes) (drop (size_of_code c) v)

        onward : and_then (read_command c v) after ≡ whole_walk
        onward =
            sym (walk_onward until pen i v c (drop (suc i) codes) short)
            ∙ ap (λ (l : List ℕ). walk_from until pen i l v) (sym (drop-cons codes i 0 h))
            ∙ left.whole

        pub walk_refused : (refusal : Refusal) → r ≡ Err refusal → Err refusal ≡ whole_walk
        walk_refused refusal f =
            sym (ap (λ (o : Outcome PathCommand). and_then o after) (read_refused c numbers place r r_is refusal f)) ∙ onward

        pub walk_next : (p : PathCommand) (next : ℕ) → r ≡ Ok (p, next) → (pen' : Pen) → pen' ≡ step pen p → LeftToWalk pen' (i + 1) next
        walk_next p next f pen' pen_is =
            let taken = read_taken c numbers place r r_is left.numbers_inside p next f in
            rw (pen_is, add-one)
            (record {
              codes_inside = h;
              numbers_inside = taken.inside;
              whole = rw taken.rest (sym (ap (λ (o : Outcome PathCommand). and_then o after) taken.read_is) ∙ onward);
            })

pub ruleset walking = (walk_start, walk_there, walk_over, walk_done, walk_refused, walk_next)

-- ---- path_length
module _ (codes : List ℕ) (numbers : List Float) where
  pub length_many : 262144 < length codes → Err TooMany ≡ measure_list codes numbers
  unfolding measure_list judge_list
  length_many many = rw (lt-ltb 262144 (length codes) many)

  module _ (few : length codes ≤ 262144) (w : Outcome (Bool × ℕ × Float)) (w_is : w ≡ walk_from None start_pen 0 codes numbers) where
    pub length_refused : (r : Refusal) → w ≡ Err r → Err r ≡ measure_list codes numbers
    length_refused r e = ap (λ (x : Outcome (Bool × ℕ × Float)). length_of (x)) (sym e) ∙ ap length_of w_is ∙ walk_end codes numbers few

    pub length_walked : (b : Bool) (n : ℕ) (x : Float) → w ≡ Ok (b, n, x) → Ok x ≡ measure_list codes numbers
    length_walked b n x e = ap (λ (y : Outcome (Bool × ℕ × Float)). length_of (y)) (sym e) ∙ ap length_of w_is ∙ walk_end codes numbers few

pub ruleset lengths = (length_many, length_refused, length_walked)

-- ---- callers that tell the answer in a number and a place
module _ (m : Outcome Float) (o : Outcome Float) (e : m ≡ o) (before : Float) where
  pub told_refused : (r : Refusal) → m ≡ Err r → (number : ℕ) → number ≡ refusal_number r → Told o number before before
  told_refused r f number number_is = rw (← e, f) (record { number_is = number_is; value_is = refl })

  pub told_length : (x : Float) → m ≡ Ok x → Told o 0 before x
  told_length x f = rw (← e, f) (record { number_is = refl; value_is = refl })

pub ruleset told = (told_refused, told_length)
