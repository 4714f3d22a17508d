-- A list that is not too long is measured as it is read, and a walk to its end comes to its length. Assumes nothing.
use Rattle.std.specs.Prelude.{None, Ok, Err}
use mathlib.Core.Path.{◌≡◌, refl, sym, ◌∙◌}
use mathlib.Core.Bool.{Bool, true, false, not}
use mathlib.Core.List.{List, [], ◌∷◌}
use Prim.Native.Nat.{ℕ, suc, ◌≤◌}
use lib.Dec.{eqb}
use lib.Ieee.{Float}
use lib.ListN.{length, drop}
use borrow.Author.Tests.{le-ltb}
use Rattle.command.specs.declared.PathCommand.{PathCommand}
use Rattle.command.specs.declared.Refusal.TheVariants.{OutOfBounds}
use Rattle.command.specs.Outcomes.{Outcome, mapped, and_then, ◌gives◌, checked}
use Rattle.reader.specs.Read.{size_of_code, read_command}
use Rattle.judge.specs.Lists.{in_front, read_list, judge_list}
use Rattle.measure.specs.declared.Pen.{Pen}
use Rattle.measure.specs.Length.{start_pen, step, steps, length_after, path_length}
use Rattle.length.specs.Lists.{measure_list}
use Rattle.length.specs.Walk.{is_there, walk_from}

-- the length after commands, from a pen on
abbrev pub length_from : Pen → List PathCommand → Float
length_from pen cs = (steps pen cs).length

pub measured_read : (codes : List ℕ) (v : List Float) → length codes ≤ 262144 → measure_list codes v ≡ mapped path_length (read_list codes v)
unfolding measure_list judge_list
measured_read codes v few = rw (le-ltb 262144 (length codes) few)

-- the length that a walk came to
abbrev pub length_of : Outcome (Bool × ℕ × Float) → Outcome Float
length_of o = mapped (λ (x : Bool × ℕ × Float). x.2) o

walk_through : (pen : Pen) (n : ℕ) (codes : List ℕ) (v : List Float) → length_of (walk_from None pen n codes v) ≡ mapped (length_from pen) (read_list codes v)
unfolding walk_from is_there read_list steps
walk_through pen n [] v = go (eqb (length v) 0)
  where
    go : (b : Bool) → length_of (mapped (λ (cs : List PathCommand). (false, n, pen.length)) (checked ((not b gives OutOfBounds) ∷ []) (Ok [])))
        ≡ mapped (length_from pen) (checked ((not b gives OutOfBounds) ∷ []) (Ok []))
    go true = refl
    go false = refl
walk_through pen n (c ∷ cs) v = go (read_command c v) (λ (p : PathCommand). walk_through (step pen p) (suc n) cs (drop (size_of_code c) v))
  where
    rest : Outcome (List PathCommand)
    rest = read_list cs (drop (size_of_code c) v)

    after : PathCommand → Outcome (Bool × ℕ × Float)
    after p = walk_from None (step pen p) (suc n) cs (drop (size_of_code c) v)

    go : (o : Outcome PathCommand) → ((p : PathCommand) → length_of (after p) ≡ mapped (length_from (step pen p)) rest)
        → length_of (and_then o after) ≡ mapped (length_from pen) (and_then o (in_front rest))
    go (Err r) then = refl
    go (Ok p) then = then p ∙ one rest
      where
        one : (o : Outcome (List PathCommand)) → mapped (length_from (step pen p)) o ≡ mapped (length_from pen) (in_front o p)
        one (Err r) = unfold in_front in refl
        one (Ok ps) = unfold in_front steps in refl

pub walk_end : (codes : List ℕ) (v : List Float) → length codes ≤ 262144 → length_of (walk_from None start_pen 0 codes v) ≡ measure_list codes v
unfolding path_length length_after
walk_end codes v few = walk_through start_pen 0 codes v ∙ sym (measured_read codes v few)
