-- A walk up to a length tells what the rule of the fewest gives.
-- Assumes nothing.
use Rattle.std.specs.Prelude.{Some, Ok, Err}
use mathlib.Core.Path.{◌≡◌, refl, sym, ap, ◌∙◌}
use mathlib.Core.Bool.{Bool, true, false, cond}
use mathlib.Core.List.{List, [], ◌∷◌}
use mathlib.Core.Option.{Option, none, some}
use Prim.Native.Nat.{ℕ, zero, suc, ◌+◌}
use native.Mathlib.Nat.{add-zero}
use native.Mathlib.Omega.{arith}
use lib.Ieee.{Float, le}
use lib.ListN.{length, drop}
use Rattle.command.specs.declared.PathCommand.{PathCommand}
use Rattle.command.specs.declared.Refusal.{Refusal}
use Rattle.command.specs.Outcomes.{Outcome, mapped, and_then}
use Rattle.reader.specs.Read.{size_of_code, read_command}
use Rattle.judge.specs.Lists.{in_front, read_list}
use Rattle.measure.specs.declared.Pen.{Pen}
use Rattle.measure.specs.Length.{step, steps}
use Rattle.length.specs.Walk.{is_there, walk_from}
use Rattle.length.proofs.Walks.{length_from}
use Rattle.reach.specs.Reach.{one_more, fewest, yes_or_no}
use Rattle.reach.proofs.Prefix.{first_commands, first_none, first_suc, reached, enough_from}
use Rattle.reach.proofs.Fewest.{fewest_none}

-- what a walk tells: whether it was reached, and after how many commands
abbrev pub told : Outcome (Bool × ℕ × Float) → Outcome (Bool × ℕ)
told o = mapped (λ (w : Bool × ℕ × Float). (w.0, w.1)) o

-- ---- the test of the rule, one command later
enough_none : (pen : Pen) (codes : List ℕ) (v : List Float) (least : Float) → enough_from pen codes v least 0 ≡ le least pen.length
unfolding enough_from steps
enough_none pen codes v least = ap (reached least pen) (first_none codes v)

module _ (pen : Pen) (c : ℕ) (cs : List ℕ) (v : List Float) (least : Float) (n : ℕ) where
  abbrev found : Outcome PathCommand → Bool
  found o = reached least pen (and_then o (in_front (first_commands n cs (drop (size_of_code c) v))))

  enough_suc : enough_from pen (c ∷ cs) v least (suc n) ≡ found (read_command c v)
  unfolding enough_from
  enough_suc = ap (reached least pen) (first_suc c cs v n)

  enough_refused : (r : Refusal) → read_command c v ≡ Err r → enough_from pen (c ∷ cs) v least (suc n) ≡ false
  enough_refused r e = enough_suc ∙ ap found e

  enough_next : (p : PathCommand) → read_command c v ≡ Ok p
      → enough_from pen (c ∷ cs) v least (suc n) ≡ enough_from (step pen p) cs (drop (size_of_code c) v) least n
  unfolding enough_from
  enough_next p e = enough_suc ∙ ap found e ∙ go (first_commands n cs (drop (size_of_code c) v))
    where
      go : (o : Outcome (List PathCommand)) → reached least pen (in_front o p) ≡ reached least (step pen p) o
      go (Err r) = unfold in_front in refl
      go (Ok ps) = unfold in_front steps in refl

-- ---- the rule, one command later
one_later : (n m : ℕ) → suc n + m ≡ n + suc m
one_later n m = omega arith

-- after n commands more
abbrev pub later : ℕ → Outcome (Bool × ℕ) → Outcome (Bool × ℕ)
later n o = mapped (λ (reply : Bool × ℕ). (reply.0, n + reply.1)) o

-- The reply does not hang on how long the whole list is, so f and g may be any lengths.
module _ (f g : List PathCommand → Float) where
  reply_later : (n last : ℕ) (p : PathCommand) (o : Option ℕ) (read : Outcome (List PathCommand))
      → later (suc n) (yes_or_no o last (mapped g read)) ≡ later n (yes_or_no (one_more o) (suc last) (mapped f (in_front read p)))
  unfolding yes_or_no in_front one_more
  reply_later n last p none (Err r) = refl
  reply_later n last p none (Ok cs) = ap (λ (k : ℕ). Ok (false, k)) (one_later n last)
  reply_later n last p (some m) read = ap (λ (k : ℕ). Ok (true, k)) (one_later n m)

  -- a command that is read: the same rule for those after it
  read_on : (n last : ℕ) (test test' : ℕ → Bool) (p : PathCommand) (read : Outcome (List PathCommand)) → test 0 ≡ false → ((m : ℕ) → test (suc m) ≡ test' m)
      → later (suc n) (yes_or_no (fewest test' last) last (mapped g read)) ≡ later n (yes_or_no (fewest test (suc last)) (suc last) (mapped f (in_front read p)))
  unfolding fewest
  read_on n last test test' p read e h =
      rw e (reply_later n last p (fewest test' last) read
      ∙ ap (λ (t : ℕ → Bool). later n (yes_or_no (one_more (fewest t last)) (suc last) (mapped f (in_front read p)))) (λ i m. sym (h m) i))

-- the test holds at once
at_once : (n last all : ℕ) (test : ℕ → Bool) (measured : Outcome Float) → test 0 ≡ true → Ok (true, n) ≡ later n (yes_or_no (fewest test last) all measured)
unfolding yes_or_no fewest
at_once n zero all test measured e = rw (e, add-zero)
at_once n (suc last) all test measured e = rw (e, add-zero)

-- after the last command
none_left : (f : List PathCommand → Float) (x : Float) (n : ℕ) (test : ℕ → Bool) (read : Outcome (List PathCommand)) → test 0 ≡ false
    → told (mapped (λ (cs : List PathCommand). (false, n, x)) read) ≡ later n (yes_or_no (fewest test 0) 0 (mapped f read))
unfolding yes_or_no fewest
none_left f x n test (Err r) e = rw e
none_left f x n test (Ok cs) e = rw (e, add-zero)

-- a command that is refused
stopped : (n last all : ℕ) (test : ℕ → Bool) (r : Refusal) → ((m : ℕ) → test m ≡ false) → Err r ≡ later n (yes_or_no (fewest test last) all (Err r))
unfolding yes_or_no
stopped n last all test r h = rw (fewest_none test last (λ m l. h m))

pub walk_is : (least : Float) (pen : Pen) (n : ℕ) (codes : List ℕ) (v : List Float)
    → told (walk_from (Some least) pen n codes v)
    ≡ later n (yes_or_no (fewest (enough_from pen codes v least) (length codes)) (length codes) (mapped (length_from pen) (read_list codes v)))
unfolding walk_from is_there read_list
walk_is least pen n [] v = go (le least pen.length) (enough_none pen [] v least)
  where
    go : (b : Bool) → enough_from pen [] v least 0 ≡ b
        → told (cond b (Ok (true, n, pen.length)) (mapped (λ (cs : List PathCommand). (false, n, pen.length)) (read_list [] v)))
        ≡ later n (yes_or_no (fewest (enough_from pen [] v least) 0) 0 (mapped (length_from pen) (read_list [] v)))
    go true e = at_once n 0 0 (enough_from pen [] v least) (mapped (length_from pen) (read_list [] v)) e
    go false e = none_left (length_from pen) pen.length n (enough_from pen [] v least) (read_list [] v) e
walk_is least pen n (c ∷ cs) v =
    go (le least pen.length) (enough_none pen (c ∷ cs) v least) (read_command c v) refl
    (λ (p : PathCommand). walk_is least (step pen p) (suc n) cs (drop (size_of_code c) v))
  where
    rest : List Float
    rest = drop (size_of_code c) v

    -- the walk after this command, and the rule for the commands after it, from a pen on
    rest_walked : Pen → Outcome (Bool × ℕ × Float)
    rest_walked at = walk_from (Some least) at (suc n) cs rest

    rest_ruled : Pen → Outcome (Bool × ℕ)
    rest_ruled at = later (suc n) (yes_or_no (fewest (enough_from at cs rest least) (length cs)) (length cs) (mapped (length_from at) (read_list cs rest)))

    test : ℕ → Bool
    test = enough_from pen (c ∷ cs) v least

    measured : Outcome PathCommand → Outcome Float
    measured o = mapped (length_from pen) (and_then o (in_front (read_list cs rest)))

    go : (b : Bool) → test 0 ≡ b → (o : Outcome PathCommand) → read_command c v ≡ o
        → ((p : PathCommand) → told (rest_walked (step pen p)) ≡ rest_ruled (step pen p))
        → told (cond b (Ok (true, n, pen.length)) (and_then o (λ (p : PathCommand). rest_walked (step pen p))))
        ≡ later n (yes_or_no (fewest test (suc (length cs))) (suc (length cs)) (measured o))
    go true e o f then = at_once n (suc (length cs)) (suc (length cs)) test (measured o) e
    go false e (Err r) f then = stopped n (suc (length cs)) (suc (length cs)) test r never
      where
        never : (m : ℕ) → test m ≡ false
        never zero = e
        never (suc m) = enough_refused pen c cs v least m r f
    go false e (Ok p) f then =
        then p
        ∙ read_on (length_from pen) (length_from (step pen p)) n (length cs) test (enough_from (step pen p) cs rest least) p (read_list cs rest) e
        (λ m. enough_next pen c cs v least m p f)
