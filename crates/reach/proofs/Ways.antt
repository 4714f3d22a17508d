-- What each way out of a function of this crate owes, as the code meets it: a premise for each test and for each call's result.
-- Assumes nothing.
use Rattle.std.specs.Prelude.{Some, Ok, Err}
use mathlib.Core.Path.{◌≡◌, refl, sym, ap, ◌∙◌}
use mathlib.Core.Bool.{Bool, true, false, not, cond}
use mathlib.Core.List.{List}
use Prim.Native.Nat.{ℕ, ◌≤◌, ◌<◌}
use native.Mathlib.Nat.{zero-add}
use lib.Ieee.{Float, le}
use lib.Ieee.Scale.{finite}
use lib.ListN.{length}
use borrow.Author.Tests.{not-true, not-false}
use Rattle.ieee.specs.Literal.{zero32}
use Rattle.command.specs.declared.Refusal.{Refusal}
use Rattle.command.specs.declared.Refusal.TheVariants.{TooMany, OutOfRange}
use Rattle.command.specs.Refusals.{refusal_number}
use Rattle.command.specs.Outcomes.{Outcome}
use Rattle.measure.specs.Length.{start_pen, length_after, path_length}
use Rattle.length.specs.Walk.{walk_from}
use Rattle.length.proofs.Walks.{measured_read}
use Rattle.reach.specs.Reach.{fewest, yes_or_no, is_length, length_reaches, Replied}
use Rattle.reach.proofs.Rule.{ruled, reach_many, reach_unasked, reach_passed}
use Rattle.reach.proofs.Prefix.{enough_from_lem}
use Rattle.reach.proofs.Walk.{told, later, walk_is}

-- ---- the walk from the start is the rule
later_none : (o : Outcome (Bool × ℕ)) → later 0 o ≡ o
later_none (Err r) = refl
later_none (Ok (b, n)) = ap (λ (m : ℕ). Ok (b, m)) (zero-add n)

walk_ruled : (codes : List ℕ) (numbers : List Float) (least : Float) → length codes ≤ 262144
    → told (walk_from (Some least) start_pen 0 codes numbers) ≡ ruled codes numbers least
unfolding path_length length_after
walk_ruled codes numbers least few =
    walk_is least start_pen 0 codes numbers
    ∙ later_none _
    ∙ sym (λ i. yes_or_no (fewest (λ (n : ℕ). enough_from_lem codes numbers least few n i) (length codes)) (length codes) (measured_read codes numbers few i))

-- ---- length_reaches
module _ (codes : List ℕ) (numbers : List Float) (least : Float) where
  pub too_many : 262144 < length codes → Err TooMany ≡ length_reaches codes numbers least
  too_many many = sym (reach_many codes numbers least many)

  module _ (few : length codes ≤ 262144) (b : Bool) (b_is : b ≡ is_length least) where
    pub no_length : not b ≡ true → Err OutOfRange ≡ length_reaches codes numbers least
    no_length e = sym (reach_unasked codes numbers least few (sym b_is ∙ not-true b e))

    module _ (e : not b ≡ false) (w : Outcome (Bool × ℕ × Float)) (w_is : w ≡ walk_from (Some least) start_pen 0 codes numbers) where
      walked_ruled : told w ≡ length_reaches codes numbers least
      walked_ruled =
          ap told w_is ∙ walk_ruled codes numbers least few ∙ sym (reach_passed codes numbers least few (sym b_is ∙ not-false b e))

      pub walk_refused : (r : Refusal) → w ≡ Err r → Err r ≡ length_reaches codes numbers least
      walk_refused r f = ap (λ (x : Outcome (Bool × ℕ × Float)). told x) (sym f) ∙ walked_ruled

      pub walk_replied : (reached : Bool) (n : ℕ) (x : Float) → w ≡ Ok (reached, n, x) → Ok (reached, n) ≡ length_reaches codes numbers least
      walk_replied reached n x f = ap (λ (y : Outcome (Bool × ℕ × Float)). told y) (sym f) ∙ walked_ruled

pub ruleset reaching = (too_many, no_length, walk_refused, walk_replied)

-- ---- the caller that tells the reply at a place, and the count beside it
module _ (reply : Outcome (Bool × ℕ)) (o : Outcome (Bool × ℕ)) (e : reply ≡ o) (before : ℕ) where
  pub reply_refused : (r : Refusal) → reply ≡ Err r → (number : ℕ) → number ≡ refusal_number r → Replied o number 0 before before
  reply_refused r f number number_is = rw (← e, f) (record { reply_told = record { number_is = number_is; value_is = refl }; read_is = refl })

  pub reply_told : (reached : Bool) (n : ℕ) → reply ≡ Ok (reached, n) → (mark : ℕ) → mark ≡ cond reached 1 0 → Replied o 0 n before mark
  reply_told reached n f mark mark_is = rw (← e, f) (record { reply_told = record { number_is = refl; value_is = mark_is }; read_is = refl })

pub ruleset replying = (reply_refused, reply_told)
