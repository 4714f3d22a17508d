-- Laws of outcomes: whatever holds of every refusal and of the answer behind the checks holds of the whole, and no refusal has the number 0.
-- Assumes nothing.
use Rattle.std.specs.Prelude.{Ok, Err}
use Prim.Native.Nat.{◌<◌}
use native.Mathlib.Omega.{arith}
use mathlib.Core.Path.{◌≡◌, refl, sym, subst}
use mathlib.Core.Bool.{Bool, true, false, cond}
use mathlib.Core.List.{List, [], ◌∷◌}
use Rattle.command.specs.declared.Refusal.{Refusal}
use Rattle.command.specs.declared.Refusal.TheVariants.{Empty, TooMany, OutOfRange, Unlisted, Unsupported, BrokenNesting}
use Rattle.command.specs.declared.Refusal.TheVariants.{NotMergeable, TooShort, NoSuchCopy, NotFinite, BufferTooSmall, OutOfBounds}
use Rattle.command.specs.Refusals.{refusal_number}
use Rattle.command.specs.Outcomes.{Outcome, number_of, value_or, Check, checked, AllPass}

-- a refusal is no answer
abbrev IsAccepted : {A : Type 0} → Outcome A → Type 0
IsAccepted (Err r) = ⊥
IsAccepted (Ok a) = Unit {0}

pub refused_accepted : {A : Type 0} (r : Refusal) (a : A) {B : Type 0} → Err r ≡ Ok a → B
refused_accepted r a e = absurd (subst IsAccepted (sym e) tt)

-- what holds of every two refusals that are the same, and of two outcomes behind checks that find nothing, holds with the checks before them
pub checks_relate : {A B : Type 0} (R : Outcome A → Outcome B → Type 0) → ((r : Refusal) → R (Err r) (Err r)) → (cs : List Check) (o : Outcome A) (o' : Outcome B)
    → (AllPass cs → R o o') → R (checked cs o) (checked cs o')
checks_relate R none [] o o' last = last tt
checks_relate R none (c ∷ cs) o o' last = go c.fails refl (λ p. checks_relate R none cs o o' (λ pass. last (p, pass)))
  where
    go : (b : Bool) → c.fails ≡ b → (c.fails ≡ false → R (checked cs o) (checked cs o'))
        → R (cond b (Err c.refusal) (checked cs o)) (cond b (Err c.refusal) (checked cs o'))
    go true p more = none c.refusal
    go false p more = more p

module _ {A : Type 0} where
  -- the same of one outcome
  pub checks_hold : (P : Outcome A → Type 0) → ((r : Refusal) → P (Err r)) → (cs : List Check) (o : Outcome A) → (AllPass cs → P o) → P (checked cs o)
  checks_hold P none cs o last = checks_relate (λ (x y : Outcome A). P x) none cs o o last

  -- an answer at the end of checks: each of them found nothing, and the answer is the one behind them
  pub checks_passed : (cs : List Check) (o : Outcome A) (a : A) → checked cs o ≡ Ok a → AllPass cs × (o ≡ Ok a)
  checks_passed cs o a e =
      checks_hold (λ (x : Outcome A). x ≡ Ok a → AllPass cs × (o ≡ Ok a)) (λ r f. refused_accepted r a f) cs o (λ pass f. (pass, f)) e

-- no refusal has the number 0
pub number_some : (r : Refusal) → 0 < refusal_number r
number_some Empty = omega arith
number_some TooMany = omega arith
number_some OutOfRange = omega arith
number_some Unlisted = omega arith
number_some Unsupported = omega arith
number_some BrokenNesting = omega arith
number_some NotMergeable = omega arith
number_some TooShort = omega arith
number_some NoSuchCopy = omega arith
number_some NotFinite = omega arith
number_some BufferTooSmall = omega arith
number_some OutOfBounds = omega arith

-- so what hands back 0 has an answer
pub answered : {A : Type 0} (o : Outcome A) → 0 ≡ number_of o → (a : A) → o ≡ Ok (value_or a o)
answered (Err r) e a = let h = number_some r in absurd (omega arith)
answered (Ok b) e a = refl
