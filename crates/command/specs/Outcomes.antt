-- Refused, or an answer: the one word for what a call comes to, the checks that come before an answer, and what a call tells of it. Definitions only.
use Rattle.std.specs.Prelude.{ℕ, ◌≡◌, Bool, false, cond, List, [], ◌∷◌, Result, Ok, Err}
use Rattle.command.specs.declared.Refusal.{Refusal}
use Rattle.command.specs.Refusals.{refusal_number}

-- the answer, or the first refusal that is to be given
abbrev pub Outcome : Type 0 → Type 0
Outcome A = Result A Refusal

-- the number that a call hands back: 0 for an answer
abbrev pub number_of : {A : Type 0} → Outcome A → ℕ
number_of (Err r) = refusal_number r
number_of (Ok a) = 0

-- something else made of the answer
abbrev pub mapped : {A B : Type 0} → (A → B) → Outcome A → Outcome B
mapped f (Err r) = Err r
mapped f (Ok a) = Ok (f a)

-- one thing and then another, which may yet refuse
abbrev pub and_then : {A B : Type 0} → Outcome A → (A → Outcome B) → Outcome B
and_then (Err r) next = Err r
and_then (Ok a) next = next a

-- the answer, or what stands in for it where there is none
abbrev pub value_or : {A : Type 0} → A → Outcome A → A
value_or other (Err r) = other
value_or other (Ok a) = a

-- the answer's list: none for a refusal
abbrev pub list_of : {A : Type 0} → Outcome (List A) → List A
list_of o = value_or [] o

-- ---- checks

-- a test, and the refusal that is given where it holds
pub record Check : Type 0 where
  pub fails : Bool
  pub refusal : Refusal

infix 10 ◌gives◌
abbrev pub ◌gives◌ : Bool → Refusal → Check
test gives r = record { fails = test; refusal = r }

-- the checks in their order: the first that fails refuses, and where none does the outcome is as it was
abbrev pub checked : {A : Type 0} → List Check → Outcome A → Outcome A
checked [] o = o
checked (c ∷ cs) o = cond c.fails (Err c.refusal) (checked cs o)

-- each of them finds nothing
abbrev pub AllPass : List Check → Type 0
AllPass [] = Unit {0}
AllPass (c ∷ cs) = (c.fails ≡ false) × AllPass cs

-- ---- what is told of an outcome

-- A value told at a place of the caller's: a refusal leaves there what stood there.
pub record Told {A : Type 0} (o : Outcome A) (number : ℕ) (before after : A) : Type 0 where
  pub number_is : number ≡ number_of o
  pub value_is : after ≡ value_or before o

-- Two counts told: both are 0 for a refusal.
pub record Counted (o : Outcome (ℕ × ℕ)) (number first second : ℕ) : Type 0 where
  pub number_is : number ≡ number_of o
  pub first_is : first ≡ value_or 0 (mapped (λ (n : ℕ × ℕ). n.0) o)
  pub second_is : second ≡ value_or 0 (mapped (λ (n : ℕ × ℕ). n.1) o)
