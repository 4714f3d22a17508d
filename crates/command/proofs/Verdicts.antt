-- What stands behind checks is answered where they all pass. Assumes nothing.
use mathlib.Core.Path.{◌≡◌, refl, sym, ap, ◌∙◌}
use mathlib.Core.List.{List}
use Rattle.std.specs.Prelude.{Ok, Err}
use Rattle.command.specs.declared.Refusal.{Refusal}
use Rattle.command.specs.Outcomes.{Outcome, and_then, Check, checked, AllPass}
use Rattle.command.proofs.Outcomes.{checks_relate, checks_passed}

-- a checked value, of which the checks are the first part, tells what they come to
module _ {A B : Type 0} (cs : List Check) (o : Outcome A) (b : B) where
  behind : (w : Outcome B) → checked cs (Ok b) ≡ w → checked cs o ≡ and_then w (λ _. o)
  behind w e =
      checks_relate (λ (x : Outcome A) (y : Outcome B). x ≡ and_then y (λ _. o)) (λ r. refl) cs o (Ok b) (λ pass. refl)
      ∙ ap (λ (y : Outcome B). and_then y (λ _. o)) e

  pub behind_fault : (r : Refusal) → checked cs (Ok b) ≡ Err r → checked cs o ≡ Err r
  behind_fault r e = behind (Err r) e

  pub behind_value : (x : B) → checked cs (Ok b) ≡ Ok x → checked cs o ≡ o
  behind_value x e = behind (Ok x) e

module _ (cs : List Check) (v : Outcome (Unit {0})) (v_is : v ≡ checked cs (Ok tt)) where
  pub behind_refused : {A : Type 0} (r : Refusal) → v ≡ Err r → (o : Outcome A) → checked cs o ≡ Err r
  behind_refused r e o = behind_fault cs o tt r (sym v_is ∙ e)

  module _ (e : v ≡ Ok tt) where
    pub behind_passed : {A : Type 0} (o : Outcome A) → checked cs o ≡ o
    behind_passed o = behind_value cs o tt tt (sym v_is ∙ e)

    pub all_pass : AllPass cs
    all_pass = (checks_passed cs (Ok tt) tt (sym v_is ∙ e)).0
