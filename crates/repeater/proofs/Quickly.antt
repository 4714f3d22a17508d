-- Steps that neither turn nor mirror are the steps, where their scale is finite at the end; and what each way out of the functions that take them owes.
-- Assumes nothing.
use mathlib.Core.Path.{◌≡◌, sym, ap, ◌∙◌}
use mathlib.Core.Bool.{Bool, true}
use Prim.Native.Nat.{ℕ}
use lib.Ieee.Scale.{finite}
use Rattle.matrix.specs.declared.Matrix.{Matrix}
use Rattle.repeater.specs.Repeater.{steps}
use Rattle.repeater.specs.Upright.{is_upright, upright_steps}
use Rattle.repeater.proofs.Upright.{upright, kept}

pub upright_steps_lem : (n : ℕ) (step : Matrix) → is_upright step ≡ true → finite (upright_steps n step).a ≡ true → finite (upright_steps n step).d ≡ true → upright_steps n step ≡ steps n step
upright_steps_lem n step h A D = (kept n step (upright step h) A D).is

module _ (step : Matrix) where
  pub upright_all : (n : ℕ) (m : Matrix) (t p q : Bool) → t ≡ is_upright step → t ≡ true → m ≡ upright_steps n step → p ≡ finite m.a → p ≡ true → q ≡ finite m.d → q ≡ true → m ≡ steps n step
  upright_all n m t p q t_is t_true m_is p_is p_true q_is q_true =
      m_is
      ∙ upright_steps_lem n step (sym t_is ∙ t_true)
      (ap (λ (k : Matrix). finite k.a) (sym m_is) ∙ sym p_is ∙ p_true)
      (ap (λ (k : Matrix). finite k.d) (sym m_is) ∙ sym q_is ∙ q_true)
