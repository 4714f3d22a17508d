-- The lines of a text are answered one after another. Assumes nothing.
use Rattle.std.proofs.Common.{ℕ, ◌≡◌, List, ◌∷◌, length, min, Result, Ok, subst, Bor}
use Rattle.pattern_text.specs.declared.Call.{Call}
use Rattle.pattern_text.specs.declared.Form.{Form}
use Rattle.pattern_text.specs.Text.{FirstLine, numbers_given, GoesWell, Answered}

-- a call with the result that all is well
module _ {F R E : Type 0} (step : F → Bor R → Call → Result (Unit {0}) E → F → Type 0) where
  pub went_well :
      (f g : F) (at : Bor R) (call : Call) (r : Result (Unit {0}) E)
      → step f at call r g → r ≡ Ok tt → (rt : R) (form : Form) (room : ℕ) (line : List ℕ) → at.now ≡ rt → call.line.now ≡ line
      → call.given ≡ numbers_given form line → length call.patterns.now ≡ min call.given room
      → GoesWell step rt form room f line g
  went_well f g at call r told well rt form room line to on of fits = (at, call, to, on, of, fits, subst (λ r. step f at call r g) well told)

-- the answer to the first line, and then those to the rest
module _ {F : Type 0} (answers : F → List ℕ → F → Type 0) where
  pub one_more :
      (f g h : F) (text line rest : List ℕ) → FirstLine text line rest → answers f line g → Answered answers g rest h → Answered answers f text h
  one_more f g h text line rest here first (lines, are, steps) = (line ∷ lines, (rest, here, are), (g, first, steps))
