-- What a call comes to where the checks pass, and where one does not. Assumes nothing.
use Rattle.std.specs.Prelude.{Err}
use mathlib.Core.Path.{◌≡◌, refl, sym, ◌∙◌}
use mathlib.Core.Bool.{Bool, true, false}
use mathlib.Core.List.{List}
use Prim.Native.Nat.{ℕ, ◌≤◌, ◌<◌}
use native.Mathlib.Omega.{arith}
use lib.Dec.{ltb}
use lib.Ieee.{Float}
use lib.ListN.{length}
use borrow.Author.Tests.{lt-ltb, le-ltb, ltb-true, ltb-false}
use Rattle.command.specs.declared.Refusal.TheVariants.{TooMany, OutOfRange}
use Rattle.command.specs.Outcomes.{Outcome, checked}
use Rattle.length.specs.Lists.{measure_list}
use Rattle.reach.specs.Reach.{long_enough, fewest, yes_or_no, is_length, reach_checks, length_reaches}

module _ (codes : List ℕ) (numbers : List Float) (least : Float) where
  -- the rule behind the checks
  abbrev pub ruled : Outcome (Bool × ℕ)
  ruled = yes_or_no (fewest (long_enough codes numbers least) (length codes)) (length codes) (measure_list codes numbers)

  pub reach_is : length_reaches codes numbers least ≡ checked (reach_checks codes least) ruled
  unfolding length_reaches
  reach_is = refl

  pub reach_many : 262144 < length codes → length_reaches codes numbers least ≡ Err TooMany
  reach_many many = reach_is ∙ rw (lt-ltb 262144 (length codes) many)

  module _ (few : length codes ≤ 262144) where
    pub reach_unasked : is_length least ≡ false → length_reaches codes numbers least ≡ Err OutOfRange
    reach_unasked wrong = reach_is ∙ rw (le-ltb 262144 (length codes) few, wrong)

    pub reach_passed : is_length least ≡ true → length_reaches codes numbers least ≡ ruled
    reach_passed right = reach_is ∙ rw (le-ltb 262144 (length codes) few, right)

-- two lists of as many commands, and two lengths of which both are lengths or neither is: one answer, if the rule gives one
pub reach_alike : (codes codes' : List ℕ) (numbers numbers' : List Float) (least least' : Float)
    → length codes' ≡ length codes → is_length least' ≡ is_length least
    → (length codes ≤ 262144 → is_length least ≡ true → ruled codes' numbers' least' ≡ ruled codes numbers least)
    → length_reaches codes' numbers' least' ≡ length_reaches codes numbers least
reach_alike codes codes' numbers numbers' least least' many asked same = go (ltb 262144 (length codes)) refl (is_length least) refl
  where
    go : (b : Bool) → ltb 262144 (length codes) ≡ b → (d : Bool) → is_length least ≡ d → length_reaches codes' numbers' least' ≡ length_reaches codes numbers least
    go true e d f =
        let h : 262144 < length codes = ltb-true 262144 (length codes) e in
        reach_many codes' numbers' least' (omega arith) ∙ sym (reach_many codes numbers least h)
    go false e d f =
        let h : length codes ≤ 262144 = ltb-false 262144 (length codes) e in
        let h' : length codes' ≤ 262144 = omega arith in
        few h h' d f
      where
        few : length codes ≤ 262144 → length codes' ≤ 262144 → (d : Bool) → is_length least ≡ d
            → length_reaches codes' numbers' least' ≡ length_reaches codes numbers least
        few h h' true f = reach_passed codes' numbers' least' h' (asked ∙ f) ∙ same h f ∙ sym (reach_passed codes numbers least h f)
        few h h' false f = reach_unasked codes' numbers' least' h' (asked ∙ f) ∙ sym (reach_unasked codes numbers least h f)
