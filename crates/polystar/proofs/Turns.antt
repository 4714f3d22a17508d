-- Where points stand: whole turns may be left out before or after steps are added or taken away. Assumes nothing.
use Prim.Native.Nat.{ℕ, zero, suc, ◌+◌, ◌-◌, ◌*◌, ◌/◌, ◌%◌, ◌≤◌, ◌<◌}
use mathlib.Core.Path.{◌≡◌, refl, sym, ap, ◌∙◌}
use mathlib.Core.Bool.{Bool, true, false, cond}
use native.Mathlib.Nat.{div-lt_iff_lt-mul}
use native.Mathlib.Omega.{arith}
use native.Mathlib.Bridge.{le_prop}
use mathlib.Core.HLevel.{is_prop→PathP}
use mir.Val.{Fits}
use mir.Syntax.{w64}
use lib.Dec.{ltb}
use lib.IntN.{ℤ, pos, negsuc, sub_ℕ, ◌+ℤ◌, ◌-ℤ◌}
use lib.Ieee.{Float, nan}
use lib.ListN.{get_or}
use borrow.Author.Tests.{ltb-true, ltb-false}
use Rattle.sine.specs.declared.Turn.{Turn}
use Rattle.angle.specs.Sixteenths.{sixteenths_of, reduced, turn_of}
use Rattle.angle.proofs.Reduced.{reduced_below}
use Rattle.polystar.specs.Polystar.{is_reversed, start_of, steps_to, polystar_of, turn_from}
use Rattle.polystar.specs.Points.{PointsStand}

-- ---- sums and differences, reduced
difference : (a b : ℕ) → reduced (sub_ℕ a b) ≡ (a + (5760 - b % 5760)) % 5760
unfolding reduced
difference a b = go (ltb a b) refl
  where
    go : (t : Bool) → ltb a b ≡ t → reduced (cond t (negsuc (b - suc a)) (pos (a - b))) ≡ (a + (5760 - b % 5760)) % 5760
    go true e = let h = ltb-true a b e in omega arith
    go false e = let h = ltb-false a b e in omega arith

steps_on : (z : ℤ) (s : ℕ) → reduced (z +ℤ pos s) ≡ (reduced z + s) % 5760
unfolding reduced
steps_on (pos n) s = omega arith
steps_on (negsuc n) s = difference s (suc n) ∙ omega arith

steps_back : (z : ℤ) (s : ℕ) → reduced (z -ℤ pos s) ≡ (reduced z + (5760 - s % 5760)) % 5760
unfolding reduced
steps_back (pos n) zero = omega arith
steps_back (negsuc n) zero = difference 0 (suc n) ∙ omega arith
steps_back (pos n) (suc s) = difference n (suc s) ∙ omega arith
steps_back (negsuc n) (suc s) = omega arith

-- ---- start_of
-- a turn is its number
same_turn : (a b : Turn) → a.sixteenths ≡ b.sixteenths → a ≡ b
same_turn a b e = λ i. record {
  sixteenths = e i;
  reduced = is_prop→PathP (λ j. e j < 5760) (λ j. le_prop) a.reduced b.reduced i;
}

pub first_stands : (rotation : Float) (start : Turn) → start.sixteenths ≡ (turn_of rotation + 4320) % 5760 → start ≡ start_of rotation
unfolding turn_of start_of
first_stands rotation start e = same_turn _ _ (e ∙ sym (steps_back (sixteenths_of rotation) 1440))

-- ---- turn_at
few_steps : (k count : ℕ) → k < count → count ≤ 1024 → 11520 * k + count < 5760 * (2 * count)
few_steps k count h few = omega arith

unreduced : (n : ℕ) → n < 5760 → n % 5760 ≡ n
unreduced n h = omega arith

ahead : (start s : ℕ) → start < 5760 → (start + s) % 5760 ≡ (start % 5760 + s) % 5760
ahead start s h = rw (unreduced start h)

behind : (start s : ℕ) → start < 5760 → s < 5760 → (start + 5760 - s) % 5760 ≡ (start % 5760 + (5760 - s % 5760)) % 5760
behind start s h g =
    let e : start + 5760 - s ≡ start + (5760 - s) = omega arith in
    rw (unreduced start h, unreduced s g) (ap (λ (n : ℕ). n % 5760) e)

module _ (count start k : ℕ) (inside : k < count) (few : count ≤ 1024) (turned : start < 5760) where
  abbrev steps : ℕ
  steps = (11520 * k + count) / (2 * count)

  same : steps ≡ steps_to count k
  same = ap (λ (n : ℕ). (n + count) / (2 * count)) (omega arith)

  steps_few : steps < 5760
  steps_few =
      let some : 0 < 2 * count = omega arith in
      (div-lt_iff_lt-mul {k = 2 * count} {x = 11520 * k + count} {y = 5760} some).1 (few_steps k count inside few)

  pub steps_inside : steps ≤ start + 5760
  steps_inside = omega (arith, steps_few)

  pub steps_fit : Fits w64 (start + steps)
  steps_fit = record { fits = omega (arith, steps_few) }

  pub turned_back : (turn : ℕ) → turn ≡ (start + 5760 - steps) % 5760 → (reversed : Bool) → reversed ≡ true → turn ≡ turn_from count start reversed k
  unfolding turn_from reduced
  turned_back turn turn_is reversed e =
      let is : (start + 5760 - steps) % 5760 ≡ reduced (pos start -ℤ pos (steps_to count k)) =
      behind start steps turned steps_few ∙ sym (steps_back (pos start) steps) ∙ ap (λ (n : ℕ). reduced (pos start -ℤ pos n)) same in
      turn_is ∙ (rw e is)

  pub turned_on : (turn : ℕ) → turn ≡ (start + steps) % 5760 → (reversed : Bool) → reversed ≡ false → turn ≡ turn_from count start reversed k
  unfolding turn_from reduced
  turned_on turn turn_is reversed e =
      let is : (start + steps) % 5760 ≡ reduced (pos start +ℤ pos (steps_to count k)) =
      ahead start steps turned ∙ sym (steps_on (pos start) steps) ∙ ap (λ (n : ℕ). reduced (pos start +ℤ pos n)) same in
      turn_is ∙ (rw e is)

pub ruleset turns = (steps_inside, steps_fit, turned_back, turned_on)

-- ---- in document 02's words
again : (z : ℤ) → reduced (pos (reduced z)) ≡ reduced z
unfolding reduced
again z = unreduced (reduced z) (reduced_below z)

pub points_stand : PointsStand
unfolding polystar_of turn_from start_of
points_stand mark count v i h = go (is_reversed mark)
  where
    z : ℤ
    z = sixteenths_of (get_or v 7 nan) -ℤ pos 1440

    s : ℕ
    s = steps_to count i

    go : (t : Bool) → reduced (cond t (pos (reduced z) -ℤ pos s) (pos (reduced z) +ℤ pos s)) ≡ reduced (cond t (z -ℤ pos s) (z +ℤ pos s))
    go true = steps_back (pos (reduced z)) s ∙ ap (λ (n : ℕ). (n + (5760 - s % 5760)) % 5760) (again z) ∙ sym (steps_back z s)
    go false = steps_on (pos (reduced z)) s ∙ ap (λ (n : ℕ). (n + s) % 5760) (again z) ∙ sym (steps_on z s)
