-- From the nearest whole number with a half to the even one, one test leads to `round`, and one to `floor`. Assumes nothing.
use mathlib.Core.Path.{◌≡◌, refl, sym, ap, ◌∙◌, subst}
use Prim.Native.Nat.{ℕ, ◌+◌, ◌-◌, ◌*◌, ◌^◌, ◌≤◌, ◌<◌}
use mathlib.Core.Logic.{inl, inr}
use native.Mathlib.Nat.{add-zero, sub-zero, lt_of_le_of_lt, eq-or-lt_of_le, ne_of_lt, mul-one, mul_assoc}
use native.Mathlib.Omega.{arith}
use mathlib.Core.Bool.{Bool, true, false, cond, ◌&&◌}
use borrow.Author.Tests.{eqb-true, eqb-false, ltb-true, ltb-false}
use lib.Dec.{eqb, lit<}
use lib.Ieee.{Float, binary32, round, add, sub, neg, eq, lt, below}
use lib.Ieee.Exact.{HasValue}
use lib.Ieee.Nearest.{closest}
use Rattle.ieee.specs.Literal.{zero32, one32}
use Rattle.ieee.specs.Sign.{abs}
use Rattle.ieee.specs.Whole.{whole_down, whole_up, whole_near, floor, round_away}
use Rattle.ieee.proofs.Value.{rescale, neg_val}
use Rattle.ieee.proofs.Operations.{add_at, sub_is}
use Rattle.ieee.proofs.Comparison.{eq_at, lt_at}
use Rattle.ieee.proofs.Whole.{whole_at, near_way, near_way_lem, near_goes, floor_way, floor_way_lem, floor_goes}
use Rattle.whole.specs.Even.{round_even}
use Rattle.whole.specs.Small.{Small}
use Rattle.whole.proofs.Closest.{above, near_next, near_same, down_same, down_before, up_next, up_same}
use Rattle.whole.proofs.Even.{even_way, even_way_lem, even_goes, even_at, U, U_pos, at_most_lem}
use Rattle.whole.proofs.Even.{half32, zero_value, one_value, sum_minus, whole_value, half_up_value, further, half_up}
use Rattle.whole.proofs.Signs.{signed_value}

-- ---- `round`, of a size: a half that went down goes up
and_true : (t : Bool) → (t && true) ≡ t
and_true true = refl
and_true false = refl

tie_of : (k h n : ℕ) → (2 * k + 1) * h ≡ n → 2 * n ≡ 2 * (k * (2 * h)) + 2 * h
tie_of k h n e = omega arith

of_tie : (k h n : ℕ) → 2 * n ≡ 2 * (k * (2 * h)) + 2 * h → (2 * k + 1) * h ≡ n
of_tie k h n e = omega arith

-- from 2 ^ 23 half a step up is 2 ^ 23 again, and no tie is left
no_tie : (n a u : ℕ) → n < a → 2 * n ≡ 2 * a + u → ⊥
no_tie n a u h e = omega arith

last_value : HasValue (round binary32 false (2 * 2 ^ 23 + 1) 2) false (2 ^ 172) U
unfolding round
last_value = (refl, refl)

module _ (x r : Float) (S : Small x) (e : r ≡ round_even binary32 x) where
  abbrev n : ℕ
  n = S.units

  abbrev k : ℕ
  k = closest n U

  k_le : k ≤ 2 ^ 23
  k_le = at_most_lem closest even_way_lem n S.bound

  r_is : r ≡ round binary32 false k 1
  r_is = e ∙ even_at x n S.value S.bound

  r_value : HasValue r false k 1
  r_value = subst (λ (y : Float). HasValue y false k 1) (sym r_is) (whole_value false k (lt_of_le_of_lt k_le (lit< tt)))

  abbrev Tie : Type 0
  Tie = 2 * n ≡ 2 * (k * U) + U

  -- the sum with a half is x just at a tie
  middle : (m : ℕ) × HasValue (add binary32 r half32) false m U × (m ≡ n → Tie) × (Tie → m ≡ n)
  middle = elim (eq-or-lt_of_le k_le) [
    | inl e ↦ (
      2 ^ 172,
      subst (λ (y : Float). HasValue y false (2 ^ 172) U) (sym (half_up r k r_value ∙ ap (λ (z : ℕ). round binary32 false (2 * z + 1) 2) e)) last_value,
      λ h. absurd (ne_of_lt S.bound (sym h)),
      λ h. absurd (no_tie n (2 ^ 172) U S.bound (h ∙ ap (λ (z : ℕ). 2 * (z * U) + U) e)),
    )
    | inr l ↦ (
      (2 * k + 1) * 2 ^ 148,
      rescale (add binary32 r half32) false (2 * k + 1) 2 ((2 * k + 1) * 2 ^ 148) U (lit< tt) (mul_assoc (2 * k + 1) (2 ^ 148) 2)
          (subst (λ (y : Float). HasValue y false (2 * k + 1) 2) (sym (half_up r k r_value)) (half_up_value k l)),
      tie_of k (2 ^ 148) n,
      of_tie k (2 ^ 148) n,
    )
  ]

  test_is : eq (add binary32 r half32) x ≡ eqb middle.0 n
  test_is = eq_at (add binary32 r half32) x false false middle.0 n U U_pos middle.1 S.value ∙ and_true (eqb middle.0 n)

  round_at : round_away binary32 x ≡ round binary32 false (whole_near n U) 1
  round_at = whole_at binary32 near_way (round_away binary32) near_way_lem (near_goes binary32) x false n U U_pos S.value

  -- a step of j leads to `round` where it leads to the same number of units
  stepped : (o : Float) (j : ℕ) → HasValue o false j 1 → whole_near n U ≡ k + j → add binary32 r o ≡ round_away binary32 x
  stepped o j w h = further r k false r_value o j w ∙ ap (λ (z : ℕ). round binary32 false z 1) (sym h) ∙ sym round_at

  pub near_size_is : (o : Float) → o ≡ cond (eq (add binary32 r half32) x) one32 zero32 → add binary32 r o ≡ round_away binary32 x
  near_size_is o e = ap (add binary32 r) e ∙ go (eq (add binary32 r half32) x) refl
    where
      go : (t : Bool) → eq (add binary32 r half32) x ≡ t → add binary32 r (cond t one32 zero32) ≡ round_away binary32 x
      go true h = stepped one32 1 one_value (near_next n U U_pos (middle.2 (eqb-true middle.0 n (sym test_is ∙ h))))
      go false h = stepped zero32 0 zero_value (near_same n U U_pos (λ l. eqb-false middle.0 n (sym test_is ∙ h) (middle.3 l)) ∙ sym (add-zero k))

-- ---- `floor`, for either sign
module _ (x r : Float) (S : Small (abs x)) (e : r ≡ round_even binary32 x) where
  abbrev N : ℕ
  N = S.units

  abbrev C : ℕ
  C = closest N U

  C-le : C ≤ 2 ^ 23
  C-le = at_most_lem closest even_way_lem N S.bound

  -- with the sign s
  module _ (s : Bool) (v : HasValue x s N U) where
    even_is : r ≡ round binary32 s C 1
    even_is = e ∙ whole_at binary32 even_way (round_even binary32) even_way_lem even_goes x s N U U_pos v

    even_value : HasValue r s C 1
    even_value = subst (λ (y : Float). HasValue y s C 1) (sym even_is) (whole_value s C (lt_of_le_of_lt C-le (lit< tt)))

    above_is : lt x r ≡ below s N s (C * U)
    above_is = lt_at x r s s N (C * U) U U_pos v (rescale r s C 1 (C * U) U (lit< tt) (mul-one (C * U)) even_value)

    floor_at : floor binary32 x ≡ round binary32 s (floor_way s N U) 1
    floor_at = whole_at binary32 floor_way (floor binary32) floor_way_lem (floor_goes binary32) x s N U U_pos v

  -- a step of j down leads to `floor` where it leads to the same whole number
  stepped_plus : HasValue x false N U → (o : Float) (j : ℕ) → HasValue o false j 1 → j ≤ C → whole_down N U ≡ C - j → sub binary32 r o ≡ floor binary32 x
  stepped_plus v o j w l h =
      sub_is binary32 r o
      ∙ add_at binary32 r (neg o) false true C j 1 (lit< tt) (even_value false v) (neg_val o false j 1 w)
      ∙ sum_minus C j 1 l
      ∙ ap (λ (z : ℕ). round binary32 false z 1) (sym h)
      ∙ sym (floor_at false v)

  stepped_minus : HasValue x true N U → (o : Float) (j : ℕ) → HasValue o false j 1 → whole_up N U ≡ C + j → sub binary32 r o ≡ floor binary32 x
  stepped_minus v o j w h =
      sub_is binary32 r o
      ∙ further r C true (even_value true v) (neg o) j (neg_val o false j 1 w)
      ∙ ap (λ (z : ℕ). round binary32 true z 1) (sym h)
      ∙ sym (floor_at true v)

  pub floor_is : (o : Float) → o ≡ cond (lt x r) one32 zero32 → sub binary32 r o ≡ floor binary32 x
  floor_is o e = ap (sub binary32 r) e ∙ go (signed_value x N U S.value).0 (signed_value x N U S.value).1 (lt x r) refl
    where
      go : (s : Bool) → HasValue x s N U → (t : Bool) → lt x r ≡ t → sub binary32 r (cond t one32 zero32) ≡ floor binary32 x
      go true v true h = stepped_minus v one32 1 one_value (up_next N U U_pos (ltb-true (C * U) N (sym (above_is true v) ∙ h)))
      go true v false h = stepped_minus v zero32 0 zero_value (up_same N U U_pos (ltb-false (C * U) N (sym (above_is true v) ∙ h)) ∙ sym (add-zero C))
      go false v true h =
          let l : N < C * U = ltb-true N (C * U) (sym (above_is false v) ∙ h) in
          stepped_plus v one32 1 one_value (above N U U_pos C l) (down_before N U U_pos l)
      go false v false h = stepped_plus v zero32 0 zero_value (omega arith) (down_same N U U_pos (ltb-false N (C * U) (sym (above_is false v) ∙ h)) ∙ sym (sub-zero C))
