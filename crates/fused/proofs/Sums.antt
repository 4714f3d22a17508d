-- Which total `sum` rounds: by the signs, and by which of the two is larger. Assumes nothing.
use mathlib.Core.Path.{◌≡◌, refl, sym, ap, ◌∙◌}
use mathlib.Core.Logic.{◌⊎◌, inl, inr}
use Prim.Native.Nat.{ℕ, ◌+◌, ◌-◌, ◌<◌, compare, Ordering}
use native.Mathlib.Nat.{add_comm, le_of_lt, le_of_eq}
use native.Mathlib.Omega.{arith}
use mathlib.Core.Bool.{Bool, true, false, beq, and-true, and-false}
use lib.Ieee.{Format, round, sum}
use borrow.Author.Tests.{lt-ltb, le-ltb}
use Rattle.ieee.proofs.Tests.{Cmp, cmp}

module _ (f : Format) (s t : Bool) (a b c : ℕ) where
  pub sum_like : beq s t ≡ true → sum f s a t b c ≡ round f s (a + b) c
  unfolding sum
  sum_like h = rw h

  pub sum_less : beq s t ≡ false → a < b → sum f s a t b c ≡ round f t (b - a) c
  unfolding sum
  sum_less h l = rw (h, lt-ltb a b l)

  pub sum_more : beq s t ≡ false → b < a → sum f s a t b c ≡ round f s (a - b) c
  unfolding sum
  sum_more h l = rw (h, le-ltb a b (le_of_lt l), lt-ltb b a l) (ap (λ (x : Bool). round f x (a - b) c) (and-true s))

  pub sum_none : beq s t ≡ false → a ≡ b → sum f s a t b c ≡ round f false 0 c
  unfolding sum
  sum_none h e = rw (h, le-ltb a b (le_of_eq (sym e)), le-ltb b a (le_of_eq e)) (λ i. round f (and-false s i) (gone i) c)
    where
      gone : a - b ≡ 0
      gone = omega arith

alike : (s t : Bool) → ((s ≡ t) × (beq s t ≡ true) × (beq t s ≡ true)) ⊎ ((beq s t ≡ false) × (beq t s ≡ false))
alike true true = inl (refl, refl, refl)
alike true false = inr (refl, refl)
alike false true = inr (refl, refl)
alike false false = inl (refl, refl, refl)

pub sum_swap : (f : Format) (s t : Bool) (a b c : ℕ) → sum f s a t b c ≡ sum f t b s a c
sum_swap f s t a b c = elim (alike s t) [
  | inl h ↦ sum_like f s t a b c h.1 ∙ (λ i. round f (h.0 i) (add_comm a b i) c) ∙ sym (sum_like f t s b a c h.2)
  | inr h ↦ go h (compare a b) (cmp a b)
]
  where
    go : (beq s t ≡ false) × (beq t s ≡ false) → (o : Ordering) → Cmp o a b → sum f s a t b c ≡ sum f t b s a c
    go h Ordering.lt l = sum_less f s t a b c h.0 l ∙ sym (sum_more f t s b a c h.1 l)
    go h Ordering.eq e = sum_none f s t a b c h.0 e ∙ sym (sum_none f t s b a c h.1 (sym e))
    go h Ordering.gt l = sum_more f s t a b c h.0 l ∙ sym (sum_less f t s b a c h.1 l)

-- a zero adds nothing
pub sum_right : (f : Format) (s t : Bool) (a b c : ℕ) → b ≡ 0 → 0 < a → sum f s a t b c ≡ round f s a c
sum_right f s t a b c z p = elim (alike s t) [
  | inl h ↦ sum_like f s t a b c h.1 ∙ ap (λ (x : ℕ). round f s x c) plus
  | inr h ↦ sum_more f s t a b c h.0 (omega arith) ∙ ap (λ (x : ℕ). round f s x c) minus
]
  where
    plus : a + b ≡ a
    plus = omega arith

    minus : a - b ≡ a
    minus = omega arith

pub sum_left : (f : Format) (s t : Bool) (a b c : ℕ) → a ≡ 0 → 0 < b → sum f s a t b c ≡ round f t b c
sum_left f s t a b c z p = sum_swap f s t a b c ∙ sum_right f t s b a c z p
