-- The running length inside a curve never falls, and is finite, since its chords are. Assumes nothing.
use mathlib.Core.Path.{◌≡◌, sym, subst}
use mathlib.Core.Logic.{inl, inr}
use Prim.Native.Nat.{ℕ, zero, suc, ◌+◌, ◌^◌, ◌≤◌, zero-le}
use native.Mathlib.Nat.{le_refl, le_trans, le_of_suc-le-suc, eq-or-lt_of_le}
use native.Mathlib.Omega.{arith}
use lib.Dec.{T}
use lib.Ieee.{le, binary32}
use Rattle.ieee.specs.Literal.{zero32}
use Rattle.ieee.specs.Limit.{Bounded}
use Rattle.ieee.proofs.Order as Order
use Rattle.ieee.proofs.Monotone.{add_ge}
use Rattle.ieee.proofs.Bounds.{bounded_finite, bounded_number}
use Rattle.point.specs.declared.Point.{Point}
use Rattle.curve.specs.Curve.{distance, quad_point, cubic_point, chords, quad_length_after, cubic_length_after}
use Rattle.curve.proofs.Rising.{Inside, distance_plus, chords_fits, chords_bounded, quad_inside, cubic_inside}

-- ---- chords between points at most 2 ^ b
module _ (b : ℕ) (B : b + 27 ≤ 127) (point : ℕ → Point) where
  chords_next : (n : ℕ) → ((k : ℕ) → k ≤ suc n → Inside (2 ^ b) (point k)) → T (le (chords point n) (chords point (suc n)))
  unfolding chords
  chords_next n P =
      add_ge binary32 (chords point n) (distance (point n) (point (suc n))) (chords_fits b B point n)
      (bounded_finite (2 ^ (b + 27)) (chords point n) (chords_bounded b B point n (λ (k : ℕ) (h : k ≤ n). P k (up k n h))))
      (distance_plus b (omega arith) (point n) (point (suc n)) (P n (up n n (le_refl n))) (P (suc n) (le_refl (suc n))))
    where
      up : (k n : ℕ) → k ≤ n → k ≤ suc n
      up k n h = omega arith

  chords_same : (n m : ℕ) → n ≡ m → ((k : ℕ) → k ≤ m → Inside (2 ^ b) (point k)) → T (le (chords point n) (chords point m))
  chords_same n m e P =
      subst (λ (z : ℕ). T (le (chords point z) (chords point m))) (sym e) (Order.le_refl (chords point m) (bounded_number (2 ^ (b + 27)) (chords point m) (chords_bounded b B point m P)))

  pub chords_rise : (n m : ℕ) → n ≤ m → ((k : ℕ) → k ≤ m → Inside (2 ^ b) (point k)) → T (le (chords point n) (chords point m))
  chords_rise n zero h P = chords_same n zero (omega arith) P
  chords_rise n (suc m) h P = elim (eq-or-lt_of_le h) [
    | inl e ↦ chords_same n (suc m) e P
    | inr l ↦ Order.le_trans (chords point n) (chords point m) (chords point (suc m)) (chords_rise n m (le_of_suc-le-suc l) (λ (k : ℕ) (j : k ≤ m). P k (up k m j))) (chords_next m P)
  ]
    where
      up : (k n : ℕ) → k ≤ n → k ≤ suc n
      up k n h = omega arith

  pub chords_plus : (n : ℕ) → ((k : ℕ) → k ≤ n → Inside (2 ^ b) (point k)) → T (le zero32 (chords point n))
  unfolding chords
  chords_plus n P = chords_rise zero n zero-le P

-- ---- the lengths of curves whose points are at most 2 ^ b
module _ (b : ℕ) (B : b + 34 ≤ 127) (start control end : Point) (P : Inside (2 ^ b) start) (C : Inside (2 ^ b) control) (E : Inside (2 ^ b) end) where
  quad_up_to : (m : ℕ) → m ≤ 24 → (k : ℕ) → k ≤ m → Inside (2 ^ (b + 7)) (quad_point start control end k)
  quad_up_to m M k h = quad_inside b B start control end P C E k (le_trans h M)

  pub quad_bounded : (n : ℕ) → n ≤ 24 → Bounded (2 ^ (b + 7 + 27)) (quad_length_after n start control end)
  unfolding quad_length_after
  quad_bounded n N = chords_bounded (b + 7) (omega arith) (quad_point start control end) n (quad_up_to n N)

  pub quad_rise : (n m : ℕ) → n ≤ m → m ≤ 24 → T (le (quad_length_after n start control end) (quad_length_after m start control end))
  unfolding quad_length_after
  quad_rise n m h M = chords_rise (b + 7) (omega arith) (quad_point start control end) n m h (quad_up_to m M)

  pub quad_plus : (n : ℕ) → n ≤ 24 → T (le zero32 (quad_length_after n start control end))
  unfolding quad_length_after
  quad_plus n N = chords_plus (b + 7) (omega arith) (quad_point start control end) n (quad_up_to n N)

module _ (b : ℕ) (B : b + 34 ≤ 127) (start control1 control2 end : Point) (P : Inside (2 ^ b) start) (C : Inside (2 ^ b) control1) (D : Inside (2 ^ b) control2) (E : Inside (2 ^ b) end) where
  cubic_up_to : (m : ℕ) → m ≤ 32 → (k : ℕ) → k ≤ m → Inside (2 ^ (b + 7)) (cubic_point start control1 control2 end k)
  cubic_up_to m M k h = cubic_inside b B start control1 control2 end P C D E k (le_trans h M)

  pub cubic_bounded : (n : ℕ) → n ≤ 32 → Bounded (2 ^ (b + 7 + 27)) (cubic_length_after n start control1 control2 end)
  unfolding cubic_length_after
  cubic_bounded n N = chords_bounded (b + 7) (omega arith) (cubic_point start control1 control2 end) n (cubic_up_to n N)

  pub cubic_rise : (n m : ℕ) → n ≤ m → m ≤ 32 → T (le (cubic_length_after n start control1 control2 end) (cubic_length_after m start control1 control2 end))
  unfolding cubic_length_after
  cubic_rise n m h M = chords_rise (b + 7) (omega arith) (cubic_point start control1 control2 end) n m h (cubic_up_to m M)

  pub cubic_plus : (n : ℕ) → n ≤ 32 → T (le zero32 (cubic_length_after n start control1 control2 end))
  unfolding cubic_length_after
  cubic_plus n N = chords_plus (b + 7) (omega arith) (cubic_point start control1 control2 end) n (cubic_up_to n N)
