-- Of an alternating series whose terms fall each sum lies between the two before it: a bound that holds two sums holds all later ones.
-- Assumes nothing.
use mathlib.Core.Path.{◌≡◌, subst, subst⁻¹, sym}
use mathlib.Core.Bool.{Bool, true, false, not, cond}
use Prim.Native.Nat.{ℕ, zero, suc, ◌+◌, ◌-◌, ◌*◌, ◌<◌, ◌≤◌}
use native.Mathlib.Nat.{add-zero, add-suc, mul-lt-mul_of_pos_right, mul-le-mul_left, mul-pos, lt_of_mul-lt-mul_right}
use native.Mathlib.Omega.{arith}
use Rattle.sine.specs.Series.{even, factor, denominator, numerator, added, taken, Above, Below}
use Rattle.sine.proofs.Terms.{factor_pos, falls}

-- ---- one sum and the two after it, on plain numbers

-- A and B are what is added and taken over E; S and T the numerators of the next two terms, and c and e the factors of E on the way to them
above_two : (p r q E A B S T c e : ℕ) → 0 < c * e → T ≤ S * e → p * E + q * B < q * A + r * E →
    p * (E * c * e) + q * ((B * c + 0) * e + T) < q * ((A * c + S) * e + 0) + r * (E * c * e)
above_two p r q E A B S T c e g f h = omega (arith, mul-lt-mul_of_pos_right h g, mul-le-mul_left q f)

above_one : (p r q E A B S T c e : ℕ) → 0 < e → p * (E * c) + q * (B * c + S) < q * (A * c + 0) + r * (E * c) →
    p * (E * c * e) + q * ((B * c + S) * e + 0) < q * ((A * c + 0) * e + T) + r * (E * c * e)
above_one p r q E A B S T c e g h = omega (arith, mul-lt-mul_of_pos_right h g)

below_two : (p r q E A B S T c e : ℕ) → 0 < c * e → T ≤ S * e → q * A + r * E < p * E + q * B →
    q * ((A * c + 0) * e + T) + r * (E * c * e) < p * (E * c * e) + q * ((B * c + S) * e + 0)
below_two p r q E A B S T c e g f h = omega (arith, mul-lt-mul_of_pos_right h g, mul-le-mul_left q f)

below_one : (p r q E A B S T c e : ℕ) → 0 < e → q * (A * c + S) + r * (E * c) < p * (E * c) + q * (B * c + 0) →
    q * ((A * c + S) * e + 0) + r * (E * c * e) < p * (E * c * e) + q * ((B * c + 0) * e + T)
below_one p r q E A B S T c e g h = omega (arith, mul-lt-mul_of_pos_right h g)

-- a term added and one taken bound from the sum before them, a term taken and one added from the sum between
above_step : (b : Bool) (p r q E A B S T c e : ℕ) → 0 < c → 0 < e → T ≤ S * e → p * E + q * B < q * A + r * E →
    p * (E * c) + q * (B * c + cond (not b) S 0) < q * (A * c + cond b S 0) + r * (E * c) →
    p * (E * c * e) + q * ((B * c + cond (not b) S 0) * e + cond (not (not b)) T 0)
    < q * ((A * c + cond b S 0) * e + cond (not b) T 0) + r * (E * c * e)
above_step true p r q E A B S T c e i j f h k = above_two p r q E A B S T c e (mul-pos i j) f h
above_step false p r q E A B S T c e i j f h k = above_one p r q E A B S T c e j k

below_step : (b : Bool) (p r q E A B S T c e : ℕ) → 0 < c → 0 < e → T ≤ S * e → q * A + r * E < p * E + q * B →
    q * (A * c + cond b S 0) + r * (E * c) < p * (E * c) + q * (B * c + cond (not b) S 0) →
    q * ((A * c + cond b S 0) * e + cond (not b) T 0) + r * (E * c * e)
    < p * (E * c * e) + q * ((B * c + cond (not b) S 0) * e + cond (not (not b)) T 0)
below_step true p r q E A B S T c e i j f h k = below_one p r q E A B S T c e j k
below_step false p r q E A B S T c e i j f h k = below_two p r q E A B S T c e (mul-pos i j) f h

-- where the next term is added: a lower bound goes on to it, and an upper bound back from it
above_up : (p r q E A B S c : ℕ) → 0 < c → p * E + q * B < q * A + r * E → p * (E * c) + q * (B * c + 0) < q * (A * c + S) + r * (E * c)
above_up p r q E A B S c g h = omega (arith, mul-lt-mul_of_pos_right h g)

below_down : (p r q E A B S c : ℕ) → q * (A * c + S) + r * (E * c) < p * (E * c) + q * (B * c + 0) → q * A + r * E < p * E + q * B
below_down p r q E A B S c h =
    let l : (q * A + r * E) * c < (p * E + q * B) * c = omega (arith, h) in
    lt_of_mul-lt-mul_right c l

-- ---- the sums of the series

later : (a d n j : ℕ) → a ≤ (2 * n + 2) * d → a ≤ (2 * suc (n + j) + 2) * d
later a d n j h = omega (arith, h)

module _ (p r q a d : ℕ) (g : 0 < d) where
  above_next : (n : ℕ) → a ≤ (2 * suc n + 2) * d → Above p r q a d n → Above p r q a d (suc n) → Above p r q a d (suc (suc n))
  unfolding Above denominator added taken
  above_next n f h k =
      above_step (even (suc n)) p r q (denominator d n) (added a d n) (taken a d n) (numerator a (suc n)) (numerator a (suc (suc n)))
      (factor d n) (factor d (suc n)) (factor_pos d n g) (factor_pos d (suc n) g) (falls a d (suc n) f) h k

  below_next : (n : ℕ) → a ≤ (2 * suc n + 2) * d → Below p r q a d n → Below p r q a d (suc n) → Below p r q a d (suc (suc n))
  unfolding Below denominator added taken
  below_next n f h k =
      below_step (even (suc n)) p r q (denominator d n) (added a d n) (taken a d n) (numerator a (suc n)) (numerator a (suc (suc n)))
      (factor d n) (factor d (suc n)) (factor_pos d n g) (factor_pos d (suc n) g) (falls a d (suc n) f) h k

  above_added : (n : ℕ) → even (suc n) ≡ true → Above p r q a d n → Above p r q a d (suc n)
  unfolding Above denominator added taken
  above_added n e h =
      let S = numerator a (suc n) in
      let c = factor d n in
      subst⁻¹ (λ (b : Bool). p * (denominator d n * c) + q * (taken a d n * c + cond (not b) S 0)
      < q * (added a d n * c + cond b S 0) + r * (denominator d n * c)) e
      (above_up p r q (denominator d n) (added a d n) (taken a d n) S c (factor_pos d n g) h)

  below_added : (n : ℕ) → even (suc n) ≡ true → Below p r q a d (suc n) → Below p r q a d n
  unfolding Below denominator added taken
  below_added n e h =
      let S = numerator a (suc n) in
      let c = factor d n in
      below_down p r q (denominator d n) (added a d n) (taken a d n) S c
      (subst (λ (b : Bool). q * (added a d n * c + cond b S 0) + r * (denominator d n * c)
      < p * (denominator d n * c) + q * (taken a d n * c + cond (not b) S 0)) e h)

  module _ (m : ℕ) (f : a ≤ (2 * m + 2) * d) (e : even (suc m) ≡ true) where
    above_from : Above p r q a d m → (j : ℕ) → Above p r q a d (m + j) × Above p r q a d (suc (m + j))
    above_from h zero = subst (λ (n : ℕ). Above p r q a d n × Above p r q a d (suc n)) (sym (add-zero m)) (h, above_added m e h)
    above_from h (suc j) =
        let t = above_from h j in
        subst (λ (n : ℕ). Above p r q a d n × Above p r q a d (suc n)) (sym (add-suc m j))
        (t.1, above_next (m + j) (later a d m j f) t.0 t.1)

    below_from : Below p r q a d (suc m) → (j : ℕ) → Below p r q a d (m + j) × Below p r q a d (suc (m + j))
    below_from h zero = subst (λ (n : ℕ). Below p r q a d n × Below p r q a d (suc n)) (sym (add-zero m)) (below_added m e h, h)
    below_from h (suc j) =
        let t = below_from h j in
        subst (λ (n : ℕ). Below p r q a d n × Below p r q a d (suc n)) (sym (add-suc m j))
        (t.1, below_next (m + j) (later a d m j f) t.0 t.1)

    -- where term m + 1 is added and the terms fall from term m on: a lower bound of the sum to term m holds from there on,
    pub above_on : Above p r q a d m → (n : ℕ) → m ≤ n → Above p r q a d n
    above_on h n l =
        let i : m + (n - m) ≡ n = omega (arith, l) in
        subst (λ (k : ℕ). Above p r q a d k) i (above_from h (n - m)).0

    -- and so does an upper bound of the sum to term m + 1
    pub below_on : Below p r q a d (suc m) → (n : ℕ) → m ≤ n → Below p r q a d n
    below_on h n l =
        let i : m + (n - m) ≡ n = omega (arith, l) in
        subst (λ (k : ℕ). Below p r q a d k) i (below_from h (n - m)).0
