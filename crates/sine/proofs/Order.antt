-- The sums of the terms that are added, and of those that are taken away, rise with the fraction: bounds at the ends of a bracket hold inside it.
-- Assumes nothing.
use mathlib.Core.Path.{subst⁻¹}
use mathlib.Core.Bool.{Bool, true, false, not, cond}
use Prim.Native.Nat.{ℕ, zero, suc, ◌+◌, ◌*◌, ◌<◌, ◌≤◌}
use native.Mathlib.Nat.{mul-lt-mul_of_pos_right, mul-le-mul_right, mul-le-mul_left, mul-le-mul, lt_of_mul-lt-mul_right}
use native.Mathlib.Omega.{arith}
use Rattle.sine.specs.Series.{even, factor, denominator, numerator, added, taken, Above, Below}
use Rattle.sine.proofs.Terms.{denominator_pos, numerator_zero, numerator_suc}

-- ---- from a/d to a fraction a'/d' that is not below it

-- one term over its denominator, N/D
term_step : (N D N' D' a d a' d' k : ℕ) → N * D' ≤ N' * D → a * d' ≤ a' * d →
    N * (a * a) * (D' * (d' * d' * k)) ≤ N' * (a' * a') * (D * (d * d * k))
term_step N D N' D' a d a' d' k h g = omega (arith, mul-le-mul_right k (mul-le-mul h (mul-le-mul g g)))

term_rises : (a d a' d' n : ℕ) → a * d' ≤ a' * d → numerator a n * denominator d' n ≤ numerator a' n * denominator d n
unfolding denominator factor
term_rises a d a' d' zero h =
    subst⁻¹ (λ (k : ℕ). k * d' ≤ numerator a' 0 * d) (numerator_zero a) (subst⁻¹ (λ (k : ℕ). a * d' ≤ k * d) (numerator_zero a') h)
term_rises a d a' d' (suc n) h =
    let k = (2 * n + 2) * (2 * n + 3) in
    let D = denominator d n * (d * d * k) in
    let D' = denominator d' n * (d' * d' * k) in
    subst⁻¹ (λ (x : ℕ). x * D' ≤ numerator a' (suc n) * D) (numerator_suc a n)
    (subst⁻¹ (λ (x : ℕ). numerator a n * (a * a) * D' ≤ x * D) (numerator_suc a' n)
    (term_step (numerator a n) (denominator d n) (numerator a' n) (denominator d' n) a d a' d' k (term_rises a d a' d' n h) h))

-- a sum A/D, and the next one with the term N/(D·g) or without
sum_step : (b : Bool) (A N D g A' N' D' g' : ℕ) → A * D' ≤ A' * D → N * (D' * g') ≤ N' * (D * g) →
    (A * g + cond b N 0) * (D' * g') ≤ (A' * g' + cond b N' 0) * (D * g)
sum_step true A N D g A' N' D' g' h k = omega (arith, mul-le-mul_right (g * g') h, k)
sum_step false A N D g A' N' D' g' h k = omega (arith, mul-le-mul_right (g * g') h)

added_rises : (a d a' d' n : ℕ) → a * d' ≤ a' * d → added a d n * denominator d' n ≤ added a' d' n * denominator d n
unfolding added denominator
added_rises a d a' d' zero h = h
added_rises a d a' d' (suc n) h =
    sum_step (even (suc n)) (added a d n) (numerator a (suc n)) (denominator d n) (factor d n)
    (added a' d' n) (numerator a' (suc n)) (denominator d' n) (factor d' n) (added_rises a d a' d' n h) (term_rises a d a' d' (suc n) h)

taken_rises : (a d a' d' n : ℕ) → a * d' ≤ a' * d → taken a d n * denominator d' n ≤ taken a' d' n * denominator d n
unfolding taken denominator
taken_rises a d a' d' zero h = omega arith
taken_rises a d a' d' (suc n) h =
    sum_step (not (even (suc n))) (taken a d n) (numerator a (suc n)) (denominator d n) (factor d n)
    (taken a' d' n) (numerator a' (suc n)) (denominator d' n) (factor d' n) (taken_rises a d a' d' n h) (term_rises a d a' d' (suc n) h)

-- ---- a/d between l/e and h/e

-- E, A, B at the fraction; F the denominator at the ends, and C, G their sums
above_of : (p r q E A B F C G : ℕ) → 0 < E → C * E ≤ A * F → B * F ≤ G * E → p * F + q * G < q * C + r * F → p * E + q * B < q * A + r * E
above_of p r q E A B F C G g i j h =
    let l : (p * E + q * B) * F < (q * A + r * E) * F = omega (arith, mul-lt-mul_of_pos_right h g, mul-le-mul_left q i, mul-le-mul_left q j) in
    lt_of_mul-lt-mul_right F l

below_of : (p r q E A B F C G : ℕ) → 0 < E → A * F ≤ C * E → G * E ≤ B * F → q * C + r * F < p * F + q * G → q * A + r * E < p * E + q * B
below_of p r q E A B F C G g i j h =
    let l : (q * A + r * E) * F < (p * E + q * B) * F = omega (arith, mul-lt-mul_of_pos_right h g, mul-le-mul_left q i, mul-le-mul_left q j) in
    lt_of_mul-lt-mul_right F l

-- a bound by the least that is added and the most that is taken away, and the other way round
pub above_between : (p r q a d l h e n : ℕ) → 0 < d → l * d ≤ a * e → a * e ≤ h * d →
    p * denominator e n + q * taken h e n < q * added l e n + r * denominator e n → Above p r q a d n
unfolding Above
above_between p r q a d l h e n g i j t =
    above_of p r q (denominator d n) (added a d n) (taken a d n) (denominator e n) (added l e n) (taken h e n)
    (denominator_pos d n g) (added_rises l e a d n i) (taken_rises a d h e n j) t

pub below_between : (p r q a d l h e n : ℕ) → 0 < d → l * d ≤ a * e → a * e ≤ h * d →
    q * added h e n + r * denominator e n < p * denominator e n + q * taken l e n → Below p r q a d n
unfolding Below
below_between p r q a d l h e n g i j t =
    below_of p r q (denominator d n) (added a d n) (taken a d n) (denominator e n) (added h e n) (taken l e n)
    (denominator_pos d n g) (added_rises a d h e n j) (taken_rises l e a d n i) t
