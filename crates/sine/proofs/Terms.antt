-- The terms of the series, one after the other: their numerators, their denominators, and where they fall.
-- Assumes nothing.
use mathlib.Core.Path.{◌≡◌, ap, ◌∙◌, subst⁻¹}
use Prim.Native.Nat.{ℕ, zero, suc, ◌+◌, ◌*◌, ◌^◌, ◌<◌, ◌≤◌}
use native.Mathlib.Nat.{pow-suc, pow-zero, one-mul, mul_assoc, mul-le-mul_left, mul-le-mul, mul-pos}
use native.Mathlib.Omega.{arith}
use Rattle.sine.specs.Series.{factor, denominator, numerator}

pub numerator_zero : (a : ℕ) → numerator a 0 ≡ a
unfolding numerator
numerator_zero a = pow-suc a 0 ∙ ap (λ (k : ℕ). k * a) (pow-zero a) ∙ one-mul a

pub numerator_suc : (a n : ℕ) → numerator a (suc n) ≡ numerator a n * (a * a)
unfolding numerator
numerator_suc a n =
    let e : 2 * suc n + 1 ≡ suc (suc (2 * n + 1)) = omega arith in
    ap (λ (k : ℕ). a ^ k) e ∙ pow-suc a (suc (2 * n + 1)) ∙ ap (λ (k : ℕ). k * a) (pow-suc a (2 * n + 1)) ∙ mul_assoc (a ^ (2 * n + 1)) a a

pub factor_pos : (d n : ℕ) → 0 < d → 0 < factor d n
unfolding factor
factor_pos d n h = mul-pos (mul-pos h h) (mul-pos {m = 2 * n + 2} {n = 2 * n + 3} (omega arith) (omega arith))

pub denominator_pos : (d n : ℕ) → 0 < d → 0 < denominator d n
unfolding denominator
denominator_pos d zero h = h
denominator_pos d (suc n) h = mul-pos (denominator_pos d n h) (factor_pos d n h)

square : (a d n : ℕ) → a ≤ (2 * n + 2) * d → a * a ≤ factor d n
unfolding factor
square a d n h = omega (arith, mul-le-mul h h)

-- where a/d is at most 2n + 2, term n + 1 is not above term n
pub falls : (a d n : ℕ) → a ≤ (2 * n + 2) * d → numerator a (suc n) ≤ numerator a n * factor d n
falls a d n h = subst⁻¹ (λ (k : ℕ). k ≤ numerator a n * factor d n) (numerator_suc a n) (mul-le-mul_left (numerator a n) (square a d n h))
