-- A number of 63 digits at an exponent, in units of 2 ^ -512, rounded to binary32, and the digits that come out. Assumes nothing.
use mathlib.Core.Path.{◌≡◌, sym, ap, ◌∙◌}
use Prim.Native.Nat.{ℕ, ◌+◌, ◌-◌, ◌*◌, ◌/◌, ◌^◌, ◌≤◌, ◌<◌}
use native.Mathlib.Nat.{le_trans, lt_of_lt_of_le, zero-mul, mul_comm, mul_assoc, mul-le-mul_right, mul-lt-mul_of_pos_right}
use native.Mathlib.Omega.{arith}
use mathlib.Core.Bool.{Bool}
use lib.Pow.{pow-add, pow_pos, pow_mono, shr_lt}
use lib.Ieee.{Float, binary32, units, round}
use lib.Ieee.Nearest.{closest, closest_same}
use Rattle.ieee.proofs.Closest.{closest_ge, closest_le, closest_down}
use Rattle.fused.proofs.Dyadic.{size_of, round_dyadic}

-- ---- k places are dropped, and sh of the digits of m
packed : (s : Bool) (m e k sh : ℕ) → 2 ^ 62 ≤ m → m < 2 ^ 63 → k ≡ 63 + e - 363 - 24 → 363 + k ≡ sh + e → round binary32 s (m * 2 ^ e) (2 ^ 512) ≡ units binary32 s (closest m (2 ^ sh)) k
packed s m e k sh lo hi K J =
    round_dyadic binary32 363 s (m * 2 ^ e) k (ap (λ (n : ℕ). n - 363 - 24) (size_of (m * 2 ^ e) 62 e (mul-le-mul_right (2 ^ e) lo) (mul-lt-mul_of_pos_right hi (pow_pos e))) ∙ sym K)
    ∙ ap (λ (x : ℕ). units binary32 s (closest (m * 2 ^ e) (2 ^ x)) k) J
    ∙ ap (λ (x : ℕ). units binary32 s x k)
    (closest_same (m * 2 ^ e) (2 ^ (sh + e)) m (2 ^ sh) (pow_pos (sh + e)) (pow_pos sh) (mul_assoc m (2 ^ e) (2 ^ sh) ∙ ap (λ (x : ℕ). m * x) (mul_comm (2 ^ e) (2 ^ sh) ∙ sym (pow-add 2 sh e))))

-- ---- what is kept of m
pub closest_small : (m sh : ℕ) → m < 2 ^ 63 → 39 ≤ sh → closest m (2 ^ sh) ≤ 2 ^ 24
closest_small m sh h k = let l : 63 ≤ 24 + sh = omega arith in le_trans (closest_le m (2 ^ sh)) (shr_lt 24 sh (lt_of_lt_of_le h (pow_mono l)))

pub closest_large : (m : ℕ) → 2 ^ 62 ≤ m → 2 ^ 23 ≤ closest m (2 ^ 39)
closest_large m h = let l : 2 ^ 23 ≤ m / 2 ^ 39 = omega arith in le_trans l (closest_ge m (2 ^ 39))

closest_zero : (m sh : ℕ) → m < 2 ^ 63 → 64 ≤ sh → closest m (2 ^ sh) ≡ 0
closest_zero m sh h k = let l : 2 ^ 64 ≤ 2 ^ sh = pow_mono k in let z = zero-mul (2 ^ sh) in closest_down m (2 ^ sh) 0 (omega arith) (omega arith)

-- ---- what `pack` hands to `encode`, and what comes back
module _ (s : Bool) (m e : ℕ) (lo : 2 ^ 62 ≤ m) (hi : m < 2 ^ 63) where
  abbrev nearest : Float
  nearest = round binary32 s (m * 2 ^ e) (2 ^ 512)

  pub pack_high : 324 ≤ e → units binary32 s (closest m (2 ^ 39)) (e - 324) ≡ nearest
  pack_high g = sym (packed s m e (e - 324) 39 lo hi (omega arith) (omega arith))

  pub pack_none : e < 324 → 64 ≤ 363 - e → units binary32 s 0 0 ≡ nearest
  pack_none g k = ap (λ (x : ℕ). units binary32 s x 0) (sym (closest_zero m (363 - e) hi k)) ∙ sym (packed s m e 0 (363 - e) lo hi (omega arith) (omega arith))

  pub pack_low : e < 324 → units binary32 s (closest m (2 ^ (363 - e))) 0 ≡ nearest
  pack_low g = sym (packed s m e 0 (363 - e) lo hi (omega arith) (omega arith))
