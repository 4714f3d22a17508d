-- `root_of` from the squares of the midpoints beside a number of 24 digits: where 4 n is strictly between them, it is that number. Assumes nothing.
use mathlib.Core.Path.{◌≡◌, refl, sym, ◌∙◌, subst}
use Prim.Native.Nat.{ℕ, ◌+◌, ◌-◌, ◌*◌, ◌^◌, ◌≤◌, ◌<◌}
use native.Mathlib.Nat.{le_of_lt, mul-le-mul, mul-le-mul_right, lt_irrefl}
use native.Mathlib.Omega.{arith}
use mathlib.Core.Bool.{Bool, true, false, not}
use lib.Dec.{T, ltb, ltb→lt, nltb→le}
use lib.Pow.{pow-add}
use lib.Ieee.{binary32, units}
use Rattle.ieee.specs.Root.{root_of}
use Rattle.ieee.proofs.Digits.{square_pow}
use Rattle.ieee.proofs.Units.{units_carry}
use Rattle.ieee.proofs.Root.{Near, root_of_law}

-- ---- q * 2 ^ k, no power of two
module _ (n q k : ℕ) (q_lo : 2 ^ 23 < q) (q_hi : q < 2 ^ 24) (above : (2 * q - 1) * 2 ^ k * ((2 * q - 1) * 2 ^ k) < 4 * n) (below : 4 * n < (2 * q + 1) * 2 ^ k * ((2 * q + 1) * 2 ^ k)) where
  low : (2 * q - 1) * (2 * q - 1) * 4 ^ k < 4 * n
  low = subst (λ (x : ℕ). x < 4 * n) (square_pow (2 * q - 1) k) above

  high : 4 * n < (2 * q + 1) * (2 * q + 1) * 4 ^ k
  high = subst (λ (x : ℕ). 4 * n < x) (square_pow (2 * q + 1) k) below

  near : Near n k q
  near = record {
    low = le_of_lt low;
    high = le_of_lt high;
    low_even = λ e. absurd (lt_irrefl (4 * n) (subst (λ (x : ℕ). x < 4 * n) e low));
    high_even = λ e. absurd (lt_irrefl (4 * n) (subst (λ (x : ℕ). 4 * n < x) (sym e) high));
  }

  pub root_between : root_of binary32 n ≡ units binary32 false q k
  root_between =
      let l : 2 ^ 24 + 1 ≤ 2 * q - 1 = omega arith in
      let h : 2 * q + 1 ≤ 2 ^ 25 = omega arith in
      let a : (2 ^ 24 + 1) * (2 ^ 24 + 1) * 4 ^ k ≤ (2 * q - 1) * (2 * q - 1) * 4 ^ k = mul-le-mul_right (4 ^ k) (mul-le-mul l l) in
      let b : (2 * q + 1) * (2 * q + 1) * 4 ^ k ≤ 2 ^ 25 * 2 ^ 25 * 4 ^ k = mul-le-mul_right (4 ^ k) (mul-le-mul h h) in
      root_of_law binary32 n k q (omega (arith, high, pow-add 4 24 k)) (λ (p : 0 < k). omega (arith, low, pow-add 4 23 k)) near

-- ---- 2 ^ 23 * 2 ^ (k + 1): below it the numbers lie closer, and so does the midpoint
module _ (n k : ℕ) (above : (2 ^ 25 - 1) * 2 ^ k * ((2 ^ 25 - 1) * 2 ^ k) < 4 * n) (below : 4 * n < (2 ^ 24 + 1) * 2 ^ (k + 1) * ((2 ^ 24 + 1) * 2 ^ (k + 1))) where
  low_2 : (2 ^ 25 - 1) * (2 ^ 25 - 1) * 4 ^ k < 4 * n
  low_2 = subst (λ (x : ℕ). x < 4 * n) (square_pow (2 ^ 25 - 1) k) above

  high_2 : 4 * n < (2 ^ 24 + 1) * (2 ^ 24 + 1) * 4 ^ (k + 1)
  high_2 = subst (λ (x : ℕ). 4 * n < x) (square_pow (2 ^ 24 + 1) (k + 1)) below

  -- as 2 ^ 24 * 2 ^ k, where the root is below it
  under : n < 4 ^ 24 * 4 ^ k → root_of binary32 n ≡ units binary32 false (2 ^ 24) k
  under g =
      root_of_law binary32 n k (2 ^ 24) (omega (arith, g, pow-add 4 24 k)) (λ (p : 0 < k). omega (arith, low_2, pow-add 4 23 k))
      (record { low = le_of_lt low_2; high = omega (arith, g); low_even = λ e. refl; high_even = λ e. refl })

  -- where it is not
  over : 4 ^ 24 * 4 ^ k ≤ n → root_of binary32 n ≡ units binary32 false (2 ^ 23) (k + 1)
  over g =
      root_of_law binary32 n (k + 1) (2 ^ 23) (omega (arith, high_2, pow-add 4 24 (k + 1))) (λ (p : 0 < k + 1). omega (arith, g, pow-add 4 k 1, pow-add 4 23 (k + 1)))
      (record { low = omega (arith, g, pow-add 4 k 1); high = le_of_lt high_2; low_even = λ e. refl; high_even = λ e. refl })

  pub root_power : root_of binary32 n ≡ units binary32 false (2 ^ 23) (k + 1)
  root_power = go (ltb n (4 ^ 24 * 4 ^ k)) (ltb→lt n (4 ^ 24 * 4 ^ k)) (nltb→le n (4 ^ 24 * 4 ^ k))
    where
      go : (b : Bool) → (T b → n < 4 ^ 24 * 4 ^ k) → (T (not b) → 4 ^ 24 * 4 ^ k ≤ n) → root_of binary32 n ≡ units binary32 false (2 ^ 23) (k + 1)
      go true p q = under (p tt) ∙ units_carry binary32 false k (k + 1) refl
      go false p q = over (q tt)
