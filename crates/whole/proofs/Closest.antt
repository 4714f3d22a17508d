-- From the whole number closest to a fraction to those of the other ways: by how the two compare, it is that number, the one before or the one after.
-- Assumes nothing.
use mathlib.Core.Path.{◌≡◌, refl, sym, ap, ◌∙◌}
use Prim.Native.Nat.{ℕ, zero, suc, ◌+◌, ◌-◌, ◌*◌, ◌/◌, ◌%◌, ◌^◌, ◌≤◌, ◌<◌, compare, Ordering}
use mathlib.Core.Logic.{inl, inr}
use native.Mathlib.Nat.{le_of_lt, le_of_eq, eq-or-lt_of_le, add-zero, zero-mul, zero-lt-suc}
use native.Mathlib.Nat.{div-eq_of_eq-mul_left, div-eq_of_lt-le, add-mul-div_right, add-mul-mod_self_right}
use native.Mathlib.Omega.{arith}
use mathlib.Core.Bool.{Bool, true, false, cond}
use borrow.Author.Tests.{le-ltb, lt-ltb}
use lib.Dec.{ltb}
use lib.Arith.{lt_of_le-ne}
use lib.Ieee.{nearest}
use lib.Ieee.Nearest.{closest}
use Rattle.ieee.specs.Whole.{whole_down, whole_up, whole_near}
use Rattle.ieee.proofs.Closest.{closest_near}

-- 2 ^ 23 is even, so adding it moves no tie
nearest_more : (x : ℕ) (o : Ordering) → nearest (x + 2 ^ 23) o ≡ nearest x o + 2 ^ 23
nearest_more x Ordering.lt = refl
nearest_more x Ordering.eq = omega arith
nearest_more x Ordering.gt = omega arith

split : (k : ℕ) → 0 < k → k ≡ k - 1 + 1
split k h = omega arith

module _ (n u : ℕ) (U : 0 < u) where
  pub closest_more : closest (n + 2 ^ 23 * u) u ≡ closest n u + 2 ^ 23
  closest_more =
      (λ i. nearest (add-mul-div_right n (2 ^ 23) U i) (compare (add-mul-mod_self_right n (2 ^ 23) u i * 2) u))
      ∙ nearest_more (n / u) (compare (n % u * 2) u)

  -- the closest
  abbrev K : ℕ
  K = closest n u

  near : (2 * (K * u) ≤ 2 * n + u) × (2 * n ≤ 2 * (K * u) + u)
  near = closest_near n u U

  twice_pos : 0 < 2 * u
  twice_pos = omega arith

  -- the half that went down
  pub near_next : 2 * n ≡ 2 * (K * u) + u → whole_near n u ≡ K + 1
  near_next h = go K h
    where
      go : (k : ℕ) → 2 * n ≡ 2 * (k * u) + u → (2 * n + u) / (2 * u) ≡ k + 1
      go k h = div-eq_of_eq-mul_left twice_pos (omega arith)

  pub near_same : (2 * n ≡ 2 * (K * u) + u → ⊥) → whole_near n u ≡ K
  near_same h = go K near.0 near.1 h
    where
      go : (k : ℕ) → 2 * (k * u) ≤ 2 * n + u → 2 * n ≤ 2 * (k * u) + u → (2 * n ≡ 2 * (k * u) + u → ⊥) → (2 * n + u) / (2 * u) ≡ k
      go k lo hi h = div-eq_of_lt-le (2 * u) (omega arith) (omega (arith, lt_of_le-ne hi h))

  pub down_same : K * u ≤ n → whole_down n u ≡ K
  down_same h = go K near.1 h
    where
      go : (k : ℕ) → 2 * n ≤ 2 * (k * u) + u → k * u ≤ n → n / u ≡ k
      go k hi h = div-eq_of_lt-le u h (omega arith)

  -- a whole number above it is not 0
  pub above : (k : ℕ) → n < k * u → 0 < k
  above zero h = absurd (omega (arith, zero-mul u))
  above (suc k) h = zero-lt-suc k

  pub down_before : n < K * u → whole_down n u ≡ K - 1
  down_before h = go (K - 1) (split K (above K h)) h
    where
      go : (j : ℕ) → K ≡ j + 1 → n < K * u → n / u ≡ j
      go j e h =
          let m : K * u ≡ (j + 1) * u = ap (λ (z : ℕ). z * u) e in
          let lo = near.0 in
          div-eq_of_lt-le u (omega arith) (omega arith)

  up_when : (k : ℕ) (b : Bool) → n / u ≡ k → ltb (k * u) n ≡ b → whole_up n u ≡ k + cond b 1 0
  up_when k b e t = ap (λ (z : ℕ). z + cond (ltb (z * u) n) 1 0) e ∙ ap (λ (c : Bool). k + cond c 1 0) t

  pub up_next : K * u < n → whole_up n u ≡ K + 1
  up_next h = up_when K true (down_same (le_of_lt h)) (lt-ltb (K * u) n h)

  pub up_same : n ≤ K * u → whole_up n u ≡ K
  up_same h = elim (eq-or-lt_of_le h) [
    | inl e ↦ up_when K false (down_same (le_of_eq (sym e))) (le-ltb (K * u) n h) ∙ add-zero K
    | inr l ↦ up_when (K - 1) true (down_before l) (lt-ltb ((K - 1) * u) n (less (K - 1) (split K (above K l)))) ∙ sym (split K (above K l))
  ]
    where
      less : (j : ℕ) → K ≡ j + 1 → j * u < n
      less j e = let m : K * u ≡ (j + 1) * u = ap (λ (z : ℕ). z * u) e in let lo = near.0 in omega arith
