-- `root_of` from the root with one digit more: from the whole part s of 2 √n / 2 ^ k and whether anything is left, and from the whole part of 4 n / 4 ^ k, whose root s is.
-- Assumes nothing.
use mathlib.Core.Path.{◌≡◌, refl, sym, ap, ◌∙◌, subst}
use mathlib.Core.Logic.{inl, inr}
use mathlib.Core.Bool.{Bool, true, false, cond}
use Prim.Native.Nat.{ℕ, zero, suc, ◌+◌, ◌-◌, ◌*◌, ◌/◌, ◌%◌, ◌^◌, ◌≤◌, ◌<◌, compare}
use native.Mathlib.Nat.{eq-or-lt_of_le, zero-lt-suc, mul-le-mul, mul-le-mul_right, div-mul-le_self}
use native.Mathlib.Omega.{arith}
use borrow.Author.Tests.{eq-eqb, ne_eqb}
use lib.Dec.{eqb}
use lib.Pow.{pow-add}
use lib.Ieee.{binary32, nearest, units}
use Rattle.ieee.specs.Root.{isqrt, nearest_root, root_of}
use Rattle.ieee.proofs.Digits.{four_pos}
use Rattle.ieee.proofs.Tests.{compare_lt, compare_eq, compare_gt}
use Rattle.ieee.proofs.Isqrt.{IsRoot, isqrt_law, isqrt_lt, isqrt_ge, root_unique, cut_low, cut_high}
use Rattle.ieee.proofs.Root.{dropped_is}
use Rattle.whole_root.specs.Steps.{halved}

-- ---- half, to the nearest
pub halved_all : (s rest : ℕ) → rest ≡ 0 → (s + s / 2 % 2) / 2 ≡ halved s rest
halved_all s rest e = ap (λ (z : Bool). (s + cond z (s / 2 % 2) 1) / 2) (sym (eq-eqb rest 0 e))

pub halved_more : (s rest : ℕ) → (rest ≡ 0 → ⊥) → (s + 1) / 2 ≡ halved s rest
halved_more s rest h = ap (λ (z : Bool). (s + cond z (s / 2 % 2) 1) / 2) (sym (ne_eqb rest 0 h))

pub halved_low : (s rest : ℕ) → s / 2 ≤ halved s rest
halved_low s rest = go (eqb rest 0)
  where
    go : (z : Bool) → s / 2 ≤ (s + cond z (s / 2 % 2) 1) / 2
    go true = omega arith
    go false = omega arith

pub halved_high : (s rest : ℕ) → halved s rest ≤ (s + 1) / 2
halved_high s rest = go (eqb rest 0)
  where
    go : (z : Bool) → (s + cond z (s / 2 % 2) 1) / 2 ≤ (s + 1) / 2
    go true = omega arith
    go false = omega arith

pub halved_even : (a rest : ℕ) → halved (2 * a) rest ≡ a
halved_even a rest = omega (arith, halved_low (2 * a) rest, halved_high (2 * a) rest)

-- ---- from s: s² c ≤ m < (s + 1)² c, where m is 4 n and c is 4 ^ k, and rest is 0 just where m is s² c
pub record WholeRoot (m c s rest : ℕ) : Type 0 where
  pub low : s * s * c ≤ m
  pub high : m < (s + 1) * (s + 1) * c
  pub all : rest ≡ 0 → m ≡ s * s * c
  pub more : 0 < rest → s * s * c < m

whole_part : (n k s rest : ℕ) → WholeRoot (4 * n) (4 ^ k) s rest → isqrt n / 2 ^ k ≡ s / 2
whole_part n k s rest h = root_unique n (isqrt n / 2 ^ k) (s / 2) (4 ^ k) (cut_low n k) (cut_high n k) half_low half_high
  where
    half_low : s / 2 * (s / 2) * 4 ^ k ≤ n
    half_low =
        let x : s / 2 * 2 ≤ s = div-mul-le_self s 2 in
        let y : s / 2 * 2 * (s / 2 * 2) * 4 ^ k ≤ s * s * 4 ^ k = mul-le-mul_right (4 ^ k) (mul-le-mul x x) in
        omega (arith, h.low)

    half_high : n < (s / 2 + 1) * (s / 2 + 1) * 4 ^ k
    half_high =
        let x : s + 1 ≤ (s / 2 + 1) * 2 = omega arith in
        let y : (s + 1) * (s + 1) * 4 ^ k ≤ (s / 2 + 1) * 2 * ((s / 2 + 1) * 2) * 4 ^ k = mul-le-mul_right (4 ^ k) (mul-le-mul x x) in
        omega (arith, h.high)

-- by whether s is even, so that m is below the square of the odd number after it
pick : (m c s rest : ℕ) → WholeRoot m c s rest → nearest (s / 2) (compare m ((2 * (s / 2) + 1) * (2 * (s / 2) + 1) * c)) ≡ halved s rest
pick m c s rest h = by_parity (s % 2) refl
  where
    odd : (rest : ℕ) → WholeRoot m c s rest → s ≡ 2 * (s / 2) + 1 → nearest (s / 2) (compare m ((2 * (s / 2) + 1) * (2 * (s / 2) + 1) * c)) ≡ halved s rest
    odd zero h v =
        let u : s / 2 + s / 2 % 2 ≡ (s + s / 2 % 2) / 2 = omega arith in
        ap (nearest (s / 2)) (compare_eq m ((2 * (s / 2) + 1) * (2 * (s / 2) + 1) * c) (h.all refl ∙ ap (λ (x : ℕ). x * x * c) v)) ∙ u
    odd (suc r) h v =
        let u : suc (s / 2) ≡ (s + 1) / 2 = omega arith in
        ap (nearest (s / 2)) (compare_gt m ((2 * (s / 2) + 1) * (2 * (s / 2) + 1) * c) (subst (λ (x : ℕ). x * x * c < m) v (h.more (zero-lt-suc r)))) ∙ u ∙ halved_more s (suc r) (λ (z : suc r ≡ 0). omega arith)

    by_parity : (r : ℕ) → s % 2 ≡ r → nearest (s / 2) (compare m ((2 * (s / 2) + 1) * (2 * (s / 2) + 1) * c)) ≡ halved s rest
    by_parity zero r =
        let v : s ≡ 2 * (s / 2) = omega arith in
        ap (nearest (s / 2)) (compare_lt m ((2 * (s / 2) + 1) * (2 * (s / 2) + 1) * c) (subst (λ (x : ℕ). m < (x + 1) * (x + 1) * c) v h.high))
        ∙ sym (ap (λ (x : ℕ). halved x rest) v ∙ halved_even (s / 2) rest)
    by_parity (suc x) r = odd rest h (omega arith)

nearest_half : (n k s rest : ℕ) → WholeRoot (4 * n) (4 ^ k) s rest → nearest_root n k ≡ halved s rest
nearest_half n k s rest h =
    ap (λ (w : ℕ). nearest w (compare (4 * n) ((2 * w + 1) * (2 * w + 1) * 4 ^ k))) (whole_part n k s rest h)
    ∙ pick (4 * n) (4 ^ k) s rest h

-- s has the 24 digits that the format keeps, and one more
pub root_of_is : (n k s rest : ℕ) → WholeRoot (4 * n) (4 ^ k) s rest → s < 2 ^ 25 → (0 < k → 2 ^ 24 ≤ s) → root_of binary32 n ≡ units binary32 false (halved s rest) k
unfolding root_of
root_of_is n k s rest h l g =
    ap (λ (j : ℕ). units binary32 false (nearest_root n j) j) (dropped_is binary32 n k below above)
    ∙ ap (λ (q : ℕ). units binary32 false q k) (nearest_half n k s rest h)
  where
    below : n < 4 ^ (24 + k)
    below =
        let x : s + 1 ≤ 2 ^ 25 = omega arith in
        let y : (s + 1) * (s + 1) * 4 ^ k ≤ 2 ^ 25 * 2 ^ 25 * 4 ^ k = mul-le-mul_right (4 ^ k) (mul-le-mul x x) in
        omega (arith, h.high, pow-add 4 24 k)

    above : 0 < k → 4 ^ (23 + k) ≤ n
    above p =
        let y : 2 ^ 24 * 2 ^ 24 * 4 ^ k ≤ s * s * 4 ^ k = mul-le-mul_right (4 ^ k) (mul-le-mul (g p) (g p)) in
        omega (arith, h.low, pow-add 4 23 k)

-- ---- from t, the whole part of m / c; ρ is what is left of it, and rest is 0 just where ρ is
cut_whole : (m c t ρ rest s : ℕ) → 0 < c → m ≡ t * c + ρ → ρ < c → (rest ≡ 0 → ρ ≡ 0) → (0 < rest → 0 < ρ) → IsRoot t s → WholeRoot m c s (rest + (t - s * s))
cut_whole m c t ρ rest s C e h x y r =
    let low : s * s * c ≤ t * c = mul-le-mul_right c r.0 in
    let high : (t + 1) * c ≤ (s + 1) * (s + 1) * c = mul-le-mul_right c (omega arith) in
    record {
      low = omega arith;
      high = omega arith;
      all = λ (z : rest + (t - s * s) ≡ 0).
          let a : ρ ≡ 0 = x (omega arith) in
          let b : t * c ≡ s * s * c = ap (λ (u : ℕ). u * c) (omega (arith, r.0)) in
          omega arith;
      more = λ (z : 0 < rest + (t - s * s)). elim (eq-or-lt_of_le r.0) [
        | inl v ↦
            let a : 0 < ρ = y (omega arith) in
            omega arith
        | inr v ↦
            let a : (s * s + 1) * c ≤ t * c = mul-le-mul_right c (omega arith) in
            omega arith
      ];
    }

pub from_whole : (n k t ρ rest : ℕ) → 4 * n ≡ t * 4 ^ k + ρ → ρ < 4 ^ k → (rest ≡ 0 → ρ ≡ 0) → (0 < rest → 0 < ρ) → t < 2 ^ 50 → (0 < k → 2 ^ 48 ≤ t)
    → root_of binary32 n ≡ units binary32 false (halved (isqrt t) (rest + (t - isqrt t * isqrt t))) k
from_whole n k t ρ rest e h x y l g =
    let s = isqrt t in
    root_of_is n k s (rest + (t - s * s)) (cut_whole (4 * n) (4 ^ k) t ρ rest s (four_pos k) e h x y (isqrt_law t)) (isqrt_lt t (2 ^ 25) l) (λ (p : 0 < k). isqrt_ge t (2 ^ 24) (g p))
