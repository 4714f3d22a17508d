-- Two numbers strictly between z * 2 ^ e and (z + 1) * 2 ^ e round alike, where z has two digits more than binary32 keeps. Assumes nothing.
use mathlib.Core.Path.{◌≡◌, sym, ap, ◌∙◌}
use Prim.Native.Nat.{ℕ, suc, ◌+◌, ◌-◌, ◌*◌, ◌/◌, ◌%◌, ◌^◌, ◌≤◌, ◌<◌, compare, Ordering}
use native.Mathlib.Nat.{add_comm, mul_assoc, suc-mul, mul-le-mul_right, pow-succ'}
use native.Mathlib.Omega.{arith}
use mathlib.Core.Bool.{Bool, true, false, not}
use lib.Dec.{T, ltb, ltb→lt, nltb→le}
use lib.Pow.{pow-add, shr-shr, high, low, mod-pow-add}
use lib.Ieee.{binary32, size, nearest, units, round}
use lib.Ieee.Nearest.{closest}
use Rattle.ieee.proofs.Digits.{size_gt}
use Rattle.ieee.proofs.Tests.{compare_lt, compare_gt}
use Rattle.fused.proofs.Dyadic.{size_more, round_dyadic}

abbrev side : Bool → Ordering
side true = Ordering.lt
side false = Ordering.gt

-- from z and its digits below the unit alone
closest_within : (z e i r : ℕ) → 0 < r → r < 2 ^ e → closest (z * 2 ^ e + r) (2 ^ (suc i + e)) ≡ nearest (z / 2 ^ suc i) (side (ltb (z % 2 ^ suc i) (2 ^ i)))
closest_within z e i r R h =
    let N = z * 2 ^ e + r in
    let u = 2 ^ e in
    let c = z % 2 ^ suc i in
    let W : 2 ^ (suc i + e) ≡ 2 * (2 ^ i * u) = pow-add 2 (suc i) e ∙ ap (λ (x : ℕ). x * u) (pow-succ' 2 i) ∙ mul_assoc 2 (2 ^ i) u in
    let q : N / 2 ^ (suc i + e) ≡ z / 2 ^ suc i = ap (λ (x : ℕ). N / 2 ^ x) (add_comm (suc i) e) ∙ sym (shr-shr N e (suc i)) ∙ ap (λ (x : ℕ). x / 2 ^ suc i) (high z e h) in
    let m : N % 2 ^ (suc i + e) ≡ c * u + r = mod-pow-add N (suc i) e ∙ ap (λ (x : ℕ). x % 2 ^ suc i * u + N % u) (high z e h) ∙ ap (λ (x : ℕ). c * u + x) (low z e h) in
    (λ j. nearest (q j) (compare (m j * 2) (2 ^ (suc i + e))))
    ∙ ap (λ (x : Ordering). nearest (z / 2 ^ suc i) x) (go (ltb c (2 ^ i)) (ltb→lt c (2 ^ i)) (nltb→le c (2 ^ i)) W)
  where
    go : (b : Bool) → (T b → z % 2 ^ suc i < 2 ^ i) → (T (not b) → 2 ^ i ≤ z % 2 ^ suc i) → 2 ^ (suc i + e) ≡ 2 * (2 ^ i * 2 ^ e)
        → compare ((z % 2 ^ suc i * 2 ^ e + r) * 2) (2 ^ (suc i + e)) ≡ side b
    go true p q W =
        let c = z % 2 ^ suc i in
        let l : suc c * 2 ^ e ≤ 2 ^ i * 2 ^ e = mul-le-mul_right (2 ^ e) (p tt) in
        let m = suc-mul c (2 ^ e) in
        compare_lt ((c * 2 ^ e + r) * 2) (2 ^ (suc i + e)) (omega (arith, l, m))
    go false p q W =
        let c = z % 2 ^ suc i in
        let l : 2 ^ i * 2 ^ e ≤ c * 2 ^ e = mul-le-mul_right (2 ^ e) (q tt) in
        compare_gt ((c * 2 ^ e + r) * 2) (2 ^ (suc i + e)) (omega (arith, l))

pub within : (L : ℕ) (s : Bool) (z e r r' : ℕ) → 2 ^ 25 ≤ z → 0 < r → r < 2 ^ e → 0 < r' → r' < 2 ^ e → round binary32 s (z * 2 ^ e + r) (2 ^ (L + 149)) ≡ round binary32 s (z * 2 ^ e + r') (2 ^ (L + 149))
within L s z e r r' Z R h R' h' =
    let b : 25 < size z = size_gt z 25 Z in
    let k = size z + e - L - 24 in
    let i = L + k - suc e in
    let j : L + k ≡ suc i + e = deep (size z) b in
    let one : (x : ℕ) → 0 < x → x < 2 ^ e → round binary32 s (z * 2 ^ e + x) (2 ^ (L + 149)) ≡ units binary32 s (nearest (z / 2 ^ suc i) (side (ltb (z % 2 ^ suc i) (2 ^ i)))) k =
    λ x X H. round_dyadic binary32 L s (z * 2 ^ e + x) k (ap (λ (n : ℕ). n - L - 24) (size_more z e x (omega arith) H))
    ∙ ap (λ (y : ℕ). units binary32 s (closest (z * 2 ^ e + x) (2 ^ y)) k) j
    ∙ ap (λ (y : ℕ). units binary32 s y k) (closest_within z e i x X H) in
    one r R h ∙ sym (one r' R' h')
  where
    deep : (n : ℕ) → 25 < n → L + (n + e - L - 24) ≡ suc (L + (n + e - L - 24) - suc e) + e
    deep n h = omega arith
