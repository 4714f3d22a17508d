-- The whole part of a square root, the whole number nearest to a root, and a root kept to its p leading digits (`cut_root`): bounds, and what a factor 4 ^ t does.
-- Nothing here is about floats. Assumes nothing.
use mathlib.Core.Path.{◌≡◌, sym, ap, ◌∙◌, subst}
use Prim.Native.Nat.{ℕ, zero, suc, ◌+◌, ◌-◌, ◌*◌, ◌/◌, ◌^◌, ◌≤◌, ◌<◌, zero-le, compare}
use native.Mathlib.Nat.{le_trans, le_of_eq, le_antisymm, lt_of_lt_of_le, lt_of_le_of_lt, zero-lt-suc, mul_comm, mul_assoc, mul-mul-mul_comm, mul-le-mul, mul-le-mul_right, lt_of_mul-lt-mul_right, le_of_mul-le-mul_right, pow-suc, pow-le-pow_left, div-div-eq-div-mul, div-lt_iff_lt-mul, div-mul-le_self, lt-div-mul-add}
use native.Mathlib.Omega.{arith}
use mathlib.Core.Bool.{Bool, true, false, not, cond}
use lib.Dec.{T, leb, leb→le, nleb→lt}
use lib.Pow.{pow-add, pow_pos}
use lib.Ieee.{size, nearest}
use lib.Ieee.Digits.{size-lt, size-le}
use lib.Ieee.Fits.{kept-lt, nearest-le}
use Rattle.ieee.specs.Root.{square, root, isqrt, nearest_root}
use Rattle.ieee.proofs.Digits.{four, four_pos, sq_lt, sub_shift, size_cut}
use Rattle.ieee.proofs.Tests.{compare_mul}

-- ---- r is the whole part of √n
abbrev pub IsRoot : ℕ → ℕ → Type 0
IsRoot n r = (r * r ≤ n) × (n < (r + 1) * (r + 1))

root_law : (d n : ℕ) → n < 4 ^ d → IsRoot n (root d n)
unfolding root
root_law zero n h = omega arith
root_law (suc d) n h =
    let r = root d (n / 4) in
    step r (leb (square (2 * r + 1)) n) (leb→le (square (2 * r + 1)) n) (nleb→lt (square (2 * r + 1)) n)
    (root_law d (n / 4) ((div-lt_iff_lt-mul (omega arith)).1 (subst (λ (x : ℕ). n < x) (pow-suc 4 d) h)))
  where
    step : (r : ℕ) (b : Bool) → (T b → (2 * r + 1) * (2 * r + 1) ≤ n) → (T (not b) → n < (2 * r + 1) * (2 * r + 1)) → IsRoot (n / 4) r → IsRoot n (cond b (2 * r + 1) (2 * r))
    step r true y z h = (y tt, omega arith)
    step r false y z h = (omega arith, z tt)

pub isqrt_law : (n : ℕ) → IsRoot n (isqrt n)
unfolding isqrt
isqrt_law n = root_law (size n) n (lt_of_lt_of_le (size-lt n) (pow-le-pow_left (omega arith) (size n)))

-- where s² c ≤ n < (r + 1)² c, s is at most r
root_le : (n s r c : ℕ) → s * s * c ≤ n → n < (r + 1) * (r + 1) * c → s ≤ r
root_le n s r c l h = let k : s < r + 1 = sq_lt {a = s} {b = r + 1} (lt_of_mul-lt-mul_right c (lt_of_le_of_lt l h)) in omega arith

pub root_unique : (n s r c : ℕ) → s * s * c ≤ n → n < (s + 1) * (s + 1) * c → r * r * c ≤ n → n < (r + 1) * (r + 1) * c → s ≡ r
root_unique n s r c a b c' d = le_antisymm (root_le n s r c a d) (root_le n r s c c' b)

pub isqrt_is : (n r : ℕ) → IsRoot n r → isqrt n ≡ r
isqrt_is n r h = let k = isqrt_law n in root_unique n (isqrt n) r 1 (omega arith) (omega arith) (omega arith) (omega arith)

pub isqrt_lt : (n b : ℕ) → n < b * b → isqrt n < b
isqrt_lt n b h = sq_lt (lt_of_le_of_lt (isqrt_law n).0 h)

pub isqrt_ge : (n b : ℕ) → b * b ≤ n → b ≤ isqrt n
isqrt_ge n b h = let k : b < isqrt n + 1 = sq_lt {a = b} {b = isqrt n + 1} (lt_of_le_of_lt h (isqrt_law n).1) in omega arith

-- ---- the whole part of √n / 2 ^ k
pub cut_low : (n k : ℕ) → isqrt n / 2 ^ k * (isqrt n / 2 ^ k) * 4 ^ k ≤ n
cut_low n k =
    let w = isqrt n / 2 ^ k in
    le_trans (le_of_eq (ap (λ (x : ℕ). w * w * x) (four k) ∙ mul-mul-mul_comm w w (2 ^ k) (2 ^ k)))
    (le_trans (mul-le-mul (div-mul-le_self (isqrt n) (2 ^ k)) (div-mul-le_self (isqrt n) (2 ^ k))) (isqrt_law n).0)

pub cut_high : (n k : ℕ) → n < (isqrt n / 2 ^ k + 1) * (isqrt n / 2 ^ k + 1) * 4 ^ k
cut_high n k =
    let w = isqrt n / 2 ^ k in
    let up : isqrt n + 1 ≤ (w + 1) * 2 ^ k = omega (arith, lt-div-mul-add {a = isqrt n} (pow_pos k)) in
    lt_of_lt_of_le (isqrt_law n).1 (le_trans (mul-le-mul up up) (le_of_eq (sym (ap (λ (x : ℕ). (w + 1) * (w + 1) * x) (four k) ∙ mul-mul-mul_comm (w + 1) (w + 1) (2 ^ k) (2 ^ k)))))

-- ---- the root of n * 4 ^ t, cut by t digits, is that of n
pub isqrt_shift : (n t : ℕ) → isqrt (n * 4 ^ t) / 2 ^ t ≡ isqrt n
isqrt_shift n t = sym (isqrt_is n (isqrt (n * 4 ^ t) / 2 ^ t) (le_of_mul-le-mul_right (cut_low (n * 4 ^ t) t) (four_pos t), lt_of_mul-lt-mul_right (4 ^ t) (cut_high (n * 4 ^ t) t)))

pub size_isqrt : (n t : ℕ) → 0 < size (isqrt n) → size (isqrt (n * 4 ^ t)) ≡ size (isqrt n) + t
size_isqrt n t Z =
    size_cut (isqrt (n * 4 ^ t)) t (subst (λ (x : ℕ). 0 < size x) (sym (isqrt_shift n t)) Z)
    ∙ ap (λ (x : ℕ). size x + t) (isqrt_shift n t)

pub nearest_root_shift : (n k t : ℕ) → nearest_root (n * 4 ^ t) (k + t) ≡ nearest_root n k
nearest_root_shift n k t =
    let w = isqrt n / 2 ^ k in
    let e : isqrt (n * 4 ^ t) / 2 ^ (k + t) ≡ w = ap (λ (x : ℕ). isqrt (n * 4 ^ t) / x) (pow-add 2 k t ∙ mul_comm (2 ^ k) (2 ^ t)) ∙ sym (div-div-eq-div-mul (isqrt (n * 4 ^ t)) (2 ^ t) (2 ^ k)) ∙ ap (λ (x : ℕ). x / 2 ^ k) (isqrt_shift n t) in
    ap (λ (x : ℕ). nearest x (compare (4 * (n * 4 ^ t)) (square (2 * x + 1) * 4 ^ (k + t)))) e
    ∙ (λ i. nearest w (compare (sym (mul_assoc 4 n (4 ^ t)) i) ((ap (λ (x : ℕ). square (2 * w + 1) * x) (pow-add 4 k t) ∙ sym (mul_assoc (square (2 * w + 1)) (4 ^ k) (4 ^ t))) i)))
    ∙ ap (nearest w) (compare_mul (4 * n) (square (2 * w + 1) * 4 ^ k) (4 ^ t) (four_pos t))

-- ---- √n to p digits
unfoldable pub cut_root : ℕ → ℕ → ℕ
cut_root p n = nearest_root n (size (isqrt n) - p) * 2 ^ (size (isqrt n) - p)

pub cut_root_shift : (p n t : ℕ) → 0 < p → p ≤ size (isqrt n) → cut_root p (n * 4 ^ t) ≡ cut_root p n * 2 ^ t
unfolding cut_root
cut_root_shift p n t P h =
    let k = size (isqrt n) - p in
    let e : size (isqrt (n * 4 ^ t)) - p ≡ k + t = sub_shift (size (isqrt n)) p t (size (isqrt (n * 4 ^ t))) h (size_isqrt n t (lt_of_lt_of_le P h)) in
    ap (λ (z : ℕ). nearest_root (n * 4 ^ t) z * 2 ^ z) e
    ∙ ap (λ (z : ℕ). z * 2 ^ (k + t)) (nearest_root_shift n k t)
    ∙ ap (λ (z : ℕ). nearest_root n k * z) (pow-add 2 k t)
    ∙ sym (mul_assoc (nearest_root n k) (2 ^ k) (2 ^ t))

pub kept_root : (p n : ℕ) → nearest_root n (size (isqrt n) - p) ≤ 2 ^ p
kept_root p n =
    let k = size (isqrt n) - p in
    let w = isqrt n / 2 ^ k in
    le_trans (nearest-le w (compare (4 * n) (square (2 * w + 1) * 4 ^ k))) (kept-lt p (isqrt n))

fewer : (z p j : ℕ) → z ≤ j → z - p ≤ j
fewer z p j h = omega arith

split : (k j : ℕ) → k ≤ j → j - k + k ≡ j
split k j h = omega arith

-- what is below 4 ^ j has a root of at most 2 ^ j
pub cut_root_le : (p n j : ℕ) → n < 2 ^ j * 2 ^ j → cut_root p n ≤ 2 ^ j
unfolding cut_root
cut_root_le p n j h =
    let r = isqrt n in
    let k = size r - p in
    let w = r / 2 ^ k in
    let l : r < 2 ^ j = isqrt_lt n (2 ^ j) h in
    let kj : k ≤ j = fewer (size r) p j (size-le r j l) in
    let e : 2 ^ (j - k) * 2 ^ k ≡ 2 ^ j = sym (pow-add 2 (j - k) k) ∙ ap (λ (x : ℕ). 2 ^ x) (split k j kj) in
    le_trans (mul-le-mul_right (2 ^ k) (le_trans (nearest-le w (compare (4 * n) (square (2 * w + 1) * 4 ^ k))) ((div-lt_iff_lt-mul (pow_pos k)).1 (subst (λ (x : ℕ). r < x) (sym e) l))))
    (le_of_eq e)

isqrt_zero : isqrt 0 ≡ 0
isqrt_zero = isqrt_is 0 0 (zero-le, zero-lt-suc 0)

abbrev at : ℕ → ℕ → ℕ
at r z = nearest (r / 2 ^ z) (compare (4 * 0) (square (2 * (r / 2 ^ z) + 1) * 4 ^ z)) * 2 ^ z

none_left : (z p : ℕ) → z ≤ 0 → z - p ≡ 0
none_left z p h = omega arith

pub cut_root_zero : (p : ℕ) → cut_root p 0 ≡ 0
unfolding cut_root
cut_root_zero p = ap (λ (r : ℕ). at r (size r - p)) isqrt_zero ∙ ap (λ (z : ℕ). at 0 z) (none_left (size 0) p (size-le 0 0 (zero-lt-suc 0)))
