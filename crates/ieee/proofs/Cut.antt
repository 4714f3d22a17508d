-- Laws of `cut`, a whole number kept to its p leading binary digits. Nothing here is about floats. Assumes nothing.
use mathlib.Core.Path.{◌≡◌, refl, sym, ap, ◌∙◌, subst}
use mathlib.Core.Logic.{inl, inr}
use Prim.Native.Nat.{ℕ, suc, ◌+◌, ◌-◌, ◌*◌, ◌/◌, ◌%◌, ◌^◌, ◌≤◌, ◌<◌, zero-le, compare}
use native.Mathlib.Nat.{le_trans, le_of_eq, le_of_lt, le_antisymm, lt_of_lt_of_le, lt_of_le_of_lt, eq-or-lt_of_le, mul-one, one-mul, mul_comm, mul_assoc, mul-le-mul_right, le-div_iff_mul-le, le-add_right, pow-suc, two-pow-succ}
use native.Mathlib.Omega.{arith}
use mathlib.Core.Bool.{Bool, true, false, not}
use lib.Dec.{T, ltb, ltb→lt, nltb→le}
use lib.Pow.{pow-add, pow_pos, pow_mono, pow-lt, shl_lt}
use lib.Ieee.{size}
use lib.Ieee.Digits.{size-lt, size-le, size_reaches, back}
use lib.Ieee.Fits.{kept-lt, nearest-le}
use lib.Ieee.Nearest.{closest, closest_same, closest_mono, nearest-ge}
use Rattle.ieee.specs.Cut.{cut}
use Rattle.ieee.proofs.Digits.{sub_shift, size_gt, size_mono, size_shift}
use Rattle.ieee.proofs.Closest.{closest_exact, closest_below_half}

pub cut_is : (p n : ℕ) → cut p n ≡ closest n (2 ^ (size n - p)) * 2 ^ (size n - p)
unfolding cut
cut_is p n = refl

-- ---- a number of at most p digits, with zeros after it, stays
spare : (z p l : ℕ) → z ≤ p + l → z - p ≤ l
spare z p l h = omega arith

pub cut_exact : (p q j : ℕ) → q < 2 ^ p → cut p (q * 2 ^ j) ≡ q * 2 ^ j
cut_exact p q j h =
    let n = q * 2 ^ j in
    let k = size n - p in
    let k_le : k ≤ j = spare (size n) p j (size-le n (p + j) (shl_lt p j h)) in
    let r = q * 2 ^ (j - k) in
    let e : r * 2 ^ k ≡ n = mul_assoc q (2 ^ (j - k)) (2 ^ k) ∙ ap (λ (x : ℕ). q * x) (sym (pow-add 2 (j - k) k) ∙ ap (λ (x : ℕ). 2 ^ x) (back j k k_le)) in
    cut_is p n
    ∙ ap (λ (x : ℕ). closest x (2 ^ k) * 2 ^ k) (sym e)
    ∙ ap (λ (x : ℕ). x * 2 ^ k) (closest_exact r (2 ^ k) (pow_pos k))
    ∙ e

pub cut_small : (p n : ℕ) → n < 2 ^ p → cut p n ≡ n
cut_small p n h = subst (λ (x : ℕ). cut p x ≡ x) (mul-one n) (cut_exact p n 0 h)

-- ---- a power of two goes through
pub cut_scale : (p n t : ℕ) → 0 < p → cut p (n * 2 ^ t) ≡ cut p n * 2 ^ t
cut_scale p n t P = go (ltb (size n) p) (ltb→lt (size n) p) (nltb→le (size n) p)
  where
    go : (b : Bool) → (T b → size n < p) → (T (not b) → p ≤ size n) → cut p (n * 2 ^ t) ≡ cut p n * 2 ^ t
    go true s l =
        let h : n < 2 ^ p = lt_of_lt_of_le (size-lt n) (pow_mono (le_of_lt (s tt))) in
        cut_exact p n t h ∙ ap (λ (x : ℕ). x * 2 ^ t) (sym (cut_small p n h))
    go false s l =
        let k = size n - p in
        let e : size (n * 2 ^ t) - p ≡ k + t = sub_shift (size n) p t (size (n * 2 ^ t)) (l tt) (size_shift n t (lt_of_lt_of_le P (l tt))) in
        cut_is p (n * 2 ^ t)
        ∙ ap (λ (z : ℕ). closest (n * 2 ^ t) (2 ^ z) * 2 ^ z) e
        ∙ ap (λ (z : ℕ). z * 2 ^ (k + t)) (closest_same (n * 2 ^ t) (2 ^ (k + t)) n (2 ^ k) (pow_pos (k + t)) (pow_pos k) (simp (mul_assoc, mul_comm, pow-add)))
        ∙ ap (λ (z : ℕ). closest n (2 ^ k) * z) (pow-add 2 k t)
        ∙ sym (mul_assoc (closest n (2 ^ k)) (2 ^ k) (2 ^ t))
        ∙ ap (λ (z : ℕ). z * 2 ^ t) (sym (cut_is p n))

-- ---- the order is kept
kept_le : (p n : ℕ) → closest n (2 ^ (size n - p)) ≤ 2 ^ p
kept_le p n =
    let u = 2 ^ (size n - p) in
    le_trans (nearest-le (n / u) (compare (n % u * 2) u)) (kept-lt p n)

all_in_use : (z p : ℕ) → 0 < p → 0 < z - p → p - 1 + (z - p) < z
all_in_use z p P h = omega arith

kept_ge : (p n : ℕ) → 0 < p → 0 < size n - p → 2 ^ (p - 1) ≤ closest n (2 ^ (size n - p))
kept_ge p n P K =
    let k = size n - p in
    let u = 2 ^ k in
    let a : 2 ^ (p - 1) * 2 ^ k ≤ n = le_trans (le_of_eq (sym (pow-add 2 (p - 1) k))) (size_reaches n (p - 1 + k) (all_in_use (size n) p P K)) in
    le_trans ((le-div_iff_mul-le (pow_pos k)).1 a) (nearest-ge (n / u) (compare (n % u * 2) u))

fewer : (x y p : ℕ) → x ≤ y → x - p ≤ y - p
fewer x y p h = omega arith

room : (p j k : ℕ) → 0 < p → j < k → p + j ≤ p - 1 + k
room p j k P h = omega arith

pub cut_mono : (p a b : ℕ) → 0 < p → a ≤ b → cut p a ≤ cut p b
unfolding cut
cut_mono p a b P h =
    let j = size a - p in
    let k = size b - p in
    elim (eq-or-lt_of_le (fewer (size a) (size b) p (size_mono a b h))) [
      | inl e ↦
          subst (λ (x : ℕ). closest a (2 ^ x) * 2 ^ x ≤ closest b (2 ^ k) * 2 ^ k) (sym e)
          (mul-le-mul_right (2 ^ k) (closest_mono a (2 ^ k) b (2 ^ k) (pow_pos k) (pow_pos k) (mul-le-mul_right (2 ^ k) h)))
      | inr l ↦
          le_trans (mul-le-mul_right (2 ^ j) (kept_le p a))
          (le_trans (le_of_eq (sym (pow-add 2 p j)))
          (le_trans (pow_mono (room p j k P l))
          (le_trans (le_of_eq (pow-add 2 (p - 1) k)) (mul-le-mul_right (2 ^ k) (kept_ge p b P (lt_of_le_of_lt zero-le l))))))
    ]

one_lt_pow : (p : ℕ) → 0 < p → 1 < 2 ^ p
one_lt_pow p P = pow-lt P

cut_pow : (p j : ℕ) → 0 < p → cut p (2 ^ j) ≡ 2 ^ j
cut_pow p j P = subst (λ (x : ℕ). cut p x ≡ x) (one-mul (2 ^ j)) (cut_exact p 1 j (one_lt_pow p P))

-- what is at most a power of two stays so
pub cut_le_pow : (p n j : ℕ) → 0 < p → n ≤ 2 ^ j → cut p n ≤ 2 ^ j
cut_le_pow p n j P h = le_trans (cut_mono p n (2 ^ j) P h) (le_of_eq (cut_pow p j P))

-- ---- a power of two takes up what is much smaller: 2 ^ j + 2 ^ i is cut to 2 ^ j
absorb_exp : (p i j : ℕ) → 0 < p → i + p < j → p - 1 + (suc j - p) ≡ j
absorb_exp p i j P h = omega arith

absorb_gap : (p i j : ℕ) → 0 < p → i + p < j → suc i < suc j - p
absorb_gap p i j P h = omega arith

sum_lt : (a b : ℕ) → a < b → b + a < b + b
sum_lt a b h = omega arith

absorb_lt : (p i j : ℕ) → i + p < j → i < j
absorb_lt p i j h = omega arith

absorb_at : (p i j : ℕ) → 0 < p → i + p < j → cut p (2 ^ j + 2 ^ i) ≡ 2 ^ j
absorb_at p i j P h =
    let M = 2 ^ j + 2 ^ i in
    let k = suc j - p in
    let z : size M ≡ suc j = le_antisymm (size-le M (suc j) (subst (λ (x : ℕ). M < x) (sym (two-pow-succ j)) (sum_lt (2 ^ i) (2 ^ j) (pow-lt (absorb_lt p i j h))))) (size_gt M j (le-add_right (2 ^ j) (2 ^ i))) in
    let e : 2 ^ (p - 1) * 2 ^ k ≡ 2 ^ j = sym (pow-add 2 (p - 1) k) ∙ ap (λ (x : ℕ). 2 ^ x) (absorb_exp p i j P h) in
    let g : 2 ^ i * 2 < 2 ^ k = subst (λ (x : ℕ). x < 2 ^ k) (pow-suc 2 i) (pow-lt (absorb_gap p i j P h)) in
    let l : 2 ^ i < 2 ^ k = pow-lt (le_of_lt (absorb_gap p i j P h)) in
    cut_is p M
    ∙ ap (λ (x : ℕ). closest M (2 ^ (x - p)) * 2 ^ (x - p)) z
    ∙ ap (λ (x : ℕ). x * 2 ^ k) (closest_below_half M (2 ^ k) (2 ^ (p - 1)) (2 ^ i) (ap (λ (x : ℕ). x + 2 ^ i) (sym e)) l g)
    ∙ e

-- so a running sum that is at most 2 ^ j stays so when something at most 2 ^ (j - p - 1) is added
pub cut_absorb : (p n i j : ℕ) → 0 < p → i + p < j → n ≤ 2 ^ j + 2 ^ i → cut p n ≤ 2 ^ j
cut_absorb p n i j P h l = le_trans (cut_mono p n (2 ^ j + 2 ^ i) P l) (le_of_eq (absorb_at p i j P h))
