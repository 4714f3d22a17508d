-- What `nearest_root` and `root_of` say, as comparisons of squares: q is nearest to √n / 2 ^ k, a tie going to the even one, just where
-- (2 q - 1)² 4 ^ k ≤ 4 n ≤ (2 q + 1)² 4 ^ k, with equality at either end for an even q only. `root_of` in units, and its value. Assumes nothing.
use mathlib.Core.Path.{◌≡◌, sym, ap, ◌∙◌, subst}
use mathlib.Core.Bool.{false}
use Prim.Native.Nat.{ℕ, zero, suc, ◌+◌, ◌-◌, ◌*◌, ◌/◌, ◌%◌, ◌^◌, ◌≤◌, ◌<◌, compare, Ordering}
use native.Mathlib.Nat.{le_trans, le_of_eq, le_of_lt, le_of_suc-le-suc, lt_of_le_of_lt, lt_irrefl, le_antisymm, mul-le-mul, mul-le-mul_right, le_of_mul-le-mul_right}
use native.Mathlib.Omega.{arith}
use lib.Dec.{T}
use lib.Ieee.{Format, prec, low, size, nearest, units, fits}
use lib.Ieee.Digits.{size-le}
use lib.Ieee.Exact.{HasValue, units_val}
use lib.Ieee.Scale.{overflow}
use Rattle.ieee.specs.Root.{isqrt, dropped, nearest_root, root_of}
use Rattle.ieee.proofs.Digits.{sq_lt, four, four_pos, size_gt}
use Rattle.ieee.proofs.Tests.{Cmp, cmp}
use Rattle.ieee.proofs.Units.{units_fits}
use Rattle.ieee.proofs.Isqrt.{isqrt_lt, isqrt_ge, cut_low, cut_high, cut_root, kept_root}

-- ---- nearest, by squares
pub record Near (n k q : ℕ) : Type 0 where
  pub low : (2 * q - 1) * (2 * q - 1) * 4 ^ k ≤ 4 * n
  pub high : 4 * n ≤ (2 * q + 1) * (2 * q + 1) * 4 ^ k
  pub low_even : (2 * q - 1) * (2 * q - 1) * 4 ^ k ≡ 4 * n → q % 2 ≡ 0
  pub high_even : 4 * n ≡ (2 * q + 1) * (2 * q + 1) * 4 ^ k → q % 2 ≡ 0

-- ---- there is one at most
no_more : (n k q r : ℕ) → Near n k q → Near n k r → q < r → ⊥
no_more n k q r x y h =
    let c = 4 ^ k in
    let s : (2 * q + 1) * (2 * q + 1) * c ≤ (2 * r - 1) * (2 * r - 1) * c = mul-le-mul_right c (squares (2 * q + 1) (2 * r - 1) (omega arith)) in
    let e : q % 2 ≡ 0 = x.high_even (le_antisymm x.high (le_trans s y.low)) in
    let f : r % 2 ≡ 0 = y.low_even (le_antisymm y.low (le_trans x.high s)) in
    let t : (2 * q + 2) * (2 * q + 2) * c ≤ (2 * r - 1) * (2 * r - 1) * c = mul-le-mul_right c (squares (2 * q + 2) (2 * r - 1) (omega arith)) in
    omega (arith, x.high, y.low, four_pos k)
  where
    squares : (a b : ℕ) → a ≤ b → a * a ≤ b * b
    squares a b h = mul-le-mul h h

pub near_unique : (n k q r : ℕ) → Near n k q → Near n k r → q ≡ r
near_unique n k q r x y = le_antisymm (not_lt q r (no_more n k r q y x)) (not_lt r q (no_more n k q r x y))
  where
    not_lt : (a b : ℕ) → (b < a → ⊥) → a ≤ b
    not_lt a b h = omega arith

-- ---- `nearest_root` is one
near_of : (n k w : ℕ) (o : Ordering) → w * w * 4 ^ k ≤ n → n < (w + 1) * (w + 1) * 4 ^ k → Cmp o (4 * n) ((2 * w + 1) * (2 * w + 1) * 4 ^ k) → Near n k (nearest w o)
near_of n k w Ordering.lt l h e =
    let c = 4 ^ k in
    let a : (2 * w - 1) * (2 * w - 1) * c ≤ 2 * w * (2 * w) * c = mul-le-mul_right c (mul-le-mul (less w) (less w)) in
    record {
      low = omega arith;
      high = le_of_lt e;
      low_even = λ z. zero_even w (sq_le_cancel (2 * w) (2 * w - 1) c (four_pos k) (omega arith));
      high_even = λ z. absurd (omega arith);
    }
  where
    less : (w : ℕ) → 2 * w - 1 ≤ 2 * w
    less w = omega arith

    sq_le_cancel : (a b c : ℕ) → 0 < c → a * a * c ≤ b * b * c → a ≤ b
    sq_le_cancel a b c C h = le_of_suc-le-suc (sq_lt (lt_of_le_of_lt (le_of_mul-le-mul_right h C) (up b)))
      where
        up : (b : ℕ) → b * b < suc b * suc b
        up b = omega arith

    zero_even : (w : ℕ) → 2 * w ≤ 2 * w - 1 → w % 2 ≡ 0
    zero_even w h = omega arith
near_of n k w Ordering.eq l h e =
    let c = 4 ^ k in
    let q = w + w % 2 in
    let a : (2 * q - 1) * (2 * q - 1) * c ≤ (2 * w + 1) * (2 * w + 1) * c = mul-le-mul_right c (squares (2 * q - 1) (2 * w + 1) (omega arith)) in
    let b : (2 * w + 1) * (2 * w + 1) * c ≤ (2 * q + 1) * (2 * q + 1) * c = mul-le-mul_right c (squares (2 * w + 1) (2 * q + 1) (omega arith)) in
    record {
      low = le_trans a (le_of_eq (sym e));
      high = le_trans (le_of_eq e) b;
      low_even = λ z. even w;
      high_even = λ z. even w;
    }
  where
    squares : (a b : ℕ) → a ≤ b → a * a ≤ b * b
    squares a b h = mul-le-mul h h

    even : (w : ℕ) → (w + w % 2) % 2 ≡ 0
    even w = omega arith
near_of n k w Ordering.gt l h e =
    let c = 4 ^ k in
    let a : (2 * suc w - 1) * (2 * suc w - 1) * c ≡ (2 * w + 1) * (2 * w + 1) * c = ap (λ (x : ℕ). x * x * c) (odd w) in
    record {
      low = le_trans (le_of_eq a) (le_of_lt e);
      high = omega arith;
      low_even = λ z. absurd (lt_irrefl (4 * n) (subst (λ (x : ℕ). x < 4 * n) (sym a ∙ z) e));
      high_even = λ z. absurd (omega (arith, four_pos k));
    }
  where
    odd : (w : ℕ) → 2 * suc w - 1 ≡ 2 * w + 1
    odd w = omega arith

pub near_root : (n k : ℕ) → Near n k (nearest_root n k)
near_root n k =
    let w = isqrt n / 2 ^ k in
    near_of n k w (compare (4 * n) ((2 * w + 1) * (2 * w + 1) * 4 ^ k)) (cut_low n k) (cut_high n k) (cmp (4 * n) ((2 * w + 1) * (2 * w + 1) * 4 ^ k))

pub nearest_is : (n k q : ℕ) → Near n k q → nearest_root n k ≡ q
nearest_is n k q h = near_unique n k (nearest_root n k) q (near_root n k) h

-- ---- how many digits are dropped
pub dropped_is : (f : Format) (n k : ℕ) → n < 4 ^ (prec f + k) → (0 < k → 4 ^ (prec f - 1 + k) ≤ n) → dropped f n ≡ k
dropped_is f n k l g =
    let z = size (isqrt n) in
    let b : z ≤ prec f + k = size-le (isqrt n) (prec f + k) (isqrt_lt n (2 ^ (prec f + k)) (subst (λ (x : ℕ). n < x) (four (prec f + k)) l)) in
    join (prec f) k z b (λ (p : 0 < k). size_gt (isqrt n) (prec f - 1 + k) (isqrt_ge n (2 ^ (prec f - 1 + k)) (subst (λ (x : ℕ). x ≤ n) (four (prec f - 1 + k)) (g p))))
  where
    join : (p k z : ℕ) → z ≤ p + k → (0 < k → p - 1 + k < z) → z - p ≡ k
    join p zero z h i = omega arith
    join p (suc k) z h i = let x : p - 1 + suc k < z = i (omega arith) in omega arith

-- ---- q * 2 ^ k smallest values are the rounded root of n, where k is right for n and q is nearest by the squares
pub root_of_law : (f : Format) (n k q : ℕ) → n < 4 ^ (prec f + k) → (0 < k → 4 ^ (prec f - 1 + k) ≤ n) → Near n k q → root_of f n ≡ units f false q k
unfolding root_of
root_of_law f n k q l g h =
    ap (λ (j : ℕ). units f false (nearest_root n j) j) (dropped_is f n k l g) ∙ ap (λ (x : ℕ). units f false x k) (nearest_is n k q h)

-- ---- the format holds it, and its value
pub root_fits : (f : Format) (n : ℕ) → T (fits f (root_of f n))
unfolding root_of
root_fits f n = units_fits f false (nearest_root n (dropped f n)) (dropped f n) (kept_root (prec f) n)

pub root_val : (f : Format) (n : ℕ) → cut_root (prec f) n < overflow f → HasValue (root_of f n) false (cut_root (prec f) n) (2 ^ low f)
unfolding root_of cut_root
root_val f n h = units_val f false (nearest_root n (dropped f n)) (dropped f n) h
