-- Whole numbers by their binary digits: powers of two and of four, the number of digits, and odd numbers. Assumes nothing.
use mathlib.Core.Path.{◌≡◌, refl, sym, ap, ◌∙◌, subst}
use Prim.Native.Nat.{ℕ, zero, suc, ◌+◌, ◌-◌, ◌*◌, ◌/◌, ◌%◌, ◌^◌, ◌≤◌, ◌<◌}
use native.Mathlib.Nat.{le_trans, le_antisymm, le_of_eq, le_of_lt, lt_of_lt_of_le, lt_of_le_of_lt, lt_of_not-le, not-le_of_lt, le_of_suc-le-suc, zero-lt-suc, mul-one, mul_comm, mul_assoc, mul_left_comm, mul-mul-mul_comm, mul-le-mul, mul-le-mul_left, mul-le-mul_right, mul-lt-mul_of_pos_right, mul-pos, mul-sub, add-sub_of_le, eq_of_mul-eq-mul_right, div-lt_iff_lt-mul, le-div_iff_mul-le, pow-suc, pow-succ'}
use native.Mathlib.Omega.{arith}
use lib.Pow.{pow-add, pow_pos, pow_mono, pow-lt, shl_lt}
use lib.Ieee.{size}
use lib.Ieee.Digits.{size-lt, size-le, size_reaches}

-- ---- products and powers
pub grow : (g s : ℕ) → 0 < s → g ≤ g * s
grow g s S = le_trans (le_of_eq (sym (mul-one g))) (mul-le-mul_left g S)

pub sub_mul : (a b u : ℕ) → a * u - b * u ≡ (a - b) * u
sub_mul a b u = (λ i. mul_comm a u i - mul_comm b u i) ∙ sym (mul-sub u a b) ∙ mul_comm u (a - b)

pub pow_lt_back : (i j : ℕ) → 2 ^ i < 2 ^ j → i < j
pow_lt_back i j h = lt_of_not-le (λ (g : j ≤ i). not-le_of_lt h (pow_mono g))

pub pow_le_back : (i j : ℕ) → 2 ^ i ≤ 2 ^ j → i ≤ j
pow_le_back i j h = le_of_suc-le-suc (lt_of_not-le (λ (g : suc j ≤ i). not-le_of_lt (pow-lt g) h))

pub pow_split : (q l : ℕ) → q ≤ l → 2 ^ q * 2 ^ (l - q) ≡ 2 ^ l
pow_split q l h = sym (pow-add 2 q (l - q)) ∙ ap (λ (x : ℕ). 2 ^ x) (add-sub_of_le h)

pub lt_pow_mul : (i j a b : ℕ) → a < 2 ^ i → b < 2 ^ j → a * b < 2 ^ (i + j)
lt_pow_mul i j a b h k = lt_of_lt_of_le (lt_of_le_of_lt (mul-le-mul_left a (le_of_lt k)) (mul-lt-mul_of_pos_right h (pow_pos j))) (le_of_eq (sym (pow-add 2 i j)))

pub product_pow : (a i b j : ℕ) → a * 2 ^ i * (b * 2 ^ j) ≡ a * b * 2 ^ (i + j)
product_pow a i b j = mul-mul-mul_comm a (2 ^ i) b (2 ^ j) ∙ ap (λ (x : ℕ). a * b * x) (sym (pow-add 2 i j))

pub four : (k : ℕ) → 4 ^ k ≡ 2 ^ k * 2 ^ k
four zero = refl
four (suc k) = rw (pow-suc 4 k, pow-suc 2 k) (omega (arith, four k))

pub four_pos : (k : ℕ) → 0 < 4 ^ k
four_pos k = subst (λ (x : ℕ). 0 < x) (sym (four k)) (mul-pos (pow_pos k) (pow_pos k))

pub square_pow : (a i : ℕ) → a * 2 ^ i * (a * 2 ^ i) ≡ a * a * 4 ^ i
square_pow a i = mul-mul-mul_comm a (2 ^ i) a (2 ^ i) ∙ ap (λ (x : ℕ). a * a * x) (sym (four i))

pub sq_lt : {a b : ℕ} → a * a < b * b → a < b
sq_lt h = lt_of_not-le (λ g. not-le_of_lt h (mul-le-mul g g))

pub squares_lt : (a b w : ℕ) → a ≤ w → b ≤ w → 0 < w → a * a + b * b < 2 * w * (2 * w)
squares_lt a b w A B W =
    let x : a * a ≤ w * w = mul-le-mul A A in
    let y : b * b ≤ w * w = mul-le-mul B B in
    let z : 0 < w * w = mul-pos W W in
    omega arith

-- ---- sums and differences of exponents
pub le_without : (d k E : ℕ) → d + k ≤ E → d ≤ E
le_without d k E h = omega arith

pub sub_shift : (z p t x : ℕ) → p ≤ z → x ≡ z + t → x - p ≡ z - p + t
sub_shift z p t x h e = omega arith

-- ---- how many digits
pub size_gt : (n j : ℕ) → 2 ^ j ≤ n → j < size n
size_gt n j h = lt_of_not-le (λ (g : size n ≤ j). not-le_of_lt (lt_of_lt_of_le (size-lt n) (pow_mono g)) h)

pub size_is : (n j : ℕ) → 2 ^ j ≤ n → n < 2 ^ suc j → size n ≡ suc j
size_is n j lo hi = le_antisymm (size-le n (suc j) hi) (size_gt n j lo)

pub size_mono : (a b : ℕ) → a ≤ b → size a ≤ size b
size_mono a b h = size-le a (size b) (lt_of_le_of_lt h (size-lt b))

pred_lt : (z : ℕ) → 0 < z → z - 1 < z
pred_lt z h = omega arith

join : (z t x : ℕ) → 0 < z → x ≤ z + t → z - 1 + t < x → x ≡ z + t
join z t x Z a b = omega arith

-- t zeros more, and the last t digits cut off
pub size_shift : (n t : ℕ) → 0 < size n → size (n * 2 ^ t) ≡ size n + t
size_shift n t Z =
    let z = size n in
    join z t (size (n * 2 ^ t)) Z (size-le (n * 2 ^ t) (z + t) (shl_lt z t (size-lt n)))
    (size_gt (n * 2 ^ t) (z - 1 + t) (le_trans (le_of_eq (pow-add 2 (z - 1) t)) (mul-le-mul_right (2 ^ t) (size_reaches n (z - 1) (pred_lt z Z)))))

pub size_cut : (m t : ℕ) → 0 < size (m / 2 ^ t) → size m ≡ size (m / 2 ^ t) + t
size_cut m t Z =
    let z = size (m / 2 ^ t) in
    join z t (size m) Z
    (size-le m (z + t) (subst (λ (x : ℕ). m < x) (sym (pow-add 2 z t)) ((div-lt_iff_lt-mul (pow_pos t)).0 (size-lt (m / 2 ^ t)))))
    (size_gt m (z - 1 + t) (subst (λ (x : ℕ). x ≤ m) (sym (pow-add 2 (z - 1) t)) ((le-div_iff_mul-le (pow_pos t)).0 (size_reaches (m / 2 ^ t) (z - 1) (pred_lt z Z)))))

-- ---- an odd number times a power of two has one form
even_odd : (m t : ℕ) → m % 2 ≡ 1 → m ≡ 2 * t → ⊥
even_odd m t o h = omega arith

pub odd_pow : (m n a b : ℕ) → m % 2 ≡ 1 → n % 2 ≡ 1 → m * 2 ^ a ≡ n * 2 ^ b → (m ≡ n) × (a ≡ b)
odd_pow m n zero zero o p h = (sym (mul-one m) ∙ h ∙ mul-one n, refl)
odd_pow m n zero (suc b) o p h = absurd (even_odd m (n * 2 ^ b) o (sym (mul-one m) ∙ h ∙ ap (λ (x : ℕ). n * x) (pow-succ' 2 b) ∙ mul_left_comm n 2 (2 ^ b)))
odd_pow m n (suc a) zero o p h = absurd (even_odd n (m * 2 ^ a) p (sym (mul-one n) ∙ sym h ∙ ap (λ (x : ℕ). m * x) (pow-succ' 2 a) ∙ mul_left_comm m 2 (2 ^ a)))
odd_pow m n (suc a) (suc b) o p h =
    let r = odd_pow m n a b o p (eq_of_mul-eq-mul_right 2 (zero-lt-suc 1) (m * 2 ^ a) (n * 2 ^ b)
    (mul_assoc m (2 ^ a) 2 ∙ ap (λ (x : ℕ). m * x) (sym (pow-suc 2 a)) ∙ h ∙ ap (λ (x : ℕ). n * x) (pow-suc 2 b) ∙ sym (mul_assoc n (2 ^ b) 2))) in
    (r.0, ap suc r.1)
