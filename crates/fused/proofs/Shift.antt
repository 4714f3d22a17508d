-- What the shifts of `lifted`, `rounded` and `jammed` are, at 64 bits. Assumes nothing.
use mathlib.Core.Path.{◌≡◌, sym, ap, ◌∙◌, subst}
use Prim.Native.Nat.{ℕ, suc, ◌+◌, ◌-◌, ◌*◌, ◌/◌, ◌%◌, ◌^◌, ◌≤◌, ◌<◌, min, compare, Ordering}
use native.Mathlib.Nat.{le_of_lt, le_trans, le_of_eq, lt_of_lt_of_le, lt_of_le_of_lt, mul_assoc, one-mul, zero-add, mul-le-mul_right, mul-lt-mul_of_pos_right, div-mul-le_self, mod-eq_of_lt, mul-mod_left, sub-le, pow-succ'}
use native.Mathlib.Omega.{arith}
use lib.Dec.{lit<}
use lib.Pow.{pow-add, pow_pos, pow_mono, pow-lt, shr_le, shr_lt, split}
use lib.Count.{count_leading_zeros, leading_le, leading_top}
use lib.Ieee.{nearest}
use lib.Ieee.Nearest.{closest}
use Rattle.ieee.proofs.Digits.{pow_lt_back}
use Rattle.ieee.proofs.Tests.{compare_lt, compare_eq, compare_gt}
use Rattle.fused.specs.declared.term.Term.{Term}
use Rattle.fused.specs.Align.{jam}
use Rattle.fused.specs.Lifted.{Lifted}

-- ---- `lifted`
pub zeros_fit : (m : ℕ) → count_leading_zeros 64 m < 2 ^ 64
zeros_fit m = lt_of_le_of_lt (leading_le 64 m) (lit< tt)

module _ (m z : ℕ) (M : 0 < m) (h : m < 2 ^ (64 - z)) (Z : z < 64) where
  abbrev n : ℕ
  n = count_leading_zeros 64 m - z

  top : (j : ℕ) × (count_leading_zeros 64 m + suc j ≡ 64) × (2 ^ j ≤ m) × (m < 2 ^ suc j)
  top = leading_top 64 m M (lt_of_lt_of_le h (pow_mono (sub-le 64 z)))

  pub zeros_enough : z ≤ count_leading_zeros 64 m
  zeros_enough = let l = pow_lt_back top.0 (64 - z) (lt_of_le_of_lt top.2 h) in omega (arith, top.1)

  pub zeros_few : n < 64
  zeros_few = omega (arith, top.1)

  low : 2 ^ (63 - z) ≤ m * 2 ^ n
  low = le_trans (le_of_eq (ap (λ (x : ℕ). 2 ^ x) places ∙ pow-add 2 top.0 n)) (mul-le-mul_right (2 ^ n) top.2)
    where
      places : 63 - z ≡ top.0 + n
      places = omega (arith, top.1, zeros_enough)

  high : m * 2 ^ n < 2 ^ (64 - z)
  high = lt_of_lt_of_le (mul-lt-mul_of_pos_right top.3 (pow_pos n)) (le_of_eq (sym (pow-add 2 (suc top.0) n) ∙ ap (λ (x : ℕ). 2 ^ x) places))
    where
      places : suc top.0 + n ≡ 64 - z
      places = omega (arith, top.1, zeros_enough)

  kept : m * 2 ^ n % 2 ^ 64 ≡ m * 2 ^ n
  kept = mod-eq_of_lt (lt_of_lt_of_le high (pow_mono (sub-le 64 z)))

  module _ (e : ℕ) (E : 64 ≤ e) where
    pub zeros_room : n ≤ e
    zeros_room = le_trans (le_of_lt zeros_few) E

-- what `lifted` gives
pub lift_is : (t r : Term) (z : ℕ) → 0 < t.m → t.m < 2 ^ (64 - z) → z < 64 → 64 ≤ t.e → r.negative ≡ t.negative
    → r.m ≡ t.m * 2 ^ (count_leading_zeros 64 t.m - z) % 2 ^ 64 → r.e ≡ t.e - (count_leading_zeros 64 t.m - z) → Lifted t z r
lift_is t r z M h Z E s a b =
    let m = a ∙ kept t.m z M h Z in
    let room = zeros_room t.m z M h Z t.e E in
    record {
      sign = s;
      n = n t.m z M h Z;
      up = m;
      down = omega (arith, room, b);
      low = subst (λ (x : ℕ). 2 ^ (63 - z) ≤ x) (sym m) (low t.m z M h Z);
      high = subst (λ (x : ℕ). x < 2 ^ (64 - z)) (sym m) (high t.m z M h Z);
    }

pub lift_same : (m z e : ℕ) → 0 < m → m < 2 ^ (64 - z) → z < 64 → 64 ≤ e
    → m * 2 ^ (count_leading_zeros 64 m - z) % 2 ^ 64 * 2 ^ (e - (count_leading_zeros 64 m - z)) ≡ m * 2 ^ e
lift_same m z e M h Z E =
    let up = n m z M h Z in
    let room = zeros_room m z M h Z e E in
    ap (λ (x : ℕ). x * 2 ^ (e - up)) (kept m z M h Z) ∙ mul_assoc m (2 ^ up) (2 ^ (e - up)) ∙ ap (λ (x : ℕ). m * x) (sym (pow-add 2 up (e - up)) ∙ ap (λ (x : ℕ). 2 ^ x) (omega arith))

-- ---- m >> s, and back
module _ (m s : ℕ) (h : m < 2 ^ 64) where
  back_is : m / 2 ^ s * 2 ^ s % 2 ^ 64 ≡ m / 2 ^ s * 2 ^ s
  back_is = mod-eq_of_lt (lt_of_le_of_lt (div-mul-le_self m (2 ^ s)) h)

  pub back_le : m / 2 ^ s * 2 ^ s % 2 ^ 64 ≤ m
  back_le = le_trans (le_of_eq back_is) (div-mul-le_self m (2 ^ s))

  rest_is : m - m / 2 ^ s * 2 ^ s % 2 ^ 64 ≡ m % 2 ^ s
  rest_is = ap (λ (x : ℕ). m - x) back_is ∙ rest (m / 2 ^ s * 2 ^ s) (m % 2 ^ s) (split m s)
    where
      rest : (a b : ℕ) → a + b ≡ m → m - a ≡ b
      rest a b e = omega arith

-- ---- `rounded`
pub next_fits : (m s : ℕ) → m < 2 ^ 63 → m / 2 ^ s + 1 < 2 ^ 64
next_fits m s h = omega (arith, shr_le m s)

pub even_fits : (m s : ℕ) → m < 2 ^ 63 → m / 2 ^ s + m / 2 ^ s % 2 < 2 ^ 64
even_fits m s h = omega (arith, shr_le m s)

module _ (m s : ℕ) (h : m < 2 ^ 64) (S : 0 < s) (T : s < 64) where
  abbrev rest : ℕ
  rest = m - m / 2 ^ s * 2 ^ s % 2 ^ 64

  abbrev half : ℕ
  half = 1 * 2 ^ (s - 1) % 2 ^ 64

  whole : 2 ^ s ≡ 2 * half
  whole =
      ap (λ (x : ℕ). 2 ^ x) again ∙ pow-succ' 2 (s - 1)
      ∙ ap (λ (x : ℕ). 2 * x) (sym (ap (λ (x : ℕ). x % 2 ^ 64) (one-mul (2 ^ (s - 1))) ∙ mod-eq_of_lt (pow-lt below)))
    where
      below : s - 1 < 64
      below = omega arith

      again : s ≡ suc (s - 1)
      again = omega arith

  at : (o : Ordering) → compare (m % 2 ^ s * 2) (2 ^ s) ≡ o → nearest (m / 2 ^ s) o ≡ closest m (2 ^ s)
  at o e = ap (nearest (m / 2 ^ s)) (sym e)

  pub round_down : rest < half → m / 2 ^ s ≡ closest m (2 ^ s)
  round_down l = at _ (compare_lt (m % 2 ^ s * 2) (2 ^ s) (go rest half (2 ^ s) (m % 2 ^ s) (rest_is m s h) whole l))
    where
      go : (r p w x : ℕ) → r ≡ x → w ≡ 2 * p → r < p → x * 2 < w
      go r p w x a b l = omega arith

  pub round_up : half < rest → m / 2 ^ s + 1 ≡ closest m (2 ^ s)
  round_up l = one (m / 2 ^ s) ∙ at _ (compare_gt (m % 2 ^ s * 2) (2 ^ s) (go rest half (2 ^ s) (m % 2 ^ s) (rest_is m s h) whole l))
    where
      go : (r p w x : ℕ) → r ≡ x → w ≡ 2 * p → p < r → w < x * 2
      go r p w x a b l = omega arith

      one : (q : ℕ) → q + 1 ≡ suc q
      one q = omega arith

  pub round_tie : half ≤ rest → rest ≤ half → m / 2 ^ s + m / 2 ^ s % 2 ≡ closest m (2 ^ s)
  round_tie k l = at _ (compare_eq (m % 2 ^ s * 2) (2 ^ s) (go rest half (2 ^ s) (m % 2 ^ s) (rest_is m s h) whole k l))
    where
      go : (r p w x : ℕ) → r ≡ x → w ≡ 2 * p → p ≤ r → r ≤ p → x * 2 ≡ w
      go r p w x a b k l = omega arith

-- ---- `jammed`
pub twice_fits : (y s : ℕ) → y < 2 ^ 62 → 2 * (y / 2 ^ s) < 2 ^ 64
twice_fits y s h = omega (arith, shr_le y s)

pub odd_fits : (y s k : ℕ) → y < 2 ^ 62 → k < 2 → 2 * (y / 2 ^ s) + k < 2 ^ 64
odd_fits y s k h l = omega (arith, shr_le y s)

pub jam_far : (y d : ℕ) → 0 < y → y < 2 ^ 62 → 62 ≤ d → 1 ≡ jam y d
jam_far y d Y h k =
    let w : 62 ≤ d + 1 = omega arith in
    let l : y < 2 ^ (d + 1) = lt_of_lt_of_le h (pow_mono w) in
    let a : y / 2 ^ (d + 1) < 1 = shr_lt 0 (d + 1) (subst (λ (x : ℕ). y < 2 ^ x) (sym (zero-add (d + 1))) l) in
    let b : y % 2 ^ (d + 1) ≡ y = mod-eq_of_lt l in
    go (y / 2 ^ (d + 1)) (y % 2 ^ (d + 1)) a b
  where
    go : (a b : ℕ) → a < 1 → b ≡ y → 1 ≡ 2 * a + min 1 b
    go a b e f = omega arith

module _ (y d : ℕ) (h : y < 2 ^ 64) where
  abbrev cut : ℕ
  cut = y / 2 ^ (d + 1)

  pub jam_even : cut * 2 ^ (d + 1) % 2 ^ 64 ≡ y → 2 * cut ≡ jam y d
  jam_even e = go cut (y % 2 ^ (d + 1)) (cut * 2 ^ (d + 1)) (split y (d + 1)) (sym (back_is y (d + 1) h) ∙ e)
    where
      go : (a b w : ℕ) → w + b ≡ y → w ≡ y → 2 * a ≡ 2 * a + min 1 b
      go a b w e f = omega arith

  pub jam_odd : (cut * 2 ^ (d + 1) % 2 ^ 64 ≡ y → ⊥) → 2 * cut + 1 ≡ jam y d
  jam_odd n = go cut (y % 2 ^ (d + 1)) (cut * 2 ^ (d + 1)) (split y (d + 1)) (λ e. n (back_is y (d + 1) h ∙ e))
    where
      go : (a b w : ℕ) → w + b ≡ y → (w ≡ y → ⊥) → 2 * a + 1 ≡ 2 * a + min 1 b
      go a b w e f = omega arith

-- ---- a number of at most 48 digits, lifted to 62
pub lifted_even : (m n : ℕ) → m < 2 ^ 48 → 2 ^ 61 ≤ m * 2 ^ n → m * 2 ^ n % 2 ^ 14 ≡ 0
lifted_even m n h l =
    ap (λ (x : ℕ). m * 2 ^ x % 2 ^ 14) back
    ∙ ap (λ (x : ℕ). m * x % 2 ^ 14) (pow-add 2 (n - 14) 14)
    ∙ ap (λ (x : ℕ). x % 2 ^ 14) (sym (mul_assoc m (2 ^ (n - 14)) (2 ^ 14)))
    ∙ mul-mod_left (m * 2 ^ (n - 14)) (2 ^ 14)
  where
    enough : 61 < 48 + n
    enough = pow_lt_back 61 (48 + n) (lt_of_le_of_lt l (lt_of_lt_of_le (mul-lt-mul_of_pos_right h (pow_pos n)) (le_of_eq (sym (pow-add 2 48 n)))))

    back : n ≡ n - 14 + 14
    back = omega (arith, enough)

pub lifted_near : (m n : ℕ) → 0 < m → m * 2 ^ n < 2 ^ 62 → n < 62
lifted_near m n M h = pow_lt_back n 62 (lt_of_le_of_lt (le_trans (le_of_eq (sym (one-mul (2 ^ n)))) (mul-le-mul_right (2 ^ n) M)) h)
