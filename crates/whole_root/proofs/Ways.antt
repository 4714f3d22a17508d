-- What each way out of a function of this crate owes, as the code meets it: a premise for each test and for each call's result, so that `search` finds it. Assumes nothing.
use mathlib.Core.Path.{◌≡◌, refl, sym, ap, ◌∙◌, subst}
use Prim.Native.Nat.{ℕ, zero, suc, ◌+◌, ◌-◌, ◌*◌, ◌/◌, ◌%◌, ◌^◌, ◌≤◌, ◌<◌}
use native.Mathlib.Nat.{le_of_lt, one-mul, mul-le-mul, div-le_self, div-add-mod', mod-eq_of_lt, pow-le-pow_right}
use native.Mathlib.Omega.{arith}
use mathlib.Core.Bool.{true, false, not}
use lib.IntN.{pos}
use lib.Dec.{T, le→leb}
use lib.Pow.{pow-add}
use lib.Ieee.{Float, nan, inf, fin, binary32, binary64, units, in_float, of_bits, nan_bits}
use lib.Ieee.Exact.{HasValue}
use lib.Ieee.Scale.{finite}
use Rattle.std.specs.Float.{float_is_infinite}
use Rattle.ieee.specs.Pattern.{infinity}
use Rattle.ieee.specs.Root.{isqrt, hypot_of}
use Rattle.ieee.proofs.Digits.{lt_pow_mul, four, four_pos, sq_lt}
use Rattle.ieee.proofs.Isqrt.{isqrt_law, isqrt_is, isqrt_lt, isqrt_ge}
use Rattle.ieee.proofs.Pattern.{pattern_inf}
use Rattle.ieee.proofs.Wide.{rest_ok_64}
use Rattle.ieee.proofs.Hypot.{hypot_swap, hypot_units}
use Rattle.float.specs.declared.parts.Parts.{Parts}
use Rattle.whole_root.specs.Steps.{halved, root_of_parts}
use Rattle.whole_root.proofs.Halved.{halved_all, halved_more, halved_low, halved_high}
use Rattle.whole_root.proofs.Squares.{near_same, near_next, far}

-- ---- guess
pub guess_exact : (t : ℕ) → t < 2 ^ 52 → T (in_float binary64 (pos t))
unfolding in_float
guess_exact t h = le→leb t (2 ^ 53) (omega arith)

-- the pattern that the first guess is read from
pub guess_ok : (b : ℕ) → T (not (nan_bits binary64 (0x5fe6_eb50_c7b5_37a9 - b % 2 ^ 63 / 2)))
guess_ok b = rest_ok_64 (0x5fe6_eb50_c7b5_37a9 - b % 2 ^ 63 / 2) (omega arith)

-- ---- root
pub root_fits : (s : ℕ) → s < 2 ^ 26 → s * s < 2 ^ 64
root_fits s h = let x : s * s ≤ 2 ^ 26 * 2 ^ 26 = mul-le-mul (le_of_lt h) (le_of_lt h) in omega arith

pub root_fits_next : (s : ℕ) → s < 2 ^ 26 → (s + 1) * (s + 1) < 2 ^ 64
root_fits_next s h = let x : s * s ≤ 2 ^ 26 * 2 ^ 26 = mul-le-mul (le_of_lt h) (le_of_lt h) in omega arith

pub root_pos : (s t : ℕ) → t < s * s → 1 ≤ s
root_pos zero t h = absurd (omega arith)
root_pos (suc s) t h = omega arith

pub root_less : (s t : ℕ) → t < s * s → s - 1 < s
root_less s t h = omega (arith, root_pos s t h)

pub root_below : (s t : ℕ) → (s + 1) * (s + 1) ≤ t → t < 2 ^ 52 → s + 1 < 2 ^ 26
root_below s t h l = sq_lt {a = s + 1} {b = 2 ^ 26} (omega arith)

pub root_is : (s t : ℕ) → s * s ≤ t → t < (s + 1) * (s + 1) → s ≡ isqrt t
root_is s t l h = sym (isqrt_is t s (l, h))

-- ---- rounded
pub rounded_square : (t s : ℕ) → s ≡ isqrt t → s * s ≤ t
rounded_square t s e = subst (λ (x : ℕ). x * x ≤ t) (sym e) (isqrt_law t).0

pub rounded_fits : (t s : ℕ) → s ≡ isqrt t → t < 2 ^ 50 → s * s < 2 ^ 64
rounded_fits t s e l = omega (arith, rounded_square t s e)

pub rounded_short : (t s : ℕ) → s ≡ isqrt t → t < 2 ^ 50 → s < 2 ^ 25
rounded_short t s e l = subst (λ (x : ℕ). x < 2 ^ 25) (sym e) (isqrt_lt t (2 ^ 25) l)

pub rounded_le : (t m : ℕ) → t < 2 ^ 50 → halved (isqrt t) m ≤ 2 ^ 24
rounded_le t m l = omega (arith, halved_high (isqrt t) m, isqrt_lt t (2 ^ 25) l)

pub rounded_full : (t m : ℕ) → 2 ^ 48 ≤ t → 2 ^ 23 ≤ halved (isqrt t) m
rounded_full t m l = omega (arith, halved_low (isqrt t) m, isqrt_ge t (2 ^ 24) l)

pub rounded_is : (t s rest k q : ℕ) (r : Float) → s ≡ isqrt t → q ≡ halved s (rest + (t - s * s)) → r ≡ units binary32 false q k → r ≡ units binary32 false (halved (isqrt t) (rest + (t - isqrt t * isqrt t))) k
rounded_is t s rest k q r e d u = u ∙ ap (λ (x : ℕ). units binary32 false x k) d ∙ ap (λ (x : ℕ). units binary32 false (halved x (rest + (t - x * x))) k) e

-- ---- power_of_4
pub shifted : (g : ℕ) → g < 13 → 1 * 2 ^ (2 * g) % 2 ^ 64 ≡ 4 ^ g
shifted g h =
    let e : 1 * 2 ^ (2 * g) ≡ 4 ^ g = one-mul (2 ^ (2 * g)) ∙ ap (λ (x : ℕ). 2 ^ x) (twice g) ∙ pow-add 2 g g ∙ sym (four g) in
    let k : g ≤ 12 = omega arith in
    let l : 4 ^ g ≤ 4 ^ 12 = pow-le-pow_right (omega arith) k in
    mod-eq_of_lt (omega arith) ∙ e
  where
    twice : (x : ℕ) → 2 * x ≡ x + x
    twice x = omega arith

-- ---- near
pub near_power : (n g : ℕ) → n ≡ 4 ^ g → 0 < n
near_power n g e = subst (λ (x : ℕ). 0 < x) (sym e) (four_pos g)

small : (a : ℕ) → a < 2 ^ 24 → a * a < 2 ^ 48
small a h = lt_pow_mul 24 24 a a h h

pub near_fits : (a : ℕ) → a < 2 ^ 24 → a * a < 2 ^ 64
near_fits a h = omega (arith, small a h)

pub near_fits_4 : (a : ℕ) → a < 2 ^ 24 → 4 * (a * a) < 2 ^ 64
near_fits_4 a h = omega (arith, small a h)

-- the whole part of 4 times the sum, and what is left of its smaller term
abbrev whole : ℕ → ℕ → ℕ → ℕ
whole a b n = 4 * (a * a) + 4 * (b * b) / n

abbrev left : ℕ → ℕ → ℕ
left b n = 4 * (b * b) % n

whole_lt : (a b n : ℕ) → a < 2 ^ 24 → b < 2 ^ 24 → whole a b n < 2 ^ 51
whole_lt a b n ha hb = omega (arith, small a ha, small b hb, div-le_self (4 * (b * b)) n)

left_lt : (b n : ℕ) → b < 2 ^ 24 → left b n < 2 ^ 50
left_lt b n hb = omega (arith, small b hb, div-add-mod' (4 * (b * b)) n)

pub near_sum : (a b n : ℕ) → a < 2 ^ 24 → b < 2 ^ 24 → whole a b n < 2 ^ 64
near_sum a b n ha hb = omega (arith, whole_lt a b n ha hb)

pub near_left : (b n : ℕ) → b < 2 ^ 24 → left b n < 2 ^ 52
near_left b n hb = omega (arith, left_lt b n hb)

pub near_full : (a b n i : ℕ) → 0 < i → (0 < i → 2 ^ 23 ≤ a) → 2 ^ 48 ≤ whole a b n
near_full a b n i p h = let x : 2 ^ 23 * 2 ^ 23 ≤ a * a = mul-le-mul (h p) (h p) in omega arith

pub near_next_fits : (a b n : ℕ) → b < 2 ^ 24 → left b n + whole a b n % 4 < 2 ^ 64
near_next_fits a b n hb = omega (arith, left_lt b n hb)

pub near_next_lt : (a b n : ℕ) → a < 2 ^ 24 → b < 2 ^ 24 → whole a b n / 4 < 2 ^ 50
near_next_lt a b n ha hb = omega (arith, whole_lt a b n ha hb)

pub near_next_left : (a b n : ℕ) → b < 2 ^ 24 → left b n + whole a b n % 4 < 2 ^ 52
near_next_left a b n hb = omega (arith, left_lt b n hb)

module _ (p q : Parts) (n : ℕ) (r : Float) (h : (q.drops ≤ p.drops) × (p.drops < q.drops + 13)) (e : n ≡ 4 ^ (p.drops - q.drops)) where
  abbrev t : ℕ
  t = whole p.digits q.digits n

  gap : q.drops + (p.drops - q.drops) ≡ p.drops
  gap = omega (arith, h.0)

  pub near_is_same : t < 2 ^ 50 → r ≡ units binary32 false (halved (isqrt t) (left q.digits n + (t - isqrt t * isqrt t))) p.drops → r ≡ root_of_parts p q
  near_is_same l u = u ∙ sym (near_same p.digits q.digits p.drops q.drops (p.drops - q.drops) gap t (left q.digits n) (ap (whole p.digits q.digits) e) (ap (left q.digits) e) l p.full)

  pub near_is_next : 2 ^ 50 ≤ t → r ≡ units binary32 false (halved (isqrt (t / 4)) (left q.digits n + t % 4 + (t / 4 - isqrt (t / 4) * isqrt (t / 4)))) (p.drops + 1) → r ≡ root_of_parts p q
  near_is_next l u =
      u
      ∙ sym (near_next p.digits q.digits p.drops q.drops (p.drops - q.drops) gap t (left q.digits n) (ap (whole p.digits q.digits) e) (ap (left q.digits) e) l
      (omega (arith, whole_lt p.digits q.digits n p.small q.small)))

-- ---- of_parts
pub far_is : (p q : Parts) (r : Float) → q.drops ≤ p.drops → 13 ≤ p.drops - q.drops → r ≡ units binary32 false p.digits p.drops → r ≡ root_of_parts p q
far_is p q r l g u = u ∙ sym (far p.digits q.digits p.drops q.drops (p.drops - q.drops) (omega arith) g (p.full (omega arith)) p.small q.small)

-- ---- hypot_exact
abbrev pub Valued : Float → Parts → Type 0
Valued x p = HasValue x p.negative (p.digits * 2 ^ p.drops) (2 ^ 149)

pub parts_hypot : (x y r : Float) (p q : Parts) → Valued x p → Valued y q → r ≡ root_of_parts p q → r ≡ hypot_of binary32 x y
parts_hypot x y r p q v w e = e ∙ sym (hypot_units binary32 x y _ _ _ _ v w)

pub swapped_hypot : (x y r : Float) (p q : Parts) → Valued x p → Valued y q → r ≡ root_of_parts q p → r ≡ hypot_of binary32 x y
swapped_hypot x y r p q v w e = parts_hypot y x r q p w v e ∙ hypot_swap binary32 y x

pub infinite_first : (x y : Float) → float_is_infinite x ≡ true → of_bits binary32 infinity ≡ hypot_of binary32 x y
unfolding float_is_infinite hypot_of
infinite_first nan y h = absurd (subst T (sym h) tt)
infinite_first (inf s) y h = pattern_inf false
infinite_first (fin s m e) y h = absurd (subst T (sym h) tt)

pub infinite_second : (x y : Float) → float_is_infinite y ≡ true → of_bits binary32 infinity ≡ hypot_of binary32 x y
infinite_second x y h = infinite_first y x h ∙ hypot_swap binary32 y x

-- no infinity, and one of them not finite: a NaN
pub nan_first : (x y : Float) → finite x ≡ false → float_is_infinite x ≡ false → float_is_infinite y ≡ false → of_bits binary32 0x7fc0_0000 ≡ hypot_of binary32 x y
unfolding float_is_infinite hypot_of of_bits
nan_first nan nan f h k = refl
nan_first nan (inf t) f h k = absurd (subst T k tt)
nan_first nan (fin t n d) f h k = refl
nan_first (inf s) y f h k = absurd (subst T h tt)
nan_first (fin s m e) y f h k = absurd (subst T f tt)

pub nan_second : (x y : Float) → finite y ≡ false → float_is_infinite x ≡ false → float_is_infinite y ≡ false → of_bits binary32 0x7fc0_0000 ≡ hypot_of binary32 x y
nan_second x y f h k = nan_first y x f k h ∙ hypot_swap binary32 y x

pub ruleset ways = (guess_exact, guess_ok, root_fits, root_fits_next, root_pos, root_less, root_below, root_is, halved_all, halved_more, rounded_square, rounded_fits, rounded_short, rounded_le, rounded_full, rounded_is, shifted, near_power, near_fits, near_fits_4, near_sum, near_left, near_full, near_next_fits, near_next_lt, near_next_left, near_is_same, near_is_next, far_is, parts_hypot, swapped_hypot, infinite_first, infinite_second, nan_first, nan_second)
