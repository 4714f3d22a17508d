-- The sum of x * 2 ^ e and y * 2 ^ g, g ≤ e: y may be cut at e, with its last digit set where anything is lost (`jam`), and the rounded result is the same. Assumes nothing.
use mathlib.Core.Path.{◌≡◌, refl, sym, ap, ◌∙◌, subst}
use mathlib.Core.Logic.{◌⊎◌, inl, inr}
use Prim.Native.Nat.{ℕ, zero, suc, ◌+◌, ◌-◌, ◌*◌, ◌/◌, ◌%◌, ◌^◌, ◌≤◌, ◌<◌, min}
use native.Mathlib.Nat.{le_antisymm, le_trans, le_of_eq, le_of_lt, lt_of_lt_of_le, not-le_of_lt, lt_irrefl, eq-zero-or-pos, add_comm, add-zero, zero-mul, one-mul, mul_assoc, mul_left_comm, mul-pos, add-mul, suc-mul, mul-lt-mul_of_pos_right, mod-lt, mod-eq_of_lt, zero-lt-suc}
use native.Mathlib.Omega.{arith}
use mathlib.Core.Bool.{Bool, true, false, not, beq}
use lib.Dec.{T, leb, leb→le, nleb→lt}
use lib.Pow.{pow-add, pow_pos, pow_mono, shr_lt, shr_le, shr-shr, mod-pow-add, mod-mod-pow, split}
use lib.Ieee.{Float, binary32, round, sum, of_bits}
use Rattle.ieee.proofs.Digits.{sub_mul}
use Rattle.fused.specs.Align.{jam, Operand}
use Rattle.fused.proofs.Between.{within}
use Rattle.fused.proofs.Sums.{sum_like, sum_less, sum_more, sum_none}

-- ---- what `jam` is, where nothing is cut off from the digit at d on, and where something is
jam_exact : (y d : ℕ) → y % 2 ^ d ≡ 0 → jam y d ≡ y / 2 ^ d
jam_exact y d h =
    let w = y / 2 ^ d in
    let q = sym (shr-shr y d 1) in
    (λ i. 2 * q i + min 1 (last i))
    ∙ go w (w % 2) (2 ^ d) (mod-lt w (zero-lt-suc 1)) refl (pow_pos d)
  where
    last : y % 2 ^ (d + 1) ≡ y / 2 ^ d % 2 * 2 ^ d + 0
    last = ap (λ (x : ℕ). y % 2 ^ x) (add_comm d 1) ∙ mod-pow-add y 1 d ∙ ap (λ (x : ℕ). y / 2 ^ d % 2 * 2 ^ d + x) h

    go : (w i P : ℕ) → i < 2 → w % 2 ≡ i → 0 < P → 2 * (w / 2) + min 1 (i * P + 0) ≡ w
    go w zero P l e p = let z = zero-mul P in omega arith
    go w (suc zero) P l e p = let z = one-mul P in omega arith
    go w (suc (suc i)) P l e p = absurd (big l)
      where
        big : suc (suc i) < 2 → ⊥
        big h = omega arith

jam_cut : (y d : ℕ) → 0 < y % 2 ^ d → (0 < y % 2 ^ (d + 1)) × (jam y d ≡ 2 * (y / 2 ^ (d + 1)) + 1)
jam_cut y d h =
    let e : y % 2 ^ (d + 1) ≡ y / 2 ^ d % 2 * 2 ^ d + y % 2 ^ d = ap (λ (x : ℕ). y % 2 ^ x) (add_comm d 1) ∙ mod-pow-add y 1 d in
    go (y / 2 ^ (d + 1)) (y % 2 ^ (d + 1)) (y / 2 ^ d % 2 * 2 ^ d) (y % 2 ^ d) e h
  where
    go : (h l a b : ℕ) → l ≡ a + b → 0 < b → (0 < l) × (2 * h + min 1 l ≡ 2 * h + 1)
    go h l a b e p = (omega arith, omega arith)

jam_le : (y d : ℕ) → jam y d ≤ y + 1
jam_le y d = go (y / 2 ^ (d + 1)) (y % 2 ^ (d + 1)) (le_trans (le_of_eq (ap (λ (x : ℕ). y / 2 ^ x) (add_comm d 1) ∙ sym (shr-shr y 1 d))) (shr_le (y / 2) d))
  where
    go : (h l : ℕ) → h ≤ y / 2 → 2 * h + min 1 l ≤ y + 1
    go h l a = omega arith

-- a y with 14 zeros at its end loses something only from d = 14 on
far : (y d : ℕ) → y % 2 ^ 14 ≡ 0 → 0 < y % 2 ^ d → 14 ≤ d
far y d h p = go (leb 14 d) (leb→le 14 d) (nleb→lt 14 d)
  where
    back : d < 14 → 14 ≡ 14 - d + d
    back h = omega arith

    go : (b : Bool) → (T b → 14 ≤ d) → (T (not b) → d < 14) → 14 ≤ d
    go true a b = a tt
    go false a b =
        absurd (lt_irrefl 0 (subst (λ (x : ℕ). 0 < x)
        (sym (mod-mod-pow y (14 - d) d) ∙ ap (λ (x : ℕ). y % 2 ^ x % 2 ^ d) (sym (back (b tt))) ∙ ap (λ (x : ℕ). x % 2 ^ d) h ∙ mod-eq_of_lt (pow_pos d)) p))

-- ---- the two operands at one exponent
module _ (y d g e : ℕ) (E : e ≡ d + g) where
  same_exp : y % 2 ^ d ≡ 0 → y * 2 ^ g ≡ jam y d * 2 ^ e
  same_exp h =
      ap (λ (x : ℕ). x * 2 ^ g) (sym (split y d) ∙ ap (λ (x : ℕ). y / 2 ^ d * 2 ^ d + x) h ∙ add-zero (y / 2 ^ d * 2 ^ d))
      ∙ mul_assoc (y / 2 ^ d) (2 ^ d) (2 ^ g)
      ∙ ap (λ (x : ℕ). y / 2 ^ d * x) (sym (pow-add 2 d g) ∙ ap (λ (x : ℕ). 2 ^ x) (sym E))
      ∙ ap (λ (x : ℕ). x * 2 ^ e) (sym (jam_exact y d h))

  unit : 2 ^ (d + 1) * 2 ^ g ≡ 2 ^ (e + 1)
  unit = sym (pow-add 2 (d + 1) g) ∙ ap (λ (x : ℕ). 2 ^ x) places
    where
      places : d + 1 + g ≡ e + 1
      places = omega arith

  cut_form : y * 2 ^ g ≡ y / 2 ^ (d + 1) * 2 ^ (e + 1) + y % 2 ^ (d + 1) * 2 ^ g
  cut_form =
      ap (λ (x : ℕ). x * 2 ^ g) (sym (split y (d + 1)))
      ∙ add-mul (y / 2 ^ (d + 1) * 2 ^ (d + 1)) (y % 2 ^ (d + 1)) (2 ^ g)
      ∙ ap (λ (x : ℕ). x + y % 2 ^ (d + 1) * 2 ^ g) (mul_assoc (y / 2 ^ (d + 1)) (2 ^ (d + 1)) (2 ^ g) ∙ ap (λ (x : ℕ). y / 2 ^ (d + 1) * x) unit)

  cut_lt : y % 2 ^ (d + 1) * 2 ^ g < 2 ^ (e + 1)
  cut_lt = lt_of_lt_of_le (mul-lt-mul_of_pos_right (mod-lt y (pow_pos (d + 1))) (pow_pos g)) (le_of_eq unit)

-- ---- the numbers of the far case: x = 2 * X, B = h * W + r, W = 2 * v, 0 < r < W
far_plus : (x X h v W r B : ℕ) → x ≡ 2 * X → W ≡ 2 * v → B ≡ h * W + r → (x * v + B ≡ (X + h) * W + r) × ((x + (2 * h + 1)) * v ≡ (X + h) * W + v)
far_plus x X h v W r B p q b =
    let a1 : x * v ≡ 2 * (X * v) = ap (λ (z : ℕ). z * v) p ∙ mul_assoc 2 X v in
    let a3 : X * W ≡ 2 * (X * v) = ap (λ (z : ℕ). X * z) q ∙ mul_left_comm X 2 v in
    let a4 : h * W ≡ 2 * (h * v) = ap (λ (z : ℕ). h * z) q ∙ mul_left_comm h 2 v in
    (omega arith, omega arith)

far_minus : (x X h v W r B : ℕ) → x ≡ 2 * X → W ≡ 2 * v → B ≡ h * W + r → h < X → r < W → (x * v - B ≡ (X - suc h) * W + (W - r)) × ((x - (2 * h + 1)) * v ≡ (X - suc h) * W + v) × (B < x * v)
far_minus x X h v W r B p q b l k =
    let Z = X - suc h in
    let z : X ≡ Z + suc h = room X h l in
    let a1 : x * v ≡ 2 * (X * v) = ap (λ (z : ℕ). z * v) p ∙ mul_assoc 2 X v in
    let a2 : X * W ≡ Z * W + suc h * W = ap (λ (z : ℕ). z * W) z ∙ add-mul Z (suc h) W in
    let a2' : suc h * W ≡ h * W + W = suc-mul h W in
    let a3 : X * W ≡ 2 * (X * v) = ap (λ (z : ℕ). X * z) q ∙ mul_left_comm X 2 v in
    let c1 : x - (2 * h + 1) ≡ 2 * Z + 1 = left x X h p l in
    let a5 : (x - (2 * h + 1)) * v ≡ (2 * Z + 1) * v = ap (λ (z : ℕ). z * v) c1 in
    let a9 : Z * W ≡ 2 * (Z * v) = ap (λ (z : ℕ). Z * z) q ∙ mul_left_comm Z 2 v in
    (omega arith, omega arith, omega arith)
  where
    room : (X h : ℕ) → h < X → X ≡ X - suc h + suc h
    room X h l = omega arith

    left : (x X h : ℕ) → x ≡ 2 * X → h < X → x - (2 * h + 1) ≡ 2 * (X - suc h) + 1
    left x X h p l = omega arith

-- ---- the sums, in units of 2 ^ -512
pub nought : of_bits binary32 0 ≡ round binary32 false 0 (2 ^ 512)
unfolding of_bits round
nought = refl

module _ (s t : Bool) (x e y g j : ℕ) (A : Operand x) (B : Operand y) (G : g ≤ e) (J : j ≡ jam y (e - g)) where
  abbrev d : ℕ
  d = e - g

  abbrev h : ℕ
  h = y / 2 ^ (d + 1)

  abbrev r : ℕ
  r = y % 2 ^ (d + 1) * 2 ^ g

  abbrev D : ℕ
  D = 2 ^ 512

  E : e ≡ d + g
  E = omega (arith, G)

  j_le : j ≤ 2 ^ 62
  j_le = let l = jam_le y d in omega (arith, J, B.high)

  pub plus_fits : x + j < 2 ^ 64
  plus_fits = omega (arith, j_le, A.high)

  pub plus_small : x + j < 2 ^ 63
  plus_small = omega (arith, j_le, A.high)

  pub less_small : j - x < 2 ^ 63
  less_small = omega (arith, j_le)

  -- nothing of y is lost, or something is
  exact_or : (y % 2 ^ d ≡ 0) ⊎ (0 < y % 2 ^ d)
  exact_or = eq-zero-or-pos (y % 2 ^ d)

  exactly : y % 2 ^ d ≡ 0 → y * 2 ^ g ≡ j * 2 ^ e
  exactly z = same_exp y d g e E z ∙ ap (λ (n : ℕ). n * 2 ^ e) (sym J)

  module _ (p : 0 < y % 2 ^ d) where
    odd : j ≡ 2 * h + 1
    odd = J ∙ (jam_cut y d p).1

    r_pos : 0 < r
    r_pos = mul-pos (jam_cut y d p).0 (pow_pos g)

    small : h < 2 ^ 47
    small = shr_lt 47 (d + 1) (lt_of_lt_of_le B.high (pow_mono wide))
      where
        wide : 62 ≤ 47 + (d + 1)
        wide = let l = far y d B.even p in omega arith

    less : j < x
    less = omega (arith, odd, small, A.low)

  halve : x ≡ 2 * (x / 2)
  halve = omega (arith, A.even)

  W-is : 2 ^ (e + 1) ≡ 2 * 2 ^ e
  W-is = ap (λ (x : ℕ). 2 ^ x) (add_comm e 1) ∙ pow-add 2 1 e

  v_lt : 2 ^ e < 2 ^ (e + 1)
  v_lt = let p = pow_pos e in omega (arith, W-is)

  plus : round binary32 s (x * 2 ^ e + y * 2 ^ g) D ≡ round binary32 s ((x + j) * 2 ^ e) D
  plus = elim exact_or [
    | inl z ↦ ap (λ (n : ℕ). round binary32 s n D) (ap (λ (n : ℕ). x * 2 ^ e + n) (exactly z) ∙ sym (add-mul x j (2 ^ e)))
    | inr p ↦
        let F = far_plus x (x / 2) h (2 ^ e) (2 ^ (e + 1)) r (y * 2 ^ g) halve W-is (cut_form y d g e E) in
        ap (λ (n : ℕ). round binary32 s n D) F.0
        ∙ within 363 s (x / 2 + h) (e + 1) r (2 ^ e) (omega (arith, A.low)) (r_pos p) (cut_lt y d g e E) (pow_pos e) v_lt
        ∙ ap (λ (n : ℕ). round binary32 s n D) (sym F.1 ∙ ap (λ (n : ℕ). (x + n) * 2 ^ e) (sym (odd p)))
  ]

  pub plus_way : (o : Float) → beq s t ≡ true → o ≡ round binary32 s ((x + j) * 2 ^ e) D → o ≡ sum binary32 s (x * 2 ^ e) t (y * 2 ^ g) D
  plus_way o k w = w ∙ sym (sum_like binary32 s t (x * 2 ^ e) (y * 2 ^ g) D k ∙ plus)

  module _ (k : beq s t ≡ false) where
    pub less_way : (o : Float) → x < j → o ≡ round binary32 t ((j - x) * 2 ^ e) D → o ≡ sum binary32 s (x * 2 ^ e) t (y * 2 ^ g) D
    less_way o l w = elim exact_or [
      | inl z ↦
          w
          ∙ sym (sum_less binary32 s t (x * 2 ^ e) (y * 2 ^ g) D k (subst (λ (n : ℕ). x * 2 ^ e < n) (sym (exactly z)) (mul-lt-mul_of_pos_right l (pow_pos e)))
          ∙ ap (λ (n : ℕ). round binary32 t n D) (ap (λ (n : ℕ). n - x * 2 ^ e) (exactly z) ∙ sub_mul j x (2 ^ e)))
      | inr p ↦ absurd (not-le_of_lt l (le_of_lt (less p)))
    ]

    pub none_way : j ≤ x → x ≤ j → of_bits binary32 0 ≡ sum binary32 s (x * 2 ^ e) t (y * 2 ^ g) D
    none_way l m = elim exact_or [
      | inl z ↦ nought ∙ sym (sum_none binary32 s t (x * 2 ^ e) (y * 2 ^ g) D k (ap (λ (n : ℕ). n * 2 ^ e) (le_antisymm m l) ∙ sym (exactly z)))
      | inr p ↦ absurd (not-le_of_lt (less p) m)
    ]

    more : j < x → sum binary32 s (x * 2 ^ e) t (y * 2 ^ g) D ≡ round binary32 s ((x - j) * 2 ^ e) D
    more l = elim exact_or [
      | inl z ↦
          sum_more binary32 s t (x * 2 ^ e) (y * 2 ^ g) D k (subst (λ (n : ℕ). n < x * 2 ^ e) (sym (exactly z)) (mul-lt-mul_of_pos_right l (pow_pos e)))
          ∙ ap (λ (n : ℕ). round binary32 s n D) (ap (λ (n : ℕ). x * 2 ^ e - n) (exactly z) ∙ sub_mul x j (2 ^ e))
      | inr p ↦
          let W = 2 ^ (e + 1) in
          let rl : r < W = cut_lt y d g e E in
          let F = far_minus x (x / 2) h (2 ^ e) W r (y * 2 ^ g) halve W-is (cut_form y d g e E) (omega (arith, A.low, small p)) rl in
          sum_more binary32 s t (x * 2 ^ e) (y * 2 ^ g) D k F.2
          ∙ ap (λ (n : ℕ). round binary32 s n D) F.0
          ∙ within 363 s (x / 2 - suc h) (e + 1) (W - r) (2 ^ e) (omega (arith, A.low, small p)) (omega arith) (omega (arith, r_pos p)) (pow_pos e) v_lt
          ∙ ap (λ (n : ℕ). round binary32 s n D) (sym F.1 ∙ ap (λ (n : ℕ). (x - n) * 2 ^ e) (sym (odd p)))
    ]

    pub more_way : (o : Float) → j < x → o ≡ round binary32 s ((x - j) * 2 ^ e) D → o ≡ sum binary32 s (x * 2 ^ e) t (y * 2 ^ g) D
    more_way o l w = w ∙ sym (more l)
