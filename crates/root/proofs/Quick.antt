-- A candidate that passes the test is the root: the sum of the squares lies strictly between the squares of the midpoints beside it. Assumes nothing.
use mathlib.Core.Path.{◌≡◌, sym, ap, ◌∙◌, subst}
use mathlib.Core.Logic.{inl, inr}
use Prim.Native.Nat.{ℕ, ◌+◌, ◌-◌, ◌*◌, ◌/◌, ◌%◌, ◌^◌, ◌<◌}
use native.Mathlib.Nat.{eq-zero-or-pos, mul_comm, mul_assoc, lt_of_mul-lt-mul_right}
use native.Mathlib.Omega.{arith}
use mathlib.Core.Bool.{Bool, true, false}
use lib.Dec.{T, leb}
use lib.Arith.{lt→nleb}
use lib.Pow.{pow-add, pow_pos}
use lib.Ieee.{Float, binary32, binary64, round, units, add, mul, lt, fits, of_bits, to_bits}
use lib.Ieee.Exact.{HasValue}
use lib.Ieee.Scale.{finite}
use lib.Ieee.Bits.{is_false}
use Rattle.ieee.specs.Pattern.{drops_of, digits_of, units_of, bare, infinity}
use Rattle.ieee.specs.Root.{root_of, hypot_of}
use Rattle.ieee.proofs.Value.{rescale}
use Rattle.ieee.proofs.Sum.{sum_of}
use Rattle.ieee.proofs.Operations.{unlike_same, add_at, mul_at, add_finite, mul_finite}
use Rattle.ieee.proofs.Order.{between_finite, round_lt}
use Rattle.ieee.proofs.Hypot.{hypot_units}
use Rattle.ieee.proofs.Pattern.{read_value, read_finite, write}
use Rattle.ieee.proofs.Wide.{value_64, product_exact}
use Rattle.root.specs.Candidate.{IsCandidate, Sure, single_of}
use Rattle.root.proofs.Midpoints.{root_between, root_power}

-- ---- the square of a finite number of binary32 is exact
-- how many smallest values it is
abbrev count : Float → ℕ
count x = units_of (bare x)

module _ (x : Float) (F : fits binary32 x ≡ true) (f : finite x ≡ true) where
  small : bare x < infinity
  small = read_finite x (subst T (sym F) tt) f

  value : HasValue x (leb (2 ^ 31) (to_bits binary32 x)) (count x) (2 ^ 149)
  value = read_value x (subst T (sym F) tt) small

  square_exact : HasValue (mul binary64 x x) false (count x * count x) (2 ^ 298)
  square_exact =
      let a = digits_of (bare x) in
      let i = drops_of (bare x) in
      let s = leb (2 ^ 31) (to_bits binary32 x) in
      let A : a < 2 ^ 24 = omega arith in
      let I : i < 254 = omega (arith, small) in
      subst (λ (t : Bool). HasValue (mul binary64 x x) t (count x * count x) (2 ^ 298)) (unlike_same s) (product_exact x x s s a i a i A A I I value value)

-- a midpoint's square is counted in units of 2 ^ -300
fours : (a : ℕ) → 4 * a * 2 ^ 298 ≡ a * 2 ^ 300
fours a = ap (λ (z : ℕ). z * 2 ^ 298) (mul_comm 4 a) ∙ mul_assoc a 4 (2 ^ 298)

-- ---- the value of a midpoint's pattern, in units of 2 ^ -150
reads : (b m k : ℕ) → b < 2 ^ 63 → b / 2 ^ 52 ≡ k + 897 → k < 254 → 2 ^ 52 + b % 2 ^ 52 ≡ m * 2 ^ 28 → HasValue (of_bits binary64 b) false (m * 2 ^ k) (2 ^ 150)
reads b m k B F K M =
    let x = of_bits binary64 b in
    let f = b % 2 ^ 63 / 2 ^ 52 in
    let places : f - 1 ≡ k + 896 = omega arith in
    let sign : leb (2 ^ 63) b ≡ false = is_false (leb (2 ^ 63) b) (lt→nleb (2 ^ 63) b B) in
    rescale x false (m * 2 ^ 28 * 2 ^ (k + 896)) (2 ^ 1074) (m * 2 ^ k) (2 ^ 150) (pow_pos 1074) same
    (subst (λ (n : ℕ). HasValue x false (n * 2 ^ (k + 896)) (2 ^ 1074)) M
    (subst (λ (n : ℕ). HasValue x false ((2 ^ 52 + b % 2 ^ 52) * 2 ^ n) (2 ^ 1074)) places
    (subst (λ (s : Bool). HasValue x s ((2 ^ 52 + b % 2 ^ 52) * 2 ^ (f - 1)) (2 ^ 1074)) sign (value_64 b (omega arith) (omega arith)))))
  where
    sums : k + 1074 ≡ 28 + (k + 896) + 150
    sums = omega arith

    powers : 2 ^ k * 2 ^ 1074 ≡ 2 ^ 28 * 2 ^ (k + 896) * 2 ^ 150
    powers = sym (pow-add 2 k 1074) ∙ ap (λ (i : ℕ). 2 ^ i) sums ∙ pow-add 2 (28 + (k + 896)) 150 ∙ ap (λ (z : ℕ). z * 2 ^ 150) (pow-add 2 28 (k + 896))

    same : m * 2 ^ k * 2 ^ 1074 ≡ m * 2 ^ 28 * 2 ^ (k + 896) * 2 ^ 150
    same = mul_assoc m (2 ^ k) (2 ^ 1074) ∙ ap (λ (z : ℕ). m * z) powers ∙ sym (mul_assoc m (2 ^ 28 * 2 ^ (k + 896)) (2 ^ 150)) ∙ ap (λ (z : ℕ). z * 2 ^ 150) (sym (mul_assoc m (2 ^ 28) (2 ^ (k + 896))))

-- ---- p is the candidate: it has the field k + 897 and the digits (q - 2 ^ 23) * 2 ^ 29
module _ (x y : Float) (p : ℕ) (F : fits binary32 x ≡ true) (G : fits binary32 y ≡ true) (c : IsCandidate p) where
  abbrev n : Float
  n = add binary64 (mul binary64 x x) (mul binary64 y y)

  abbrev s : Float
  s = of_bits binary64 (p - 2 ^ 28)

  abbrev t : Float
  t = of_bits binary64 (p + 2 ^ 28)

  abbrev k : ℕ
  k = p / 2 ^ 52 - 897

  abbrev q : ℕ
  q = 2 ^ 23 + p % 2 ^ 52 / 2 ^ 29

  module _ (sure : Sure n p) where
    above : lt (mul binary64 s s) n ≡ true
    above = sure.0

    below : lt n (mul binary64 t t) ≡ true
    below = sure.1

    n_finite : finite n ≡ true
    n_finite = between_finite (mul binary64 s s) n (mul binary64 t t) (subst T (sym above) tt) (subst T (sym below) tt)

    x_finite : finite x ≡ true
    x_finite = (mul_finite binary64 x x (add_finite binary64 (mul binary64 x x) (mul binary64 y y) n_finite).0).0

    y_finite : finite y ≡ true
    y_finite = (mul_finite binary64 y y (add_finite binary64 (mul binary64 x x) (mul binary64 y y) n_finite).1).0

    abbrev N : ℕ
    N = count x * count x + count y * count y

    n_is : n ≡ round binary64 false N (2 ^ 298)
    unfolding sum_of
    n_is =
        add_at binary64 (mul binary64 x x) (mul binary64 y y) false false (count x * count x) (count y * count y) (2 ^ 298) (pow_pos 298) (square_exact x F x_finite) (square_exact y G y_finite)
        ∙ (sum_of false (count x * count x) false (count y * count y) (2 ^ 298)).is binary64

    square_is : (v : Float) (u : ℕ) → HasValue v false u (2 ^ 150) → mul binary64 v v ≡ round binary64 false (u * u) (2 ^ 300)
    square_is v u h = mul_at binary64 v v false false u (2 ^ 150) u (2 ^ 150) (pow_pos 150) (pow_pos 150) h h

    over : (u : ℕ) → HasValue s false u (2 ^ 150) → u * u < 4 * N
    over u h =
        let l : u * u * 2 ^ 298 < N * 2 ^ 300 = round_lt binary64 (u * u) (2 ^ 300) N (2 ^ 298) (pow_pos 300) (pow_pos 298) (subst T (sym above ∙ (λ i. lt (square_is s u h i) (n_is i))) tt) in
        lt_of_mul-lt-mul_right (2 ^ 298) (subst (λ (z : ℕ). u * u * 2 ^ 298 < z) (sym (fours N)) l)

    under : (u : ℕ) → HasValue t false u (2 ^ 150) → 4 * N < u * u
    under u h =
        let l : N * 2 ^ 300 < u * u * 2 ^ 298 = round_lt binary64 N (2 ^ 298) (u * u) (2 ^ 300) (pow_pos 298) (pow_pos 300) (subst T (sym below ∙ (λ i. lt (n_is i) (square_is t u h i))) tt) in
        lt_of_mul-lt-mul_right (2 ^ 298) (subst (λ (z : ℕ). z < u * u * 2 ^ 298) (sym (fours N)) l)

    plain : 0 < p % 2 ^ 52 → root_of binary32 N ≡ units binary32 false q k
    plain d =
        root_between N q k (omega arith) (omega arith)
        (over ((2 * q - 1) * 2 ^ k) (reads (p - 2 ^ 28) (2 * q - 1) k (omega arith) (omega arith) (omega arith) (omega arith)))
        (under ((2 * q + 1) * 2 ^ k) (reads (p + 2 ^ 28) (2 * q + 1) k (omega arith) (omega arith) (omega arith) (omega arith)))

    power : p % 2 ^ 52 ≡ 0 → root_of binary32 N ≡ units binary32 false q k
    power d =
        let j = p / 2 ^ 52 - 898 in
        let next : j + 1 ≡ k = omega arith in
        let one : 2 ^ 23 ≡ q = omega arith in
        root_power N j
        (over ((2 ^ 25 - 1) * 2 ^ j) (reads (p - 2 ^ 28) (2 ^ 25 - 1) j (omega arith) (omega arith) (omega arith) (omega arith)))
        (under ((2 ^ 24 + 1) * 2 ^ (j + 1)) (reads (p + 2 ^ 28) (2 ^ 24 + 1) (j + 1) (omega arith) (omega arith) (omega arith) (omega arith)))
        ∙ (λ i. units binary32 false (one i) (next i))

    pub quick_is : single_of p ≡ hypot_of binary32 x y
    quick_is =
        let is : p / 2 ^ 29 - 0x1_c000_0000 ≡ 0 + (k * 2 ^ 23 + q) = omega arith in
        ap (of_bits binary32) is
        ∙ write q k (omega arith) (λ h. omega arith) false (omega arith)
        ∙ sym (hypot_units binary32 x y _ _ (count x) (count y) (value x F x_finite) (value y G y_finite) ∙ elim (eq-zero-or-pos (p % 2 ^ 52)) [ inl d ↦ power d | inr d ↦ plain d ])
