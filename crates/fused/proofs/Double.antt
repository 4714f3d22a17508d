-- Rounding twice. Where a number was rounded to binary64 first, and what came out is no midpoint of binary32, rounding that to binary32 gives what rounding the
-- number itself gives. Assumes nothing.
use mathlib.Core.Path.{◌≡◌, sym, ap, ◌∙◌, subst}
use mathlib.Core.Logic.{inl, inr}
use Prim.Native.Nat.{ℕ, suc, ◌+◌, ◌-◌, ◌*◌, ◌^◌, ◌≤◌, ◌<◌, zero-le}
use native.Mathlib.Nat.{le_trans, le_of_eq, lt_of_lt_of_le, lt_of_le_of_lt, eq-zero-or-pos, add-mul, suc-mul, mul_assoc, zero-mul, mul-le-mul_right, mul-lt-mul_of_pos_right, le-div_iff_mul-le, eq-or-lt_of_le}
use native.Mathlib.Omega.{arith}
use mathlib.Core.Bool.{Bool, true, false, not}
use lib.Dec.{T, ltb, ltb→lt, nltb→le}
use lib.Pow.{pow-add, pow_pos, pow_mono}
use lib.Ieee.{Float, Format, binary32, binary64, low, size, units, round}
use lib.Ieee.Exact.{HasValue, units_val}
use lib.Ieee.Nearest.{closest}
use lib.Ieee.Digits.{size_reaches}
use lib.Ieee.Scale.{overflow}
use Rattle.ieee.proofs.Digits.{pow_lt_back}
use Rattle.ieee.proofs.Closest.{closest_ge, closest_near, closest_down, closest_up}
use Rattle.ieee.proofs.Value.{value_once}
use Rattle.ieee.proofs.Units.{units_inf, units_carry}
use Rattle.ieee.proofs.Round.{round_units}
use Rattle.fused.proofs.Dyadic.{size_of, round_dyadic}

-- ---- the number N, in units of 2 ^ -1074, is within a half of Q * v, v = 2 ^ e, and Q = m * 2 ^ 29 + low
module _ (s : Bool) (N e m low : ℕ) (m_lo : 2 ^ 23 ≤ m) (m_hi : m < 2 ^ 24) (low_lt : low < 2 ^ 29) (E : 897 ≤ e)
    (below : 2 * ((m * 2 ^ 29 + low) * 2 ^ e) ≤ 2 * N + 2 ^ e) (above : 2 * N ≤ 2 * ((m * 2 ^ 29 + low) * 2 ^ e) + 2 ^ e) where
  abbrev v : ℕ
  v = 2 ^ e

  abbrev W : ℕ
  W = 2 ^ (29 + e)

  W-is : W ≡ 2 ^ 29 * v
  W-is = pow-add 2 29 e

  Q-is : (m * 2 ^ 29 + low) * v ≡ m * W + low * v
  Q-is = add-mul (m * 2 ^ 29) low v ∙ ap (λ (x : ℕ). x + low * v) (mul_assoc m (2 ^ 29) v ∙ ap (λ (x : ℕ). m * x) (sym W-is))

  v_pos : 0 < v
  v_pos = pow_pos e

  -- rounded at the 24th digit
  at : (q j k : ℕ) → 925 + k ≡ j → 2 ^ 23 * 2 ^ j ≤ N → N < 2 ^ 24 * 2 ^ j → closest N (2 ^ j) ≡ q → round binary32 s N (2 ^ 1074) ≡ units binary32 s q k
  at q j k J lo hi c =
      round_dyadic binary32 925 s N k (ap (λ (n : ℕ). n - 925 - 24) (size_of N 23 j lo hi) ∙ places)
      ∙ ap (λ (x : ℕ). units binary32 s (closest N (2 ^ x)) k) J
      ∙ ap (λ (x : ℕ). units binary32 s x k) c
    where
      places : 24 + j - 925 - 24 ≡ k
      places = omega arith

  J : 925 + (e - 896) ≡ 29 + e
  J = omega (arith, E)

  m_W_lo : 2 ^ 23 * W ≤ m * W
  m_W_lo = mul-le-mul_right W m_lo

  m_W_hi : m * W + W ≤ 2 ^ 24 * W
  m_W_hi = le_trans (le_of_eq (sym (suc-mul m W))) (mul-le-mul_right W m_hi)

  pub double_up : 2 ^ 28 < low → round binary32 s N (2 ^ 1074) ≡ units binary32 s (suc m) (e - 896)
  double_up h =
      let l1 : (2 ^ 28 + 1) * v ≤ low * v = mul-le-mul_right v h in
      let l2 : low * v + v ≤ 2 ^ 29 * v = le_trans (le_of_eq (sym (suc-mul low v))) (mul-le-mul_right v low_lt) in
      at (suc m) (29 + e) (e - 896) J (omega (arith, Q-is, W-is, m_W_lo, below)) (omega (arith, Q-is, W-is, m_W_hi, above, v_pos))
      (closest_up N W m (omega (arith, Q-is, W-is, below, v_pos)) (omega (arith, Q-is, W-is, above, v_pos)))

  module _ (h : low < 2 ^ 28) where
    l2 : low * v + v ≤ 2 ^ 28 * v
    l2 = le_trans (le_of_eq (sym (suc-mul low v))) (mul-le-mul_right v h)

    -- N is m * W at least
    from : m * W ≤ N → round binary32 s N (2 ^ 1074) ≡ units binary32 s m (e - 896)
    from k = at m (29 + e) (e - 896) J (le_trans m_W_lo k) (omega (arith, Q-is, W-is, m_W_hi, above, v_pos, l2)) (closest_down N W m k (omega (arith, Q-is, W-is, above, v_pos, l2)))

    -- N is less, by no more than a half of v
    under : low ≡ 0 → N < m * W → 2 ^ 23 < m → round binary32 s N (2 ^ 1074) ≡ units binary32 s m (e - 896)
    under z k p =
        let n = m - 1 in
        let M : suc n ≡ m = omega arith in
        let M' : 2 ^ 23 ≤ n = omega arith in
        let d : m * W ≡ n * W + W = ap (λ (x : ℕ). x * W) (sym M) ∙ suc-mul n W in
        let low_0 : low * v ≡ 0 = ap (λ (x : ℕ). x * v) z ∙ zero-mul v in
        let lo : 2 ^ 23 * W ≤ n * W = mul-le-mul_right W M' in
        at m (29 + e) (e - 896) J (omega (arith, Q-is, W-is, below, v_pos, d, low_0, lo)) (omega (arith, W-is, m_W_hi, v_pos, k))
        (closest_up N W n (omega (arith, Q-is, W-is, below, v_pos, d, low_0)) (omega (arith, d, k)) ∙ M)

    -- below a power of two there is a digit more
    power : low ≡ 0 → N < m * W → 2 ^ 23 ≡ m → round binary32 s N (2 ^ 1074) ≡ units binary32 s m (e - 896)
    power z k p =
        let H = 2 ^ (28 + e) in
        let H-is : H ≡ 2 ^ 28 * v = pow-add 2 28 e in
        let low_0 : low * v ≡ 0 = ap (λ (x : ℕ). x * v) z ∙ zero-mul v in
        let m_w : m * W ≡ 2 ^ 23 * W = ap (λ (x : ℕ). x * W) (sym p) in
        at (2 ^ 24) (28 + e) (e - 897) (omega (arith, E)) (omega (arith, Q-is, W-is, H-is, below, v_pos, m_w, low_0)) (omega (arith, W-is, H-is, k, m_w))
        (closest_up N H (2 ^ 24 - 1) (omega (arith, Q-is, W-is, H-is, below, v_pos, m_w, low_0)) (omega (arith, W-is, H-is, k, m_w)))
        ∙ units_carry binary32 s (e - 897) (e - 896) (omega (arith, E))
        ∙ ap (λ (x : ℕ). units binary32 s x (e - 896)) p

    pub double_down : round binary32 s N (2 ^ 1074) ≡ units binary32 s m (e - 896)
    double_down = elim (eq-zero-or-pos low) [
      | inl z ↦ go z (ltb N (m * W)) (ltb→lt N (m * W)) (nltb→le N (m * W))
      | inr p ↦ let l1 : 1 * v ≤ low * v = mul-le-mul_right v p in from (omega (arith, Q-is, W-is, below, v_pos, l1))
    ]
      where
        go : low ≡ 0 → (b : Bool) → (T b → N < m * W) → (T (not b) → m * W ≤ N) → round binary32 s N (2 ^ 1074) ≡ units binary32 s m (e - 896)
        go z true a b = elim (eq-or-lt_of_le m_lo) [ inl p ↦ power z (a tt) p | inr p ↦ under z (a tt) p ]
        go z false a b = from (b tt)

-- ---- what the rounding to binary64 says of N
-- a finite result of `units` has its value
units_has : (f : Format) (s t : Bool) (q k b c : ℕ) → HasValue (units f s q k) t b c → HasValue (units f s q k) s (q * 2 ^ k) (2 ^ low f)
units_has f s t q k b c h = go (ltb (q * 2 ^ k) (overflow f)) (ltb→lt (q * 2 ^ k) (overflow f)) (nltb→le (q * 2 ^ k) (overflow f))
  where
    go : (x : Bool) → (T x → q * 2 ^ k < overflow f) → (T (not x) → overflow f ≤ q * 2 ^ k) → HasValue (units f s q k) s (q * 2 ^ k) (2 ^ low f)
    go true l g = units_val f s q k (l tt)
    go false l g = absurd (subst (λ (x : Float). HasValue x t b c) (units_inf f s q k (g tt)) h)

module _ (s t : Bool) (N Q e : ℕ) (Q-hi : Q < 2 ^ 53) (v : HasValue (round binary64 s N (2 ^ 1074)) t (Q * 2 ^ e) (2 ^ 1074)) where
  abbrev k : ℕ
  k = size N - 53

  abbrev c : ℕ
  c = closest N (2 ^ k)

  agree : (s ≡ t) × (c * 2 ^ k ≡ Q * 2 ^ e)
  agree =
      let u : HasValue (units binary64 s c k) t (Q * 2 ^ e) (2 ^ 1074) = subst (λ (x : Float). HasValue x t (Q * 2 ^ e) (2 ^ 1074)) (round_units binary64 s N) v in
      value_once (units binary64 s c k) s t (c * 2 ^ k) (Q * 2 ^ e) (2 ^ 1074) (units_has binary64 s t c k (Q * 2 ^ e) (2 ^ 1074) u) u

  -- where digits are dropped, the leading one is kept
  k_le : k ≤ e
  k_le = elim (eq-zero-or-pos k) [
    | inl z ↦ subst (λ (x : ℕ). x ≤ e) (sym z) zero-le
    | inr p ↦
        let n : 52 + k < size N = omega arith in
        let lo : 2 ^ 52 * 2 ^ k ≤ N = le_trans (le_of_eq (sym (pow-add 2 52 k))) (size_reaches N (52 + k) n) in
        let c_lo : 2 ^ 52 ≤ c = le_trans ((le-div_iff_mul-le (pow_pos k)).1 lo) (closest_ge N (2 ^ k)) in
        let l : 52 + k < 53 + e = pow_lt_back (52 + k) (53 + e)
        (lt_of_le_of_lt (le_of_eq (pow-add 2 52 k)) (lt_of_le_of_lt (mul-le-mul_right (2 ^ k) c_lo) (lt_of_le_of_lt (le_of_eq agree.1) (lt_of_lt_of_le (mul-lt-mul_of_pos_right Q-hi (pow_pos e)) (le_of_eq (sym (pow-add 2 53 e))))))) in
        omega arith
  ]

  pub sign_is : s ≡ t
  sign_is = agree.0

  pub below_is : 2 * (Q * 2 ^ e) ≤ 2 * N + 2 ^ e
  below_is = let n = (closest_near N (2 ^ k) (pow_pos k)).0 in let l : 2 ^ k ≤ 2 ^ e = pow_mono k_le in omega (arith, agree.1)

  pub above_is : 2 * N ≤ 2 * (Q * 2 ^ e) + 2 ^ e
  above_is = let n = (closest_near N (2 ^ k) (pow_pos k)).1 in let l : 2 ^ k ≤ 2 ^ e = pow_mono k_le in omega (arith, agree.1)
