-- Each entry is the whole number nearest to 2^30 times the sine, in all four quarters of the turn: one test over all entries, at the ends of
-- pi's bracket, and what follows for every fraction of the bracket and every later sum.
-- Assumes nothing.
use mathlib.Core.Path.{◌≡◌, refl, subst⁻¹}
use mathlib.Core.Bool.{Bool, true, not, ◌&&◌}
use mathlib.Core.List.{List}
use Prim.Native.Nat.{ℕ, suc, ◌+◌, ◌-◌, ◌*◌, ◌^◌, ◌<◌, ◌≤◌}
use native.Mathlib.Nat.{mul-le-mul_left, mul-le-mul_right}
use native.Mathlib.Omega.{arith}
use lib.Dec.{T, ltb, ltb→lt, lit≤}
use lib.Ieee.Fits.{and_l, and_r}
use Rattle.sine.specs.Series.{even, factor, denominator, added, taken}
use Rattle.sine.specs.Nearest.{pi_unit, pi_low, pi_high, IsPi, Nearest}
use Rattle.sine.specs.Table.{sines, entry}
use Rattle.sine.specs.Laws.{TableNearest}
use Rattle.sine.proofs.Rule.{every, at}
use Rattle.sine.proofs.Entries.{in_table}
use Rattle.sine.proofs.Alternate.{above_on, below_on}
use Rattle.sine.proofs.Horner.{horner, fourth_power, coefs, added_horner, taken_horner}
use Rattle.sine.proofs.Order.{above_between, below_between}

-- k sixteenths of a degree are k·`pi_low`/`unit` to k·`pi_high`/`unit`
abbrev pub unit : ℕ
unit = 2880 * pi_unit

-- the sums at a/unit, by their coefficients
abbrev pub added_by : ℕ → List ℕ → ℕ
added_by a cs = a * horner (fourth_power a) cs

abbrev pub taken_by : ℕ → List ℕ → ℕ
taken_by a cs = a * a * a * horner (fourth_power a) cs

-- of an angle k and the whole number u - v
abbrev pub Test : Type 0
Test = ℕ → ℕ → ℕ → Bool

-- the sum over e, its terms added and taken by their coefficients, is above (u - v - 1/2)/2^30 wherever pi is in its bracket
unfoldable pub over : ℕ → List ℕ → List ℕ → Test
over e add take k u v = ltb (2 * u * e + 2 ^ 31 * taken_by (k * pi_high) take) (2 ^ 31 * added_by (k * pi_low) add + (2 * v + 1) * e)

-- and below (u - v + 1/2)/2^30
unfoldable pub under : ℕ → List ℕ → List ℕ → Test
under e add take k u v = ltb (2 ^ 31 * added_by (k * pi_high) add + 2 * v * e) ((2 * u + 1) * e + 2 ^ 31 * taken_by (k * pi_low) take)

-- the sums to term m; denominator and coefficients do not hang on the angle, so they are worked out once
abbrev pub over_at : ℕ → Test
over_at m = over (denominator unit m) (coefs (even m) unit m) (coefs (not (even m)) unit m)

abbrev pub under_at : ℕ → Test
under_at m = under (denominator unit m) (coefs (even m) unit m) (coefs (not (even m)) unit m)

unfoldable pub both : Test → Test → Test
both f g k u v = f k u v && g k u v

-- the sum to term m is over, and the one to term m + 1 under
abbrev pub near : ℕ → Test
near m = both (over_at m) (under_at (suc m))

over_fact : (m k u v : ℕ) → T (over_at m k u v) →
    2 * u * denominator unit m + 2 ^ 31 * taken (k * pi_high) unit m < 2 ^ 31 * added (k * pi_low) unit m + (2 * v + 1) * denominator unit m
unfolding over
over_fact m k u v t =
    let e = denominator unit m in
    subst⁻¹ (λ (x : ℕ). 2 * u * e + 2 ^ 31 * x < 2 ^ 31 * added (k * pi_low) unit m + (2 * v + 1) * e) (taken_horner (k * pi_high) unit m)
    (subst⁻¹ (λ (x : ℕ). 2 * u * e + 2 ^ 31 * taken_by (k * pi_high) (coefs (not (even m)) unit m) < 2 ^ 31 * x + (2 * v + 1) * e)
    (added_horner (k * pi_low) unit m) (ltb→lt _ _ t))

under_fact : (m k u v : ℕ) → T (under_at m k u v) →
    2 ^ 31 * added (k * pi_high) unit m + 2 * v * denominator unit m < (2 * u + 1) * denominator unit m + 2 ^ 31 * taken (k * pi_low) unit m
unfolding under
under_fact m k u v t =
    let e = denominator unit m in
    subst⁻¹ (λ (x : ℕ). 2 ^ 31 * x + 2 * v * e < (2 * u + 1) * e + 2 ^ 31 * taken (k * pi_low) unit m) (added_horner (k * pi_high) unit m)
    (subst⁻¹ (λ (x : ℕ). 2 ^ 31 * added_by (k * pi_high) (coefs (even m) unit m) + 2 * v * e < (2 * u + 1) * e + 2 ^ 31 * x)
    (taken_horner (k * pi_low) unit m) (ltb→lt _ _ t))

-- the ends of the bracket, at k sixteenths
low_end : (k p q : ℕ) → pi_low * q ≤ p * pi_unit → k * pi_low * (2880 * q) ≤ k * p * unit
low_end k p q h = omega (arith, mul-le-mul_left k h)

high_end : (k p q : ℕ) → p * pi_unit ≤ pi_high * q → k * p * unit ≤ k * pi_high * (2880 * q)
high_end k p q h = omega (arith, mul-le-mul_left k h)

-- the terms fall from term m on, at every fraction of the bracket
terms_fall : (m k p q : ℕ) → k * pi_high ≤ (2 * m + 2) * unit → p * pi_unit ≤ pi_high * q → k * p ≤ (2 * m + 2) * (2880 * q)
terms_fall m k p q h g = omega (arith, mul-le-mul_left k g, mul-le-mul_right q h)

-- the test at one angle: terms fall from term m on, which is taken away, so term m + 1 is added
pub nearest : (m k u v : ℕ) → m ≤ 17 → even (suc m) ≡ true → k * pi_high ≤ (2 * m + 2) * unit → T (near m k u v) → Nearest k u v
unfolding Nearest IsPi both
nearest m k u v l e s t p q pi n h =
    let g : 0 < 2880 * q = omega (arith, pi.0) in
    let i : m ≤ n = omega (arith, l, h) in
    let f = terms_fall m k p q s pi.2 in
    let low = low_end k p q pi.1 in
    let high = high_end k p q pi.2 in
    let a =
    above_between (2 * u) (2 * v + 1) (2 ^ 31) (k * p) (2880 * q) (k * pi_low) (k * pi_high) unit m g low high
    (over_fact m k u v (and_l (over_at m k u v) (under_at (suc m) k u v) t)) in
    let b =
    below_between (2 * u + 1) (2 * v) (2 ^ 31) (k * p) (2880 * q) (k * pi_low) (k * pi_high) unit (suc m) g low high
    (under_fact (suc m) k u v (and_r (over_at m k u v) (under_at (suc m) k u v) t)) in (
      above_on (2 * u) (2 * v + 1) (2 ^ 31) (k * p) (2880 * q) g m f e a n i,
      below_on (2 * u + 1) (2 * v) (2 ^ 31) (k * p) (2880 * q) g m f e b n i,
    )

-- ---- the test

-- the four angles whose sine has the size of entry k, which is x, each with a test of its own
unfoldable pub quarters : Test → Test → Test → Test → ℕ → ℕ → Bool
quarters f g h i k x = f k x 0 && (g (2880 - k) x 0 && (h (2880 + k) 0 x && i (5760 - k) 0 x))

-- the farther the angle, the more terms it takes
abbrev pub near_in_all : ℕ → ℕ → Bool
near_in_all = quarters (near 7) (near 11) (near 13) (near 17)

pub all_near : T (every near_in_all 0 sines)
unfolding quarters both over under denominator factor coefs sines
all_near = tt

-- what the test says of one entry
module _ (k : ℕ) (h : k ≤ 1440) where
  abbrev first : Bool
  first = near 7 k (entry k) 0

  abbrev second : Bool
  second = near 11 (2880 - k) (entry k) 0

  abbrev third : Bool
  third = near 13 (2880 + k) 0 (entry k)

  abbrev fourth : Bool
  fourth = near 17 (5760 - k) 0 (entry k)

  near_at : T (first && (second && (third && fourth)))
  unfolding quarters
  near_at = at near_in_all sines all_near k (in_table k h)

  near_on : T (third && fourth)
  near_on = and_r second (third && fourth) (and_r first (second && (third && fourth)) near_at)

  pub nearest_1 : Nearest k (entry k) 0
  nearest_1 = nearest 7 k (entry k) 0 (lit≤ tt) refl (omega (arith, h)) (and_l first (second && (third && fourth)) near_at)

  pub nearest_2 : Nearest (2880 - k) (entry k) 0
  nearest_2 =
      nearest 11 (2880 - k) (entry k) 0 (lit≤ tt) refl (omega (arith, h))
      (and_l second (third && fourth) (and_r first (second && (third && fourth)) near_at))

  pub nearest_3 : Nearest (2880 + k) 0 (entry k)
  nearest_3 = nearest 13 (2880 + k) 0 (entry k) (lit≤ tt) refl (omega (arith, h)) (and_l third fourth near_on)

  pub nearest_4 : Nearest (5760 - k) 0 (entry k)
  nearest_4 = nearest 17 (5760 - k) 0 (entry k) (lit≤ tt) refl (omega (arith, h)) (and_r third fourth near_on)

pub table_nearest : TableNearest
table_nearest k h = nearest_1 k h
