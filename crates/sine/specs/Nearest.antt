-- The 'stated bracket for pi', and the whole number 'nearest to 2^30 times the sine' of an angle. Definitions only.
use Rattle.std.specs.Prelude.{ℕ, ◌+◌, ◌*◌, ◌^◌, ◌<◌, ◌≤◌}
use Rattle.sine.specs.Series.{Above, Below}

-- the ends of the bracket are counted in parts of 10^20
abbrev pub pi_unit : ℕ
pi_unit = 10 ^ 20

-- its lower end, 3.14159265358979323846
abbrev pub pi_low : ℕ
pi_low = 314159265358979323846

-- its upper end, 3.14159265358979323847
abbrev pub pi_high : ℕ
pi_high = 314159265358979323847

-- the fraction p/q lies in the bracket
unfoldable pub IsPi : ℕ → ℕ → Type 0
IsPi p q = (0 < q) × (pi_low * q ≤ p * pi_unit) × (p * pi_unit ≤ pi_high * q)

-- The bracket holds pi, where the sine is zero: each sum of the series, from the one to term 17 on, is above 0 at its lower end and below 0
-- at its upper.
abbrev pub PiBracketed : Type 0
PiBracketed = (n : ℕ) → 17 ≤ n → Above 0 0 1 pi_low pi_unit n × Below 0 0 1 pi_high pi_unit n

-- The whole number u - v is nearest to 2^30 sin (k/16 degrees): whichever fraction p/q of the bracket is taken for pi,
-- 2^30 times each sum of the series at k·p/(2880·q), from the one to term 17 on, is above u - v - 1/2 and below u - v + 1/2.
-- (The sum to term 15 is not that close yet near 360 degrees. That to term 16 is; the law goes by pairs of an added and a taken term.)
unfoldable pub Nearest : ℕ → ℕ → ℕ → Type 0
Nearest k u v =
    (p q : ℕ) → IsPi p q → (n : ℕ) → 17 ≤ n →
    Above (2 * u) (2 * v + 1) (2 ^ 31) (k * p) (2880 * q) n × Below (2 * u + 1) (2 * v) (2 ^ 31) (k * p) (2880 * q) n
