-- 'The sine is defined by its series over fractions': x - x³/3! + x⁵/5! - .. at x = a/d, where term n, counted from 0, is
-- a^(2n + 1) / (d^(2n + 1)·(2n + 1)!). A sum of terms 0 .. n stands over the denominator of term n. Definitions only.
use Rattle.std.specs.Prelude.{Bool, true, not, cond, ℕ, zero, suc, ◌+◌, ◌*◌, ◌^◌, ◌<◌}

-- whether n is even: the series adds its even terms and takes away its odd ones
abbrev pub even : ℕ → Bool
even zero = true
even (suc n) = not (even n)

-- the numerator of term n, a^(2n + 1)
unfoldable pub numerator : ℕ → ℕ → ℕ
numerator a n = a ^ (2 * n + 1)

-- d²·(2n + 2)·(2n + 3), which takes the denominator of term n to that of term n + 1
unfoldable pub factor : ℕ → ℕ → ℕ
factor d n = d * d * ((2 * n + 2) * (2 * n + 3))

-- the denominator of term n, d^(2n + 1)·(2n + 1)!
unfoldable pub denominator : ℕ → ℕ → ℕ
denominator d zero = d
denominator d (suc n) = denominator d n * factor d n

-- the numerator of the sum of the even terms among 0 .. n, which are added
unfoldable pub added : ℕ → ℕ → ℕ → ℕ
added a d zero = a
added a d (suc n) = added a d n * factor d n + cond (even (suc n)) (numerator a (suc n)) 0

-- the numerator of the sum of the odd terms among 0 .. n, which are taken away
unfoldable pub taken : ℕ → ℕ → ℕ → ℕ
taken a d zero = 0
taken a d (suc n) = taken a d n * factor d n + cond (not (even (suc n))) (numerator a (suc n)) 0

-- the series at a/d, summed to term n, is above (u - v)/w
unfoldable pub Above : ℕ → ℕ → ℕ → ℕ → ℕ → ℕ → Type 0
Above u v w a d n = u * denominator d n + w * taken a d n < w * added a d n + v * denominator d n

-- the series at a/d, summed to term n, is below (u - v)/w
unfoldable pub Below : ℕ → ℕ → ℕ → ℕ → ℕ → ℕ → Type 0
Below u v w a d n = w * added a d n + v * denominator d n < u * denominator d n + w * taken a d n
