-- The weights of a cubic's four points at a step of 1 / 32, and of a quad's three at a step of 1 / 8: whole numbers of 2 ^ -15. Definitions only.
use Rattle.std.specs.Prelude.{ℕ, ◌+◌, ◌^◌, ◌≤◌, ◌<◌, false, Float}
use Rattle.std.specs.Float.Ieee.Exact.{HasValue}

-- w is k / 2 ^ 15, above 0
pub record Weight (k : ℕ) (w : Float) : Type 0 where
  pub value : HasValue w false k (2 ^ 15)
  pub some : 0 < k

-- four weights that are at most 1 together
pub record Weights (w0 w1 w2 w3 : Float) : Type 0 where
  pub k0 : ℕ
  pub k1 : ℕ
  pub k2 : ℕ
  pub k3 : ℕ
  pub start : Weight k0 w0
  pub control1 : Weight k1 w1
  pub control2 : Weight k2 w2
  pub end : Weight k3 w3
  pub total : k0 + k1 + k2 + k3 ≤ 2 ^ 15

-- three weights that are at most 1 together
pub record QuadWeights (w0 w1 w2 : Float) : Type 0 where
  pub k0 : ℕ
  pub k1 : ℕ
  pub k2 : ℕ
  pub start : Weight k0 w0
  pub control : Weight k1 w1
  pub end : Weight k2 w2
  pub total : k0 + k1 + k2 ≤ 2 ^ 15
