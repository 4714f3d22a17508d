-- A term moved to more digits. Definitions only.
use Rattle.std.specs.Prelude.{ℕ, ◌+◌, ◌-◌, ◌*◌, ◌^◌, ◌<◌, ◌≤◌, ◌≡◌}
use Rattle.fused.specs.declared.term.Term.{Term}

-- what `lifted` says of a term: the same number, n places up, with z zeros above the digits of a 64-bit m
pub record Lifted (t : Term) (z : ℕ) (r : Term) : Type 0 where
  pub sign : r.negative ≡ t.negative
  pub n : ℕ
  pub up : r.m ≡ t.m * 2 ^ n
  pub down : r.e + n ≡ t.e
  pub low : 2 ^ (63 - z) ≤ r.m
  pub high : r.m < 2 ^ (64 - z)
