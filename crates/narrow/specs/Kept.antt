-- A number kept to 24 binary digits, binary32's, to the nearest, a tie to the even one. Definitions only.
use Rattle.std.specs.Prelude.{ℕ, ◌+◌, ◌*◌, ◌^◌, ◌≤◌, ◌<◌, ◌≡◌, Bool, false, pos, T, Float}
use Rattle.std.specs.Float.{fin, binary64}
use Rattle.std.specs.Float.Ieee.{fits}
use Rattle.std.specs.Float.Ieee.Exact.{HasValue}
use Rattle.ieee.specs.Cut.{cut}

-- Of a w that is n * 2 ^ -q in size, not subnormal in binary64 and far below its infinity, r is what `cut` keeps of n. A +0 stays.
pub record Kept (w r : Float) : Type 0 where
  pub held : T (fits binary64 r)
  pub value : (s : Bool) (n q : ℕ) → HasValue w s n (2 ^ q) → 2 ^ q ≤ n * 2 ^ 1022 → n < 2 ^ (q + 900) → HasValue r s (cut 24 n) (2 ^ q)
  pub nought : w ≡ fin false 0 (pos 0) → r ≡ fin false 0 (pos 0)
