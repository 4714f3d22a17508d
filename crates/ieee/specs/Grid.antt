-- Multiplying a float by a power of two, exactly, and the numbers of a grid. Definitions only.
use Rattle.std.specs.Prelude.{ℕ, zero, suc, ◌+◌, ◌*◌, ◌%◌, ◌^◌, ◌≤◌, ◌≡◌, Bool, false, ◌&&◌, ℤ, pos, negsuc, leb, eqb, Float}
use Rattle.std.specs.Float.{nan, inf, fin}
use Rattle.std.specs.Float.Ieee.{up, down, minus}
use Rattle.std.specs.Float.Ieee.Exact.{HasValue}

-- e + k
abbrev pub lift : ℕ → ℤ → ℤ
lift k (pos a) = pos (a + k)
lift k (negsuc a) = minus k (suc a)

-- x * 2 ^ k, exactly, as data: a zero keeps its sign, and a NaN and an infinity stay. Nothing is said of a format: it may be too large for one.
abbrev pub scale : ℕ → Float → Float
scale k nan = nan
scale k (inf s) = inf s
scale k (fin s zero e) = fin s zero e
scale k (fin s (suc m) e) = fin s (suc m) (lift k e)

-- x is a whole multiple of 2 ^ -q, and at most 2 ^ b in absolute value: the test
abbrev pub on : ℕ → ℕ → Float → Bool
on q b nan = false
on q b (inf s) = false
on q b (fin s m e) = eqb (m * up e * 2 ^ q % down e) 0 && leb (m * up e) (2 ^ b * down e)

-- the same, with what it says: x has the sign `sign`, is `count` * 2 ^ -q in size, and that is at most 2 ^ b
pub record On (q b : ℕ) (x : Float) : Type 0 where
  pub sign : Bool
  pub count : ℕ
  pub value : HasValue x sign count (2 ^ q)
  pub bound : count ≤ 2 ^ (b + q)

-- x' is x times 2 ^ k, and x is on the grid: what each operation keeps
pub record Twin (k q b : ℕ) (x x' : Float) : Type 0 where
  pub grid : On q b x
  pub is : x' ≡ scale k x
