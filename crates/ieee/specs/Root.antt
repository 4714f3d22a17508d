-- The root of x² + y², rounded once: a square root of whole numbers, decided by comparing integer squares. Definitions only.
use Prim.Native.Nat.{ℕ, zero, suc, ◌+◌, ◌-◌, ◌*◌, ◌/◌, ◌^◌, compare}
use Rattle.std.specs.Prelude.{false, cond, ℤ, leb, Float}
use Rattle.std.specs.Float.{nan, inf, fin, Format}
use Rattle.std.specs.Float.Ieee.{prec, low, up, down, size, nearest, units}

abbrev pub square : ℕ → ℕ
square n = n * n

-- The whole part of the square root of an n below 4 ^ d, two binary digits of n for each digit of the root.
unfoldable pub root : ℕ → ℕ → ℕ
root zero n = 0
root (suc d) n = let r = 2 * root d (n / 4) in cond (leb (square (r + 1)) n) (r + 1) r

unfoldable pub isqrt : ℕ → ℕ
unfolding root
isqrt n = root (size n) n

-- how many digits of the root of n the format drops
abbrev pub dropped : Format → ℕ → ℕ
dropped f n = size (isqrt n) - prec f

-- The whole number nearest to √n / 2 ^ k, a tie to the even one. w is its whole part; √n / 2 ^ k is compared with w + 1 / 2, both doubled and squared.
abbrev pub nearest_root : ℕ → ℕ → ℕ
nearest_root n k = let w = isqrt n / 2 ^ k in nearest w (compare (4 * n) (square (2 * w + 1) * 4 ^ k))

-- The value nearest to √n of the format's smallest values. It keeps the leading `prec` digits, and overflows to the infinity as `round` does.
unfoldable pub root_of : Format → ℕ → Float
unfolding units
root_of f n = let k = dropped f n in units f false (nearest_root n k) k

-- m * 2 ^ e in units of the format's smallest value: a whole number where the format holds it
abbrev pub count : Format → ℕ → ℤ → ℕ
count f m e = m * up e * 2 ^ low f / down e

-- √(x² + y²). An infinity wins over a NaN, as in C.
unfoldable pub hypot_of : Format → Float → Float → Float
unfolding root_of
hypot_of f (inf s) y = inf false
hypot_of f nan nan = nan
hypot_of f nan (inf t) = inf false
hypot_of f nan (fin t n d) = nan
hypot_of f (fin s m e) nan = nan
hypot_of f (fin s m e) (inf t) = inf false
hypot_of f (fin s m e) (fin t n d) = root_of f (square (count f m e) + square (count f n d))
