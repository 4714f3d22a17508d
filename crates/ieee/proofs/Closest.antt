-- The whole number closest to a fraction, a tie to the even one: at a whole number, below and above a half, and how far off it can be. Assumes nothing.
use mathlib.Core.Path.{◌≡◌, ap, ◌∙◌}
use Prim.Native.Nat.{ℕ, zero, suc, ◌+◌, ◌-◌, ◌*◌, ◌/◌, ◌%◌, ◌≤◌, ◌<◌, compare, Ordering}
use native.Mathlib.Nat.{zero-lt-suc, zero-mul, one-mul, mul-one, add-mul, suc-mul, div-one, mod-one, div-add-mod', mod-lt}
use native.Mathlib.Omega.{arith}
use lib.Arith.{digits_div, digits_mod}
use lib.Ieee.{nearest}
use lib.Ieee.Fits.{nearest-le}
use lib.Ieee.Nearest.{closest, closest_same, nearest-ge}
use Rattle.ieee.proofs.Tests.{Cmp, cmp, compare_lt, compare_gt}

-- ---- a whole multiple of the unit stays
closest_one : (q : ℕ) → closest q 1 ≡ q
closest_one q = ap (λ (x : ℕ). nearest x (compare (q % 1 * 2) 1)) (div-one q) ∙ ap (λ (x : ℕ). nearest q (compare (x * 2) 1)) (mod-one q)

pub closest_exact : (q u : ℕ) → 0 < u → closest (q * u) u ≡ q
closest_exact q u U = closest_same (q * u) u q 1 U (zero-lt-suc 0) (mul-one (q * u)) ∙ closest_one q

-- ---- it is the quotient or the next number
pub closest_ge : (m u : ℕ) → m / u ≤ closest m u
closest_ge m u = nearest-ge (m / u) (compare (m % u * 2) u)

pub closest_le : (m u : ℕ) → closest m u ≤ suc (m / u)
closest_le m u = nearest-le (m / u) (compare (m % u * 2) u)

-- ---- it is at most half a unit off
pub closest_near : (a b : ℕ) → 0 < b → (2 * (closest a b * b) ≤ 2 * a + b) × (2 * a ≤ 2 * (closest a b * b) + b)
closest_near a b B = near (a / b) (a % b) (compare (a % b * 2) b) (div-add-mod' a b) (mod-lt a B) (cmp (a % b * 2) b)
  where
    tie : (q r i : ℕ) → i < 2 → q * b + r ≡ a → r * 2 ≡ b → (2 * ((q + i) * b) ≤ 2 * a + b) × (2 * a ≤ 2 * ((q + i) * b) + b)
    tie q r zero h e k = let s = add-mul q 0 b in let z = zero-mul b in (omega arith, omega arith)
    tie q r (suc zero) h e k = let s = add-mul q 1 b in let z = one-mul b in (omega arith, omega arith)
    tie q r (suc (suc i)) h e k = absurd (big i h)
      where
        big : (i : ℕ) → suc (suc i) < 2 → ⊥
        big i h = omega arith

    near : (q r : ℕ) (o : Ordering) → q * b + r ≡ a → r < b → Cmp o (r * 2) b → (2 * (nearest q o * b) ≤ 2 * a + b) × (2 * a ≤ 2 * (nearest q o * b) + b)
    near q r Ordering.lt e l c = (omega arith, omega arith)
    near q r Ordering.eq e l c = tie q r (q % 2) (mod-lt q (zero-lt-suc 1)) e c
    near q r Ordering.gt e l c = let s = suc-mul q b in (omega arith, omega arith)

-- ---- from q units on, by how the rest compares with half a unit
module _ (N W q r : ℕ) (is : N ≡ q * W + r) (small : r < W) where
  at : closest N W ≡ nearest q (compare (r * 2) W)
  at =
      ap (λ (x : ℕ). closest x W) is
      ∙ ap (λ (x : ℕ). nearest x (compare ((q * W + r) % W * 2) W)) (digits_div q small)
      ∙ ap (λ (x : ℕ). nearest q (compare (x * 2) W)) (digits_mod q small)

  pub closest_below_half : r * 2 < W → closest N W ≡ q
  closest_below_half h = at ∙ ap (nearest q) (compare_lt (r * 2) W h)

  pub closest_above_half : W < r * 2 → closest N W ≡ suc q
  closest_above_half h = at ∙ ap (nearest q) (compare_gt (r * 2) W h)

pub closest_down : (N W q : ℕ) → q * W ≤ N → 2 * N < 2 * (q * W) + W → closest N W ≡ q
closest_down N W q lo hi = closest_below_half N W q (N - q * W) (back N (q * W) lo) (less N (q * W) W lo hi) (half N (q * W) W lo hi)
  where
    back : (N a : ℕ) → a ≤ N → N ≡ a + (N - a)
    back N a h = omega arith

    less : (N a W : ℕ) → a ≤ N → 2 * N < 2 * a + W → N - a < W
    less N a W h k = omega arith

    half : (N a W : ℕ) → a ≤ N → 2 * N < 2 * a + W → (N - a) * 2 < W
    half N a W h k = omega arith

pub closest_up : (N W q : ℕ) → 2 * (q * W) + W < 2 * N → N < q * W + W → closest N W ≡ suc q
closest_up N W q lo hi = closest_above_half N W q (N - q * W) (back N (q * W) W lo) (less N (q * W) W lo hi) (half N (q * W) W lo hi)
  where
    back : (N a W : ℕ) → 2 * a + W < 2 * N → N ≡ a + (N - a)
    back N a W h = omega arith

    less : (N a W : ℕ) → 2 * a + W < 2 * N → N < a + W → N - a < W
    less N a W h k = omega arith

    half : (N a W : ℕ) → 2 * a + W < 2 * N → N < a + W → W < (N - a) * 2
    half N a W h k = omega arith
