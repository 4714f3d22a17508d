-- A size with a sign, by its positive and its negative part: the order of two of them is one linear fact. Nothing here is about floats but the tests `below` and `level`.
-- Assumes nothing.
use mathlib.Core.Path.{◌≡◌, refl, sym}
use Prim.Native.Nat.{ℕ, ◌+◌, ◌*◌, ◌≤◌, ◌<◌}
use native.Mathlib.Nat.{zero-mul, mul-le-mul_right, le_of_mul-le-mul_right}
use native.Mathlib.Omega.{arith}
use mathlib.Core.Bool.{Bool, true, false, not, ◌&&◌, ◌||◌}
use lib.Dec.{T, ltb, eqb, eqb→eq, ltb→lt, nltb→le}
use lib.Ieee.{below, level}
use lib.Ieee.Fits.{and_i, and_l, and_r, eq→eqb}

abbrev pub P : Bool → ℕ → ℕ
P false a = a
P true a = 0

abbrev pub N : Bool → ℕ → ℕ
N false a = 0
N true a = a

-- ±a ≤ ±b
abbrev pub Le : Bool → ℕ → Bool → ℕ → Type 0
Le s a t b = P s a + N t b ≤ P t b + N s a

-- ---- a common factor
pub P-mul : (s : Bool) (a k : ℕ) → P s (a * k) ≡ P s a * k
P-mul false a k = refl
P-mul true a k = sym (zero-mul k)

pub N-mul : (s : Bool) (a k : ℕ) → N s (a * k) ≡ N s a * k
N-mul false a k = sym (zero-mul k)
N-mul true a k = refl

pub Le-mul : (s : Bool) (a : ℕ) (t : Bool) (b k : ℕ) → Le s a t b → Le s (a * k) t (b * k)
Le-mul s a t b k h = simp (P-mul, N-mul) (omega (arith, mul-le-mul_right k h))

pub Le-div : (s : Bool) (a : ℕ) (t : Bool) (b k : ℕ) → 0 < k → Le s (a * k) t (b * k) → Le s a t b
Le-div s a t b k K h = le_of_mul-le-mul_right (omega (arith, simp (P-mul, N-mul) at h)) K

-- ---- the laws of the order
pub Le-refl : (s : Bool) (a : ℕ) → Le s a s a
Le-refl s a = omega arith

pub Le-trans : (s : Bool) (a : ℕ) (t : Bool) (b : ℕ) (u : Bool) (c : ℕ) → Le s a t b → Le t b u c → Le s a u c
Le-trans s a t b u c h k = omega arith

-- both ways: the same number, but for a zero's sign
pub Le-antisym : (s : Bool) (a : ℕ) (t : Bool) (b : ℕ) → Le s a t b → Le t b s a → T (level s a t b)
Le-antisym false a false b h k = and_i (eqb a b) true (eq→eqb {a = a} {b = b} (omega arith)) tt
Le-antisym false a true b h k = and_i (eqb a b) (eqb a 0) (eq→eqb {a = a} {b = b} (omega arith)) (eq→eqb {a = a} {b = 0} (omega arith))
Le-antisym true a false b h k = and_i (eqb a b) (eqb a 0) (eq→eqb {a = a} {b = b} (omega arith)) (eq→eqb {a = a} {b = 0} (omega arith))
Le-antisym true a true b h k = and_i (eqb a b) true (eq→eqb {a = a} {b = b} (omega arith)) tt

-- the signs changed
pub Le-flip : (s : Bool) (a : ℕ) (t : Bool) (b : ℕ) → Le s a t b → Le (not t) b (not s) a
Le-flip false a false b h = omega arith
Le-flip false a true b h = omega arith
Le-flip true a false b h = omega arith
Le-flip true a true b h = omega arith

pub Le-zeros : (s t : Bool) (a b : ℕ) → a ≡ 0 → b ≡ 0 → Le s a t b
Le-zeros false false a b p q = omega arith
Le-zeros false true a b p q = omega arith
Le-zeros true false a b p q = omega arith
Le-zeros true true a b p q = omega arith

-- ---- the tests
pub not_below : (s : Bool) (a : ℕ) (t : Bool) (b : ℕ) → T (not (below s a t b)) → Le t b s a
not_below false a false b h = omega (arith, nltb→le a b h)
not_below false a true b h = omega arith
not_below true a false b h = omega (arith, nltb→le 0 (a + b) h)
not_below true a true b h = omega (arith, nltb→le b a h)

pub below_not : (s : Bool) (a : ℕ) (t : Bool) (b : ℕ) → T (below s a t b) → Le t b s a → ⊥
below_not false a false b h l = omega (arith, ltb→lt a b h)
below_not false a true b h l = absurd h
below_not true a false b h l = omega (arith, ltb→lt 0 (a + b) h)
below_not true a true b h l = omega (arith, ltb→lt b a h)

pub test→Le : (s : Bool) (a : ℕ) (t : Bool) (b : ℕ) → T (below s a t b || level s a t b) → Le s a t b
test→Le false a false b h = go (ltb a b) (eqb a b) (ltb→lt a b) (eqb→eq a b) h
  where
    go : (x y : Bool) → (T x → a < b) → (T y → a ≡ b) → T (x || (y && true)) → a + 0 ≤ b + 0
    go true y p q t = let l = p tt in omega arith
    go false true p q t = let l = q tt in omega arith
    go false false p q t = absurd t
test→Le false a true b h = omega (arith, eqb→eq a b (and_l (eqb a b) (eqb a 0) h), eqb→eq a 0 (and_r (eqb a b) (eqb a 0) h))
test→Le true a false b h = omega arith
test→Le true a true b h = go (ltb b a) (eqb a b) (ltb→lt b a) (eqb→eq a b) h
  where
    go : (x y : Bool) → (T x → b < a) → (T y → a ≡ b) → T (x || (y && true)) → 0 + b ≤ 0 + a
    go true y p q t = let l = p tt in omega arith
    go false true p q t = let l = q tt in omega arith
    go false false p q t = absurd t

pub Le→test : (s : Bool) (a : ℕ) (t : Bool) (b : ℕ) → Le s a t b → T (below s a t b || level s a t b)
Le→test s a t b h = or_not (below s a t b) (level s a t b) (λ n. Le-antisym s a t b h (not_below s a t b n))
  where
    or_not : (x y : Bool) → (T (not x) → T y) → T (x || y)
    or_not true y h = tt
    or_not false y h = h tt
