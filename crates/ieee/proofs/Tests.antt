-- Tests of whole numbers: what `compare` says, that a common factor changes no test, and tests of every number of a range. Assumes nothing.
use mathlib.Core.Path.{◌≡◌, refl, sym, ap, subst}
use mathlib.Core.Logic.{◌⊎◌, inl, inr}
use Prim.Native.Nat.{ℕ, zero, suc, ◌*◌, ◌≤◌, ◌<◌, compare, Ordering}
use native.Mathlib.Nat.{le_of_lt, lt_irrefl, mul-lt-mul_of_pos_right, lt_of_mul-lt-mul_right, eq_of_mul-eq-mul_right, eq-or-lt_of_le, le_of_suc-le-suc}
use native.Mathlib.Omega.{arith}
use mathlib.Core.Bool.{Bool, true, false, not, ◌&&◌}
use lib.Dec.{T, is_le, compare_is_eq, ltb, eqb, leb→le, le→leb, nleb→lt, ltb→lt, lt→ltb, eqb→eq, eqb_refl}
use lib.Arith.{lt_of_le-ne, lt→nleb}
use lib.Ieee.Fits.{eq→eqb, and_l, and_r}

pub same_test : (a b : Bool) → (T a → T b) → (T b → T a) → a ≡ b
same_test true true p q = refl
same_test true false p q = absurd (p tt)
same_test false true p q = absurd (q tt)
same_test false false p q = refl

-- ---- what `compare` says
abbrev pub Cmp : Ordering → ℕ → ℕ → Type 0
Cmp Ordering.lt a b = a < b
Cmp Ordering.eq a b = a ≡ b
Cmp Ordering.gt a b = b < a

pub cmp : (a b : ℕ) → Cmp (compare a b) a b
cmp a b = go (compare a b) (leb→le a b) (nleb→lt a b) (eqb→eq a b) (λ (e : a ≡ b). subst (λ (x : ℕ). T (eqb a x)) e (eqb_refl a))
  where
    go : (o : Ordering) → (T (is_le o) → a ≤ b) → (T (not (is_le o)) → b < a) → (T (compare_is_eq o) → a ≡ b) → (a ≡ b → T (compare_is_eq o)) → Cmp o a b
    go Ordering.lt h k e n = lt_of_le-ne (h tt) n
    go Ordering.eq h k e n = e tt
    go Ordering.gt h k e n = k tt

pub compare_lt : (a b : ℕ) → a < b → compare a b ≡ Ordering.lt
compare_lt a b h = go (compare a b) (le→leb a b (le_of_lt h)) (λ t. lt_irrefl b (subst (λ (x : ℕ). x < b) (eqb→eq a b t) h))
  where
    go : (o : Ordering) → T (is_le o) → (T (compare_is_eq o) → ⊥) → o ≡ Ordering.lt
    go Ordering.lt p q = refl
    go Ordering.eq p q = absurd (q tt)
    go Ordering.gt p q = absurd p

pub compare_eq : (a b : ℕ) → a ≡ b → compare a b ≡ Ordering.eq
compare_eq a b e = go (compare a b) (subst (λ (x : ℕ). T (eqb a x)) e (eqb_refl a))
  where
    go : (o : Ordering) → T (compare_is_eq o) → o ≡ Ordering.eq
    go Ordering.lt p = absurd p
    go Ordering.eq p = refl
    go Ordering.gt p = absurd p

pub compare_gt : (a b : ℕ) → b < a → compare a b ≡ Ordering.gt
compare_gt a b h = go (compare a b) (lt→nleb a b h)
  where
    go : (o : Ordering) → T (not (is_le o)) → o ≡ Ordering.gt
    go Ordering.lt p = absurd p
    go Ordering.eq p = absurd p
    go Ordering.gt p = refl

-- ---- a common factor
pub ltb_mul : (a b u : ℕ) → 0 < u → ltb (a * u) (b * u) ≡ ltb a b
ltb_mul a b u U =
    same_test (ltb (a * u) (b * u)) (ltb a b)
    (λ t. lt→ltb a b (lt_of_mul-lt-mul_right u (ltb→lt (a * u) (b * u) t)))
    (λ t. lt→ltb (a * u) (b * u) (mul-lt-mul_of_pos_right (ltb→lt a b t) U))

pub eqb_mul : (a b u : ℕ) → 0 < u → eqb (a * u) (b * u) ≡ eqb a b
eqb_mul a b u U =
    same_test (eqb (a * u) (b * u)) (eqb a b)
    (λ t. eq→eqb (eq_of_mul-eq-mul_right u U a b (eqb→eq (a * u) (b * u) t)))
    (λ t. eq→eqb (ap (λ (x : ℕ). x * u) (eqb→eq a b t)))

pub compare_mul : (a b u : ℕ) → 0 < u → compare (a * u) (b * u) ≡ compare a b
compare_mul a b u U = go (compare a b) (cmp a b)
  where
    go : (o : Ordering) → Cmp o a b → compare (a * u) (b * u) ≡ o
    go Ordering.lt h = compare_lt (a * u) (b * u) (mul-lt-mul_of_pos_right h U)
    go Ordering.eq e = compare_eq (a * u) (b * u) (ap (λ (x : ℕ). x * u) e)
    go Ordering.gt h = compare_gt (a * u) (b * u) (mul-lt-mul_of_pos_right h U)

-- ---- a test of every number up to n, computed once
abbrev pub all_up_to : ℕ → (ℕ → Bool) → Bool
all_up_to zero p = p zero
all_up_to (suc n) p = all_up_to n p && p (suc n)

pub up_to : (n : ℕ) (p : ℕ → Bool) → T (all_up_to n p) → (i : ℕ) → i ≤ n → T (p i)
up_to zero p t i h = let e : 0 ≡ i = omega arith in subst (λ (z : ℕ). T (p z)) e t
up_to (suc n) p t i h = go (eq-or-lt_of_le h) (up_to n p (and_l (all_up_to n p) (p (suc n)) t) i)
  where
    go : (i ≡ suc n) ⊎ (i < suc n) → (i ≤ n → T (p i)) → T (p i)
    go (inl e) ih = subst (λ (z : ℕ). T (p z)) (sym e) (and_r (all_up_to n p) (p (suc n)) t)
    go (inr l) ih = ih (le_of_suc-le-suc l)
