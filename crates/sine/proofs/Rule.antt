-- A rule of a list, proved at all of its entries by one test that antt computes, one entry after the other.
-- Assumes nothing.
use mathlib.Core.Path.{◌∙◌, subst, sym}
use mathlib.Core.Bool.{Bool, true, ◌&&◌}
use mathlib.Core.List.{List, [], ◌∷◌}
use Prim.Native.Nat.{ℕ, zero, suc, ◌+◌, ◌<◌}
use native.Mathlib.Nat.{add-zero, zero-add, add-suc, suc-add, lt_trans, le_of_suc-le-suc, not-suc-le-zero}
use lib.Dec.{T, ltb, ltb→lt}
use lib.Ieee.Fits.{and_l, and_r}
use lib.ListN.{length, get_or}

-- ---- each entry and its place

-- the test f passes at each entry and its place, counted from i
abbrev pub every : (ℕ → ℕ → Bool) → ℕ → List ℕ → Bool
every f i [] = true
every f i (x ∷ xs) = f i x && every f (suc i) xs

from : (f : ℕ → ℕ → Bool) (xs : List ℕ) (i : ℕ) → T (every f i xs) → (k : ℕ) → k < length xs → T (f (i + k) (get_or xs k 0))
from f [] i t k h = absurd (not-suc-le-zero h)
from f (x ∷ xs) i t zero h = subst (λ (m : ℕ). T (f m x)) (sym (add-zero i)) (and_l (f i x) (every f (suc i) xs) t)
from f (x ∷ xs) i t (suc k) h =
    subst (λ (m : ℕ). T (f m (get_or xs k 0))) (suc-add i k ∙ sym (add-suc i k))
    (from f xs (suc i) (and_r (f i x) (every f (suc i) xs) t) k (le_of_suc-le-suc h))

pub at : (f : ℕ → ℕ → Bool) (xs : List ℕ) → T (every f 0 xs) → (k : ℕ) → k < length xs → T (f k (get_or xs k 0))
at f xs t k h = subst (λ (m : ℕ). T (f m (get_or xs k 0))) (zero-add k) (from f xs 0 t k h)

-- ---- each entry and the one at its place in another list

abbrev pub every2 : (ℕ → ℕ → Bool) → List ℕ → List ℕ → Bool
every2 f [] ys = true
every2 f (x ∷ xs) [] = true
every2 f (x ∷ xs) (y ∷ ys) = f x y && every2 f xs ys

pub at2 : (f : ℕ → ℕ → Bool) (xs ys : List ℕ) → T (every2 f xs ys) → (k : ℕ) → k < length xs → k < length ys → T (f (get_or xs k 0) (get_or ys k 0))
at2 f [] ys t k g h = absurd (not-suc-le-zero g)
at2 f (x ∷ xs) [] t k g h = absurd (not-suc-le-zero h)
at2 f (x ∷ xs) (y ∷ ys) t zero g h = and_l (f x y) (every2 f xs ys) t
at2 f (x ∷ xs) (y ∷ ys) t (suc k) g h = at2 f xs ys (and_r (f x y) (every2 f xs ys) t) k (le_of_suc-le-suc g) (le_of_suc-le-suc h)

-- ---- each entry and the next

-- the list rises from a on
abbrev pub rising : ℕ → List ℕ → Bool
rising a [] = true
rising a (b ∷ bs) = ltb a b && rising b bs

abbrev pub rises : List ℕ → Bool
rises [] = true
rises (a ∷ xs) = rising a xs

above_first : (a : ℕ) (xs : List ℕ) (k : ℕ) → T (rising a xs) → k < length xs → a < get_or xs k 0
above_first a [] k t h = absurd (not-suc-le-zero h)
above_first a (b ∷ bs) zero t h = ltb→lt a b (and_l (ltb a b) (rising b bs) t)
above_first a (b ∷ bs) (suc k) t h =
    lt_trans (ltb→lt a b (and_l (ltb a b) (rising b bs) t))
    (above_first b bs k (and_r (ltb a b) (rising b bs) t) (le_of_suc-le-suc h))

in_order : (a : ℕ) (xs : List ℕ) (i j : ℕ) → T (rising a xs) → i < j → j < length (a ∷ xs) → get_or (a ∷ xs) i 0 < get_or (a ∷ xs) j 0
in_order a xs i zero t g h = absurd (not-suc-le-zero g)
in_order a xs zero (suc j) t g h = above_first a xs j t (le_of_suc-le-suc h)
in_order a [] (suc i) (suc j) t g h = absurd (not-suc-le-zero (le_of_suc-le-suc h))
in_order a (b ∷ bs) (suc i) (suc j) t g h =
    in_order b bs i j (and_r (ltb a b) (rising b bs) t) (le_of_suc-le-suc g) (le_of_suc-le-suc h)

pub order : (xs : List ℕ) (i j : ℕ) → T (rises xs) → i < j → j < length xs → get_or xs i 0 < get_or xs j 0
order [] i j t g h = absurd (not-suc-le-zero h)
order (a ∷ xs) i j t g h = in_order a xs i j t g h
