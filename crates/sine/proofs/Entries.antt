-- The table rises, and the squares of sine and cosine sum to within 2^31 of 2^60: a test each over all entries.
-- Assumes nothing.
use mathlib.Core.Path.{◌≡◌, refl, subst, subst⁻¹, sym, ap, ◌∙◌}
use mathlib.Core.Bool.{Bool, ◌&&◌}
use mathlib.Core.List.{List, [], ◌∷◌, reverse, reverse_aux}
use mathlib.Core.Logic.{◌⊎◌, inl, inr}
use Prim.Native.Nat.{ℕ, zero, suc, ◌+◌, ◌-◌, ◌*◌, ◌^◌, ◌<◌, ◌≤◌}
use native.Mathlib.Nat.{zero-add, not-suc-le-zero, le_of_lt, le_refl, eq-or-lt_of_le}
use native.Mathlib.Omega.{arith}
use lib.Dec.{T, leb, leb→le}
use lib.Ieee.Fits.{and_l, and_r}
use lib.ListN.{length, get_or, length-reverse}
use Rattle.sine.specs.Table.{sines, entry}
use Rattle.sine.specs.Laws.{Squares, TableLength, TableRises, TableSquares}
use Rattle.sine.proofs.Rule.{every2, at2, rises, order}

pub table_length : TableLength
unfolding sines
table_length = refl

pub in_table : (k : ℕ) → k ≤ 1440 → k < length sines
in_table k h =
    let l : k < 1441 = omega (arith, h) in
    subst⁻¹ (λ (n : ℕ). k < n) table_length l

-- ---- the order

pub all_rise : T (rises sines)
unfolding sines
all_rise = tt

pub table_rises : TableRises
table_rises i j g h = order sines i j all_rise g (in_table j h)

last_entry : entry 1440 ≡ 2 ^ 30
unfolding sines
last_entry = refl

pub entry_bound : (k : ℕ) → k ≤ 1440 → entry k ≤ 2 ^ 30
entry_bound k h = go (eq-or-lt_of_le h)
  where
    go : (k ≡ 1440) ⊎ (k < 1440) → entry k ≤ 2 ^ 30
    go (inl e) = subst⁻¹ (λ (n : ℕ). n ≤ 2 ^ 30) (ap entry e ∙ last_entry) (le_refl (2 ^ 30))
    go (inr l) = subst (λ (n : ℕ). entry k ≤ n) last_entry (le_of_lt (table_rises k 1440 l (le_refl 1440)))

-- ---- the squares: the table against itself backwards

past : (l r : List ℕ) (k : ℕ) → get_or (reverse_aux l r) (length l + k) 0 ≡ get_or r k 0
past [] r k = ap (λ (i : ℕ). get_or r i 0) (zero-add k)
past (x ∷ xs) r k =
    let e : suc (length xs) + k ≡ length xs + suc k = omega arith in
    ap (λ (i : ℕ). get_or (reverse_aux xs (x ∷ r)) i 0) e ∙ past xs (x ∷ r) (suc k)

-- the entry at place k of a list backwards, where a + k + 1 is the list's length, is the entry at place a
back : (l r : List ℕ) (k a : ℕ) → suc (a + k) ≡ length l → get_or (reverse_aux l r) k 0 ≡ get_or l a 0
back [] r k a h =
    let l : suc (a + k) ≤ 0 = omega (arith, h) in
    absurd (not-suc-le-zero l)
back (x ∷ xs) r k zero h =
    let e : k ≡ length xs + 0 = omega (arith, h) in
    ap (λ (j : ℕ). get_or (reverse_aux xs (x ∷ r)) j 0) e ∙ past xs (x ∷ r) 0
back (x ∷ xs) r k (suc a) h =
    let e : suc (a + k) ≡ length xs = omega (arith, h) in
    back xs (x ∷ r) k a e

mirrored : (k : ℕ) → k ≤ 1440 → get_or (reverse sines) k 0 ≡ entry (1440 - k)
mirrored k h =
    let e : suc (1440 - k + k) ≡ 1441 = omega (arith, h) in
    back sines [] k (1440 - k) (e ∙ sym table_length)

unfoldable pub squares : ℕ → ℕ → Bool
squares x y = leb (x * x + y * y) (2 ^ 60 + 2 ^ 31) && leb (2 ^ 60) (x * x + y * y + 2 ^ 31)

pub all_squares : T (every2 squares sines (reverse sines))
unfolding squares sines
all_squares = tt

squares_fact : (x y : ℕ) → T (squares x y) → Squares x y
unfolding squares
squares_fact x y t =
    let s = x * x + y * y in
    let low = leb s (2 ^ 60 + 2 ^ 31) in
    let high = leb (2 ^ 60) (s + 2 ^ 31) in
    (leb→le s (2 ^ 60 + 2 ^ 31) (and_l low high t), leb→le (2 ^ 60) (s + 2 ^ 31) (and_r low high t))

pub table_squares : TableSquares
table_squares k h =
    squares_fact (entry k) (entry (1440 - k))
    (subst (λ (y : ℕ). T (squares (entry k) y)) (mirrored k h)
    (at2 squares sines (reverse sines) all_squares k (in_table k h) (subst⁻¹ (λ (n : ℕ). k < n) (length-reverse sines) (in_table k h))))
