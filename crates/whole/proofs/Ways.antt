-- What each way out of `from_whole`, `down_at` and `up_at` owes, as the code meets it: a premise for each test, so that `search` finds it. Assumes nothing.
use mathlib.Core.Path.{◌≡◌, refl, sym, ap, ◌∙◌, subst}
use Prim.Native.Nat.{ℕ, ◌+◌, ◌*◌, ◌/◌, ◌%◌, ◌^◌, ◌≤◌, ◌<◌, min}
use mathlib.Core.Logic.{inl, inr}
use native.Mathlib.Nat.{eq-zero-or-pos, lt_of_lt_of_le, lt_of_le_of_lt, add-zero, zero-mul, mod-eq_of_lt, div-mul-le_self}
use native.Mathlib.Omega.{arith}
use mathlib.Core.Bool.{Bool, true, false, cond}
use borrow.Author.Tests.{lt-ltb, le-ltb}
use lib.IntN.{pos}
use lib.Dec.{T, ltb, le→leb}
use lib.Pow.{pow_mono, shr_lt, shr_le}
use lib.Ieee.{binary32, round, neg, of_int, in_float}
use Rattle.ieee.specs.Whole.{whole_down, whole_up}
use Rattle.ieee.proofs.Round.{neg_round}

-- ---- from_whole
pub cast_ok : (n : ℕ) → n ≤ 2 ^ 24 → T (in_float binary32 (pos n))
unfolding in_float
cast_ok n h = le→leb n (2 ^ 24) h

cast_is : (n : ℕ) → of_int binary32 (pos n) ≡ round binary32 false n 1
unfolding of_int
cast_is n = refl

pub from_minus : (s : Bool) (n : ℕ) → s ≡ true → neg (of_int binary32 (pos n)) ≡ round binary32 s n 1
from_minus s n e = ap neg (cast_is n) ∙ neg_round binary32 n 1 ∙ ap (λ (b : Bool). round binary32 b n 1) (sym e)

pub from_plus : (s : Bool) (n : ℕ) → s ≡ false → of_int binary32 (pos n) ≡ round binary32 s n 1
from_plus s n e = cast_is n ∙ ap (λ (b : Bool). round binary32 b n 1) (sym e)

-- ---- q / 2 ^ s, where q has 24 digits
past : (q s : ℕ) → q < 2 ^ 24 → 24 ≤ s → q / 2 ^ s ≡ 0
past q s h k = let l : q / 2 ^ s < 2 ^ 0 = shr_lt 0 s (lt_of_lt_of_le h (pow_mono {i = 24} {j = 0 + s} (omega arith))) in omega arith

pub down_shift : (q s : ℕ) → q < 2 ^ 24 → (q / 2 ^ s ≡ whole_down q (2 ^ s)) × (q / 2 ^ s ≤ 2 ^ 24)
down_shift q s h = (refl, omega (arith, shr_le q s))

pub down_past : (q s : ℕ) → q < 2 ^ 24 → 64 ≤ s → (0 ≡ whole_down q (2 ^ s)) × (0 ≤ 2 ^ 24)
down_past q s h k = (sym (past q s h (omega arith)), omega arith)

up_when : (q s : ℕ) (b : Bool) → ltb (q / 2 ^ s * 2 ^ s) q ≡ b → q / 2 ^ s + cond b 1 0 ≡ whole_up q (2 ^ s)
up_when q s b e = ap (λ (t : Bool). q / 2 ^ s + cond t 1 0) (sym e)

back : (q s : ℕ) → q < 2 ^ 24 → q / 2 ^ s * 2 ^ s % 2 ^ 64 ≡ q / 2 ^ s * 2 ^ s
back q s h = mod-eq_of_lt (lt_of_le_of_lt (div-mul-le_self q (2 ^ s)) (omega arith))

pub up_fits : (q s : ℕ) → q < 2 ^ 24 → q / 2 ^ s + 1 < 2 ^ 64
up_fits q s h = omega (arith, shr_le q s)

pub up_next : (q s : ℕ) → q < 2 ^ 24 → q / 2 ^ s * 2 ^ s % 2 ^ 64 < q → (q / 2 ^ s + 1 ≡ whole_up q (2 ^ s)) × (q / 2 ^ s + 1 ≤ 2 ^ 24)
up_next q s h l = (up_when q s true (lt-ltb (q / 2 ^ s * 2 ^ s) q (subst (λ (x : ℕ). x < q) (back q s h) l)), omega (arith, shr_le q s))

pub up_stay : (q s : ℕ) → q < 2 ^ 24 → q ≤ q / 2 ^ s * 2 ^ s % 2 ^ 64 → (q / 2 ^ s ≡ whole_up q (2 ^ s)) × (q / 2 ^ s ≤ 2 ^ 24)
up_stay q s h l = (
  sym (add-zero (q / 2 ^ s)) ∙ up_when q s false (le-ltb (q / 2 ^ s * 2 ^ s) q (subst (λ (x : ℕ). q ≤ x) (back q s h) l)),
  omega (arith, shr_le q s),
)

up_none : (q s : ℕ) → q < 2 ^ 24 → 64 ≤ s → q ≡ 0 → (0 ≡ whole_up q (2 ^ s)) × (0 ≤ 2 ^ 24)
up_none q s h k z =
    (sym (ap (λ (x : ℕ). x + 0) (past q s h (omega arith))) ∙ up_when q s false (le-ltb (q / 2 ^ s * 2 ^ s) q (omega arith)), omega arith)

up_one : (q s : ℕ) → q < 2 ^ 24 → 64 ≤ s → (q ≡ 0 → ⊥) → (1 ≡ whole_up q (2 ^ s)) × (1 ≤ 2 ^ 24)
up_one q s h k n =
    let e : q / 2 ^ s * 2 ^ s ≡ 0 = ap (λ (x : ℕ). x * 2 ^ s) (past q s h (omega arith)) ∙ zero-mul (2 ^ s) in
    (sym (ap (λ (x : ℕ). x + 1) (past q s h (omega arith))) ∙ up_when q s true (lt-ltb (q / 2 ^ s * 2 ^ s) q (omega arith)), omega arith)

pub up_far : (q s : ℕ) → q < 2 ^ 24 → 64 ≤ s → (min q 1 ≡ whole_up q (2 ^ s)) × (min q 1 ≤ 2 ^ 24)
up_far q s h k = elim (eq-zero-or-pos q) [
  | inl z ↦ at 0 (omega arith) (up_none q s h k z)
  | inr p ↦ at 1 (omega arith) (up_one q s h k (λ z. absurd (omega arith)))
]
  where
    at : (n : ℕ) → min q 1 ≡ n → (n ≡ whole_up q (2 ^ s)) × (n ≤ 2 ^ 24) → (min q 1 ≡ whole_up q (2 ^ s)) × (min q 1 ≤ 2 ^ 24)
    at n e r = subst (λ (x : ℕ). (x ≡ whole_up q (2 ^ s)) × (x ≤ 2 ^ 24)) (sym e) r

pub ruleset ways = (cast_ok, from_minus, from_plus, down_shift, down_past, up_fits, up_next, up_stay, up_far)
