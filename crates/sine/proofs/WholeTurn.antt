-- The whole turn from the table: at each reduced angle the entry, with its sign, is nearest to the series there, and the squares of sine and
-- cosine sum to within 2^31 of 2^60.
-- Assumes nothing.
use mathlib.Core.Path.{◌≡◌, refl, sym, ap, ◌∙◌, subst, subst⁻¹}
use mathlib.Core.Bool.{Bool, true, false, cond}
use mathlib.Core.Logic.{◌⊎◌, inl, inr}
use Prim.Native.Nat.{ℕ, ◌+◌, ◌-◌, ◌<◌, ◌≤◌}
use native.Mathlib.Nat.{eq-or-lt_of_le, le_refl}
use native.Mathlib.Omega.{arith}
use lib.Dec.{ltb, lit<, lit≤}
use borrow.Author.Tests.{lt-ltb, le-ltb, ltb-true, ltb-false}
use Rattle.sine.specs.Table.{entry}
use Rattle.sine.specs.Nearest.{Nearest}
use Rattle.sine.specs.Quadrants.{fold_of, size_of, minus_of, on_of}
use Rattle.sine.specs.Laws.{Squares, TurnNearest, TurnSquares}
use Rattle.sine.proofs.Ways.{fold_1, fold_2, fold_3, fold_4, on_1, on_2}
use Rattle.sine.proofs.Entries.{table_squares}
use Rattle.sine.proofs.Nearness.{table_nearest, nearest_2, nearest_3, nearest_4}

-- ---- an angle's quadrant

-- what holds in each quadrant holds at every angle
quadrants : (P : Type 0) (turn : ℕ) →
    (turn < 1440 → P) → (1440 ≤ turn → turn < 2880 → P) → (1440 ≤ turn → 2880 ≤ turn → turn < 4320 → P) → (1440 ≤ turn → 2880 ≤ turn → 4320 ≤ turn → P) → P
quadrants P turn f g h i =
    go (ltb turn 1440) (ltb turn 2880) (ltb turn 4320) (ltb-true turn 1440) (ltb-false turn 1440) (ltb-true turn 2880) (ltb-false turn 2880)
    (ltb-true turn 4320) (ltb-false turn 4320)
  where
    go : (a b c : Bool) → (a ≡ true → turn < 1440) → (a ≡ false → 1440 ≤ turn) → (b ≡ true → turn < 2880) → (b ≡ false → 2880 ≤ turn) →
        (c ≡ true → turn < 4320) → (c ≡ false → 4320 ≤ turn) → P
    go true b c j k l m n o = f (j refl)
    go false true c j k l m n o = g (k refl) (l refl)
    go false false true j k l m n o = h (k refl) (m refl) (n refl)
    go false false false j k l m n o = i (k refl) (m refl) (o refl)

-- ---- the nearest whole number

-- the entry with its sign is nearest
abbrev Signed : ℕ → Type 0
Signed turn = Nearest turn (cond (minus_of turn) 0 (size_of turn)) (cond (minus_of turn) (size_of turn) 0)

no_minus : (turn : ℕ) → turn ≤ 2880 → minus_of turn ≡ false
unfolding minus_of
no_minus turn h = le-ltb _ turn (omega (arith, h))

a_minus : (turn : ℕ) → 2880 < turn → minus_of turn ≡ true
unfolding minus_of
a_minus turn h = lt-ltb _ turn (omega (arith, h))

plus : (turn k : ℕ) → turn ≤ 2880 → k ≡ fold_of turn → Nearest turn (entry k) 0 → Signed turn
unfolding size_of
plus turn k h e n =
    subst⁻¹ (λ (b : Bool). Nearest turn (cond b 0 (size_of turn)) (cond b (size_of turn) 0)) (no_minus turn h)
    (subst (λ (i : ℕ). Nearest turn (entry i) 0) e n)

minus : (turn k : ℕ) → 2880 < turn → k ≡ fold_of turn → Nearest turn 0 (entry k) → Signed turn
unfolding size_of
minus turn k h e n =
    subst⁻¹ (λ (b : Bool). Nearest turn (cond b 0 (size_of turn)) (cond b (size_of turn) 0)) (a_minus turn h)
    (subst (λ (i : ℕ). Nearest turn 0 (entry i)) e n)

-- at 180 degrees the sine is 0, with no minus
half_turn : Signed 2880
half_turn = plus 2880 0 (le_refl 2880) (fold_3 2880 (lit≤ tt) (le_refl 2880) (lit< tt)) (nearest_2 0 (lit≤ tt))

pub turn_nearest : TurnNearest
turn_nearest turn l = quadrants (Signed turn) turn first second third fourth
  where
    first : turn < 1440 → Signed turn
    first h =
        let a : turn ≤ 2880 = omega (arith, h) in
        let b : turn ≤ 1440 = omega (arith, h) in
        plus turn turn a (fold_1 turn h) (table_nearest turn b)

    second : 1440 ≤ turn → turn < 2880 → Signed turn
    second g h =
        let a : turn ≤ 2880 = omega (arith, h) in
        let b : 2880 - turn ≤ 1440 = omega (arith, g) in
        let e : 2880 - (2880 - turn) ≡ turn = omega (arith, h) in
        plus turn (2880 - turn) a (fold_2 turn g h) (subst (λ (i : ℕ). Nearest i (entry (2880 - turn)) 0) e (nearest_2 (2880 - turn) b))

    third : 1440 ≤ turn → 2880 ≤ turn → turn < 4320 → Signed turn
    third f g h = go (eq-or-lt_of_le g)
      where
        go : (2880 ≡ turn) ⊎ (2880 < turn) → Signed turn
        go (inl e) = subst Signed e half_turn
        go (inr i) =
            let b : turn - 2880 ≤ 1440 = omega (arith, h) in
            let e : 2880 + (turn - 2880) ≡ turn = omega (arith, g) in
            minus turn (turn - 2880) i (fold_3 turn f g h) (subst (λ (j : ℕ). Nearest j 0 (entry (turn - 2880))) e (nearest_3 (turn - 2880) b))

    fourth : 1440 ≤ turn → 2880 ≤ turn → 4320 ≤ turn → Signed turn
    fourth f g h =
        let a : 2880 < turn = omega (arith, h) in
        let b : 5760 - turn ≤ 1440 = omega (arith, h) in
        let e : 5760 - (5760 - turn) ≡ turn = omega (arith, l) in
        minus turn (5760 - turn) a (fold_4 turn f g h) (subst (λ (i : ℕ). Nearest i 0 (entry (5760 - turn))) e (nearest_4 (5760 - turn) b))

-- ---- the squares

pub fold_bound : (turn : ℕ) → turn < 5760 → fold_of turn ≤ 1440
fold_bound turn l = quadrants (fold_of turn ≤ 1440) turn first second third fourth
  where
    first : turn < 1440 → fold_of turn ≤ 1440
    first h = subst (λ (k : ℕ). k ≤ 1440) (fold_1 turn h) (omega (arith, h))

    second : 1440 ≤ turn → turn < 2880 → fold_of turn ≤ 1440
    second g h = subst (λ (k : ℕ). k ≤ 1440) (fold_2 turn g h) (omega (arith, g))

    third : 1440 ≤ turn → 2880 ≤ turn → turn < 4320 → fold_of turn ≤ 1440
    third f g h = subst (λ (k : ℕ). k ≤ 1440) (fold_3 turn f g h) (omega (arith, h))

    fourth : 1440 ≤ turn → 2880 ≤ turn → 4320 ≤ turn → fold_of turn ≤ 1440
    fourth f g h = subst (λ (k : ℕ). k ≤ 1440) (fold_4 turn f g h) (omega (arith, h))

-- 90 degrees on, the fold runs the other way
on_fold : (turn : ℕ) → turn < 5760 → fold_of (on_of turn) ≡ 1440 - fold_of turn
on_fold turn l = quadrants (fold_of (on_of turn) ≡ 1440 - fold_of turn) turn first second third fourth
  where
    -- from k to j, which the angle and the one 90 degrees on fold to
    on : (next k j : ℕ) → next ≡ on_of turn → k ≡ fold_of turn → j ≡ fold_of next → j ≡ 1440 - k → fold_of (on_of turn) ≡ 1440 - fold_of turn
    on next k j a b c d = ap fold_of (sym a) ∙ sym c ∙ d ∙ ap (λ (i : ℕ). 1440 - i) b

    first : turn < 1440 → fold_of (on_of turn) ≡ 1440 - fold_of turn
    first h =
        let a : turn < 4320 = omega (arith, h) in
        let b : 1440 ≤ turn + 1440 = omega arith in
        let c : turn + 1440 < 2880 = omega (arith, h) in
        let e : 2880 - (turn + 1440) ≡ 1440 - turn = omega arith in
        on (turn + 1440) turn (2880 - (turn + 1440)) (on_1 turn a) (fold_1 turn h) (fold_2 (turn + 1440) b c) e

    second : 1440 ≤ turn → turn < 2880 → fold_of (on_of turn) ≡ 1440 - fold_of turn
    second g h =
        let a : turn < 4320 = omega (arith, h) in
        let b : 1440 ≤ turn + 1440 = omega arith in
        let c : 2880 ≤ turn + 1440 = omega (arith, g) in
        let d : turn + 1440 < 4320 = omega (arith, h) in
        let e : turn + 1440 - 2880 ≡ 1440 - (2880 - turn) = omega (arith, g, h) in
        on (turn + 1440) (2880 - turn) (turn + 1440 - 2880) (on_1 turn a) (fold_2 turn g h) (fold_3 (turn + 1440) b c d) e

    third : 1440 ≤ turn → 2880 ≤ turn → turn < 4320 → fold_of (on_of turn) ≡ 1440 - fold_of turn
    third f g h =
        let b : 1440 ≤ turn + 1440 = omega arith in
        let c : 2880 ≤ turn + 1440 = omega (arith, f) in
        let d : 4320 ≤ turn + 1440 = omega (arith, g) in
        let e : 5760 - (turn + 1440) ≡ 1440 - (turn - 2880) = omega (arith, g, h) in
        on (turn + 1440) (turn - 2880) (5760 - (turn + 1440)) (on_1 turn h) (fold_3 turn f g h) (fold_4 (turn + 1440) b c d) e

    fourth : 1440 ≤ turn → 2880 ≤ turn → 4320 ≤ turn → fold_of (on_of turn) ≡ 1440 - fold_of turn
    fourth f g h =
        let a : turn - 4320 < 1440 = omega (arith, l) in
        let e : turn - 4320 ≡ 1440 - (5760 - turn) = omega (arith, l, h) in
        on (turn - 4320) (5760 - turn) (turn - 4320) (on_2 turn h) (fold_4 turn f g h) (fold_1 (turn - 4320) a) e

pub turn_squares : TurnSquares
unfolding size_of
turn_squares turn h = subst⁻¹ (λ (k : ℕ). Squares (entry (fold_of turn)) (entry k)) (on_fold turn h) (table_squares (fold_of turn) (fold_bound turn h))
