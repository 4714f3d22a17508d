-- The cosine and the sine of an angle as the code makes them, and that a zero among them is +0. Assumes nothing.
use Rattle.std.proofs.Common.{◌≡◌, ℕ, ◌^◌, ◌<◌, ◌≤◌, Bool, true, false, pos, ltb, sym, refl, ap, ◌∙◌, subst, arith, lit<, ltb-false, ltb-true}
use lib.Ieee.{Float, binary32, round, of_int, div, neg}
use Rattle.ieee.specs.Literal.{zero32}
use Rattle.ieee.specs.Sign.{is_zero}
use Rattle.ieee.specs.Cut.{cut}
use Rattle.ieee.proofs.Cut.{cut_small, cut_mono}
use Rattle.ieee.proofs.Value.{value_once}
use Rattle.ieee.proofs.Monotone.{zero_is}
use Rattle.ieee.proofs.Zeros.{zero_value, round_zero}
use Rattle.sine.specs.Quadrants.{fold_of, size_of, minus_of, on_of}
use Rattle.sine.specs.Table.{entry}
use Rattle.sine.proofs.Entries.{table_rises, entry_bound}
use Rattle.sine.proofs.Ways.{fold_3, fold_4, on_1, on_2}
use Rattle.sine.proofs.WholeTurn.{fold_bound}
use Rattle.angle.proofs.Entries.{whole, over, entry_plus, entry_minus}
use Rattle.angle.specs.Direction.{sine_of, cosine_of, direction_of, ZerosArePlus}

-- ---- as `sine_at` meets them
module _ (turn : ℕ) (few : size_of turn ≤ 2 ^ 30) where
  pub sine_plus : minus_of turn ≡ false → div binary32 (of_int binary32 (pos (size_of turn))) whole ≡ sine_of turn
  unfolding sine_of
  sine_plus h = entry_plus (size_of turn) few (minus_of turn) _ refl h

  pub sine_minus : minus_of turn ≡ true → neg (div binary32 (of_int binary32 (pos (size_of turn))) whole) ≡ sine_of turn
  unfolding sine_of
  sine_minus h = entry_minus (size_of turn) few (minus_of turn) _ refl h

pub direction_way : (turn on : ℕ) (x y : Float) → on ≡ on_of turn → x ≡ sine_of on → y ≡ sine_of turn → record { cosine = x; sine = y } ≡ direction_of turn
unfolding cosine_of direction_of
direction_way turn on x y on_is x_is y_is = λ i. record { cosine = (x_is ∙ ap sine_of on_is) i; sine = y_is i }

-- ---- zeros
-- between 180 and 360 degrees no entry is zero
fold_some : (turn : ℕ) → 2880 < turn → turn < 5760 → (0 < fold_of turn) × (fold_of turn ≤ 1440)
fold_some turn h l = go (ltb turn 4320) (ltb-true turn 4320) (ltb-false turn 4320)
  where
    go : (b : Bool) → (b ≡ true → turn < 4320) → (b ≡ false → 4320 ≤ turn) → (0 < fold_of turn) × (fold_of turn ≤ 1440)
    go true t f =
        let g = t refl in
        let a : 1440 ≤ turn = omega arith in
        let b : 2880 ≤ turn = omega arith in
        subst (λ (k : ℕ). (0 < k) × (k ≤ 1440)) (fold_3 turn a b g) (omega arith, omega arith)
    go false t f =
        let g = f refl in
        let a : 1440 ≤ turn = omega arith in
        let b : 2880 ≤ turn = omega arith in
        subst (λ (k : ℕ). (0 < k) × (k ≤ 1440)) (fold_4 turn a b g) (omega arith, omega arith)

size_some : (turn : ℕ) → 2880 < turn → turn < 5760 → size_of turn ≡ 0 → ⊥
unfolding size_of
size_some turn h l z =
    let f = fold_some turn h l in
    let r : entry 0 < entry (fold_of turn) = table_rises 0 (fold_of turn) f.0 f.1 in
    none (entry 0) (entry (fold_of turn)) r z
  where
    none : (a b : ℕ) → a < b → b ≡ 0 → ⊥
    none a b h e = omega arith

-- an entry is zero where its f32 is
entry_zero : (s : Bool) (n : ℕ) → n ≤ 2 ^ 30 → is_zero (round binary32 s n (2 ^ 30)) ≡ true → n ≡ 0
entry_zero s n few h =
    let w = zero_value (round binary32 s n (2 ^ 30)) h (2 ^ 30) in
    let z : cut 24 n ≡ 0 = (value_once (round binary32 s n (2 ^ 30)) s w.0 (cut 24 n) 0 (2 ^ 30) (over n few s) w.1).1 in
    go (ltb 0 n) (ltb-true 0 n) (ltb-false 0 n) z
  where
    go : (b : Bool) → (b ≡ true → 0 < n) → (b ≡ false → n ≤ 0) → cut 24 n ≡ 0 → n ≡ 0
    go true t f z =
        let one : 1 ≤ cut 24 n = subst (λ (k : ℕ). k ≤ cut 24 n) (cut_small 24 1 (lit< tt)) (cut_mono 24 1 n (lit< tt) (t refl)) in
        absurd (none (cut 24 n) one z)
      where
        none : (a : ℕ) → 1 ≤ a → a ≡ 0 → ⊥
        none a h e = omega arith
    go false t f z = let g = f refl in omega arith

on_bound : (turn : ℕ) → turn < 5760 → on_of turn < 5760
on_bound turn h = go (ltb turn 4320) (ltb-true turn 4320) (ltb-false turn 4320)
  where
    go : (b : Bool) → (b ≡ true → turn < 4320) → (b ≡ false → 4320 ≤ turn) → on_of turn < 5760
    go true t f = let g = t refl in subst (λ (k : ℕ). k < 5760) (on_1 turn g) (omega arith)
    go false t f = let g = f refl in subst (λ (k : ℕ). k < 5760) (on_2 turn g) (omega arith)

size_few : (turn : ℕ) → turn < 5760 → size_of turn ≤ 2 ^ 30
unfolding size_of
size_few turn h = entry_bound (fold_of turn) (fold_bound turn h)

sine_zero : (turn : ℕ) → turn < 5760 → is_zero (sine_of turn) ≡ true → sine_of turn ≡ zero32
unfolding sine_of minus_of
sine_zero turn h z =
    let n : size_of turn ≡ 0 = entry_zero (ltb 2880 turn) (size_of turn) (size_few turn h) z in
    go (ltb 2880 turn) (ltb-true 2880 turn) n
  where
    go : (b : Bool) → (b ≡ true → 2880 < turn) → size_of turn ≡ 0 → round binary32 b (size_of turn) (2 ^ 30) ≡ zero32
    go true t n = absurd (size_some turn (t refl) h n)
    go false t n = round_zero binary32 false (size_of turn) (2 ^ 30) n (lit< tt) ∙ sym zero_is

pub zeros_are_plus : ZerosArePlus
unfolding cosine_of
zeros_are_plus turn h = (sine_zero turn h, sine_zero (on_of turn) (on_bound turn h))
