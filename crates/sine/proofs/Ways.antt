-- What each way out of a function of this crate owes, as the code meets it: a premise for each test and for each call's result.
-- Assumes nothing.
use mathlib.Core.Path.{◌≡◌, ap, ◌∙◌, subst⁻¹}
use Prim.Native.Nat.{ℕ, ◌+◌, ◌-◌, ◌^◌, ◌<◌, ◌≤◌}
use native.Mathlib.Omega.{arith}
use borrow.Author.Tests.{lt-ltb, le-ltb}
use Rattle.sine.specs.Table.{entry}
use Rattle.sine.specs.Quadrants.{fold_of, size_of, on_of}
use Rattle.sine.proofs.Entries.{entry_bound}

module _ (turn : ℕ) where
  pub fold_1 : turn < 1440 → turn ≡ fold_of turn
  unfolding fold_of
  fold_1 h = simp (lt-ltb turn 1440 h)

  pub fold_2 : 1440 ≤ turn → turn < 2880 → 2880 - turn ≡ fold_of turn
  unfolding fold_of
  fold_2 g h = simp (le-ltb turn 1440 g, lt-ltb turn 2880 h)

  pub fold_3 : 1440 ≤ turn → 2880 ≤ turn → turn < 4320 → turn - 2880 ≡ fold_of turn
  unfolding fold_of
  fold_3 f g h = simp (le-ltb turn 1440 f, le-ltb turn 2880 g, lt-ltb turn 4320 h)

  pub fold_4 : 1440 ≤ turn → 2880 ≤ turn → 4320 ≤ turn → 5760 - turn ≡ fold_of turn
  unfolding fold_of
  fold_4 f g h = simp (le-ltb turn 1440 f, le-ltb turn 2880 g, le-ltb turn 4320 h)

  pub on_1 : turn < 4320 → turn + 1440 ≡ on_of turn
  unfolding on_of
  on_1 h = simp (lt-ltb turn 4320 h)

  pub on_2 : 4320 ≤ turn → turn - 4320 ≡ on_of turn
  unfolding on_of
  on_2 h = simp (le-ltb turn 4320 h)

  pub size_value : (k v : ℕ) → v ≡ entry k → k ≡ fold_of turn → v ≡ size_of turn
  unfolding size_of
  size_value k v e f = e ∙ ap entry f

pub size_bound : (k v : ℕ) → v ≡ entry k → k < 1441 → v ≤ 2 ^ 30
size_bound k v e h =
    let l : k ≤ 1440 = omega (arith, h) in
    subst⁻¹ (λ (n : ℕ). n ≤ 2 ^ 30) e (entry_bound k l)

pub ruleset ways = (fold_1, fold_2, fold_3, fold_4, on_1, on_2, size_value, size_bound)
