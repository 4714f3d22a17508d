-- What each way out of a function of this crate owes, as the code meets it: a premise for each test and for each call's result.
-- Assumes nothing.
use mathlib.Core.Path.{◌≡◌, refl, sym, ap, ◌∙◌, subst}
use mathlib.Core.Bool.{Bool, true, false}
use Prim.Native.Nat.{ℕ, zero, suc, ◌+◌, ◌*◌, ◌^◌, ◌≤◌}
use native.Mathlib.Omega.{arith}
use lib.Dec.{lit≤, lit<}
use lib.IntN.{pos}
use lib.Ieee.{Float, nan, inf, fin, binary32, of_bits, of_int, round, neg, le}
use lib.Ieee.Exact.{HasValue}
use Rattle.ieee.specs.Literal.{number_limit}
use Rattle.ieee.specs.Operators.{◌⊕◌, ◌⊖◌}
use Rattle.std.specs.List.{fold, range_with_len}
use Rattle.ieee.specs.Sign.{abs}
use Rattle.ieee.specs.Limit.{within, Bounded}
use Rattle.ieee.proofs.Bounds.{within→bounded, bounded→within, add_bounded, reach_pow, reach_whole, round_bounded}
use Rattle.count.specs.Count.{count_down, count_limit}
use Rattle.matrix.specs.declared.Matrix.{Matrix}
use Rattle.matrix.specs.Matrix.{identity, concat, pre_translate, pre_scale, pre_rotate}
use Rattle.repeater.specs.Repeater.{most_offset}
use Rattle.repeater.specs.Repeater.{step_part, step_matrix, steps}
use Rattle.repeater.specs.Upright.{upright_concat, upright_steps}
use Rattle.repeater.proofs.Part.{part_bounded, turn_inside, whole_turn_inside}

-- ---- a step
pub step_matrix_is : (x y ax ay degrees sx sy : Float) → step_matrix x y ax ay degrees sx sy
    ≡ pre_translate (pre_scale (pre_rotate (pre_translate (pre_translate identity x y) ax ay) degrees) sx sy) (neg ax) (neg ay)
unfolding step_matrix
step_matrix_is x y ax ay degrees sx sy = refl

-- ---- steps
-- One change after another from a value: a change more comes first or last.
module _ {A : Type 0} (next : A → A) where
  fold_last : (n a b : ℕ) (x : A) → fold (λ (y : A) (k : ℕ). next y) (next x) (range_with_len a n) ≡ next (fold (λ (y : A) (k : ℕ). next y) x (range_with_len b n))
  fold_last zero a b x = refl
  fold_last (suc n) a b x = fold_last n (a + 1) (b + 1) (next x)

module _ (n : ℕ) (step first : Matrix) (first_is : first ≡ identity) where
  pub steps_folded : fold (λ (m : Matrix) (k : ℕ). concat m step) first (range_with_len 0 n) ≡ steps n step
  unfolding steps
  steps_folded = rw first_is (go n 0)
    where
      go : (n a : ℕ) → fold (λ (m : Matrix) (k : ℕ). concat m step) identity (range_with_len a n) ≡ steps n step
      go zero a = refl
      go (suc n) a = fold_last (λ (m : Matrix). concat m step) n (a + 1) a identity ∙ ap (λ (m : Matrix). concat m step) (go n a)

  pub upright_folded : fold (λ (m : Matrix) (k : ℕ). upright_concat m step) first (range_with_len 0 n) ≡ upright_steps n step
  unfolding upright_steps
  upright_folded = rw first_is (go n 0)
    where
      go : (n a : ℕ) → fold (λ (m : Matrix) (k : ℕ). upright_concat m step) identity (range_with_len a n) ≡ upright_steps n step
      go zero a = refl
      go (suc n) a = fold_last (λ (m : Matrix). upright_concat m step) n (a + 1) a identity ∙ ap (λ (m : Matrix). upright_concat m step) (go n a)

-- ---- iteration_transform
limit_value : HasValue count_limit false (2 ^ 20) 1
unfolding of_bits
limit_value = (refl, refl)

abs_abs : (x : Float) → abs (abs x) ≡ abs x
abs_abs nan = refl
abs_abs (inf s) = refl
abs_abs (fin s m e) = refl

pub of_whole : (n : ℕ) → round binary32 false n 1 ≡ of_int binary32 (pos n)
unfolding of_int
of_whole n = refl

pub size_inside : (x size : Float) → size ≡ abs x → within count_limit x ≡ true → within count_limit size ≡ true
size_inside x size e h = ap (λ (y : Float). le (abs y) count_limit) e ∙ ap (λ (y : Float). le y count_limit) (abs_abs x) ∙ h

-- the part of a step that is left
pub rest_turn_inside : (rotation x : Float) (inverse : Bool) → within count_limit x ≡ true → within number_limit rotation ≡ true
    → within number_limit (step_part rotation (abs x ⊖ of_int binary32 (pos (count_down (abs x)))) inverse) ≡ true
rest_turn_inside rotation x inverse inside h =
    turn_inside rotation _ inverse h (part_bounded x (within→bounded (2 ^ 20) count_limit x limit_value inside))

pub ruleset iterating = (of_whole, size_inside, whole_turn_inside, rest_turn_inside)

-- ---- copy_transform
most_value : HasValue most_offset false 4096 1
unfolding of_bits
most_value = (refl, refl)

pub iteration_inside : (offset f : Float) (copy : ℕ) → f ≡ round binary32 false copy 1 → within most_offset offset ≡ true → copy ≤ 4096 → within count_limit (offset ⊕ f) ≡ true
iteration_inside offset f copy f_is h l =
    let most : copy ≤ 4096 * 1 = omega arith in
    let number : Bounded 4096 f = subst (Bounded 4096) (sym f_is) (round_bounded binary32 false copy 1 4096 4096 (lit< tt) most (reach_whole binary32 4096 (lit< tt))) in
    bounded→within (2 ^ 20) count_limit (offset ⊕ f) limit_value
    (add_bounded binary32 4096 4096 (2 ^ 20) offset f (reach_pow binary32 8192 20 (lit≤ tt) (lit≤ tt)) (within→bounded 4096 most_offset offset most_value h) number)

pub ruleset copying = (of_whole, iteration_inside)
