-- A size below 2 ^ 23, with 2 ^ 23 added and taken away again, is the whole number closest to it, a half to the even one. Assumes nothing.
use mathlib.Core.Path.{◌≡◌, refl, sym, ap, ◌∙◌, subst}
use Prim.Native.Nat.{ℕ, ◌+◌, ◌-◌, ◌*◌, ◌^◌, ◌≤◌, ◌<◌}
use native.Mathlib.Nat.{le_refl, le_trans, le_of_eq, le_of_lt, lt_of_le_of_lt, lt_of_lt_of_le, le-add_left, add-sub_cancel, mul-one, mul_assoc}
use native.Mathlib.Omega.{arith}
use mathlib.Core.Bool.{Bool, true, false, cond}
use borrow.Author.Tests.{le-ltb}
use lib.Dec.{lit<, lit≤}
use lib.Pow.{pow_pos, pow_mono, shl_lt}
use lib.Ieee.{Float, binary32, round, sum, add, sub, neg, of_bits}
use lib.Ieee.Exact.{HasValue, round_exact}
use lib.Ieee.Nearest.{closest, closest_mono}
use Rattle.ieee.specs.Literal.{zero32, one32}
use Rattle.ieee.specs.Cut.{cut}
use Rattle.ieee.proofs.Digits.{size_is}
use Rattle.ieee.proofs.Closest.{closest_exact}
use Rattle.ieee.proofs.Cut.{cut_is}
use Rattle.ieee.proofs.Value.{rescale, neg_val}
use Rattle.ieee.proofs.Round.{round_cut}
use Rattle.ieee.proofs.Sum.{sum_alike}
use Rattle.ieee.proofs.Operations.{add_at, sub_is}
use Rattle.ieee.proofs.Whole.{Way, Goes, whole_at}
use Rattle.whole.specs.Even.{round_even}
use Rattle.whole.specs.Small.{Small}
use Rattle.whole.proofs.Closest.{closest_more}

-- ---- `round_even` goes by `closest`
abbrev pub even_way : Bool → ℕ → ℕ → ℕ
even_way s = closest

pub even_way_lem : Way even_way
even_way_lem = record { mono = λ s. closest_mono; exact = λ s. closest_exact }

pub even_goes : Goes binary32 even_way (round_even binary32)
unfolding round_even
even_goes = record { stays = refl; keeps = λ s. refl; is = λ s m e. refl }

-- ---- the literals: 2 ^ 23, a half and 1
abbrev shift32 : Float
shift32 = of_bits binary32 0x4b00_0000

abbrev pub half32 : Float
half32 = of_bits binary32 0x3f00_0000

shift_units : HasValue shift32 false (2 ^ 172) (2 ^ 149)
unfolding of_bits
shift_units = (refl, refl)

shift_value : HasValue shift32 false (2 ^ 23) 1
unfolding of_bits
shift_value = (refl, refl)

half_value : HasValue half32 false 1 2
unfolding of_bits
half_value = (refl, refl)

pub one_value : HasValue one32 false 1 1
unfolding of_bits
one_value = (refl, refl)

pub zero_value : HasValue zero32 false 0 1
unfolding of_bits
zero_value = (refl, refl)

-- ---- sums
pub sum_minus : (a b c : ℕ) → b ≤ a → sum binary32 false a true b c ≡ round binary32 false (a - b) c
unfolding sum
sum_minus a b c h = ap (λ (t : Bool). cond t (round binary32 true (b - a) c) (round binary32 false (a - b) c)) (le-ltb a b h)

-- ---- whole numbers and halves are floats
room : (k j : ℕ) → k ≤ 2 ^ 24 → j ≤ 149 → k * 2 ^ j < 2 ^ 277
room k j h l = let m : 25 + j ≤ 277 = omega arith in lt_of_lt_of_le (shl_lt 25 j (lt_of_le_of_lt h (lit< tt))) (pow_mono m)

pub whole_value : (s : Bool) (k : ℕ) → k < 2 ^ 24 → HasValue (round binary32 s k 1) s k 1
whole_value s k h = round_exact binary32 s k 1 k 149 (lit< tt) h (room k 149 (le_of_lt h) (lit≤ tt)) (sym (mul-one (k * 2 ^ 149)))

pub half_up_value : (k : ℕ) → k < 2 ^ 23 → HasValue (round binary32 false (2 * k + 1) 2) false (2 * k + 1) 2
half_up_value k h =
    let l : 2 * k + 1 < 2 ^ 24 = omega arith in
    round_exact binary32 false (2 * k + 1) 2 (2 * k + 1) 148 (lit< tt) l (room (2 * k + 1) 148 (le_of_lt l) (lit≤ tt)) (sym (mul_assoc (2 * k + 1) (2 ^ 148) 2))

-- ---- from the value of a whole number
module _ (r : Float) (k : ℕ) where
  pub further : (s : Bool) → HasValue r s k 1 → (o : Float) (j : ℕ) → HasValue o s j 1 → add binary32 r o ≡ round binary32 s (k + j) 1
  further s v o j w = add_at binary32 r o s s k j 1 (lit< tt) v w ∙ sum_alike binary32 s k j 1

  pub half_up : HasValue r false k 1 → add binary32 r half32 ≡ round binary32 false (2 * k + 1) 2
  half_up v =
      add_at binary32 r half32 false false (2 * k) 1 2 (lit< tt) (rescale r false k 1 (2 * k) 2 (lit< tt) (omega arith) v) half_value
      ∙ sum_alike binary32 false (2 * k) 1 2

-- ---- a size of n / U
abbrev pub U : ℕ
U = 2 ^ 149

pub U_pos : 0 < U
U_pos = pow_pos 149

-- below 2 ^ 23 it goes to a whole number of at most 2 ^ 23
pub at_most_lem : (h : ℕ → ℕ → ℕ) → Way (λ s. h) → (n : ℕ) → n < 2 ^ 172 → h n U ≤ 2 ^ 23
at_most_lem h W n small =
    le_trans (W.mono false n U (2 ^ 23) 1 U_pos (lit< tt) (le_trans (le_of_eq (mul-one n)) (le_of_lt small)))
    (le_of_eq (W.exact false (2 ^ 23) 1 (lit< tt)))

with_shift : (k : ℕ) → k ≤ 2 ^ 23 → k + 2 ^ 23 ≤ 2 ^ 24
with_shift k h = omega arith

doubled : (n a : ℕ) → n < a → n + a < 2 * a
doubled n a h = omega arith

module _ (x : Float) (n : ℕ) (v : HasValue x false n U) (small : n < 2 ^ 172) where
  cut_24 : cut 24 (n + 2 ^ 172) ≡ (closest n U + 2 ^ 23) * U
  cut_24 =
      let l : 2 ^ 172 ≤ n + 2 ^ 172 = le-add_left (2 ^ 172) n in
      let h : n + 2 ^ 172 < 2 ^ 173 = doubled n (2 ^ 172) small in
      cut_is 24 (n + 2 ^ 172)
      ∙ ap (λ (z : ℕ). closest (n + 2 ^ 172) (2 ^ (z - 24)) * 2 ^ (z - 24)) (size_is (n + 2 ^ 172) 172 l h)
      ∙ ap (λ (z : ℕ). z * U) (closest_more n U U_pos)

  there : HasValue (add binary32 x shift32) false (closest n U + 2 ^ 23) 1
  there =
      let k = closest n U + 2 ^ 23 in
      let l : closest n U + 2 ^ 23 ≤ 2 ^ 24 = with_shift (closest n U) (at_most_lem closest even_way_lem n small) in
      rescale (add binary32 x shift32) false (k * U) U k 1 U_pos (sym (mul-one (k * U)))
      (subst (λ (y : Float). HasValue y false (k * U) U)
      (sym (add_at binary32 x shift32 false false n (2 ^ 172) U U_pos v shift_units ∙ sum_alike binary32 false n (2 ^ 172) U))
      (subst (λ (z : ℕ). HasValue (round binary32 false (n + 2 ^ 172) U) false z U) cut_24
      (round_cut binary32 false (n + 2 ^ 172) U 149 (n + 2 ^ 172) U_pos (le_refl 149) refl
      (subst (λ (z : ℕ). z < 2 ^ 277) (sym cut_24) (room k 149 l (lit≤ tt))))))

  back : sub binary32 (add binary32 x shift32) shift32 ≡ round binary32 false (closest n U) 1
  back =
      let k = closest n U in
      sub_is binary32 (add binary32 x shift32) shift32
      ∙ add_at binary32 (add binary32 x shift32) (neg shift32) false true (k + 2 ^ 23) (2 ^ 23) 1 (lit< tt) there (neg_val shift32 false (2 ^ 23) 1 shift_value)
      ∙ sum_minus (k + 2 ^ 23) (2 ^ 23) 1 (le-add_left (2 ^ 23) k)
      ∙ ap (λ (z : ℕ). round binary32 false z 1) (add-sub_cancel k (2 ^ 23))

  pub even_at : round_even binary32 x ≡ round binary32 false (closest n U) 1
  even_at = whole_at binary32 even_way (round_even binary32) even_way_lem even_goes x false n U U_pos v

pub even_size_is : (x : Float) → Small x → sub binary32 (add binary32 x shift32) shift32 ≡ round_even binary32 x
even_size_is x s = back x s.units s.value s.bound ∙ sym (even_at x s.units s.value s.bound)
