-- The part of a step that is left after the whole ones is at most 1, and no part of a step turns by more than the step. Assumes nothing.
use mathlib.Core.Path.{◌≡◌, refl, sym, ap, ◌∙◌, subst}
use mathlib.Core.Bool.{Bool, true, false, cond}
use Prim.Native.Nat.{ℕ, ◌+◌, ◌-◌, ◌*◌, ◌/◌, ◌%◌, ◌^◌, ◌≤◌, ◌<◌}
use native.Mathlib.Nat.{le_trans, lt_of_le_of_lt, mul-one, mul-lt-mul_of_pos_right, le_of_mul-le-mul_right, div-add-mod', mod-lt}
use native.Mathlib.Omega.{arith}
use borrow.Author.Tests.{le-ltb}
use lib.Dec.{lit≤, lit<}
use lib.IntN.{pos}
use lib.Pow.{pow_pos}
use lib.Ieee.{Float, nan, inf, fin, up, down, binary32, round, neg, sum, of_int, of_bits}
use lib.Ieee.Exact.{HasValue, round_exact}
use lib.Ieee.Fits.{down_pos}
use Rattle.ieee.specs.Literal.{one32, number_limit}
use Rattle.ieee.specs.Operators.{◌⊖◌}
use Rattle.ieee.specs.Sign.{abs}
use Rattle.ieee.specs.Limit.{within, Bounded}
use Rattle.ieee.proofs.Operations.{sub_is, add_at}
use Rattle.ieee.proofs.Value.{rescale, neg_val}
use Rattle.ieee.proofs.Bounds.{within→bounded, bounded→within, mul_bounded, round_bounded, reach_whole, reach_pow}
use Rattle.count.specs.Count.{count_down}
use Rattle.repeater.specs.Repeater.{direction, step_part}

-- ---- what is left
whole_value : (n c : ℕ) → n ≤ 2 ^ 20 → HasValue (of_int binary32 (pos n)) false (n * c) c
unfolding of_int
whole_value n c l =
    rescale (round binary32 false n 1) false n 1 (n * c) c (lit< tt) (mul-one (n * c))
    (round_exact binary32 false n 1 n 149 (lit< tt) (lt_of_le_of_lt l (lit< tt))
    (mul-lt-mul_of_pos_right {n = 2 ^ 128} (lt_of_le_of_lt l (lit< tt)) (pow_pos 149)) (sym (mul-one (n * 2 ^ 149))))

sum_minus : (a b c : ℕ) → b ≤ a → sum binary32 false a true b c ≡ round binary32 false (a - b) c
unfolding sum
sum_minus a b c h = ap (λ (t : Bool). cond t (round binary32 true (b - a) c) (round binary32 false (a - b) c)) (le-ltb a b h)

no_more : (p r a : ℕ) → p + r ≡ a → p ≤ a
no_more p r a h = omega arith

left_over : (p r a c : ℕ) → p + r ≡ a → r < c → a - p ≤ 1 * c
left_over p r a c h l = omega arith

pub part_bounded : (x : Float) → Bounded (2 ^ 20) x → Bounded 1 (abs x ⊖ of_int binary32 (pos (count_down (abs x))))
part_bounded nan X = absurd X
part_bounded (inf s) X = absurd X
part_bounded (fin s m e) X =
    let a = m * up e in
    let n = a / down e in
    let y = of_int binary32 (pos n) in
    let low : n * down e ≤ a = no_more (n * down e) (a % down e) a (div-add-mod' a (down e)) in
    let few : n ≤ 2 ^ 20 = le_of_mul-le-mul_right (le_trans low X) (down_pos e) in
    subst (Bounded 1)
    (sym
    (sub_is binary32 (fin false m e) y
    ∙ add_at binary32 (fin false m e) (neg y) false true a (n * down e) (down e) (down_pos e) (refl, refl)
    (neg_val y false (n * down e) (down e) (whole_value n (down e) few))
    ∙ sum_minus a (n * down e) (down e) low))
    (round_bounded binary32 false (a - n * down e) (down e) 1 1 (down_pos e)
    (left_over (n * down e) (a % down e) a (down e) (div-add-mod' a (down e)) (mod-lt a (down_pos e))) (reach_whole binary32 1 (lit< tt)))

-- ---- an angle
limit_value : HasValue number_limit false (2 ^ 20) 1
unfolding of_bits
limit_value = (refl, refl)

direction_bounded : (inverse : Bool) → Bounded 1 (direction inverse)
unfolding neg of_bits
direction_bounded true = lit≤ tt
direction_bounded false = lit≤ tt

pub turn_inside : (rotation percent : Float) (inverse : Bool) → within number_limit rotation ≡ true → Bounded 1 percent
    → within number_limit (step_part rotation percent inverse) ≡ true
unfolding step_part
turn_inside rotation percent inverse h P =
    let reach = reach_pow binary32 (2 ^ 20 * 1) 20 (lit≤ tt) (lit≤ tt) in
    bounded→within (2 ^ 20) number_limit (step_part rotation percent inverse) limit_value
    (mul_bounded binary32 (2 ^ 20) 1 (2 ^ 20) _ percent reach
    (mul_bounded binary32 (2 ^ 20) 1 (2 ^ 20) rotation (direction inverse) reach (within→bounded (2 ^ 20) number_limit rotation limit_value h)
    (direction_bounded inverse)) P)

one_bounded : Bounded 1 one32
unfolding of_bits
one_bounded = lit≤ tt

pub whole_turn_inside : (rotation : Float) (inverse : Bool) → within number_limit rotation ≡ true → within number_limit (step_part rotation one32 inverse) ≡ true
whole_turn_inside rotation inverse h = turn_inside rotation one32 inverse h one_bounded
