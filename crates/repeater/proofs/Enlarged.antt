-- A repeater that scales by 100 per cent and does not rotate, with its position and its anchor on the grid of 1 / 1024, enlarged by a power of two:
-- the matrix of each copy is a translation, and its shift is multiplied, however many steps it takes. Opacities and the number of copies stay.
-- Assumes nothing.
use mathlib.Core.Path.{◌≡◌, refl, sym, ap, ◌∙◌, subst}
use mathlib.Core.Bool.{Bool, true, false, cond, false≢true}
use Prim.Native.Nat.{ℕ, zero, suc, ◌+◌, ◌*◌, ◌^◌, ◌≤◌, ◌<◌}
use native.Mathlib.Nat.{le_of_lt, add-zero, zero-mul, one-mul, mul_comm, mul_assoc, mul-pos}
use native.Mathlib.Omega.{arith}
use borrow.Author.Tests.{ltb-true}
use lib.Dec.{T, lit≤, lit<}
use lib.IntN.{ℤ}
use lib.Pow.{pow_pos}
use lib.Ieee.{Float, nan, inf, fin, up, down, unlike, binary32, fits, span, climb, size, odd, units, round}
use lib.Ieee.{neg, sum, add, sub, mul, div, lt, eq, is_nan, of_fields, of_bits}
use lib.Ieee.Exact.{HasValue}
use lib.Ieee.Fits.{down_pos}
use lib.Ieee.Scale.{finite}
use Rattle.ieee.specs.Literal.{zero32, one32, hundred32, epsilon32}
use Rattle.ieee.specs.Operators.{◌⊕◌, ◌⊖◌, ◌⊗◌}
use Rattle.ieee.specs.Sign.{is_zero}
use Rattle.ieee.specs.Limit.{Bounded}
use Rattle.ieee.specs.Choice.{max}
use Rattle.ieee.specs.Fused.{fma}
use Rattle.ieee.specs.Grid.{On, Twin}
use Rattle.ieee.proofs.Operations.{mul_swap, fma_at}
use Rattle.ieee.proofs.Zeros.{level_zero, mul_zero_right}
use Rattle.ieee.proofs.Value.{value_finite, rescale}
use Rattle.ieee.proofs.Comparison.{lt_at}
use Rattle.ieee.proofs.Grid.{big_on}
use Rattle.ieee.proofs.Twins.{zero_twin, twin_weaken, twin_neg, twin_add, twin_add_absorb_right, twin_mul, twin_mul_right}
use Rattle.angle.specs.Sixteenths.{turn_of}
use Rattle.angle.proofs.Reduced.{zero_turn}
use Rattle.matrix.specs.declared.Matrix.{Matrix}
use Rattle.matrix.proofs.Rotation.{rotate_none}
use Rattle.repeater.proofs.Ways.{step_matrix_is}
use Rattle.repeater.specs.declared.RepeaterStyle.{RepeaterStyle}
use Rattle.matrix.specs.Matrix.{identity, concat, pre_translate, pre_scale}
use Rattle.repeater.specs.Repeater.{least_scale}
use Rattle.repeater.specs.Repeater.{step_scale, direction, step_part, step_matrix, step_transform}

-- ---- the two repeaters. What no definition here reads, the mode, is left free
pub record RepeaterTwin (k : ℕ) (r r' : RepeaterStyle) : Type 0 where
  pub copies_same : r'.copies ≡ r.copies
  pub offset_same : r'.offset ≡ r.offset
  pub start_same : r'.start_opacity ≡ r.start_opacity
  pub end_same : r'.end_opacity ≡ r.end_opacity
  pub wide_scale : r.scale.x ≡ hundred32
  pub high_scale : r.scale.y ≡ hundred32
  pub wide_scale' : r'.scale.x ≡ hundred32
  pub high_scale' : r'.scale.y ≡ hundred32
  pub still : eq r.rotation zero32 ≡ true
  pub still' : eq r'.rotation zero32 ≡ true
  pub x_twin : Twin k 10 13 r.position.x r'.position.x
  pub y_twin : Twin k 10 13 r.position.y r'.position.y
  pub ax_twin : Twin k 10 13 r.anchor.x r'.anchor.x
  pub ay_twin : Twin k 10 13 r.anchor.y r'.anchor.y

abbrev pub translation : Float → Float → Matrix
translation e g = record { a = one32; b = zero32; c = zero32; d = one32; e = e; f = g }

-- two translations, the second's shift the multiple of the first's
pub record Moved (k q b : ℕ) (m m' : Matrix) : Type 0 where
  pub shape : m ≡ translation m.e m.f
  pub shape' : m' ≡ translation m'.e m'.f
  pub e_twin : Twin k q b m.e m'.e
  pub f_twin : Twin k q b m.f m'.f

pub moved : {k q b : ℕ} {m m' : Matrix} (e e' g g' : Float) → m ≡ translation e g → m' ≡ translation e' g' → Twin k q b e e' → Twin k q b g g' → Moved k q b m m'
moved {k} {q} {b} {m} {m'} e e' g g' p p' E G =
    subst (λ (z : Matrix). Moved k q b z m') (sym p)
    (subst (λ (z : Matrix). Moved k q b (translation e g) z) (sym p') (record { shape = refl; shape' = refl; e_twin = E; f_twin = G }))

-- ---- 0 and 1
zero_value : HasValue zero32 false 0 1
unfolding of_bits
zero_value = (refl, refl)

one_value : HasValue one32 false (2 ^ 46) (1 * 2 ^ 46)
unfolding of_bits
one_value = (refl, refl)

pub zero_weight : On 0 0 zero32
unfolding of_bits
zero_weight = record { sign = false; count = 0; value = (refl, refl); bound = lit≤ tt }

pub one_weight : On 0 0 one32
unfolding of_bits
one_weight = record { sign = false; count = 1; value = (refl, refl); bound = lit≤ tt }

direction_weight : (inverse : Bool) → On 0 0 (direction inverse)
unfolding neg of_bits
direction_weight true = record { sign = true; count = 1; value = (refl, refl); bound = lit≤ tt }
direction_weight false = one_weight

one_one : one32 ⊗ one32 ≡ one32
unfolding span climb size odd units round mul of_fields of_bits
one_one = refl

zero_one : zero32 ⊗ one32 ≡ zero32
unfolding span climb size odd units round mul of_fields of_bits
zero_one = refl

product_one : one32 ⊗ one32 ⊕ zero32 ⊗ zero32 ≡ one32
unfolding span climb size odd units round sum add mul of_fields of_bits
product_one = refl

product_zero : zero32 ⊗ one32 ⊕ one32 ⊗ zero32 ≡ zero32
unfolding span climb size odd units round sum add mul of_fields of_bits
product_zero = refl

product_zero' : one32 ⊗ zero32 ⊕ zero32 ⊗ one32 ≡ zero32
unfolding span climb size odd units round sum add mul of_fields of_bits
product_zero' = refl

product_one' : zero32 ⊗ zero32 ⊕ one32 ⊗ one32 ≡ one32
unfolding span climb size odd units round sum add mul of_fields of_bits
product_one' = refl

-- ---- a zero times a finite number
zero_times : (x y : Float) → finite y ≡ true → is_zero x ≡ true → is_zero (x ⊗ y) ≡ true
zero_times x y f h = ap is_zero (mul_swap binary32 x y) ∙ mul_zero_right binary32 y x f h

direction_finite : (inverse : Bool) → finite (direction inverse) ≡ true
direction_finite inverse = let W = direction_weight inverse in value_finite (direction inverse) W.sign W.count (2 ^ 0) W.value

-- ---- a scale of 100 per cent, in part or inverse, is 1
no_change : div binary32 hundred32 hundred32 ⊖ one32 ≡ zero32
unfolding span climb size odd units round neg sum add sub div of_fields of_bits
no_change = refl

one_back : div binary32 one32 (max one32 least_scale) ≡ one32
unfolding span climb size odd units round div lt is_nan max of_fields of_bits
one_back = refl

sum_one : (t : Bool) → sum binary32 (unlike false t) 0 false (2 ^ 46) (1 * 2 ^ 46) ≡ one32
unfolding span climb size odd units round sum of_fields of_bits
sum_one true = refl
sum_one false = refl

part_one : (percent : Float) → On 46 0 percent → fma binary32 zero32 percent one32 ≡ one32
part_one percent P =
    fma_at binary32 zero32 percent one32 false P.sign false 0 1 P.count (2 ^ 46) (2 ^ 46) (lit< tt) (pow_pos 46) zero_value P.value one_value
    ∙ ap (λ (n : ℕ). sum binary32 (unlike false P.sign) n false (2 ^ 46) (1 * 2 ^ 46)) (zero-mul P.count)
    ∙ sum_one P.sign

scale_one : (scale percent : Float) (inverse : Bool) → scale ≡ hundred32 → On 46 0 percent → step_scale scale percent inverse ≡ one32
unfolding step_scale
scale_one scale percent inverse e P =
    (λ i. cond inverse (div binary32 one32 (max (s i) least_scale)) (s i)) ∙ go inverse
  where
    s : fma binary32 (div binary32 scale hundred32 ⊖ one32) percent one32 ≡ one32
    s = ap (λ (z : Float). fma binary32 (div binary32 z hundred32 ⊖ one32) percent one32) e ∙ ap (λ (z : Float). fma binary32 z percent one32) no_change ∙ part_one percent P

    go : (b : Bool) → cond b (div binary32 one32 (max one32 least_scale)) one32 ≡ one32
    go true = one_back
    go false = refl

-- ---- the matrices
-- what a matrix with the first row u, v makes of x and y
abbrev pub along : Float → Float → Float → Float → Float → Float
along u v x y z = u ⊗ x ⊕ v ⊗ y ⊕ z

step_is : (x y ax ay degrees : Float) → turn_of degrees ≡ 0
    → step_matrix x y ax ay degrees one32 one32
    ≡ translation (along one32 zero32 (neg ax) (neg ay) (along one32 zero32 ax ay (along one32 zero32 x y zero32)))
    (along zero32 one32 (neg ax) (neg ay) (along zero32 one32 ax ay (along zero32 one32 x y zero32)))
unfolding pre_translate pre_scale
step_is x y ax ay degrees still =
    step_matrix_is x y ax ay degrees one32 one32
    ∙ ap (λ (z : Matrix). pre_translate (pre_scale z one32 one32) (neg ax) (neg ay)) (rotate_none (pre_translate (pre_translate identity x y) ax ay) degrees still)
    ∙ (λ i. record {
      a = one_one i;
      b = zero_one i;
      c = zero_one i;
      d = one_one i;
      e = along (one_one i) (zero_one i) (neg ax) (neg ay) (along one32 zero32 ax ay (along one32 zero32 x y zero32));
      f = along (zero_one i) (one_one i) (neg ax) (neg ay) (along zero32 one32 ax ay (along zero32 one32 x y zero32));
    })

-- a part of no rotation is none
part_still : (rotation percent : Float) (inverse : Bool) → eq rotation zero32 ≡ true → On 46 0 percent → turn_of (step_part rotation percent inverse) ≡ 0
unfolding step_part
part_still rotation percent inverse h P =
    zero_turn (step_part rotation percent inverse)
    (zero_times (rotation ⊗ direction inverse) percent (value_finite percent P.sign P.count (2 ^ 46) P.value)
    (zero_times rotation (direction inverse) (direction_finite inverse) (level_zero rotation h)))

pub concat_is : (e g x y : Float) → concat (translation e g) (translation x y) ≡ translation (along one32 zero32 x y e) (along zero32 one32 x y g)
unfolding concat
concat_is e g x y = λ i. record { a = product_one i; b = product_zero i; c = product_zero' i; d = product_one' i; e = along one32 zero32 x y e; f = along zero32 one32 x y g }

module _ {k : ℕ} (K : k ≤ 6) where
  -- ---- sums
  weigh : {q b : ℕ} {w x x' : Float} → q ≤ 149 → b + k ≤ 127 → On 0 0 w → Twin k q b x x' → Twin k q b (w ⊗ x) (w ⊗ x')
  weigh {q} {b} {w} {x} {x'} Q B W X =
      subst (λ (z : ℕ). Twin k z b (w ⊗ x) (w ⊗ x')) (add-zero q)
      (subst (λ (z : ℕ). Twin k (q + 0) z (w ⊗ x) (w ⊗ x')) (add-zero b) (twin_mul_right binary32 k q b 0 0 x x' w (omega arith) (omega arith) X W))

  -- a running sum: z is at most 2 ^ 43, and stays so
  pub absorb : {x x' z z' : Float} → Twin k 56 18 x x' → Twin k 56 43 z z' → Twin k 56 43 (x ⊕ z) (x' ⊕ z')
  absorb {x} {x'} {z} {z'} X Z = twin_add_absorb_right binary32 k 56 43 18 x x' z z' (lit≤ tt) (omega arith) (lit< tt) X Z

  module _ {u v : Float} (U : On 0 0 u) (W : On 0 0 v) where
    pub pair_twin : {b : ℕ} {x x' y y' : Float} → suc b + k ≤ 127 → Twin k 56 b x x' → Twin k 56 b y y' → Twin k 56 (suc b) (u ⊗ x ⊕ v ⊗ y) (u ⊗ x' ⊕ v ⊗ y')
    pair_twin {b} {x} {x'} {y} {y'} B X Y =
        twin_add binary32 k 56 b (u ⊗ x) (u ⊗ x') (v ⊗ y) (v ⊗ y') (lit≤ tt) B (weigh (lit≤ tt) (omega arith) U X) (weigh (lit≤ tt) (omega arith) W Y)

    along_twin : {b : ℕ} {x x' y y' z z' : Float} → suc (suc b) + k ≤ 127 → Twin k 56 b x x' → Twin k 56 b y y' → Twin k 56 (suc b) z z'
        → Twin k 56 (suc (suc b)) (along u v x y z) (along u v x' y' z')
    along_twin {b} {x} {x'} {y} {y'} {z} {z'} B X Y Z =
        twin_add binary32 k 56 (suc b) (u ⊗ x ⊕ v ⊗ y) (u ⊗ x' ⊕ v ⊗ y') z z' (lit≤ tt) B (pair_twin (omega arith) X Y) Z

    -- the shift of a step: x and y are at most 2 ^ 13, and it is at most 2 ^ 17
    shift_twin : {x x' y y' ax ax' ay ay' : Float} → Twin k 56 13 x x' → Twin k 56 13 y y' → Twin k 10 13 ax ax' → Twin k 10 13 ay ay'
        → Twin k 56 17 (along u v (neg ax) (neg ay) (along u v ax ay (along u v x y zero32))) (along u v (neg ax') (neg ay') (along u v ax' ay' (along u v x' y' zero32)))
    shift_twin {x} {x'} {y} {y'} {ax} {ax'} {ay} {ay'} X Y A B =
        along_twin (omega arith)
        (twin_weaken k 10 13 56 15 (neg ax) (neg ax') (lit≤ tt) (lit≤ tt) (twin_neg k 10 13 ax ax' A))
        (twin_weaken k 10 13 56 15 (neg ay) (neg ay') (lit≤ tt) (lit≤ tt) (twin_neg k 10 13 ay ay' B))
        (along_twin (omega arith) (twin_weaken k 10 13 56 14 ax ax' (lit≤ tt) (lit≤ tt) A) (twin_weaken k 10 13 56 14 ay ay' (lit≤ tt) (lit≤ tt) B) (along_twin (omega arith) X Y (zero_twin k 56 14)))

  -- ---- a step
  part_twin : {p p' percent : Float} (inverse : Bool) → On 46 0 percent → Twin k 10 13 p p'
      → Twin k 56 13 (step_part p percent inverse) (step_part p' percent inverse)
  unfolding step_part
  part_twin {p} {p'} {percent} inverse P X =
      twin_mul binary32 k 10 13 46 0 (p ⊗ direction inverse) (p' ⊗ direction inverse) percent (lit≤ tt) (omega arith)
      (twin_mul binary32 k 10 13 0 0 p p' (direction inverse) (lit≤ tt) (omega arith) X (direction_weight inverse)) P

  module _ {r r' : RepeaterStyle} (R : RepeaterTwin k r r') where
    pub step_moved : (percent : Float) (inverse : Bool) → On 46 0 percent → Moved k 56 17 (step_transform r percent inverse) (step_transform r' percent inverse)
    unfolding step_transform
    step_moved percent inverse P =
        let x = step_part r.position.x percent inverse in
        let y = step_part r.position.y percent inverse in
        let x' = step_part r'.position.x percent inverse in
        let y' = step_part r'.position.y percent inverse in
        let t = step_part r.rotation percent inverse in
        let t' = step_part r'.rotation percent inverse in
        let X = part_twin inverse P R.x_twin in
        let Y = part_twin inverse P R.y_twin in
        moved
        (along one32 zero32 (neg r.anchor.x) (neg r.anchor.y) (along one32 zero32 r.anchor.x r.anchor.y (along one32 zero32 x y zero32)))
        (along one32 zero32 (neg r'.anchor.x) (neg r'.anchor.y) (along one32 zero32 r'.anchor.x r'.anchor.y (along one32 zero32 x' y' zero32)))
        (along zero32 one32 (neg r.anchor.x) (neg r.anchor.y) (along zero32 one32 r.anchor.x r.anchor.y (along zero32 one32 x y zero32)))
        (along zero32 one32 (neg r'.anchor.x) (neg r'.anchor.y) (along zero32 one32 r'.anchor.x r'.anchor.y (along zero32 one32 x' y' zero32)))
        ((λ i. step_matrix x y r.anchor.x r.anchor.y t
        (scale_one r.scale.x percent inverse R.wide_scale P i) (scale_one r.scale.y percent inverse R.high_scale P i))
        ∙ step_is x y r.anchor.x r.anchor.y t (part_still r.rotation percent inverse R.still P))
        ((λ i. step_matrix x' y' r'.anchor.x r'.anchor.y t'
        (scale_one r'.scale.x percent inverse R.wide_scale' P i) (scale_one r'.scale.y percent inverse R.high_scale' P i))
        ∙ step_is x' y' r'.anchor.x r'.anchor.y t' (part_still r'.rotation percent inverse R.still' P))
        (shift_twin one_weight zero_weight X Y R.ax_twin R.ay_twin)
        (shift_twin zero_weight one_weight X Y R.ax_twin R.ay_twin)

-- ---- the part of a step: at most 1, and on a grid that every f32 above 2 ^ -23 is on
epsilon_value : HasValue epsilon32 false 1 (2 ^ 23)
unfolding of_bits
epsilon_value = (refl, refl)

above : (m : ℕ) (e : ℤ) → lt epsilon32 (fin false m e) ≡ true → down e < m * up e * 2 ^ 23
above m e h =
    let c = 2 ^ 23 * down e in
    ltb-true (down e) (m * up e * 2 ^ 23)
    (sym
    (lt_at epsilon32 (fin false m e) false false (down e) (m * up e * 2 ^ 23) c (mul-pos (pow_pos 23) (down_pos e))
    (rescale epsilon32 false 1 (2 ^ 23) (down e) c (pow_pos 23) (mul_comm (down e) (2 ^ 23) ∙ sym (one-mul c)) epsilon_value)
    (refl, sym (mul_assoc (m * up e) (2 ^ 23) (down e))))
    ∙ h)

-- an f32 above 2 ^ -23 has its last digit at 2 ^ -46 or above
pub part_on : (y : Float) → T (fits binary32 y) → Bounded 1 y → lt epsilon32 y ≡ true → On 46 0 y
part_on nan t Y h = absurd (false≢true (unfold lt of_bits in h))
part_on (inf s) t Y h = absurd Y
part_on (fin true m e) t Y h = absurd (false≢true (unfold lt of_bits in h))
part_on (fin false zero e) t Y h = absurd (none (down e) (0 * up e * 2 ^ 23) (above 0 e h) (ap (λ (n : ℕ). n * 2 ^ 23) (zero-mul (up e)) ∙ zero-mul (2 ^ 23)))
  where
    none : (a b : ℕ) → a < b → b ≡ 0 → ⊥
    none a b l z = omega arith
part_on (fin false (suc m) e) t Y h = big_on binary32 false m e 23 0 t (le_of_lt (above (suc m) e h)) Y
