-- The operations are monotone for `le`: sums and differences, products and quotients by a number above zero; and a sum with a number that is not
-- negative is no smaller. Assumes nothing.
use mathlib.Core.Path.{◌≡◌, refl, sym, ap, ◌∙◌, subst}
use Prim.Native.Nat.{ℕ, ◌+◌, ◌*◌, ◌≤◌, ◌<◌}
use native.Mathlib.Nat.{mul-one, mul_comm, mul_assoc, mul_left_comm, mul-mul-mul_comm, mul-pos}
use native.Mathlib.Omega.{arith}
use mathlib.Core.Bool.{Bool, true, false, not, cond}
use lib.IntN.{ℤ, pos}
use lib.Dec.{T, eqb, ltb, ltb→lt, not_T, eqb→eq}
use lib.Count.{count_trailing_zeros}
use lib.Ieee.{Float, nan, inf, fin, Format, up, down, unlike, round, neg, sum, add, sub, mul, div, le, fits, of_bits, of_fields, odd}
use lib.Ieee.Fits.{up_pos, down_pos}
use lib.Ieee.Bits.{cond_no}
use lib.Ieee.Scale.{finite}
use lib.Ieee.Positive.{positive}
use Rattle.ieee.specs.Literal.{zero32}
use Rattle.ieee.proofs.Round.{round_own}
use Rattle.ieee.proofs.Operations.{unlike_false, sub_is}
use Rattle.ieee.proofs.Signed.{P, N, Le, Le-mul}
use Rattle.ieee.proofs.Sum.{sum_of, total_mul}
use Rattle.ieee.proofs.Order.{le→Le, le_number_r, le_trans, round_le, extend}

pub zero_is : zero32 ≡ fin false 0 (pos 0)
unfolding of_bits of_fields odd count_trailing_zeros
zero_is = refl

-- ---- sums: in the first number
add_is : (f : Format) (s : Bool) (m : ℕ) (e : ℤ) (u : Bool) (k : ℕ) (g : ℤ) → add f (fin s m e) (fin u k g) ≡ sum f s (m * up e * down g) u (k * up g * down e) (down e * down g)
unfolding add
add_is f s m e u k g = refl

add_fin : (f : Format) (u : Bool) (k : ℕ) (g : ℤ) (s : Bool) (m : ℕ) (e : ℤ) (t : Bool) (n : ℕ) (d : ℤ) → T (le (fin s m e) (fin t n d)) → T (le (add f (fin s m e) (fin u k g)) (add f (fin t n d) (fin u k g)))
add_fin f u k g s m e t n d h =
    let A = m * up e in
    let B = n * up d in
    let Z = k * up g in
    let x = sum_of s (A * down g) u (Z * down e) (down e * down g) in
    let y = sum_of t (B * down g) u (Z * down d) (down d * down g) in
    let K = down d * down g in
    let L = down e * down g in
    let w = down g * down g in
    let X = x.size * K in
    let Y = y.size * L in
    let ea : A * down g * K ≡ A * down d * w = simp (mul_assoc, mul_comm, mul_left_comm) in
    let eb : B * down g * L ≡ B * down e * w = simp (mul_assoc, mul_comm, mul_left_comm) in
    let ez : Z * down e * K ≡ Z * down d * L = simp (mul_assoc, mul_comm, mul_left_comm) in
    let tx = total_mul x.sign x.size s (A * down g) u (Z * down e) K x.total in
    let ty = total_mul y.sign y.size t (B * down g) u (Z * down d) L y.total in
    let tx' : P x.sign X + (N s (A * down d * w) + N u (Z * down d * L)) ≡ N x.sign X + (P s (A * down d * w) + P u (Z * down d * L)) =
    sym (λ i. P x.sign X + (N s (ea i) + N u (ez i))) ∙ tx ∙ (λ i. N x.sign X + (P s (ea i) + P u (ez i))) in
    let ty' : P y.sign Y + (N t (B * down e * w) + N u (Z * down d * L)) ≡ N y.sign Y + (P t (B * down e * w) + P u (Z * down d * L)) =
    sym (λ i. P y.sign Y + (N t (eb i) + N u (Z * down d * L))) ∙ ty ∙ (λ i. N y.sign Y + (P t (eb i) + P u (Z * down d * L))) in
    let l : Le s (A * down d * w) t (B * down e * w) = Le-mul s (A * down d) t (B * down e) w (le→Le s m e t n d h) in
    let r : Le x.sign X y.sign Y =
    go (P x.sign X) (N x.sign X) (P y.sign Y) (N y.sign Y) (P s (A * down d * w)) (N s (A * down d * w)) (P t (B * down e * w)) (N t (B * down e * w)) (P u (Z * down d * L)) (N u (Z * down d * L)) tx' ty' l in
    subst (λ (v : Float). T (le v (add f (fin t n d) (fin u k g)))) (sym (add_is f s m e u k g ∙ x.is f))
    (subst (λ (v : Float). T (le (round f x.sign x.size (down e * down g)) v)) (sym (add_is f t n d u k g ∙ y.is f))
    (round_le f x.sign x.size (down e * down g) y.sign y.size (down d * down g) (mul-pos (down_pos e) (down_pos g)) (mul-pos (down_pos d) (down_pos g)) r))
  where
    go : (px nx py ny ps ns pt nt pu nu : ℕ) → px + (ns + nu) ≡ nx + (ps + pu) → py + (nt + nu) ≡ ny + (pt + pu) → ps + nt ≤ pt + ns → px + ny ≤ py + nx
    go px nx py ny ps ns pt nt pu nu a b c = omega arith

pub add_le : (f : Format) (z x y : Float) → T (finite z) → T (le x y) → T (le (add f x z) (add f y z))
add_le f nan x y F h = absurd F
add_le f (inf s) x y F h = absurd F
add_le f (fin u k g) x y F h = extend (λ (v : Float). add f v (fin u k g)) keeps (add_fin f u k g) x y h
  where
    keeps : (s : Bool) → add f (inf s) (fin u k g) ≡ inf s
    keeps s = unfold add in refl

-- in the second number
swap_fin : (f : Format) (s : Bool) (m : ℕ) (e : ℤ) (u : Bool) (k : ℕ) (g : ℤ) → T (le (add f (fin s m e) (fin u k g)) (add f (fin u k g) (fin s m e)))
swap_fin f s m e u k g =
    let a = m * up e * down g in
    let b = k * up g * down e in
    let c = down e * down g in
    let d = down g * down e in
    let x = sum_of s a u b c in
    let y = sum_of u b s a d in
    let h : Le x.sign x.size y.sign y.size = go (P x.sign x.size) (N x.sign x.size) (P y.sign y.size) (N y.sign y.size) (P s a) (N s a) (P u b) (N u b) x.total y.total in
    let w : Le x.sign (x.size * d) y.sign (y.size * c) = subst (λ (z : ℕ). Le x.sign (x.size * d) y.sign (y.size * z)) (mul_comm (down g) (down e)) (Le-mul x.sign x.size y.sign y.size d h) in
    subst (λ (v : Float). T (le v (add f (fin u k g) (fin s m e)))) (sym (add_is f s m e u k g ∙ x.is f))
    (subst (λ (v : Float). T (le (round f x.sign x.size c) v)) (sym (add_is f u k g s m e ∙ y.is f))
    (round_le f x.sign x.size c y.sign y.size d (mul-pos (down_pos e) (down_pos g)) (mul-pos (down_pos g) (down_pos e)) w))
  where
    go : (px nx py ny ps ns pu nu : ℕ) → px + (ns + nu) ≡ nx + (ps + pu) → py + (nu + ns) ≡ ny + (pu + ps) → px + ny ≤ py + nx
    go px nx py ny ps ns pu nu a b = omega arith

add_swap : (f : Format) (x y : Float) → T (finite x) → T (finite y) → T (le (add f x y) (add f y x))
add_swap f nan y F G = absurd F
add_swap f (inf s) y F G = absurd F
add_swap f (fin s m e) nan F G = absurd G
add_swap f (fin s m e) (inf t) F G = absurd G
add_swap f (fin s m e) (fin t n d) F G = swap_fin f s m e t n d

pub add_le_right : (f : Format) (x y z : Float) → T (finite x) → T (finite y) → T (finite z) → T (le y z) → T (le (add f x y) (add f x z))
add_le_right f x y z X Y Z h =
    le_trans (add f x y) (add f y x) (add f x z) (add_swap f x y X Y)
    (le_trans (add f y x) (add f z x) (add f x z) (add_le f x y z X h) (add_swap f z x Z X))

-- ---- differences: they grow with the first number and fall with the second
neg_finite : (z : Float) → T (finite z) → T (finite (neg z))
unfolding neg
neg_finite nan F = F
neg_finite (inf s) F = F
neg_finite (fin s m e) F = tt

pub sub_le : (f : Format) (z x y : Float) → T (finite z) → T (le x y) → T (le (sub f x z) (sub f y z))
sub_le f z x y F h =
    subst (λ (v : Float). T (le v (sub f y z))) (sym (sub_is f x z))
    (subst (λ (v : Float). T (le (add f x (neg z)) v)) (sym (sub_is f y z)) (add_le f (neg z) x y (neg_finite z F) h))

-- ---- x ≤ x + y for 0 ≤ y
add_ge_fin : (f : Format) (s : Bool) (m : ℕ) (e : ℤ) (u : Bool) (k : ℕ) (g : ℤ) → T (fits f (fin s m e)) → T (le (fin false 0 (pos 0)) (fin u k g)) → T (le (fin s m e) (add f (fin s m e) (fin u k g)))
add_ge_fin f s m e u k g t h =
    let A = m * up e in
    let Z = k * up g in
    let c = down e * down g in
    let x = sum_of s (A * down g) u (Z * down e) c in
    let X = x.size * down e in
    let w = down e * down e in
    let tx = total_mul x.sign x.size s (A * down g) u (Z * down e) (down e) x.total in
    let ea : A * down g * down e ≡ A * c = mul_assoc A (down g) (down e) ∙ ap (λ (z : ℕ). A * z) (mul_comm (down g) (down e)) in
    let l : Le false (0 * up (pos 0) * down g * w) u (Z * 1 * w) = Le-mul false (0 * up (pos 0) * down g) u (Z * 1) w (le→Le false 0 (pos 0) u k g h) in
    let ez : Z * 1 * w ≡ Z * down e * down e = ap (λ (z : ℕ). z * w) (mul-one Z) ∙ sym (mul_assoc Z (down e) (down e)) in
    let l' : 0 * up (pos 0) * down g * w + N u (Z * down e * down e) ≤ P u (Z * down e * down e) + 0 = subst (λ (z : ℕ). 0 * up (pos 0) * down g * w + N u z ≤ P u z + 0) ez l in
    let r : Le s (A * c) x.sign X = subst (λ (z : ℕ). Le s z x.sign X) ea
    (go (P x.sign X) (N x.sign X) (P s (A * down g * down e)) (N s (A * down g * down e)) (P u (Z * down e * down e)) (N u (Z * down e * down e)) (0 * up (pos 0) * down g * w) tx l') in
    subst (λ (v : Float). T (le v (add f (fin s m e) (fin u k g)))) (round_own f (fin s m e) s A (down e) t (down_pos e) (refl, refl))
    (subst (λ (v : Float). T (le (round f s A (down e)) v)) (sym (add_is f s m e u k g ∙ x.is f))
    (round_le f s A (down e) x.sign x.size c (down_pos e) (mul-pos (down_pos e) (down_pos g)) r))
  where
    go : (px nx ps ns pu nu o : ℕ) → px + (ns + nu) ≡ nx + (ps + pu) → o + nu ≤ pu + 0 → ps + nx ≤ px + ns
    go px nx ps ns pu nu o a b = omega arith

pub add_ge : (f : Format) (x y : Float) → T (fits f x) → T (finite x) → T (le zero32 y) → T (le x (add f x y))
add_ge f x y t F h = go x y t F (subst (λ (v : Float). T (le v y)) zero_is h)
  where
    go : (x y : Float) → T (fits f x) → T (finite x) → T (le (fin false 0 (pos 0)) y) → T (le x (add f x y))
    go nan y t F h = absurd F
    go (inf s) y t F h = absurd F
    go (fin s m e) nan t F h = absurd (le_number_r (fin false 0 (pos 0)) nan h)
    go (fin s m e) (inf true) t F h = absurd (unfold le in h)
    go (fin s m e) (inf false) t F h = unfold add le in tt
    go (fin s m e) (fin u k g) t F h = add_ge_fin f s m e u k g t h

-- ---- products by a number above zero, infinities included
mul_is : (f : Format) (s : Bool) (m : ℕ) (e : ℤ) (t : Bool) (n : ℕ) (d : ℤ) → mul f (fin s m e) (fin t n d) ≡ round f (unlike s t) (m * up e * (n * up d)) (down e * down d)
unfolding mul
mul_is f s m e t n d = refl

mul_plus : (f : Format) (s : Bool) (m : ℕ) (e : ℤ) (k : ℕ) (g : ℤ) → mul f (fin s m e) (fin false k g) ≡ round f s (m * up e * (k * up g)) (down e * down g)
mul_plus f s m e k g = mul_is f s m e false k g ∙ ap (λ (b : Bool). round f b (m * up e * (k * up g)) (down e * down g)) (unlike_false s)

mul_fin : (f : Format) (k : ℕ) (g : ℤ) (s : Bool) (m : ℕ) (e : ℤ) (t : Bool) (n : ℕ) (d : ℤ) → T (le (fin s m e) (fin t n d)) → T (le (mul f (fin s m e) (fin false k g)) (mul f (fin t n d) (fin false k g)))
mul_fin f k g s m e t n d h =
    let A = m * up e in
    let B = n * up d in
    let Z = k * up g in
    let ea : A * down d * (Z * down g) ≡ A * Z * (down d * down g) = mul-mul-mul_comm A (down d) Z (down g) in
    let eb : B * down e * (Z * down g) ≡ B * Z * (down e * down g) = mul-mul-mul_comm B (down e) Z (down g) in
    let l = Le-mul s (A * down d) t (B * down e) (Z * down g) (le→Le s m e t n d h) in
    subst (λ (v : Float). T (le v (mul f (fin t n d) (fin false k g)))) (sym (mul_plus f s m e k g))
    (subst (λ (v : Float). T (le (round f s (A * Z) (down e * down g)) v)) (sym (mul_plus f t n d k g))
    (round_le f s (A * Z) (down e * down g) t (B * Z) (down d * down g) (mul-pos (down_pos e) (down_pos g)) (mul-pos (down_pos d) (down_pos g))
    (subst (λ (v : ℕ). Le s (A * Z * (down d * down g)) t v) eb (subst (λ (v : ℕ). Le s v t (B * down e * (Z * down g))) ea l))))

above : (k : ℕ) → T (ltb 0 k) → T (not (eqb k 0))
above k h = not_T (eqb k 0) (λ t. clash (ltb→lt 0 k h) (eqb→eq k 0 t))
  where
    clash : 0 < k → k ≡ 0 → ⊥
    clash h e = omega arith

pub mul_le : (f : Format) (z x y : Float) → T (positive z) → T (le x y) → T (le (mul f x z) (mul f y z))
mul_le f nan x y p h = absurd p
mul_le f (inf s) x y p h = absurd p
mul_le f (fin true k g) x y p h = absurd p
mul_le f (fin false k g) x y p h = extend (λ (v : Float). mul f v (fin false k g)) keeps (mul_fin f k g) x y h
  where
    opened : (s : Bool) → mul f (inf s) (fin false k g) ≡ cond (eqb k 0) nan (inf (unlike s false))
    opened s = unfold mul in refl

    keeps : (s : Bool) → mul f (inf s) (fin false k g) ≡ inf s
    keeps s = opened s ∙ cond_no (eqb k 0) nan (inf (unlike s false)) (above k p) ∙ ap inf (unlike_false s)

-- ---- quotients by a number above zero
div_is : (f : Format) (s : Bool) (m : ℕ) (e : ℤ) (k : ℕ) (g : ℤ) → T (ltb 0 k) → div f (fin s m e) (fin false k g) ≡ round f s (m * up e * down g) (k * up g * down e)
unfolding div
div_is f s m e k g h =
    cond_no (eqb k 0) (cond (eqb m 0) nan (inf (unlike s false))) (round f (unlike s false) (m * up e * down g) (k * up g * down e)) (above k h)
    ∙ ap (λ (b : Bool). round f b (m * up e * down g) (k * up g * down e)) (unlike_false s)

div_fin : (f : Format) (k : ℕ) (g : ℤ) → T (ltb 0 k) → (s : Bool) (m : ℕ) (e : ℤ) (t : Bool) (n : ℕ) (d : ℤ) → T (le (fin s m e) (fin t n d)) → T (le (div f (fin s m e) (fin false k g)) (div f (fin t n d) (fin false k g)))
div_fin f k g p s m e t n d h =
    let A = m * up e in
    let B = n * up d in
    let Z = k * up g in
    let C : 0 < Z = mul-pos (ltb→lt 0 k p) (up_pos g) in
    let ea : A * down d * (down g * Z) ≡ A * down g * (Z * down d) = simp (mul_assoc, mul_comm, mul_left_comm) in
    let eb : B * down e * (down g * Z) ≡ B * down g * (Z * down e) = simp (mul_assoc, mul_comm, mul_left_comm) in
    let l = Le-mul s (A * down d) t (B * down e) (down g * Z) (le→Le s m e t n d h) in
    subst (λ (v : Float). T (le v (div f (fin t n d) (fin false k g)))) (sym (div_is f s m e k g p))
    (subst (λ (v : Float). T (le (round f s (A * down g) (Z * down e)) v)) (sym (div_is f t n d k g p))
    (round_le f s (A * down g) (Z * down e) t (B * down g) (Z * down d) (mul-pos C (down_pos e)) (mul-pos C (down_pos d))
    (subst (λ (v : ℕ). Le s (A * down g * (Z * down d)) t v) eb (subst (λ (v : ℕ). Le s v t (B * down e * (down g * Z))) ea l))))

pub div_le : (f : Format) (z x y : Float) → T (positive z) → T (le x y) → T (le (div f x z) (div f y z))
div_le f nan x y p h = absurd p
div_le f (inf s) x y p h = absurd p
div_le f (fin true k g) x y p h = absurd p
div_le f (fin false k g) x y p h = extend (λ (v : Float). div f v (fin false k g)) keeps (div_fin f k g p) x y h
  where
    opened : (s : Bool) → div f (inf s) (fin false k g) ≡ inf (unlike s false)
    opened s = unfold div in refl

    keeps : (s : Bool) → div f (inf s) (fin false k g) ≡ inf s
    keeps s = opened s ∙ ap inf (unlike_false s)
