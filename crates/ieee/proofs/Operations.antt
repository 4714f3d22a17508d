-- The operations by the values of their operands: any fractions that these equal serve. Products and fused products do not turn on the order of their factors. A finite sum
-- and a finite product have finite operands. Assumes nothing.
use mathlib.Core.Path.{◌≡◌, refl, sym, ap, ◌∙◌, subst}
use Prim.Native.Nat.{ℕ, zero, suc, ◌+◌, ◌*◌, ◌%◌, ◌<◌}
use native.Mathlib.Nat.{lt_irrefl, zero-lt-suc, zero-mul, add-zero, mul_comm, mul_assoc, mul_left_comm, mul-mul-mul_comm, mul-pos, mul-div_cancel, mul-mod_left}
use mathlib.Core.Bool.{Bool, true, false, not, beq, cond}
use lib.Dec.{T, eqb, eqb→eq, not_T}
use lib.Arith.{mod-mul}
use lib.Ieee.{Float, nan, inf, fin, Format, up, down, unlike, round, neg, sum, add, sub, mul, div, rem}
use lib.Ieee.Fits.{up_pos, down_pos}
use lib.Ieee.Exact.{HasValue}
use lib.Ieee.Scale.{round_same, finite}
use lib.Ieee.Bits.{cond_no}
use Rattle.ieee.specs.Fused.{fma}
use Rattle.ieee.proofs.Value.{common, common'}
use Rattle.ieee.proofs.Sum.{sum_same}

-- ---- signs
pub unlike_false : (s : Bool) → unlike s false ≡ s
unlike_false true = refl
unlike_false false = refl

pub unlike_same : (s : Bool) → unlike s s ≡ false
unlike_same true = refl
unlike_same false = refl

unlike_swap : (s t : Bool) → unlike s t ≡ unlike t s
unlike_swap true true = refl
unlike_swap true false = refl
unlike_swap false true = refl
unlike_swap false false = refl

-- ---- sums
pub add_at : (f : Format) (x y : Float) (s t : Bool) (a b c : ℕ) → 0 < c → HasValue x s a c → HasValue y t b c → add f x y ≡ sum f s a t b c
unfolding add
add_at f nan y s t a b c C v w = absurd v
add_at f (inf r) y s t a b c C v w = absurd v
add_at f (fin r m e) nan s t a b c C v w = absurd w
add_at f (fin r m e) (inf r') s t a b c C v w = absurd w
add_at f (fin r m e) (fin r' n d) s t a b c C v w =
    (λ i. sum f (v.0 i) (m * up e * down d) (w.0 i) (n * up d * down e) (down e * down d))
    ∙ sum_same f s t (m * up e * down d) (n * up d * down e) (down e * down d) a b c (mul-pos (down_pos e) (down_pos d)) C
    (common (m * up e) (down e) (down d) a c v.1)
    (common' (n * up d) (down e) (down d) b c w.1)

pub sub_is : (f : Format) (x y : Float) → sub f x y ≡ add f x (neg y)
unfolding sub
sub_is f x y = refl

-- ---- products
times : (x de a c y dd b d : ℕ) → x * c ≡ a * de → y * d ≡ b * dd → x * y * (c * d) ≡ a * b * (de * dd)
times x de a c y dd b d p q = mul-mul-mul_comm x y c d ∙ (λ i. p i * q i) ∙ mul-mul-mul_comm a de b dd

pub mul_at : (f : Format) (x y : Float) (s t : Bool) (a c b d : ℕ) → 0 < c → 0 < d → HasValue x s a c → HasValue y t b d → mul f x y ≡ round f (unlike s t) (a * b) (c * d)
unfolding mul
mul_at f nan y s t a c b d C D v w = absurd v
mul_at f (inf r) y s t a c b d C D v w = absurd v
mul_at f (fin r m e) nan s t a c b d C D v w = absurd w
mul_at f (fin r m e) (inf r') s t a c b d C D v w = absurd w
mul_at f (fin r m e) (fin r' n g) s t a c b d C D v w =
    (λ i. round f (unlike (v.0 i) (w.0 i)) (m * up e * (n * up g)) (down e * down g))
    ∙ round_same f (unlike s t) (m * up e * (n * up g)) (down e * down g) (a * b) (c * d) (mul-pos (down_pos e) (down_pos g)) (mul-pos C D)
    (times (m * up e) (down e) a c (n * up g) (down g) b d v.1 w.1)

pub mul_swap : (f : Format) (x y : Float) → mul f x y ≡ mul f y x
unfolding mul
mul_swap f nan nan = refl
mul_swap f nan (inf t) = refl
mul_swap f nan (fin t n d) = refl
mul_swap f (inf s) nan = refl
mul_swap f (inf s) (inf t) = ap inf (unlike_swap s t)
mul_swap f (inf s) (fin t n d) = ap (λ (b : Bool). cond (eqb n 0) nan (inf b)) (unlike_swap s t)
mul_swap f (fin s m e) nan = refl
mul_swap f (fin s m e) (inf t) = ap (λ (b : Bool). cond (eqb m 0) nan (inf b)) (unlike_swap s t)
mul_swap f (fin s m e) (fin t n d) = λ i. round f (unlike_swap s t i) (mul_comm (m * up e) (n * up d) i) (mul_comm (down e) (down d) i)

-- ---- quotients and remainders
above : (n u c b d : ℕ) → 0 < b → 0 < d → n * u * c ≡ b * d → 0 < n
above zero u c b d B D h = absurd (lt_irrefl 0 (subst (λ (x : ℕ). 0 < x) (sym h ∙ ap (λ (x : ℕ). x * c) (zero-mul u) ∙ zero-mul c) (mul-pos B D)))
above (suc n) u c b d B D h = zero-lt-suc n

not_zero : (n : ℕ) → 0 < n → T (not (eqb n 0))
not_zero n h = not_T (eqb n 0) (λ t. lt_irrefl 0 (subst (λ (x : ℕ). 0 < x) (eqb→eq n 0 t) h))

cross : (x de y dd a c b d : ℕ) → x * c ≡ a * de → y * d ≡ b * dd → x * dd * (b * c) ≡ a * d * (y * de)
cross x de y dd a c b d h k =
    let l : x * dd * (b * c) ≡ x * c * (b * dd) = simp (mul_assoc, mul_comm, mul_left_comm) in
    let r : a * de * (y * d) ≡ a * d * (y * de) = simp (mul_assoc, mul_comm, mul_left_comm) in
    l ∙ ap (λ (z : ℕ). z * (b * dd)) h ∙ ap (λ (z : ℕ). a * de * z) (sym k) ∙ r

pub div_at : (f : Format) (x y : Float) (s t : Bool) (a c b d : ℕ) → 0 < c → 0 < b → 0 < d → HasValue x s a c → HasValue y t b d → div f x y ≡ round f (unlike s t) (a * d) (b * c)
unfolding div
div_at f nan y s t a c b d C B D v w = absurd v
div_at f (inf r) y s t a c b d C B D v w = absurd v
div_at f (fin r m e) nan s t a c b d C B D v w = absurd w
div_at f (fin r m e) (inf r') s t a c b d C B D v w = absurd w
div_at f (fin r m e) (fin r' n g) s t a c b d C B D v w =
    let A = above n (up g) d b (down g) B (down_pos g) w.1 in
    cond_no (eqb n 0) (cond (eqb m 0) nan (inf (unlike r r'))) (round f (unlike r r') (m * up e * down g) (n * up g * down e)) (not_zero n A)
    ∙ (λ i. round f (unlike (v.0 i) (w.0 i)) (m * up e * down g) (n * up g * down e))
    ∙ round_same f (unlike s t) (m * up e * down g) (n * up g * down e) (a * d) (b * c)
    (mul-pos (mul-pos A (up_pos g)) (down_pos e)) (mul-pos B C) (cross (m * up e) (down e) (n * up g) (down g) a c b d v.1 w.1)

scale_mod : (a m c : ℕ) → 0 < m → 0 < c → a * c % (m * c) ≡ a % m * c
scale_mod a m c M C =
    mod-mul (a * c) M C
    ∙ ap (λ (x : ℕ). x % m * c + a * c % c) (mul-div_cancel a C)
    ∙ ap (λ (x : ℕ). a % m * c + x) (mul-mod_left a c)
    ∙ add-zero (a % m * c)

-- the remainders of fractions that are equal, one by one
mod_same : (x y z a b c : ℕ) → 0 < y → 0 < z → 0 < b → 0 < c → x * c ≡ a * z → y * c ≡ b * z → x % y * c ≡ a % b * z
mod_same x y z a b c Y Z B C p q = sym (scale_mod x y c Y C) ∙ (λ i. p i % q i) ∙ scale_mod a b z B Z

pub rem_at : (f : Format) (x y : Float) (s t : Bool) (a c b d : ℕ) → 0 < c → 0 < b → 0 < d → HasValue x s a c → HasValue y t b d → rem f x y ≡ round f s (a * d % (b * c)) (c * d)
unfolding rem
rem_at f nan y s t a c b d C B D v w = absurd v
rem_at f (inf r) y s t a c b d C B D v w = absurd v
rem_at f (fin r m e) nan s t a c b d C B D v w = absurd w
rem_at f (fin r m e) (inf r') s t a c b d C B D v w = absurd w
rem_at f (fin r m e) (fin r' n g) s t a c b d C B D v w =
    let A = above n (up g) d b (down g) B (down_pos g) w.1 in
    cond_no (eqb n 0) nan (round f r (m * up e * down g % (n * up g * down e)) (down e * down g)) (not_zero n A)
    ∙ ap (λ (z : Bool). round f z (m * up e * down g % (n * up g * down e)) (down e * down g)) v.0
    ∙ round_same f s (m * up e * down g % (n * up g * down e)) (down e * down g) (a * d % (b * c)) (c * d) (mul-pos (down_pos e) (down_pos g)) (mul-pos C D)
    (mod_same (m * up e * down g) (n * up g * down e) (down e * down g) (a * d) (b * c) (c * d)
    (mul-pos (mul-pos A (up_pos g)) (down_pos e)) (mul-pos (down_pos e) (down_pos g)) (mul-pos B C) (mul-pos C D)
    (over (m * up e) (down e) (down g) a c d v.1)
    (over' (n * up g) (down g) (down e) b d c w.1))
  where
    over : (x de dd a c d : ℕ) → x * c ≡ a * de → x * dd * (c * d) ≡ a * d * (de * dd)
    over x de dd a c d h =
        let l : x * dd * (c * d) ≡ x * c * (dd * d) = simp (mul_assoc, mul_left_comm) in
        let r : a * de * (dd * d) ≡ a * d * (de * dd) = simp (mul_assoc, mul_comm, mul_left_comm) in
        l ∙ ap (λ (z : ℕ). z * (dd * d)) h ∙ r

    over' : (x dd de a d c : ℕ) → x * d ≡ a * dd → x * de * (c * d) ≡ a * c * (de * dd)
    over' x dd de a d c h = ap (λ (z : ℕ). x * de * z) (mul_comm c d) ∙ over x dd de a d c h ∙ ap (λ (z : ℕ). a * c * z) (mul_comm dd de)

-- ---- fused products
pub fma_at : (f : Format) (x y z : Float) (s t u : Bool) (a c b d g : ℕ) → 0 < c → 0 < d → HasValue x s a c → HasValue y t b d → HasValue z u g (c * d) → fma f x y z ≡ sum f (unlike s t) (a * b) u g (c * d)
unfolding fma
fma_at f nan y z s t u a c b d g C D v w o = absurd v
fma_at f (inf r) y z s t u a c b d g C D v w o = absurd v
fma_at f (fin r m e) nan z s t u a c b d g C D v w o = absurd w
fma_at f (fin r m e) (inf r') z s t u a c b d g C D v w o = absurd w
fma_at f (fin r m e) (fin r' n h) nan s t u a c b d g C D v w o = absurd o
fma_at f (fin r m e) (fin r' n h) (inf r'') s t u a c b d g C D v w o = absurd o
fma_at f (fin r m e) (fin r' n h) (fin r'' p j) s t u a c b d g C D v w o =
    let D2 = down e * down h in
    (λ i. sum f (unlike (v.0 i) (w.0 i)) (m * up e * (n * up h) * down j) (o.0 i) (p * up j * D2) (D2 * down j))
    ∙ sum_same f (unlike s t) u (m * up e * (n * up h) * down j) (p * up j * D2) (D2 * down j) (a * b) g (c * d) (mul-pos (mul-pos (down_pos e) (down_pos h)) (down_pos j)) (mul-pos C D)
    (common (m * up e * (n * up h)) D2 (down j) (a * b) (c * d) (times (m * up e) (down e) a c (n * up h) (down h) b d v.1 w.1))
    (common' (p * up j) D2 (down j) g (c * d) o.1)

pub fma_swap : (f : Format) (x y z : Float) → fma f x y z ≡ fma f y x z
unfolding fma
fma_swap f nan nan z = refl
fma_swap f nan (inf t) z = refl
fma_swap f nan (fin t n d) z = refl
fma_swap f (inf s) nan z = refl
fma_swap f (inf s) (inf t) z = ap (λ (b : Bool). add f (inf b) z) (unlike_swap s t)
fma_swap f (inf s) (fin t n d) z = ap (λ (b : Bool). cond (eqb n 0) nan (add f (inf b) z)) (unlike_swap s t)
fma_swap f (fin s m e) nan z = refl
fma_swap f (fin s m e) (inf t) z = ap (λ (b : Bool). cond (eqb m 0) nan (add f (inf b) z)) (unlike_swap s t)
fma_swap f (fin s m e) (fin t n d) nan = refl
fma_swap f (fin s m e) (fin t n d) (inf u) = refl
fma_swap f (fin s m e) (fin t n d) (fin u k g) =
    λ i. sum f (unlike_swap s t i) (mul_comm (m * up e) (n * up d) i * down g) u (k * up g * mul_comm (down e) (down d) i) (mul_comm (down e) (down d) i * down g)

-- ---- a finite result
either : (b s : Bool) → finite (cond b nan (inf s)) ≡ true → ⊥
either true s h = subst T (sym h) tt
either false s h = subst T (sym h) tt

pub add_finite : (f : Format) (x y : Float) → finite (add f x y) ≡ true → (finite x ≡ true) × (finite y ≡ true)
unfolding add
add_finite f nan y h = absurd (subst T (sym h) tt)
add_finite f (inf s) nan h = absurd (subst T (sym h) tt)
add_finite f (inf s) (inf t) h = absurd (go (beq s t) h)
  where
    go : (b : Bool) → finite (cond b (inf s) nan) ≡ true → ⊥
    go true h = subst T (sym h) tt
    go false h = subst T (sym h) tt
add_finite f (inf s) (fin t n d) h = absurd (subst T (sym h) tt)
add_finite f (fin s m e) nan h = absurd (subst T (sym h) tt)
add_finite f (fin s m e) (inf t) h = absurd (subst T (sym h) tt)
add_finite f (fin s m e) (fin t n d) h = (refl, refl)

pub mul_finite : (f : Format) (x y : Float) → finite (mul f x y) ≡ true → (finite x ≡ true) × (finite y ≡ true)
unfolding mul
mul_finite f nan y h = absurd (subst T (sym h) tt)
mul_finite f (inf s) nan h = absurd (subst T (sym h) tt)
mul_finite f (inf s) (inf t) h = absurd (subst T (sym h) tt)
mul_finite f (inf s) (fin t n d) h = absurd (either (eqb n 0) (unlike s t) h)
mul_finite f (fin s m e) nan h = absurd (subst T (sym h) tt)
mul_finite f (fin s m e) (inf t) h = absurd (either (eqb m 0) (unlike s t) h)
mul_finite f (fin s m e) (fin t n d) h = (refl, refl)
