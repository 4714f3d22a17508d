-- One float and its value as a sign and a fraction. A value with a sign is written in one way (`value_unique`); the exact multiple of a float has the multiple of its
-- value (`scale_val`), and the format holds it if it is not too large (`scale_fits`). Assumes nothing.
use mathlib.Core.Path.{◌≡◌, refl, sym, ap, ◌∙◌, subst}
use Prim.Native.Nat.{ℕ, zero, suc, ◌+◌, ◌-◌, ◌*◌, ◌%◌, ◌^◌, ◌≤◌, ◌<◌}
use native.Mathlib.Nat.{le_trans, lt_irrefl, zero-lt-suc, zero-mul, one-mul, mul-one, mul_comm, mul_assoc, mul_left_comm, mul_right_comm, mul-pos, mul-lt-mul_of_pos_right, lt_of_mul-lt-mul_right, eq_of_mul-eq-mul_right, pow-succ', le_refl}
use native.Mathlib.Omega.{arith}
use mathlib.Core.Bool.{Bool, true, false, not, ◌&&◌, cond}
use lib.IntN.{ℤ, pos, negsuc}
use lib.Dec.{T, leb, ltb, eqb, eqb→eq, ltb→lt, lt→ltb, leb→le, le→leb, nleb→lt}
use lib.Pow.{pow-add, pow_pos, pow_mono}
use lib.Ieee.{Float, nan, inf, fin, Format, prec, emax, low, up, down, minus, neg, fits}
use lib.Ieee.Digits.{minus_val}
use lib.Ieee.Fits.{and_i, and_l, and_r, eq→eqb, up_pos, down_pos}
use lib.Ieee.Exact.{HasValue}
use lib.Ieee.Scale.{finite}
use Rattle.ieee.specs.Sign.{abs}
use Rattle.ieee.specs.Grid.{lift, scale}
use Rattle.ieee.proofs.Digits.{odd_pow}

-- ---- only a finite float has a value, and it has one
pub value_finite : (x : Float) (s : Bool) (a c : ℕ) → HasValue x s a c → finite x ≡ true
value_finite nan s a c h = absurd h
value_finite (inf t) s a c h = absurd h
value_finite (fin t m e) s a c h = refl

pub value_once : (x : Float) (s t : Bool) (a b c : ℕ) → HasValue x s a c → HasValue x t b c → (s ≡ t) × (a ≡ b)
value_once nan s t a b c v w = absurd v
value_once (inf u) s t a b c v w = absurd v
value_once (fin u m e) s t a b c v w = (sym v.0 ∙ w.0, eq_of_mul-eq-mul_right (down e) (down_pos e) a b (sym v.1 ∙ w.1))

-- ---- from one fraction to another of the same size
pub rescale : (x : Float) (s : Bool) (w l a c : ℕ) → 0 < l → a * l ≡ w * c → HasValue x s w l → HasValue x s a c
rescale nan s w l a c p h v = v
rescale (inf t) s w l a c p h v = v
rescale (fin t m e) s w l a c p h v = (
  v.0,
  eq_of_mul-eq-mul_right l p (m * up e * c) (a * down e)
      (mul_right_comm (m * up e) c l
      ∙ ap (λ (x : ℕ). x * c) v.1
      ∙ mul_right_comm w (down e) c
      ∙ ap (λ (x : ℕ). x * down e) (sym h)
      ∙ mul_right_comm a l (down e)),
)

-- ---- over a common denominator: x / de is a / c, with dd beside it
pub common : (x de dd a c : ℕ) → x * c ≡ a * de → x * dd * c ≡ a * (de * dd)
common x de dd a c h = mul_right_comm x dd c ∙ ap (λ (z : ℕ). z * dd) h ∙ mul_assoc a de dd

pub common' : (x de dd a c : ℕ) → x * c ≡ a * dd → x * de * c ≡ a * (de * dd)
common' x de dd a c h = common x dd de a c h ∙ ap (λ (z : ℕ). a * z) (mul_comm dd de)

-- ---- its sign changed, and cleared
pub neg_val : (x : Float) (s : Bool) (a c : ℕ) → HasValue x s a c → HasValue (neg x) (not s) a c
unfolding neg
neg_val nan s a c v = v
neg_val (inf t) s a c v = v
neg_val (fin t m e) s a c v = (ap not v.0, v.1)

pub abs_val : (x : Float) (s : Bool) (a c : ℕ) → HasValue x s a c → HasValue (abs x) false a c
abs_val nan s a c v = v
abs_val (inf t) s a c v = v
abs_val (fin t m e) s a c v = (refl, v.1)

-- ---- 2 ^ k times the value
lift_val : (k : ℕ) (e : ℤ) → up (lift k e) * down e ≡ up e * 2 ^ k * down (lift k e)
lift_val k (pos a) = ap (λ (x : ℕ). x * 1) (pow-add 2 a k)
lift_val k (negsuc a) = ap (λ (x : ℕ). x * 2 ^ suc a) (sym (one-mul (up (minus k (suc a))))) ∙ minus_val 1 k (suc a)

-- a zero's fraction is zero
zero_frac : (u c a d K : ℕ) → 0 * u * c ≡ a * d → 0 * u * c ≡ a * K * d
zero_frac u c a d K h =
    let z : 0 * u * c ≡ 0 = ap (λ (x : ℕ). x * c) (zero-mul u) ∙ zero-mul c in
    z ∙ sym (zero-mul K) ∙ ap (λ (x : ℕ). x * K) (sym z ∙ h) ∙ mul_right_comm a d K

frac_scale : (m u d u' d' K a c : ℕ) → 0 < d → u' * d ≡ u * K * d' → m * u * c ≡ a * d → m * u' * c ≡ a * K * d'
frac_scale m u d u' d' K a c D e h =
    eq_of_mul-eq-mul_right d D (m * u' * c) (a * K * d')
    (mul_right_comm (m * u') c d
    ∙ ap (λ (x : ℕ). x * c) (mul_assoc m u' d ∙ ap (λ (x : ℕ). m * x) e)
    ∙ regroup1
    ∙ ap (λ (x : ℕ). x * (K * d')) h
    ∙ regroup2)
  where
    regroup1 : m * (u * K * d') * c ≡ m * u * c * (K * d')
    regroup1 = simp (mul_assoc, mul_comm, mul_left_comm)

    regroup2 : a * d * (K * d') ≡ a * K * d' * d
    regroup2 = simp (mul_assoc, mul_comm, mul_left_comm)

pub scale_val : (k : ℕ) (x : Float) (s : Bool) (a c : ℕ) → HasValue x s a c → HasValue (scale k x) s (a * 2 ^ k) c
scale_val k nan s a c v = v
scale_val k (inf t) s a c v = v
scale_val k (fin t zero e) s a c v = (v.0, zero_frac (up e) c a (down e) (2 ^ k) v.1)
scale_val k (fin t (suc m) e) s a c v = (v.0, frac_scale (suc m) (up e) (down e) (up (lift k e)) (down (lift k e)) (2 ^ k) a c (down_pos e) (lift_val k e) v.1)

-- ---- what `fits` says of a number that is not zero
abbrev pub Fitting : Format → ℕ → ℤ → Type 0
Fitting f m e = (m % 2 ≡ 1) × (m < 2 ^ prec f) × (down e ≤ 2 ^ low f) × (m * up e < 2 ^ suc (emax f) * down e)

pub fits_elim : (f : Format) (s : Bool) (m : ℕ) (e : ℤ) → T (fits f (fin s (suc m) e)) → Fitting f (suc m) e
unfolding fits
fits_elim f s m e t =
    let a : Bool = eqb (suc m % 2) 1 in
    let b : Bool = ltb (suc m) (2 ^ prec f) in
    let c : Bool = leb (down e) (2 ^ low f) in
    let d : Bool = ltb (suc m * up e) (2 ^ suc (emax f) * down e) in
    let t3 = and_l (a && b && c) d t in
    let t2 = and_l (a && b) c t3 in (
      eqb→eq (suc m % 2) 1 (and_l a b t2),
      ltb→lt (suc m) (2 ^ prec f) (and_r a b t2),
      leb→le (down e) (2 ^ low f) (and_r (a && b) c t3),
      ltb→lt (suc m * up e) (2 ^ suc (emax f) * down e) (and_r (a && b && c) d t),
    )

fits_intro : (f : Format) (s : Bool) (m : ℕ) (e : ℤ) → Fitting f (suc m) e → T (fits f (fin s (suc m) e))
unfolding fits
fits_intro f s m e h =
    let a : Bool = eqb (suc m % 2) 1 in
    let b : Bool = ltb (suc m) (2 ^ prec f) in
    let c : Bool = leb (down e) (2 ^ low f) in
    let d : Bool = ltb (suc m * up e) (2 ^ suc (emax f) * down e) in
    and_i (a && b && c) d (and_i (a && b) c (and_i a b (eq→eqb h.0) (lt→ltb (suc m) (2 ^ prec f) h.1)) (le→leb (down e) (2 ^ low f) h.2)) (lt→ltb (suc m * up e) (2 ^ suc (emax f) * down e) h.3)

-- ---- enlarged, it still fits, if it is not too large
short : (a l : ℕ) → a < l → suc (l - suc a) ≤ l
short a l h = omega arith

down_minus : (a l : ℕ) → down (minus a l) ≤ 2 ^ l
down_minus a l = go (leb l a) (nleb→lt l a)
  where
    go : (b : Bool) → (T (not b) → a < l) → down (cond b (pos (a - l)) (negsuc (l - suc a))) ≤ 2 ^ l
    go true k = pow_pos l
    go false k = pow_mono (short a l (k tt))

down_lift : (k : ℕ) (e : ℤ) → down (lift k e) ≤ down e
down_lift k (pos a) = le_refl 1
down_lift k (negsuc a) = down_minus k (suc a)

under_top : (n d' a c E : ℕ) → 0 < d' → n * c ≡ a * d' → a < E * c → n < E * d'
under_top n d' a c E D h l =
    lt_of_mul-lt-mul_right c
    (subst (λ (x : ℕ). x < E * d' * c) (sym h)
    (subst (λ (x : ℕ). a * d' < x) (mul_right_comm E c d') (mul-lt-mul_of_pos_right l D)))

pub scale_fits : (f : Format) (k : ℕ) (x : Float) (s : Bool) (a c : ℕ) → T (fits f x) → HasValue x s a c → a * 2 ^ k < 2 ^ suc (emax f) * c → T (fits f (scale k x))
scale_fits f k nan s a c t v h = t
scale_fits f k (inf u) s a c t v h = t
scale_fits f k (fin u zero e) s a c t v h = t
scale_fits f k (fin u (suc m) e) s a c t v h =
    let g = fits_elim f u m e t in
    let w = scale_val k (fin u (suc m) e) s a c v in
    fits_intro f u m (lift k e) (g.0, g.1, le_trans (down_lift k e) g.2, under_top (suc m * up (lift k e)) (down (lift k e)) (a * 2 ^ k) c (2 ^ suc (emax f)) (down_pos (lift k e)) w.1 h)

-- ---- a value with a sign is written in one way
never : (a b : ℕ) → a + suc b ≡ 0 → ⊥
never a b h = omega arith

suc_back : (a b : ℕ) → suc a ≡ suc b → a ≡ b
suc_back a b h = omega arith

-- m * 2 ^ e = n * 2 ^ d, with both odd
odd_unique : (m n : ℕ) (e d : ℤ) → m % 2 ≡ 1 → n % 2 ≡ 1 → m * up e * down d ≡ n * up d * down e → (m ≡ n) × (e ≡ d)
odd_unique m n (pos a) (pos b) o p h =
    let r = odd_pow m n a b o p (sym (mul-one (m * 2 ^ a)) ∙ h ∙ mul-one (n * 2 ^ b)) in
    (r.0, ap pos r.1)
odd_unique m n (pos a) (negsuc b) o p h =
    let r = odd_pow m n (a + suc b) 0 o p (ap (λ (x : ℕ). m * x) (pow-add 2 a (suc b)) ∙ sym (mul_assoc m (2 ^ a) (2 ^ suc b)) ∙ h ∙ mul-one (n * 1)) in
    absurd (never a b r.1)
odd_unique m n (negsuc a) (pos b) o p h =
    let r = odd_pow m n 0 (b + suc a) o p (sym (mul-one (m * 1)) ∙ h ∙ mul_assoc n (2 ^ b) (2 ^ suc a) ∙ ap (λ (x : ℕ). n * x) (sym (pow-add 2 b (suc a)))) in
    absurd (never b a (sym r.1))
odd_unique m n (negsuc a) (negsuc b) o p h =
    let r = odd_pow m n (suc b) (suc a) o p (ap (λ (x : ℕ). x * 2 ^ suc b) (sym (mul-one m)) ∙ h ∙ ap (λ (x : ℕ). x * 2 ^ suc a) (mul-one n)) in
    (r.0, ap negsuc (sym (suc_back b a r.1)))

two_up : (p : ℕ) → 0 < p → 2 * p ≡ 1 → ⊥
two_up p h e = omega arith

flat : (e : ℤ) → up e * down e ≡ 1 → e ≡ pos 0
flat (pos zero) h = refl
flat (pos (suc k)) h = absurd (two_up (2 ^ k) (pow_pos k) (sym (pow-succ' 2 k) ∙ sym (mul-one (2 ^ suc k)) ∙ h))
flat (negsuc k) h = absurd (two_up (2 ^ k) (pow_pos k) (sym (pow-succ' 2 k) ∙ sym (one-mul (2 ^ suc k)) ∙ h))

zero_exp : (f : Format) (s : Bool) (e : ℤ) → T (fits f (fin s zero e)) → e ≡ pos 0
unfolding fits
zero_exp f s e t = flat e (eqb→eq (up e * down e) 1 t)

-- a zero and a number above zero have no fraction in common
zero_not : (u n w a c d g : ℕ) → 0 < c → 0 < w → 0 < d → 0 * u * c ≡ a * d → suc n * w * c ≡ a * g → ⊥
zero_not u n w zero c d g C W D h k = lt_irrefl 0 (subst (λ (x : ℕ). 0 < x) (k ∙ zero-mul g) (mul-pos (mul-pos (zero-lt-suc n) W) C))
zero_not u n w (suc a) c d g C W D h k = lt_irrefl 0 (subst (λ (x : ℕ). 0 < x) (sym h ∙ ap (λ (x : ℕ). x * c) (zero-mul u) ∙ zero-mul c) (mul-pos (zero-lt-suc a) D))

cross : (x y a c de dd : ℕ) → 0 < c → x * c ≡ a * de → y * c ≡ a * dd → x * dd ≡ y * de
cross x y a c de dd C h k =
    eq_of_mul-eq-mul_right c C (x * dd) (y * de)
    (mul_right_comm x dd c ∙ ap (λ (z : ℕ). z * dd) h ∙ mul_right_comm a de dd ∙ ap (λ (z : ℕ). z * de) (sym k) ∙ mul_right_comm y c de)

pub value_unique : (f : Format) (x y : Float) (s : Bool) (a c : ℕ) → 0 < c → T (fits f x) → T (fits f y) → HasValue x s a c → HasValue y s a c → x ≡ y
value_unique f nan y s a c C p q v w = absurd v
value_unique f (inf t) y s a c C p q v w = absurd v
value_unique f (fin t m e) nan s a c C p q v w = absurd w
value_unique f (fin t m e) (inf u) s a c C p q v w = absurd w
value_unique f (fin t zero e) (fin u zero g) s a c C p q v w = λ i. fin ((v.0 ∙ sym w.0) i) zero ((zero_exp f t e p ∙ sym (zero_exp f u g q)) i)
value_unique f (fin t zero e) (fin u (suc n) g) s a c C p q v w = absurd (zero_not (up e) n (up g) a c (down e) (down g) C (up_pos g) (down_pos e) v.1 w.1)
value_unique f (fin t (suc m) e) (fin u zero g) s a c C p q v w = absurd (zero_not (up g) m (up e) a c (down g) (down e) C (up_pos e) (down_pos g) w.1 v.1)
value_unique f (fin t (suc m) e) (fin u (suc n) g) s a c C p q v w =
    let k = fits_elim f t m e p in
    let l = fits_elim f u n g q in
    let r = odd_unique (suc m) (suc n) e g k.0 l.0 (cross (suc m * up e) (suc n * up g) a c (down e) (down g) C v.1 w.1) in
    λ i. fin ((v.0 ∙ sym w.0) i) (r.0 i) (r.1 i)
