-- Comparisons by the values of their operands (`lt_at`, `eq_at`, `le_at`), and that multiplying both sides by 2 ^ k changes none. Assumes nothing.
use mathlib.Core.Path.{◌≡◌, refl, sym, ap, ◌∙◌}
use Prim.Native.Nat.{ℕ, zero, suc, ◌+◌, ◌*◌, ◌^◌, ◌<◌}
use native.Mathlib.Nat.{zero-mul, add-mul, mul_comm, mul_assoc, mul_left_comm, mul-pos}
use mathlib.Core.Bool.{Bool, true, false, ◌&&◌, ◌||◌, beq}
use lib.IntN.{ℤ}
use lib.Dec.{ltb, eqb}
use lib.Pow.{pow_pos}
use lib.Ieee.{Float, nan, inf, fin, up, down, lt, eq, le, below, level}
use lib.Ieee.Fits.{down_pos}
use lib.Ieee.Exact.{HasValue}
use Rattle.ieee.specs.Grid.{scale}
use Rattle.ieee.proofs.Tests.{ltb_mul, eqb_mul}
use Rattle.ieee.proofs.Value.{scale_val, common, common'}

-- ---- a common factor
below_mul : (s : Bool) (a : ℕ) (t : Bool) (b u : ℕ) → 0 < u → below s (a * u) t (b * u) ≡ below s a t b
below_mul false a false b u U = ltb_mul a b u U
below_mul false a true b u U = refl
below_mul true a false b u U = ap (λ (x : ℕ). ltb x (a * u + b * u)) (sym (zero-mul u)) ∙ ap (λ (x : ℕ). ltb (0 * u) x) (sym (add-mul a b u)) ∙ ltb_mul 0 (a + b) u U
below_mul true a true b u U = ltb_mul b a u U

level_mul : (s : Bool) (a : ℕ) (t : Bool) (b u : ℕ) → 0 < u → level s (a * u) t (b * u) ≡ level s a t b
level_mul s a t b u U =
    ap (λ (z : Bool). z && (beq s t || eqb (a * u) 0)) (eqb_mul a b u U)
    ∙ ap (λ (z : Bool). eqb a b && (beq s t || z)) (ap (λ (x : ℕ). eqb (a * u) x) (sym (zero-mul u)) ∙ eqb_mul a 0 u U)

-- ---- a comparison of two finite values, by any fractions with one denominator that they equal
-- F is `below` or `level`
module _ (F : Bool → ℕ → Bool → ℕ → Bool) (F-mul : (s : Bool) (a : ℕ) (t : Bool) (b u : ℕ) → 0 < u → F s (a * u) t (b * u) ≡ F s a t b) where
  by_value : (s s' t t' : Bool) (x y de dd a b c : ℕ) → 0 < c → 0 < de → 0 < dd → s' ≡ s → t' ≡ t → x * c ≡ a * de → y * c ≡ b * dd → F s' (x * dd) t' (y * de) ≡ F s a t b
  by_value s s' t t' x y de dd a b c C E D p q h k =
      (λ i. F (p i) (x * dd) (q i) (y * de))
      ∙ sym (F-mul s (x * dd) t (y * de) c C)
      ∙ ap (λ (z : ℕ). F s z t (y * de * c)) (common x de dd a c h)
      ∙ ap (λ (z : ℕ). F s (a * (de * dd)) t z) (common' y de dd b c k)
      ∙ F-mul s a t b (de * dd) (mul-pos E D)

pub lt_at : (x y : Float) (s t : Bool) (a b c : ℕ) → 0 < c → HasValue x s a c → HasValue y t b c → lt x y ≡ below s a t b
unfolding lt
lt_at nan y s t a b c C v w = absurd v
lt_at (inf r) y s t a b c C v w = absurd v
lt_at (fin r m e) nan s t a b c C v w = absurd w
lt_at (fin r m e) (inf r') s t a b c C v w = absurd w
lt_at (fin r m e) (fin r' n d) s t a b c C v w = by_value below below_mul s r t r' (m * up e) (n * up d) (down e) (down d) a b c C (down_pos e) (down_pos d) v.0 w.0 v.1 w.1

pub eq_at : (x y : Float) (s t : Bool) (a b c : ℕ) → 0 < c → HasValue x s a c → HasValue y t b c → eq x y ≡ level s a t b
unfolding eq
eq_at nan y s t a b c C v w = absurd v
eq_at (inf r) y s t a b c C v w = absurd v
eq_at (fin r m e) nan s t a b c C v w = absurd w
eq_at (fin r m e) (inf r') s t a b c C v w = absurd w
eq_at (fin r m e) (fin r' n d) s t a b c C v w = by_value level level_mul s r t r' (m * up e) (n * up d) (down e) (down d) a b c C (down_pos e) (down_pos d) v.0 w.0 v.1 w.1

pub le_at : (x y : Float) (s t : Bool) (a b c : ℕ) → 0 < c → HasValue x s a c → HasValue y t b c → le x y ≡ (below s a t b || level s a t b)
unfolding le
le_at x y s t a b c C v w = λ i. lt_at x y s t a b c C v w i || eq_at x y s t a b c C v w i

-- ---- enlarging both sides, whatever they are
own : (s : Bool) (m : ℕ) (e : ℤ) (d : ℕ) → HasValue (fin s m e) s (m * up e * d) (down e * d)
own s m e d = (refl, mul_left_comm (m * up e) (down e) d ∙ mul_comm (down e) (m * up e * d))

own' : (s : Bool) (m : ℕ) (e : ℤ) (d : ℕ) → HasValue (fin s m e) s (m * up e * d) (d * down e)
own' s m e d = (refl, sym (mul_assoc (m * up e) d (down e)))

-- the enlarged infinity and NaN are stated with `scale` computed; a finite value's is stuck on its m, so it is taken through its value
lt_fin : (k : ℕ) (s : Bool) (m : ℕ) (e : ℤ) (t : Bool) (n : ℕ) (d : ℤ) → lt (scale k (fin s m e)) (scale k (fin t n d)) ≡ lt (fin s m e) (fin t n d)
lt_fin k s m e t n d =
    let c = down e * down d in
    let C : 0 < c = mul-pos (down_pos e) (down_pos d) in
    let v = own s m e (down d) in
    let w = own' t n d (down e) in
    lt_at (scale k (fin s m e)) (scale k (fin t n d)) s t (m * up e * down d * 2 ^ k) (n * up d * down e * 2 ^ k) c C (scale_val k (fin s m e) s (m * up e * down d) c v) (scale_val k (fin t n d) t (n * up d * down e) c w)
    ∙ below_mul s (m * up e * down d) t (n * up d * down e) (2 ^ k) (pow_pos k)
    ∙ sym (lt_at (fin s m e) (fin t n d) s t (m * up e * down d) (n * up d * down e) c C v w)

eq_fin : (k : ℕ) (s : Bool) (m : ℕ) (e : ℤ) (t : Bool) (n : ℕ) (d : ℤ) → eq (scale k (fin s m e)) (scale k (fin t n d)) ≡ eq (fin s m e) (fin t n d)
eq_fin k s m e t n d =
    let c = down e * down d in
    let C : 0 < c = mul-pos (down_pos e) (down_pos d) in
    let v = own s m e (down d) in
    let w = own' t n d (down e) in
    eq_at (scale k (fin s m e)) (scale k (fin t n d)) s t (m * up e * down d * 2 ^ k) (n * up d * down e * 2 ^ k) c C
    (scale_val k (fin s m e) s (m * up e * down d) c v) (scale_val k (fin t n d) t (n * up d * down e) c w)
    ∙ level_mul s (m * up e * down d) t (n * up d * down e) (2 ^ k) (pow_pos k)
    ∙ sym (eq_at (fin s m e) (fin t n d) s t (m * up e * down d) (n * up d * down e) c C v w)

pub lt_scale : (k : ℕ) (x y : Float) → lt (scale k x) (scale k y) ≡ lt x y
unfolding lt
lt_scale k nan y = refl
lt_scale k (inf s) nan = refl
lt_scale k (inf s) (inf t) = refl
lt_scale k (inf s) (fin t zero d) = refl
lt_scale k (inf s) (fin t (suc n) d) = refl
lt_scale k (fin s zero e) nan = refl
lt_scale k (fin s (suc m) e) nan = refl
lt_scale k (fin s zero e) (inf t) = refl
lt_scale k (fin s (suc m) e) (inf t) = refl
lt_scale k (fin s m e) (fin t n d) = lt_fin k s m e t n d

eq_scale : (k : ℕ) (x y : Float) → eq (scale k x) (scale k y) ≡ eq x y
unfolding eq
eq_scale k nan y = refl
eq_scale k (inf s) nan = refl
eq_scale k (inf s) (inf t) = refl
eq_scale k (inf s) (fin t zero d) = refl
eq_scale k (inf s) (fin t (suc n) d) = refl
eq_scale k (fin s zero e) nan = refl
eq_scale k (fin s (suc m) e) nan = refl
eq_scale k (fin s zero e) (inf t) = refl
eq_scale k (fin s (suc m) e) (inf t) = refl
eq_scale k (fin s m e) (fin t n d) = eq_fin k s m e t n d

pub le_scale : (k : ℕ) (x y : Float) → le (scale k x) (scale k y) ≡ le x y
unfolding le
le_scale k x y = λ i. lt_scale k x y i || eq_scale k x y i
