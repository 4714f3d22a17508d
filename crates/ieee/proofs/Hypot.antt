-- `hypot_of` by the values of its operands: it does not turn on their order, its result is on a finer grid, and multiplying the operands by 2 ^ k multiplies it, as data.
-- Assumes nothing.
use mathlib.Core.Path.{◌≡◌, refl, sym, ap, ◌∙◌, subst}
use Prim.Native.Nat.{ℕ, zero, suc, ◌+◌, ◌-◌, ◌*◌, ◌/◌, ◌^◌, ◌≤◌, ◌<◌}
use native.Mathlib.Nat.{le_refl, le_trans, le_of_eq, zero-lt-suc, sub_self, add_comm, add-zero, add-mul, zero-mul, one-mul, mul-one, mul_comm, mul_assoc, mul_right_comm, mul-mul-mul_comm, mul-le-mul_right, mul-lt-mul_of_pos_right, mul-pos, mul-div_cancel, pow-succ'}
use native.Mathlib.Omega.{arith}
use mathlib.Core.Bool.{Bool, false}
use lib.IntN.{ℤ}
use lib.Pow.{pow-add, pow_pos}
use lib.Ieee.{Float, nan, inf, fin, Format, prec, emax, low, up, down, size}
use lib.Ieee.Fits.{down_pos}
use lib.Ieee.Exact.{HasValue}
use Rattle.ieee.specs.Root.{square, isqrt, root_of, count, hypot_of}
use Rattle.ieee.specs.Grid.{scale, On, Twin}
use Rattle.ieee.proofs.Digits.{four, pow_split, squares_lt, le_without, size_gt}
use Rattle.ieee.proofs.Value.{rescale, scale_val, scale_fits, value_unique}
use Rattle.ieee.proofs.Round.{prec_pos, exps, under_top, below_top}
use Rattle.ieee.proofs.Isqrt.{isqrt_ge, cut_root, cut_root_shift, cut_root_le, cut_root_zero}
use Rattle.ieee.proofs.Root.{root_fits, root_val}

pub hypot_swap : (f : Format) (x y : Float) → hypot_of f x y ≡ hypot_of f y x
unfolding hypot_of
hypot_swap f nan nan = refl
hypot_swap f nan (inf t) = refl
hypot_swap f nan (fin t n d) = refl
hypot_swap f (inf s) nan = refl
hypot_swap f (inf s) (inf t) = refl
hypot_swap f (inf s) (fin t n d) = refl
hypot_swap f (fin s m e) nan = refl
hypot_swap f (fin s m e) (inf t) = refl
hypot_swap f (fin s m e) (fin t n d) = ap (root_of f) (add_comm (square (count f m e)) (square (count f n d)))

-- ---- `hypot_of` of two values on a grid: the root of a whole number of squared smallest values
count_is : (f : Format) (m : ℕ) (e : ℤ) (q n : ℕ) → q ≤ low f → m * up e * 2 ^ q ≡ n * down e → count f m e ≡ n * 2 ^ (low f - q)
count_is f m e q n Q h =
    let w = 2 ^ (low f - q) in
    let sp : 2 ^ q * w ≡ 2 ^ low f = pow_split q (low f) Q in
    ap (λ (x : ℕ). x / down e) (ap (λ (x : ℕ). m * up e * x) (sym sp) ∙ sym (mul_assoc (m * up e) (2 ^ q) w) ∙ ap (λ (x : ℕ). x * w) h ∙ mul_right_comm n (down e) w)
    ∙ mul-div_cancel (n * w) (down_pos e)

squares : (a b w : ℕ) → a * w * (a * w) + b * w * (b * w) ≡ (a * a + b * b) * (w * w)
squares a b w = (λ i. mul-mul-mul_comm a w a w i + mul-mul-mul_comm b w b w i) ∙ sym (add-mul (a * a) (b * b) (w * w))

pub hypot_at : (f : Format) (x y : Float) (s t : Bool) (q a b : ℕ) → q ≤ low f → HasValue x s a (2 ^ q) → HasValue y t b (2 ^ q) → hypot_of f x y ≡ root_of f ((a * a + b * b) * 4 ^ (low f - q))
unfolding hypot_of
hypot_at f nan y s t q a b Q v w = absurd v
hypot_at f (inf r) y s t q a b Q v w = absurd v
hypot_at f (fin r m e) nan s t q a b Q v w = absurd w
hypot_at f (fin r m e) (inf r') s t q a b Q v w = absurd w
hypot_at f (fin r m e) (fin r' n d) s t q a b Q v w =
    (λ i. root_of f (square (count_is f m e q a Q v.1 i) + square (count_is f n d q b Q w.1 i)))
    ∙ ap (root_of f) (squares a b (2 ^ (low f - q)) ∙ ap (λ (x : ℕ). (a * a + b * b) * x) (sym (four (low f - q))))

-- the grid of the format's own smallest values
pub hypot_units : (f : Format) (x y : Float) (s t : Bool) (a b : ℕ) → HasValue x s a (2 ^ low f) → HasValue y t b (2 ^ low f) → hypot_of f x y ≡ root_of f (a * a + b * b)
hypot_units f x y s t a b v w =
    hypot_at f x y s t (low f) a b (le_refl (low f)) v w
    ∙ ap (root_of f) (ap (λ (k : ℕ). (a * a + b * b) * 4 ^ k) (sub_self (low f)) ∙ mul-one (a * a + b * b))

-- ---- the root of n * 4 ^ j for j ≥ prec - 1: it has all its digits, or n is 0
all : (p z : ℕ) → p - 1 < z → p ≤ z
all p z h = omega arith

full : (p n : ℕ) → 0 < n → p ≤ size (isqrt (n * 4 ^ (p - 1)))
full p n N =
    all p (size (isqrt (n * 4 ^ (p - 1)))) (size_gt (isqrt (n * 4 ^ (p - 1))) (p - 1)
    (isqrt_ge (n * 4 ^ (p - 1)) (2 ^ (p - 1)) (le_trans (le_of_eq (sym (one-mul (2 ^ (p - 1) * 2 ^ (p - 1))) ∙ ap (λ (x : ℕ). 1 * x) (sym (four (p - 1))))) (mul-le-mul_right (4 ^ (p - 1)) N))))

-- the digits of the root of n in units of 2 ^ -(prec - 1)
abbrev digits : Format → ℕ → ℕ
digits f n = cut_root (prec f) (n * 4 ^ (prec f - 1))

digits_shift : (f : Format) (n t : ℕ) → cut_root (prec f) (n * 4 ^ (prec f - 1 + t)) ≡ digits f n * 2 ^ t
digits_shift f zero t = ap (cut_root (prec f)) (zero-mul (4 ^ (prec f - 1 + t))) ∙ cut_root_zero (prec f) ∙ sym (ap (λ (x : ℕ). x * 2 ^ t) (ap (cut_root (prec f)) (zero-mul (4 ^ (prec f - 1))) ∙ cut_root_zero (prec f)) ∙ zero-mul (2 ^ t))
digits_shift f (suc n) t =
    ap (cut_root (prec f)) (ap (λ (x : ℕ). suc n * x) (pow-add 4 (prec f - 1) t) ∙ sym (mul_assoc (suc n) (4 ^ (prec f - 1)) (4 ^ t)))
    ∙ cut_root_shift (prec f) (suc n * 4 ^ (prec f - 1)) t (prec_pos f) (full (prec f) (suc n) (zero-lt-suc n))

-- ---- two values on the grid of 2 ^ -q
gap : (q p l : ℕ) → q + (p - 1) ≤ l → l - q ≡ p - 1 + (l - (q + (p - 1)))
gap q p l h = omega arith

coarse : (q p l : ℕ) → q + (p - 1) ≤ l → q ≤ l
coarse q p l h = omega arith

-- the result's grid is 2 ^ -(q + prec - 1), and the format's is 2 ^ -`spare` of it
abbrev spare : Format → ℕ → ℕ
spare f q = low f - (q + (prec f - 1))

-- the root of n of the grid's squared units, times 2 ^ k
grown_val : (f : Format) (q n k : ℕ) → q + (prec f - 1) ≤ low f → digits f n * 2 ^ k < 2 ^ (q + (prec f - 1) + suc (emax f)) → HasValue (root_of f (n * 4 ^ (prec f - 1 + (spare f q + k)))) false (digits f n * 2 ^ k) (2 ^ (q + (prec f - 1)))
grown_val f q n k Q h =
    let p = prec f in
    let g = q + (p - 1) in
    let t = spare f q in
    let d = digits f n in
    let N = n * 4 ^ (p - 1 + (t + k)) in
    let c : cut_root p N ≡ d * 2 ^ k * 2 ^ t = digits_shift f n (t + k) ∙ ap (λ (x : ℕ). d * x) (pow-add 2 t k ∙ mul_comm (2 ^ t) (2 ^ k)) ∙ sym (mul_assoc d (2 ^ k) (2 ^ t)) in
    let l : cut_root p N < 2 ^ (low f + suc (emax f)) =
    subst (λ (x : ℕ). x < 2 ^ (low f + suc (emax f))) (sym c)
    (subst (λ (x : ℕ). d * 2 ^ k * 2 ^ t < x) (sym (pow-add 2 (g + suc (emax f)) t) ∙ ap (λ (x : ℕ). 2 ^ x) (exps g (low f) (emax f) Q)) (mul-lt-mul_of_pos_right h (pow_pos t))) in
    let sp : 2 ^ g * 2 ^ t ≡ 2 ^ low f = pow_split g (low f) Q in
    rescale (root_of f N) false (cut_root p N) (2 ^ low f) (d * 2 ^ k) (2 ^ g) (pow_pos (low f))
    (ap (λ (x : ℕ). d * 2 ^ k * x) (sym sp ∙ mul_comm (2 ^ g) (2 ^ t)) ∙ sym (mul_assoc (d * 2 ^ k) (2 ^ t) (2 ^ g)) ∙ ap (λ (x : ℕ). x * 2 ^ g) (sym c))
    (root_val f N l)

base_val : (f : Format) (q n : ℕ) → q + (prec f - 1) ≤ low f → digits f n < 2 ^ (q + (prec f - 1) + suc (emax f)) → HasValue (root_of f (n * 4 ^ (prec f - 1 + spare f q))) false (digits f n) (2 ^ (q + (prec f - 1)))
base_val f q n Q h =
    let g = q + (prec f - 1) in
    subst (λ (x : ℕ). HasValue (root_of f (n * 4 ^ (prec f - 1 + x))) false (digits f n) (2 ^ g)) (add-zero (spare f q))
    (subst (λ (x : ℕ). HasValue (root_of f (n * 4 ^ (prec f - 1 + (spare f q + 0)))) false x (2 ^ g)) (mul-one (digits f n))
    (grown_val f q n 0 Q (subst (λ (x : ℕ). x < 2 ^ (g + suc (emax f))) (sym (mul-one (digits f n))) h)))

top_exp : (b q p : ℕ) → suc (b + q) + (p - 1) ≡ suc b + (q + (p - 1))
top_exp b q p = omega arith

-- a and b at most w: the root of their squares' sum is at most 2 * w
digits_le : (f : Format) (q b m n : ℕ) → m ≤ 2 ^ (b + q) → n ≤ 2 ^ (b + q) → digits f (m * m + n * n) ≤ 2 ^ (suc b + (q + (prec f - 1)))
digits_le f q b m n M N =
    let w = 2 ^ (b + q) in
    let c = 2 ^ (prec f - 1) in
    let e : 2 * w * c ≡ 2 ^ (suc b + (q + (prec f - 1))) = ap (λ (x : ℕ). x * c) (sym (pow-succ' 2 (b + q))) ∙ sym (pow-add 2 (suc (b + q)) (prec f - 1)) ∙ ap (λ (x : ℕ). 2 ^ x) (top_exp b q (prec f)) in
    cut_root_le (prec f) ((m * m + n * n) * 4 ^ (prec f - 1)) (suc b + (q + (prec f - 1)))
    (subst (λ (x : ℕ). (m * m + n * n) * 4 ^ (prec f - 1) < x * x) e
    (subst (λ (x : ℕ). (m * m + n * n) * x < 2 * w * c * (2 * w * c)) (sym (four (prec f - 1)))
    (subst (λ (x : ℕ). (m * m + n * n) * (c * c) < x) (sym (mul-mul-mul_comm (2 * w) c (2 * w) c))
    (mul-lt-mul_of_pos_right (squares_lt m n w M N (pow_pos (b + q))) (mul-pos (pow_pos (prec f - 1)) (pow_pos (prec f - 1)))))))

assoc : (p t k : ℕ) → k + (p + t) ≡ p + (t + k)
assoc p t k = omega arith

module _ (f : Format) (q : ℕ) (Q : q + (prec f - 1) ≤ low f) (b : ℕ) (x y : Float) (X : On q b x) (Y : On q b y) where
  abbrev sq : ℕ
  sq = X.count * X.count + Y.count * Y.count

  hypot_is : hypot_of f x y ≡ root_of f (sq * 4 ^ (prec f - 1 + spare f q))
  hypot_is =
      hypot_at f x y X.sign Y.sign q X.count Y.count (coarse q (prec f) (low f) Q) X.value Y.value
      ∙ ap (λ (z : ℕ). root_of f (sq * 4 ^ z)) (gap q (prec f) (low f) Q)

  hypot_grown : (k : ℕ) → hypot_of f (scale k x) (scale k y) ≡ root_of f (sq * 4 ^ (prec f - 1 + (spare f q + k)))
  hypot_grown k =
      hypot_at f (scale k x) (scale k y) X.sign Y.sign q (X.count * 2 ^ k) (Y.count * 2 ^ k) (coarse q (prec f) (low f) Q) (scale_val k x X.sign X.count (2 ^ q) X.value) (scale_val k y Y.sign Y.count (2 ^ q) Y.value)
      ∙ ap (λ (z : ℕ). root_of f (z * 4 ^ (low f - q))) (squares X.count Y.count (2 ^ k) ∙ ap (λ (z : ℕ). sq * z) (sym (four k)))
      ∙ ap (root_of f) (mul_assoc sq (4 ^ k) (4 ^ (low f - q)) ∙ ap (λ (z : ℕ). sq * z) (sym (pow-add 4 k (low f - q)) ∙ ap (λ (z : ℕ). 4 ^ (k + z)) (gap q (prec f) (low f) Q) ∙ ap (λ (z : ℕ). 4 ^ z) (assoc (prec f - 1) (spare f q) k)))

  sq_le : digits f sq ≤ 2 ^ (suc b + (q + (prec f - 1)))
  sq_le = digits_le f q b X.count Y.count X.bound Y.bound

  pub hypot_on : suc b ≤ emax f → On (q + (prec f - 1)) (suc b) (hypot_of f x y)
  hypot_on B = record {
    sign = false;
    count = digits f sq;
    value = subst (λ (z : Float). HasValue z false (digits f sq) (2 ^ (q + (prec f - 1)))) (sym hypot_is) (base_val f q sq Q (below_top f (q + (prec f - 1)) (suc b) (digits f sq) B sq_le));
    bound = sq_le;
  }

  pub hypot_scale : (k : ℕ) → suc b + k ≤ emax f → hypot_of f (scale k x) (scale k y) ≡ scale k (hypot_of f x y)
  hypot_scale k B =
      let g = q + (prec f - 1) in
      let d = digits f sq in
      let N = sq * 4 ^ (prec f - 1 + spare f q) in
      let N' = sq * 4 ^ (prec f - 1 + (spare f q + k)) in
      let u : d * 2 ^ k < 2 ^ (g + suc (emax f)) = under_top f g (suc b) k d B sq_le in
      let v = base_val f q sq Q (below_top f g (suc b) d (le_without (suc b) k (emax f) B) sq_le) in
      hypot_grown k
      ∙ value_unique f (root_of f N') (scale k (root_of f N)) false (d * 2 ^ k) (2 ^ g) (pow_pos g) (root_fits f N')
      (scale_fits f k (root_of f N) false d (2 ^ g) (root_fits f N) v (subst (λ (z : ℕ). d * 2 ^ k < z) (pow-add 2 g (suc (emax f)) ∙ mul_comm (2 ^ g) (2 ^ suc (emax f))) u))
      (grown_val f q sq k Q u)
      (scale_val k (root_of f N) false d (2 ^ g) v)
      ∙ ap (scale k) (sym hypot_is)

pub twin_hypot : (f : Format) (k q b : ℕ) (x x' y y' : Float) → q + (prec f - 1) ≤ low f → suc b + k ≤ emax f → Twin k q b x x' → Twin k q b y y' → Twin k (q + (prec f - 1)) (suc b) (hypot_of f x y) (hypot_of f x' y')
twin_hypot f k q b x x' y y' Q B X Y = record {
  grid = hypot_on f q Q b x y X.grid Y.grid (le_without (suc b) k (emax f) B);
  is = (λ i. hypot_of f (X.is i) (Y.is i)) ∙ hypot_scale f q Q b x y X.grid Y.grid k B;
}
