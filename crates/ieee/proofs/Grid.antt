-- The numbers of a grid, whole multiples of 2 ^ -q that are at most 2 ^ b: the result of each operation is on a grid (`..-on`), and multiplying the operands by 2 ^ k
-- multiplies the result, as data (`..-scale`). Assumes nothing.
use mathlib.Core.Path.{◌≡◌, refl, sym, ap, ◌∙◌, subst}
use Prim.Native.Nat.{ℕ, zero, suc, ◌+◌, ◌-◌, ◌*◌, ◌/◌, ◌%◌, ◌^◌, ◌≤◌, ◌<◌, zero-le}
use native.Mathlib.Nat.{le_refl, le_trans, le_of_eq, lt_of_le_of_lt, zero-lt-suc, zero-mul, one-mul, mul-one, add-zero, add_right_comm, add-mul, mul_comm, mul_assoc, mul_right_comm, mul-le-mul, mul-le-mul_right, le_of_mul-le-mul_right, mul-lt-mul_of_pos_right, div-add-mod', mul-mod_left, two-pow-succ}
use native.Mathlib.Omega.{arith}
use mathlib.Core.Bool.{Bool, true, false, not, ◌&&◌, beq, cond}
use lib.IntN.{ℤ, pos, negsuc}
use lib.Dec.{T, ltb, eqb, leb, eqb→eq, leb→le, le→leb}
use lib.Pow.{pow-add, pow_pos, pow_mono}
use lib.Ieee.{Float, nan, inf, fin, Format, prec, emax, low, up, down, unlike, size, round, neg, sum, add, sub, mul, fits}
use lib.Ieee.Fits.{and_i, and_l, and_r, eq→eqb, down_pos}
use lib.Ieee.Exact.{HasValue}
use lib.Ieee.Nearest.{closest}
use lib.Ieee.Scale.{overflow, finite}
use Rattle.ieee.specs.Sign.{abs}
use Rattle.ieee.specs.Fused.{fma}
use Rattle.ieee.specs.Cut.{cut}
use Rattle.ieee.specs.Grid.{scale, on, On}
use Rattle.ieee.proofs.Digits.{pow_lt_back, pow_split, sub_mul}
use Rattle.ieee.proofs.Tests.{ltb_mul}
use Rattle.ieee.proofs.Cut.{cut_is, cut_exact, cut_small, cut_scale, cut_mono, cut_le_pow, cut_absorb}
use Rattle.ieee.proofs.Value.{fits_elim, rescale, neg_val, abs_val, scale_val}
use Rattle.ieee.proofs.Units.{units_inf, by_overflow}
use Rattle.ieee.proofs.Round.{prec_pos, place, round_units, round_own, round_scale, round_on, under_top}
use Rattle.ieee.proofs.Operations.{unlike_false, add_at, sub_is, mul_at, fma_at}

-- ---- a finer grid, a larger bound
wide : (b q b' q' : ℕ) → b ≤ b' → q ≤ q' → b + q + (q' - q) ≤ b' + q'
wide b q b' q' B Q = omega arith

pub weaken : (q b q' b' : ℕ) (x : Float) → q ≤ q' → b ≤ b' → On q b x → On q' b' x
weaken q b q' b' x Q B X =
    let w = 2 ^ (q' - q) in
    let sp : 2 ^ q * w ≡ 2 ^ q' = pow_split q q' Q in
    record {
      sign = X.sign;
      count = X.count * w;
      value = rescale x X.sign X.count (2 ^ q) (X.count * w) (2 ^ q') (pow_pos q) (mul_assoc X.count w (2 ^ q) ∙ ap (λ (z : ℕ). X.count * z) (mul_comm w (2 ^ q) ∙ sp)) X.value;
      bound = le_trans (mul-le-mul_right w X.bound) (le_trans (le_of_eq (sym (pow-add 2 (b + q) (q' - q)))) (pow_mono (wide b q b' q' B Q)));
    }

pub zero_on : (q b : ℕ) (s : Bool) → On q b (fin s 0 (pos 0))
zero_on q b s = record { sign = s; count = 0; value = (refl, zero-mul (2 ^ q)); bound = zero-le }

-- ---- the test and the record, each from the other. `On→on` is for readers: it says that the test misses no number of the grid.
pub on→On : (q b : ℕ) (x : Float) → T (on q b x) → On q b x
on→On q b nan t = absurd t
on→On q b (inf s) t = absurd t
on→On q b (fin s m e) t =
    let n = m * up e * 2 ^ q / down e in
    let w : m * up e * 2 ^ q ≡ n * down e = sym (div-add-mod' (m * up e * 2 ^ q) (down e)) ∙ ap (λ (z : ℕ). n * down e + z) (eqb→eq (m * up e * 2 ^ q % down e) 0 (and_l (eqb (m * up e * 2 ^ q % down e) 0) (leb (m * up e) (2 ^ b * down e)) t)) ∙ add-zero (n * down e) in
    let l : m * up e ≤ 2 ^ b * down e = leb→le (m * up e) (2 ^ b * down e) (and_r (eqb (m * up e * 2 ^ q % down e) 0) (leb (m * up e) (2 ^ b * down e)) t) in
    record {
      sign = s;
      count = n;
      value = (refl, w);
      bound = le_of_mul-le-mul_right (le_trans (le_of_eq (sym w)) (le_trans (mul-le-mul_right (2 ^ q) l) (le_of_eq (mul_right_comm (2 ^ b) (down e) (2 ^ q) ∙ ap (λ (z : ℕ). z * down e) (sym (pow-add 2 b q)))))) (down_pos e);
    }

On-on : (q b : ℕ) (x : Float) (s : Bool) (n : ℕ) → HasValue x s n (2 ^ q) → n ≤ 2 ^ (b + q) → T (on q b x)
On-on q b nan s n v l = absurd v
On-on q b (inf t) s n v l = absurd v
On-on q b (fin t m e) s n v l =
    and_i (eqb (m * up e * 2 ^ q % down e) 0) (leb (m * up e) (2 ^ b * down e))
    (eq→eqb (ap (λ (z : ℕ). z % down e) v.1 ∙ mul-mod_left n (down e)))
    (le→leb (m * up e) (2 ^ b * down e)
    (le_of_mul-le-mul_right
    (le_trans (le_of_eq v.1) (le_trans (mul-le-mul_right (down e) l) (le_of_eq (ap (λ (z : ℕ). z * down e) (pow-add 2 b q) ∙ mul_right_comm (2 ^ b) (2 ^ q) (down e)))))
    (pow_pos q)))

pub On→on : (q b : ℕ) (x : Float) → On q b x → T (on q b x)
On→on q b x X = On-on q b x X.sign X.count X.value X.bound

-- ---- enlarged
pub scale_on : (k q b : ℕ) (x : Float) → On q b x → On q (b + k) (scale k x)
scale_on k q b x X = record {
  sign = X.sign;
  count = X.count * 2 ^ k;
  value = scale_val k x X.sign X.count (2 ^ q) X.value;
  bound = le_trans (mul-le-mul_right (2 ^ k) X.bound) (le_of_eq (sym (pow-add 2 (b + q) k) ∙ ap (λ (z : ℕ). 2 ^ z) (add_right_comm b q k)));
}

-- ---- the sign
pub neg_scale : (k : ℕ) (x : Float) → neg (scale k x) ≡ scale k (neg x)
unfolding neg
neg_scale k nan = refl
neg_scale k (inf s) = refl
neg_scale k (fin s zero e) = refl
neg_scale k (fin s (suc m) e) = refl

pub abs_scale : (k : ℕ) (x : Float) → abs (scale k x) ≡ scale k (abs x)
abs_scale k nan = refl
abs_scale k (inf s) = refl
abs_scale k (fin s zero e) = refl
abs_scale k (fin s (suc m) e) = refl

pub neg_on : (q b : ℕ) (x : Float) → On q b x → On q b (neg x)
neg_on q b x X = record { sign = not X.sign; count = X.count; value = neg_val x X.sign X.count (2 ^ q) X.value; bound = X.bound }

pub abs_on : (q b : ℕ) (x : Float) → On q b x → On q b (abs x)
abs_on q b x X = record { sign = false; count = X.count; value = abs_val x X.sign X.count (2 ^ q) X.value; bound = X.bound }

-- ---- the enlarged sum, on the grid of 2 ^ -q
cond_scale : (k : ℕ) (b : Bool) (x y : Float) → scale k (cond b x y) ≡ cond b (scale k x) (scale k y)
cond_scale k true x y = refl
cond_scale k false x y = refl

less : (a b : ℕ) → a - b ≤ a + b
less a b = omega arith

less' : (a b : ℕ) → b - a ≤ a + b
less' a b = omega arith

module _ (f : Format) (q : ℕ) (Q : q ≤ low f) where
  round_scale_q : (s : Bool) (n k N : ℕ) → n ≤ N → cut (prec f) N * 2 ^ k < 2 ^ (q + suc (emax f)) → round f s (n * 2 ^ k) (2 ^ q) ≡ scale k (round f s n (2 ^ q))
  round_scale_q s n k N l h = round_scale f s n (2 ^ q) q n k (pow_pos q) Q refl (lt_of_le_of_lt (mul-le-mul_right (2 ^ k) (cut_mono (prec f) n N (prec_pos f) l)) h)

  pub sum_scale : (s : Bool) (a : ℕ) (t : Bool) (b k : ℕ) → cut (prec f) (a + b) * 2 ^ k < 2 ^ (q + suc (emax f)) → sum f s (a * 2 ^ k) t (b * 2 ^ k) (2 ^ q) ≡ scale k (sum f s a t b (2 ^ q))
  unfolding sum
  sum_scale s a t b k h =
      let K = 2 ^ k in
      let u = 2 ^ q in
      (λ i. cond (beq s t) (round f s (sym (add-mul a b K) i) u) (cond (ltb_mul a b K (pow_pos k) i) (round f t (sub_mul b a K i) u) (round f (s && ltb_mul b a K (pow_pos k) i) (sub_mul a b K i) u)))
      ∙ (λ i. cond (beq s t) (round_scale_q s (a + b) k (a + b) (le_of_eq refl) h i) (cond (ltb a b) (round_scale_q t (b - a) k (a + b) (less' a b) h i) (round_scale_q (s && ltb b a) (a - b) k (a + b) (less a b) h i)))
      ∙ ap (λ (x : Float). cond (beq s t) (scale k (round f s (a + b) u)) x) (sym (cond_scale k (ltb a b) (round f t (b - a) u) (round f (s && ltb b a) (a - b) u)))
      ∙ sym (cond_scale k (beq s t) (round f s (a + b) u) (cond (ltb a b) (round f t (b - a) u) (round f (s && ltb b a) (a - b) u)))

  -- every result of a sum of a and b of the grid's units, either way, is on the grid
  pub sum_on : (s : Bool) (a : ℕ) (t : Bool) (b c : ℕ) → c ≤ emax f → cut (prec f) (a + b) ≤ 2 ^ (c + q) → On q c (sum f s a t b (2 ^ q))
  unfolding sum
  sum_on s a t b c C h = go (beq s t) (ltb a b)
    where
      one : (r : Bool) (n : ℕ) → n ≤ a + b → On q c (round f r n (2 ^ q))
      one r n l = round_on f r q c n Q C (le_trans (cut_mono (prec f) n (a + b) (prec_pos f) l) h)

      go : (x y : Bool) → On q c (cond x (round f s (a + b) (2 ^ q)) (cond y (round f t (b - a) (2 ^ q)) (round f (s && ltb b a) (a - b) (2 ^ q))))
      go true y = one s (a + b) (le_of_eq refl)
      go false true = one t (b - a) (less' a b)
      go false false = one (s && ltb b a) (a - b) (less a b)

-- ---- sums. d says how large the result can be: one more than the operands (`twice`), or as large as the first if the second is much smaller (`absorbed`)
pub twice : (p q b m n : ℕ) → 0 < p → m ≤ 2 ^ (b + q) → n ≤ 2 ^ (b + q) → cut p (m + n) ≤ 2 ^ (suc b + q)
twice p q b m n P M N = cut_le_pow p (m + n) (suc b + q) P (le_trans (both m n (2 ^ (b + q)) M N) (le_of_eq (sym (two-pow-succ (b + q)) ∙ ap (λ (z : ℕ). 2 ^ z) (one_up b q))))
  where
    both : (m n w : ℕ) → m ≤ w → n ≤ w → m + n ≤ w + w
    both m n w h k = omega arith

    one_up : (b q : ℕ) → suc (b + q) ≡ suc b + q
    one_up b q = omega arith

pub absorbed : (p q b c m n : ℕ) → 0 < p → c + p < b → m ≤ 2 ^ (b + q) → n ≤ 2 ^ (c + q) → cut p (m + n) ≤ 2 ^ (b + q)
absorbed p q b c m n P h M N = cut_absorb p (m + n) (c + q) (b + q) P (gap c q p b h) (both m n (2 ^ (b + q)) (2 ^ (c + q)) M N)
  where
    both : (m n w z : ℕ) → m ≤ w → n ≤ z → m + n ≤ w + z
    both m n w z h k = omega arith

    gap : (c q p b : ℕ) → c + p < b → c + q + p < b + q
    gap c q p b h = omega arith

module _ (f : Format) (q : ℕ) (Q : q ≤ low f) (b c : ℕ) (x y : Float) (X : On q b x) (Y : On q c y) where
  pub add_on_at : (d : ℕ) → d ≤ emax f → cut (prec f) (X.count + Y.count) ≤ 2 ^ (d + q) → On q d (add f x y)
  add_on_at d D h =
      subst (λ (z : Float). On q d z) (sym (add_at f x y X.sign Y.sign X.count Y.count (2 ^ q) (pow_pos q) X.value Y.value))
      (sum_on f q Q X.sign X.count Y.sign Y.count d D h)

  pub add_scale_at : (d k : ℕ) → d + k ≤ emax f → cut (prec f) (X.count + Y.count) ≤ 2 ^ (d + q) → add f (scale k x) (scale k y) ≡ scale k (add f x y)
  add_scale_at d k D h =
      let s = X.sign in
      let t = Y.sign in
      let m = X.count in
      let n = Y.count in
      add_at f (scale k x) (scale k y) s t (m * 2 ^ k) (n * 2 ^ k) (2 ^ q) (pow_pos q) (scale_val k x s m (2 ^ q) X.value) (scale_val k y t n (2 ^ q) Y.value)
      ∙ sum_scale f q Q s m t n k (under_top f q d k (cut (prec f) (m + n)) D h)
      ∙ ap (scale k) (sym (add_at f x y s t m n (2 ^ q) (pow_pos q) X.value Y.value))

pub add_on : (f : Format) (q b : ℕ) (x y : Float) → q ≤ low f → suc b ≤ emax f → On q b x → On q b y → On q (suc b) (add f x y)
add_on f q b x y Q B X Y = add_on_at f q Q b b x y X Y (suc b) B (twice (prec f) q b X.count Y.count (prec_pos f) X.bound Y.bound)

pub add_scale : (f : Format) (q b k : ℕ) (x y : Float) → q ≤ low f → suc b + k ≤ emax f → On q b x → On q b y → add f (scale k x) (scale k y) ≡ scale k (add f x y)
add_scale f q b k x y Q B X Y = add_scale_at f q Q b b x y X Y (suc b) k B (twice (prec f) q b X.count Y.count (prec_pos f) X.bound Y.bound)

-- a running sum: x is at most 2 ^ b, and stays so when y, at most 2 ^ c with c + prec < b, is added
pub add_on_absorb : (f : Format) (q b c : ℕ) (x y : Float) → q ≤ low f → b ≤ emax f → c + prec f < b → On q b x → On q c y → On q b (add f x y)
add_on_absorb f q b c x y Q B h X Y = add_on_at f q Q b c x y X Y b B (absorbed (prec f) q b c X.count Y.count (prec_pos f) h X.bound Y.bound)

pub add_scale_absorb : (f : Format) (q b c k : ℕ) (x y : Float) → q ≤ low f → b + k ≤ emax f → c + prec f < b → On q b x → On q c y → add f (scale k x) (scale k y) ≡ scale k (add f x y)
add_scale_absorb f q b c k x y Q B h X Y = add_scale_at f q Q b c x y X Y b k B (absorbed (prec f) q b c X.count Y.count (prec_pos f) h X.bound Y.bound)

pub sub_on : (f : Format) (q b : ℕ) (x y : Float) → q ≤ low f → suc b ≤ emax f → On q b x → On q b y → On q (suc b) (sub f x y)
sub_on f q b x y Q B X Y = subst (λ (z : Float). On q (suc b) z) (sym (sub_is f x y)) (add_on f q b x (neg y) Q B X (neg_on q b y Y))

pub sub_scale : (f : Format) (q b k : ℕ) (x y : Float) → q ≤ low f → suc b + k ≤ emax f → On q b x → On q b y → sub f (scale k x) (scale k y) ≡ scale k (sub f x y)
sub_scale f q b k x y Q B X Y =
    sub_is f (scale k x) (scale k y)
    ∙ ap (λ (z : Float). add f (scale k x) z) (neg_scale k y)
    ∙ add_scale f q b k x (neg y) Q B X (neg_on q b y Y)
    ∙ ap (scale k) (sym (sub_is f x y))

-- ---- products: y is not enlarged
tally : (q r b c m n : ℕ) → m ≤ 2 ^ (b + q) → n ≤ 2 ^ (c + r) → m * n ≤ 2 ^ (b + c + (q + r))
tally q r b c m n M N = le_trans (mul-le-mul M N) (le_of_eq (sym (pow-add 2 (b + q) (c + r)) ∙ ap (λ (z : ℕ). 2 ^ z) (mix b q c r)))
  where
    mix : (b q c r : ℕ) → b + q + (c + r) ≡ b + c + (q + r)
    mix b q c r = omega arith

module _ (f : Format) (q r : ℕ) (Q : q + r ≤ low f) (b c : ℕ) (x y : Float) (X : On q b x) (Y : On r c y) where
  cut_prod : cut (prec f) (X.count * Y.count) ≤ 2 ^ (b + c + (q + r))
  cut_prod = cut_le_pow (prec f) (X.count * Y.count) (b + c + (q + r)) (prec_pos f) (tally q r b c X.count Y.count X.bound Y.bound)

  mul_is : mul f x y ≡ round f (unlike X.sign Y.sign) (X.count * Y.count) (2 ^ (q + r))
  mul_is =
      mul_at f x y X.sign Y.sign X.count (2 ^ q) Y.count (2 ^ r) (pow_pos q) (pow_pos r) X.value Y.value
      ∙ ap (λ (z : ℕ). round f (unlike X.sign Y.sign) (X.count * Y.count) z) (sym (pow-add 2 q r))

  pub mul_on : b + c ≤ emax f → On (q + r) (b + c) (mul f x y)
  mul_on B = subst (λ (z : Float). On (q + r) (b + c) z) (sym mul_is) (round_on f (unlike X.sign Y.sign) (q + r) (b + c) (X.count * Y.count) Q B cut_prod)

  pub mul_scale : (k : ℕ) → b + c + k ≤ emax f → mul f (scale k x) y ≡ scale k (mul f x y)
  mul_scale k B =
      mul_at f (scale k x) y X.sign Y.sign (X.count * 2 ^ k) (2 ^ q) Y.count (2 ^ r) (pow_pos q) (pow_pos r) (scale_val k x X.sign X.count (2 ^ q) X.value) Y.value
      ∙ ap (λ (z : ℕ). round f (unlike X.sign Y.sign) z (2 ^ q * 2 ^ r)) (mul_right_comm X.count (2 ^ k) Y.count)
      ∙ ap (λ (z : ℕ). round f (unlike X.sign Y.sign) (X.count * Y.count * 2 ^ k) z) (sym (pow-add 2 q r))
      ∙ round_scale f (unlike X.sign Y.sign) (X.count * Y.count) (2 ^ (q + r)) (q + r) (X.count * Y.count) k (pow_pos (q + r)) Q refl
      (under_top f (q + r) (b + c) k (cut (prec f) (X.count * Y.count)) B cut_prod)
      ∙ ap (scale k) (sym mul_is)

-- ---- fused: the weight w is not enlarged, x and z are. z is on the product's grid (`weaken` takes it there)
module _ (f : Format) (r q : ℕ) (Q : r + q ≤ low f) (c b d : ℕ) (w x z : Float) (W : On r c w) (X : On q b x) (Z : On (r + q) d z) where
  z_at : HasValue z Z.sign Z.count (2 ^ r * 2 ^ q)
  z_at = subst (λ (u : ℕ). HasValue z Z.sign Z.count u) (pow-add 2 r q) Z.value

  fma_is : fma f w x z ≡ sum f (unlike W.sign X.sign) (W.count * X.count) Z.sign Z.count (2 ^ (r + q))
  fma_is =
      fma_at f w x z W.sign X.sign Z.sign W.count (2 ^ r) X.count (2 ^ q) Z.count (pow_pos r) (pow_pos q) W.value X.value z_at
      ∙ ap (λ (u : ℕ). sum f (unlike W.sign X.sign) (W.count * X.count) Z.sign Z.count u) (sym (pow-add 2 r q))

  cut_fma : (e : ℕ) → c + b ≤ e → d ≤ e → cut (prec f) (W.count * X.count + Z.count) ≤ 2 ^ (suc e + (r + q))
  cut_fma e CB D =
      twice (prec f) (r + q) e (W.count * X.count) Z.count (prec_pos f)
      (le_trans (tally r q c b W.count X.count W.bound X.bound) (pow_mono (more (c + b) e (r + q) CB)))
      (le_trans Z.bound (pow_mono (more d e (r + q) D)))
    where
      more : (a e u : ℕ) → a ≤ e → a + u ≤ e + u
      more a e u h = omega arith

  pub fma_on : (e : ℕ) → c + b ≤ e → d ≤ e → suc e ≤ emax f → On (r + q) (suc e) (fma f w x z)
  fma_on e CB D E =
      subst (λ (v : Float). On (r + q) (suc e) v) (sym fma_is)
      (sum_on f (r + q) Q (unlike W.sign X.sign) (W.count * X.count) Z.sign Z.count (suc e) E (cut_fma e CB D))

  pub fma_scale : (e k : ℕ) → c + b ≤ e → d ≤ e → suc e + k ≤ emax f → fma f w (scale k x) (scale k z) ≡ scale k (fma f w x z)
  fma_scale e k CB D E =
      let s = unlike W.sign X.sign in
      fma_at f w (scale k x) (scale k z) W.sign X.sign Z.sign W.count (2 ^ r) (X.count * 2 ^ k) (2 ^ q) (Z.count * 2 ^ k) (pow_pos r) (pow_pos q) W.value
      (scale_val k x X.sign X.count (2 ^ q) X.value) (scale_val k z Z.sign Z.count (2 ^ r * 2 ^ q) z_at)
      ∙ ap (λ (u : ℕ). sum f s u Z.sign (Z.count * 2 ^ k) (2 ^ r * 2 ^ q)) (sym (mul_assoc W.count X.count (2 ^ k)))
      ∙ ap (λ (u : ℕ). sum f s (W.count * X.count * 2 ^ k) Z.sign (Z.count * 2 ^ k) u) (sym (pow-add 2 r q))
      ∙ sum_scale f (r + q) Q s (W.count * X.count) Z.sign Z.count k (under_top f (r + q) (suc e) k (cut (prec f) (W.count * X.count + Z.count)) E (cut_fma e CB D))
      ∙ ap (scale k) (sym fma_is)

-- ---- a value that is 2 ^ -e at least has its last digit at 2 ^ -(e + prec - 1) or above
last : (a p e : ℕ) → suc a < p + e → suc a ≤ e + (p - 1)
last a p e h = omega arith

down_small : (f : Format) (m : ℕ) (d : ℤ) (e : ℕ) → m < 2 ^ prec f → down d ≤ m * up d * 2 ^ e → down d ≤ 2 ^ (e + (prec f - 1))
down_small f m (pos a) e M h = pow_pos (e + (prec f - 1))
down_small f m (negsuc a) e M h =
    pow_mono (last a (prec f) e (pow_lt_back (suc a) (prec f + e)
    (lt_of_le_of_lt h (subst (λ (z : ℕ). m * 1 * 2 ^ e < z) (sym (pow-add 2 (prec f) e)) (mul-lt-mul_of_pos_right (subst (λ (z : ℕ). z < 2 ^ prec f) (sym (mul-one m)) M) (pow_pos e))))))

pub big_on : (f : Format) (s : Bool) (m : ℕ) (d : ℤ) (e b : ℕ) → T (fits f (fin s (suc m) d)) → down d ≤ suc m * up d * 2 ^ e → suc m * up d ≤ 2 ^ b * down d → On (e + (prec f - 1)) b (fin s (suc m) d)
big_on f s m d e b t lo hi =
    let g = fits_elim f s m d t in
    let l = e + (prec f - 1) in
    let pl = place l d (down_small f (suc m) d e g.1 lo) in
    let h : suc m * up d * 2 ^ l ≡ suc m * 2 ^ pl.0 * down d = mul_assoc (suc m) (up d) (2 ^ l) ∙ ap (λ (x : ℕ). suc m * x) pl.1 ∙ sym (mul_assoc (suc m) (2 ^ pl.0) (down d)) in
    record {
      sign = s;
      count = suc m * 2 ^ pl.0;
      value = (refl, h);
      bound =
          le_of_mul-le-mul_right
          (le_trans (le_of_eq (sym h)) (le_trans (mul-le-mul_right (2 ^ l) hi) (le_of_eq (mul_right_comm (2 ^ b) (down d) (2 ^ l) ∙ ap (λ (x : ℕ). x * down d) (sym (pow-add 2 b l))))))
          (down_pos d);
    }

-- ---- the exact multiple is the product with the float 2 ^ k, rounded
doubled : (f : Format) (k q : ℕ) (x : Float) (s : Bool) (n : ℕ) → HasValue x s n (2 ^ q) → mul f x (fin false 1 (pos k)) ≡ round f s (n * 2 ^ k) (2 ^ q)
doubled f k q x s n X =
    let v : HasValue (fin false 1 (pos k)) false (2 ^ k) 1 = (refl, ap (λ (z : ℕ). z * 1) (one-mul (2 ^ k))) in
    mul_at f x (fin false 1 (pos k)) s false n (2 ^ q) (2 ^ k) 1 (pow_pos q) (zero-lt-suc 0) X v
    ∙ (λ i. round f (unlike_false s i) (n * 2 ^ k) (mul-one (2 ^ q) i))

pub mul_pow : (f : Format) (k q b : ℕ) (x : Float) → q ≤ low f → b + k ≤ emax f → T (fits f x) → On q b x → mul f x (fin false 1 (pos k)) ≡ scale k x
mul_pow f k q b x Q B t X =
    let s = X.sign in
    let n = X.count in
    doubled f k q x s n X.value
    ∙ round_scale f s n (2 ^ q) q n k (pow_pos q) Q refl (under_top f q b k (cut (prec f) n) B (cut_le_pow (prec f) n (b + q) (prec_pos f) X.bound))
    ∙ ap (scale k) (round_own f x s n (2 ^ q) t (pow_pos q) X.value)

-- ---- and so it is for every float of the format but where that product overflows

-- a finite float in the format's smallest values, of which it keeps all digits
record InUnits (f : Format) (s : Bool) (x : Float) : Type 0 where
  count : ℕ
  value : HasValue x s count (2 ^ low f)
  kept : cut (prec f) count ≡ count

in_units : (f : Format) (s : Bool) (m : ℕ) (e : ℤ) → T (fits f (fin s m e)) → InUnits f s (fin s m e)
in_units f s zero e t = record {
  count = 0;
  value = (refl, ap (λ (n : ℕ). n * 2 ^ low f) (zero-mul (up e)) ∙ zero-mul (2 ^ low f) ∙ sym (zero-mul (down e)));
  kept = cut_small (prec f) 0 (pow_pos (prec f));
}
in_units f s (suc m) e t =
    let g = fits_elim f s m e t in
    let pl = place (low f) e g.2 in
    record {
      count = suc m * 2 ^ pl.0;
      value = (refl, mul_assoc (suc m) (up e) (2 ^ low f) ∙ ap (λ (n : ℕ). suc m * n) pl.1 ∙ sym (mul_assoc (suc m) (2 ^ pl.0) (down e)));
      kept = cut_exact (prec f) (suc m) pl.0 g.1;
    }

module _ (f : Format) (k : ℕ) (s : Bool) (m : ℕ) (e : ℤ) (t : T (fits f (fin s m e))) where
  abbrev x : Float
  x = fin s m e

  abbrev U : InUnits f s x
  U = in_units f s m e t

  as_units : mul f x (fin false 1 (pos k)) ≡ round f s (U.count * 2 ^ k) (2 ^ low f)
  as_units = doubled f k (low f) x s U.count U.value

  below : U.count * 2 ^ k < overflow f → mul f x (fin false 1 (pos k)) ≡ scale k x
  below h =
      as_units
      ∙ round_scale f s U.count (2 ^ low f) (low f) U.count k (pow_pos (low f)) (le_refl (low f)) refl
      (subst (λ (n : ℕ). n * 2 ^ k < overflow f) (sym U.kept) h)
      ∙ ap (scale k) (round_own f x s U.count (2 ^ low f) t (pow_pos (low f)) U.value)

  above : overflow f ≤ U.count * 2 ^ k → mul f x (fin false 1 (pos k)) ≡ inf s
  above h =
      let M = U.count * 2 ^ k in
      let kept : M ≡ cut (prec f) M = ap (λ (n : ℕ). n * 2 ^ k) (sym U.kept) ∙ sym (cut_scale (prec f) U.count k (prec_pos f)) in
      as_units
      ∙ round_units f s M
      ∙ units_inf f s (closest M (2 ^ (size M - prec f))) (size M - prec f) (subst (λ (n : ℕ). overflow f ≤ n) (kept ∙ cut_is (prec f) M) h)

pub mul_pow_finite : (f : Format) (k : ℕ) (x : Float) → T (fits f x) → (T (finite x) → T (finite (mul f x (fin false 1 (pos k)))))
    → mul f x (fin false 1 (pos k)) ≡ scale k x
unfolding mul
mul_pow_finite f k nan t h = refl
mul_pow_finite f k (inf s) t h = ap inf (unlike_false s)
mul_pow_finite f k (fin s m e) t h =
    by_overflow f ((in_units f s m e t).count * 2 ^ k) (mul f (fin s m e) (fin false 1 (pos k)) ≡ scale k (fin s m e))
    (below f k s m e t)
    (λ g. absurd (subst (λ (y : Float). T (finite y)) (above f k s m e t g) (h tt)))
