-- Tests of |x| ≤ c on a grid, against a constant c = u / v that is not multiplied: a limit that no number of the grid passes (`within`), and a constant finer than the grid,
-- against which only a zero passes (`small_is_zero`); the latter also without the absolute value (`twin_le_small`). And that |x| ≤ c, of any x and c, is -c ≤ x ≤ c
-- (`within_both`). Assumes nothing.
use mathlib.Core.Path.{◌≡◌, refl, sym, ap, ◌∙◌, subst}
use Prim.Native.Nat.{ℕ, zero, suc, ◌+◌, ◌*◌, ◌^◌, ◌≤◌, ◌<◌}
use native.Mathlib.Nat.{le_trans, le_of_eq, lt_irrefl, zero-lt-suc, zero-mul, suc-mul, mul_comm, mul_assoc, mul_right_comm, mul-le-mul_right, mul-pos}
use native.Mathlib.Omega.{arith}
use mathlib.Core.Bool.{Bool, true, false, not, ◌&&◌, ◌||◌}
use lib.Dec.{T, eqb, eqb→eq, eqb-suc-zero}
use lib.Pow.{pow-add, pow_pos}
use lib.Ieee.{Float, nan, inf, fin, up, down, neg, le, below, level}
use lib.Ieee.Fits.{up_pos, down_pos, and_i, and_l, and_r}
use lib.Ieee.Exact.{HasValue}
use lib.Ieee.Order.{le_of_values}
use Rattle.ieee.specs.Sign.{abs, is_zero}
use Rattle.ieee.specs.Grid.{scale, On, Twin}
use Rattle.ieee.proofs.Tests.{same_test, eqb_mul}
use Rattle.ieee.proofs.Signed.{Le, test→Le, Le→test}
use Rattle.ieee.proofs.Value.{rescale, abs_val, scale_val}
use Rattle.ieee.proofs.Comparison.{le_at}
use Rattle.ieee.proofs.Grid.{scale_on}

-- c is u / v, and 2 ^ b at least: no number of the grid is above it
pub within : (q b : ℕ) (x c : Float) (u v : ℕ) → On q b x → 0 < v → HasValue c false u v → 2 ^ b * v ≤ u → T (le (abs x) c)
within q b x c u v X pv w h =
    le_of_values (abs x) c X.count (2 ^ q) u v (pow_pos q) pv (abs_val x X.sign X.count (2 ^ q) X.value) w
    (le_trans (mul-le-mul_right v X.bound) (le_trans (le_of_eq (ap (λ (z : ℕ). z * v) (pow-add 2 b q) ∙ mul_right_comm (2 ^ b) (2 ^ q) v)) (mul-le-mul_right (2 ^ q) h)))

-- ---- zeros
zero_of : (m u c n d : ℕ) → 0 < u → 0 < c → 0 < d → m * u * c ≡ n * d → eqb m 0 ≡ eqb n 0
zero_of zero u c zero d U C D h = refl
zero_of zero u c (suc n) d U C D h = absurd (lt_irrefl 0 (subst (λ (x : ℕ). 0 < x) (sym h ∙ ap (λ (x : ℕ). x * c) (zero-mul u) ∙ zero-mul c) (mul-pos (zero-lt-suc n) D)))
zero_of (suc m) u c zero d U C D h = absurd (lt_irrefl 0 (subst (λ (x : ℕ). 0 < x) (h ∙ zero-mul d) (mul-pos (mul-pos (zero-lt-suc m) U) C)))
zero_of (suc m) u c (suc n) d U C D h = eqb-suc-zero m ∙ sym (eqb-suc-zero n)

zero_val : (x : Float) (s : Bool) (n c : ℕ) → 0 < c → HasValue x s n c → is_zero x ≡ eqb n 0
zero_val nan s n c C v = absurd v
zero_val (inf t) s n c C v = absurd v
zero_val (fin t m e) s n c C v = zero_of m (up e) c n (down e) (up_pos e) C (down_pos e) v.1

is_zero_scale : (k : ℕ) (x : Float) → is_zero (scale k x) ≡ is_zero x
is_zero_scale k nan = refl
is_zero_scale k (inf s) = refl
is_zero_scale k (fin s zero e) = refl
is_zero_scale k (fin s (suc m) e) = refl

-- ---- ±n ≤ w, as `le` tests it: a multiple of v is at most w < v just where it is negative or none
only_zero : (s : Bool) (n v w : ℕ) → w < v → (below s (n * v) false w || level s (n * v) false w) ≡ (s || eqb n 0)
only_zero true n v w h = same_test (below true (n * v) false w || level true (n * v) false w) true (λ t. tt) (λ t. Le→test true (n * v) false w (omega arith))
only_zero false n v w h =
    same_test (below false (n * v) false w || level false (n * v) false w) (eqb n 0) (λ t. none n (test→Le false (n * v) false w t)) (λ t. Le→test false (n * v) false w (all n (eqb→eq n 0 t)))
  where
    none : (n : ℕ) → n * v + 0 ≤ w + 0 → T (eqb n 0)
    none zero l = tt
    none (suc n) l = absurd (omega (arith, suc-mul n v))

    all : (n : ℕ) → n ≡ 0 → n * v + 0 ≤ w + 0
    all n e = let z : n * v ≡ 0 = ap (λ (x : ℕ). x * v) e ∙ zero-mul v in omega arith

-- c is below 2 ^ -q: x ≤ c says that x is negative or a zero
le_small : (q : ℕ) (x c : Float) (s : Bool) (n u v : ℕ) → HasValue x s n (2 ^ q) → 0 < v → HasValue c false u v → u * 2 ^ q < v → le x c ≡ (s || eqb n 0)
le_small q x c s n u v X pv w h =
    le_at x c s false (n * v) (u * 2 ^ q) (2 ^ q * v) (mul-pos (pow_pos q) pv)
    (rescale x s n (2 ^ q) (n * v) (2 ^ q * v) (pow_pos q) (mul_assoc n v (2 ^ q) ∙ ap (λ (z : ℕ). n * z) (mul_comm v (2 ^ q))) X)
    (rescale c false u v (u * 2 ^ q) (2 ^ q * v) pv (mul_assoc u (2 ^ q) v) w)
    ∙ only_zero s n v (u * 2 ^ q) h

-- so the test is the same for x times 2 ^ k
pub twin_le_small : (k q b : ℕ) (x x' c : Float) (u v : ℕ) → Twin k q b x x' → 0 < v → HasValue c false u v → u * 2 ^ q < v → le x' c ≡ le x c
twin_le_small k q b x x' c u v X pv w h =
    let s = X.grid.sign in
    let n = X.grid.count in
    ap (λ (z : Float). le z c) X.is
    ∙ le_small q (scale k x) c s (n * 2 ^ k) u v (scale_val k x s n (2 ^ q) X.grid.value) pv w h
    ∙ ap (λ (z : ℕ). s || eqb (n * 2 ^ k) z) (sym (zero-mul (2 ^ k)))
    ∙ ap (λ (z : Bool). s || z) (eqb_mul n 0 (2 ^ k) (pow_pos k))
    ∙ sym (le_small q x c s n u v X.grid.value pv w h)

-- and |x| ≤ c says that x is a zero
pub small_is_zero : (q b : ℕ) (x c : Float) (u v : ℕ) → On q b x → 0 < v → HasValue c false u v → u * 2 ^ q < v → le (abs x) c ≡ is_zero x
small_is_zero q b x c u v X pv w h =
    le_small q (abs x) c false X.count u v (abs_val x X.sign X.count (2 ^ q) X.value) pv w h
    ∙ sym (zero_val x X.sign X.count (2 ^ q) (pow_pos q) X.value)

-- so this test is the same for x times 2 ^ k too
pub twin_small : (k q b : ℕ) (x x' c : Float) (u v : ℕ) → Twin k q b x x' → 0 < v → HasValue c false u v → u * 2 ^ q < v → le (abs x') c ≡ le (abs x) c
twin_small k q b x x' c u v X pv w h =
    ap (λ (z : Float). le (abs z) c) X.is
    ∙ small_is_zero q (b + k) (scale k x) c u v (scale_on k q b x X.grid) pv w h
    ∙ is_zero_scale k x
    ∙ sym (small_is_zero q b x c u v X.grid pv w h)

-- ---- |x| ≤ c by two comparisons, whatever x and c are
-- a ≤ ±b is ±a ≤ ±b and -±b ≤ ±a
above : (s t : Bool) (a b : ℕ) → Le false a t b → Le s a t b
above false t a b h = h
above true false a b h = omega arith
above true true a b h = omega arith

under : (s t : Bool) (a b : ℕ) → Le false a t b → Le (not t) b s a
under false false a b h = omega arith
under false true a b h = omega arith
under true false a b h = omega arith
under true true a b h = omega arith

between : (s t : Bool) (a b : ℕ) → Le s a t b → Le (not t) b s a → Le false a t b
between false t a b h k = h
between true false a b h k = omega arith
between true true a b h k = omega arith

both : (s t : Bool) (a b : ℕ) → (below false a t b || level false a t b) ≡ ((below s a t b || level s a t b) && (below (not t) b s a || level (not t) b s a))
both s t a b =
    let p = below s a t b || level s a t b in
    let q = below (not t) b s a || level (not t) b s a in
    same_test (below false a t b || level false a t b) (p && q)
    (λ h. let l = test→Le false a t b h in and_i p q (Le→test s a t b (above s t a b l)) (Le→test (not t) b s a (under s t a b l)))
    (λ h. Le→test false a t b (between s t a b (test→Le s a t b (and_l p q h)) (test→Le (not t) b s a (and_r p q h))))

pub within_both : (x c : Float) → le (abs x) c ≡ (le x c && le (neg c) x)
unfolding neg le
within_both nan c = refl
within_both (inf s) nan = refl
within_both (inf false) (inf false) = refl
within_both (inf false) (inf true) = refl
within_both (inf true) (inf false) = refl
within_both (inf true) (inf true) = refl
within_both (inf false) (fin t n d) = refl
within_both (inf true) (fin t n d) = refl
within_both (fin s m e) nan = refl
within_both (fin s m e) (inf false) = refl
within_both (fin s m e) (inf true) = refl
within_both (fin s m e) (fin t n d) = both s t (m * up e * down d) (n * up d * down e)
