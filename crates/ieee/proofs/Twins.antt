-- One law for each operation: where the operands are multiplied by 2 ^ k, so is the result, and it is on a grid again. These are the laws to cite.
-- Assumes nothing.
use mathlib.Core.Path.{◌≡◌, refl, sym, ap, ◌∙◌, subst}
use Prim.Native.Nat.{ℕ, zero, suc, ◌+◌, ◌*◌, ◌^◌, ◌≤◌, ◌<◌}
use native.Mathlib.Nat.{add_comm, mul-pos, mul_comm, mul_assoc, mul-le-mul_right, le-mul_of_pos_right}
use native.Mathlib.Omega.{arith}
use mathlib.Core.Bool.{Bool, true, false, cond, ◌||◌}
use lib.Dec.{T}
use lib.Pow.{pow_pos}
use lib.Ieee.{Float, nan, inf, fin, Format, prec, emax, low, neg, add, sub, mul, lt, le, is_nan, below, level, of_bits}
use lib.Ieee.Exact.{HasValue}
use Rattle.ieee.specs.Literal.{zero32}
use Rattle.ieee.specs.Sign.{abs}
use Rattle.ieee.specs.Choice.{min, max, at_least, at_most, clamp}
use Rattle.ieee.specs.Fused.{fma}
use Rattle.ieee.specs.Cut.{cut}
use Rattle.ieee.specs.Grid.{scale, On, Twin}
use Rattle.ieee.proofs.Digits.{le_without}
use Rattle.ieee.proofs.Value.{rescale, scale_val}
use Rattle.ieee.proofs.Signed.{Le, test→Le, Le→test}
use Rattle.ieee.proofs.Comparison.{le_at, lt_scale}
use Rattle.ieee.proofs.Operations.{mul_swap, fma_swap}
use Rattle.ieee.proofs.Round.{prec_pos}
use Rattle.ieee.proofs.Grid.{weaken, zero_on, neg_on, abs_on, neg_scale, abs_scale, absorbed, add_on_at, add_scale_at, add_on, add_scale, add_on_absorb, add_scale_absorb, sub_on, sub_scale, mul_on, mul_scale, fma_on, fma_scale}

pub twin_of : (k q b : ℕ) (x : Float) → On q b x → Twin k q b x (scale k x)
twin_of k q b x X = record { grid = X; is = refl }

pub twin_weaken : (k q b q' b' : ℕ) (x x' : Float) → q ≤ q' → b ≤ b' → Twin k q b x x' → Twin k q' b' x x'
twin_weaken k q b q' b' x x' Q B X = record { grid = weaken q b q' b' x Q B X.grid; is = X.is }

-- the same, with what the twin shows left out
pub finer : {k q b : ℕ} (q' b' : ℕ) {x x' : Float} → q ≤ q' → b ≤ b' → Twin k q b x x' → Twin k q' b' x x'
finer {k} {q} {b} q' b' {x} {x'} Q B X = twin_weaken k q b q' b' x x' Q B X

pub zero_twin : (k q b : ℕ) → Twin k q b zero32 zero32
unfolding of_bits
zero_twin k q b = record { grid = zero_on q b false; is = refl }

pub twin_neg : (k q b : ℕ) (x x' : Float) → Twin k q b x x' → Twin k q b (neg x) (neg x')
twin_neg k q b x x' X = record { grid = neg_on q b x X.grid; is = ap neg X.is ∙ neg_scale k x }

pub twin_abs : (k q b : ℕ) (x x' : Float) → Twin k q b x x' → Twin k q b (abs x) (abs x')
twin_abs k q b x x' X = record { grid = abs_on q b x X.grid; is = ap abs X.is ∙ abs_scale k x }

pub twin_add : (f : Format) (k q b : ℕ) (x x' y y' : Float) → q ≤ low f → suc b + k ≤ emax f → Twin k q b x x' → Twin k q b y y' → Twin k q (suc b) (add f x y) (add f x' y')
twin_add f k q b x x' y y' Q B X Y = record {
  grid = add_on f q b x y Q (le_without (suc b) k (emax f) B) X.grid Y.grid;
  is = (λ i. add f (X.is i) (Y.is i)) ∙ add_scale f q b k x y Q B X.grid Y.grid;
}

-- a running sum: x is at most 2 ^ b and stays so, however often a y of at most 2 ^ c is added, where c + prec < b
pub twin_add_absorb : (f : Format) (k q b c : ℕ) (x x' y y' : Float) → q ≤ low f → b + k ≤ emax f → c + prec f < b → Twin k q b x x' → Twin k q c y y' → Twin k q b (add f x y) (add f x' y')
twin_add_absorb f k q b c x x' y y' Q B C X Y = record {
  grid = add_on_absorb f q b c x y Q (le_without b k (emax f) B) C X.grid Y.grid;
  is = (λ i. add f (X.is i) (Y.is i)) ∙ add_scale_absorb f q b c k x y Q B C X.grid Y.grid;
}

-- the same with the small one first
pub twin_add_absorb_right : (f : Format) (k q b c : ℕ) (x x' y y' : Float) → q ≤ low f → b + k ≤ emax f → c + prec f < b → Twin k q c x x' → Twin k q b y y' → Twin k q b (add f x y) (add f x' y')
twin_add_absorb_right f k q b c x x' y y' Q B C X Y = record {
  grid = add_on_at f q Q c b x y X.grid Y.grid b (le_without b k (emax f) B) few;
  is = (λ i. add f (X.is i) (Y.is i)) ∙ add_scale_at f q Q c b x y X.grid Y.grid b k B few;
}
  where
    few : cut (prec f) (X.grid.count + Y.grid.count) ≤ 2 ^ (b + q)
    few =
        subst (λ (n : ℕ). cut (prec f) n ≤ 2 ^ (b + q)) (add_comm Y.grid.count X.grid.count)
        (absorbed (prec f) q b c Y.grid.count X.grid.count (prec_pos f) C Y.grid.bound X.grid.bound)

pub twin_sub : (f : Format) (k q b : ℕ) (x x' y y' : Float) → q ≤ low f → suc b + k ≤ emax f → Twin k q b x x' → Twin k q b y y' → Twin k q (suc b) (sub f x y) (sub f x' y')
twin_sub f k q b x x' y y' Q B X Y = record {
  grid = sub_on f q b x y Q (le_without (suc b) k (emax f) B) X.grid Y.grid;
  is = (λ i. sub f (X.is i) (Y.is i)) ∙ sub_scale f q b k x y Q B X.grid Y.grid;
}

-- a weight w, which is not multiplied, on either side
pub twin_mul : (f : Format) (k q b r c : ℕ) (x x' w : Float) → q + r ≤ low f → b + c + k ≤ emax f → Twin k q b x x' → On r c w → Twin k (q + r) (b + c) (mul f x w) (mul f x' w)
twin_mul f k q b r c x x' w Q B X W = record {
  grid = mul_on f q r Q b c x w X.grid W (le_without (b + c) k (emax f) B);
  is = ap (λ (z : Float). mul f z w) X.is ∙ mul_scale f q r Q b c x w X.grid W k B;
}

pub twin_mul_right : (f : Format) (k q b r c : ℕ) (x x' w : Float) → q + r ≤ low f → b + c + k ≤ emax f → Twin k q b x x' → On r c w → Twin k (q + r) (b + c) (mul f w x) (mul f w x')
twin_mul_right f k q b r c x x' w Q B X W =
    subst (λ (z : Float). Twin k (q + r) (b + c) z (mul f w x')) (mul_swap f x w)
    (subst (λ (z : Float). Twin k (q + r) (b + c) (mul f x w) z) (mul_swap f x' w) (twin_mul f k q b r c x x' w Q B X W))

-- a product with a weight and a sum, rounded once; z is on the product's grid, where `twin_weaken` takes it
pub twin_fma : (f : Format) (k r c q b d e : ℕ) (w x x' z z' : Float) → r + q ≤ low f → c + b ≤ e → d ≤ e → suc e + k ≤ emax f → On r c w → Twin k q b x x' → Twin k (r + q) d z z' → Twin k (r + q) (suc e) (fma f w x z) (fma f w x' z')
twin_fma f k r c q b d e w x x' z z' Q CB D E W X Z = record {
  grid = fma_on f r q Q c b d w x z W X.grid Z.grid e CB D (le_without (suc e) k (emax f) E);
  is = (λ i. fma f w (X.is i) (Z.is i)) ∙ fma_scale f r q Q c b d w x z W X.grid Z.grid e k CB D E;
}

pub twin_fma_right : (f : Format) (k r c q b d e : ℕ) (w x x' z z' : Float) → r + q ≤ low f → c + b ≤ e → d ≤ e → suc e + k ≤ emax f → On r c w → Twin k q b x x' → Twin k (r + q) d z z' → Twin k (r + q) (suc e) (fma f x w z) (fma f x' w z')
twin_fma_right f k r c q b d e w x x' z z' Q CB D E W X Z =
    subst (λ (v : Float). Twin k (r + q) (suc e) v (fma f x' w z')) (fma_swap f w x z)
    (subst (λ (v : Float). Twin k (r + q) (suc e) (fma f w x z) v) (fma_swap f w x' z') (twin_fma f k r c q b d e w x x' z z' Q CB D E W X Z))

-- ---- comparisons
pub twin_lt : (k q b q' b' : ℕ) (x x' y y' : Float) → Twin k q b x x' → Twin k q' b' y y' → lt x' y' ≡ lt x y
twin_lt k q b q' b' x x' y y' X Y = (λ i. lt (X.is i) (Y.is i)) ∙ lt_scale k x y

-- ±n ≤ w where ±m ≤ w and n is no larger than m
le_less : (s : Bool) (n m w : ℕ) → n ≤ m → Le s m false w → Le s n false w
le_less true n m w h l = omega arith
le_less false n m w h l = omega arith

-- where x times 2 ^ k is at most c, which is not negative, so is x
pub le_shrunk : (k q b : ℕ) (x x' c : Float) (u v : ℕ) → 0 < v → HasValue c false u v → Twin k q b x x' → T (le x' c) → T (le x c)
le_shrunk k q b x x' c u v pv C X t =
    let s = X.grid.sign in
    let n = X.grid.count in
    let w = u * 2 ^ q in
    let small = at x n X.grid.value in
    let large = at (scale k x) (n * 2 ^ k) (scale_val k x s n (2 ^ q) X.grid.value) in
    subst T (sym small)
    (Le→test s (n * v) false w
    (le_less s (n * v) (n * 2 ^ k * v) w (mul-le-mul_right v (le-mul_of_pos_right n (pow_pos k)))
    (test→Le s (n * 2 ^ k * v) false w (subst T (ap (λ (z : Float). le z c) X.is ∙ large) t))))
  where
    at : (y : Float) (n : ℕ) → HasValue y X.grid.sign n (2 ^ q) → le y c ≡ (below X.grid.sign (n * v) false (u * 2 ^ q) || level X.grid.sign (n * v) false (u * 2 ^ q))
    at y n Y =
        le_at y c X.grid.sign false (n * v) (u * 2 ^ q) (2 ^ q * v) (mul-pos (pow_pos q) pv)
        (rescale y X.grid.sign n (2 ^ q) (n * v) (2 ^ q * v) (pow_pos q) (mul_assoc n v (2 ^ q) ∙ ap (λ (z : ℕ). n * z) (mul_comm v (2 ^ q))) Y)
        (rescale c false u v (u * 2 ^ q) (2 ^ q * v) pv (mul_assoc u (2 ^ q) v) C)

-- ---- one of two, by a test that is the same
pub twin_cond : (k q b : ℕ) (t t' : Bool) (x x' y y' : Float) → t' ≡ t → Twin k q b x x' → Twin k q b y y' → Twin k q b (cond t x y) (cond t' x' y')
twin_cond k q b t t' x x' y y' p X Y = subst (λ (z : Bool). Twin k q b (cond t x y) (cond z x' y')) (sym p) (go t)
  where
    go : (t : Bool) → Twin k q b (cond t x y) (cond t x' y')
    go true = X
    go false = Y

nan_scale : (k : ℕ) (x : Float) → is_nan (scale k x) ≡ is_nan x
unfolding is_nan
nan_scale k nan = refl
nan_scale k (inf s) = refl
nan_scale k (fin s zero e) = refl
nan_scale k (fin s (suc m) e) = refl

module _ (k q b : ℕ) (x x' y y' : Float) (X : Twin k q b x x') (Y : Twin k q b y y') where
  nan_same : is_nan y' ≡ is_nan y
  nan_same = ap is_nan Y.is ∙ nan_scale k y

  pub twin_min : Twin k q b (min x y) (min x' y')
  unfolding min
  twin_min = twin_cond k q b (lt x y) (lt x' y') x x' (cond (is_nan y) x y) (cond (is_nan y') x' y') (twin_lt k q b q b x x' y y' X Y) X (twin_cond k q b (is_nan y) (is_nan y') x x' y y' nan_same X Y)

  pub twin_max : Twin k q b (max x y) (max x' y')
  unfolding max
  twin_max = twin_cond k q b (lt y x) (lt y' x') x x' (cond (is_nan y) x y) (cond (is_nan y') x' y') (twin_lt k q b q b y y' x x' Y X) X (twin_cond k q b (is_nan y) (is_nan y') x x' y y' nan_same X Y)

pub twin_clamp : (k q b : ℕ) (lo lo' hi hi' x x' : Float) → Twin k q b lo lo' → Twin k q b hi hi' → Twin k q b x x' → Twin k q b (clamp lo hi x) (clamp lo' hi' x')
unfolding clamp
twin_clamp k q b lo lo' hi hi' x x' L H X = above (at_least lo x) (at_least lo' x') below
  where
    below : Twin k q b (at_least lo x) (at_least lo' x')
    below = unfold at_least in twin_cond k q b (lt x lo) (lt x' lo') lo lo' x x' (twin_lt k q b q b x x' lo lo' X L) L X

    above : (z z' : Float) → Twin k q b z z' → Twin k q b (at_most hi z) (at_most hi' z')
    above z z' Z = unfold at_most in twin_cond k q b (lt hi z) (lt hi' z') hi hi' z z' (twin_lt k q b q b hi hi' z z' H Z) H Z
