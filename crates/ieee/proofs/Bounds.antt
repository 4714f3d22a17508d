-- Each operation keeps a bound, on no particular grid: from numbers at most a and b it makes a number at most c, where the largest exact result rounds to c at most (`Reach`).
-- Nothing is asked of the numbers but that they are finite and bounded. The test `within` against a whole number is just such a bound. Assumes nothing.
use mathlib.Core.Path.{◌≡◌, refl, sym, ap, ◌∙◌, subst}
use mathlib.Core.Bool.{Bool, true, false, not, cond, and-eq-true_iff}
use mathlib.Core.List.{List, [], ◌∷◌}
use Prim.Native.Nat.{ℕ, zero, suc, ◌+◌, ◌*◌, ◌^◌, ◌≤◌, ◌<◌, zero-le}
use native.Mathlib.Nat.{le_trans, le_of_eq, le_of_suc-le-suc, not-suc-le-zero, lt_of_le_of_lt, lt_of_lt_of_le, zero-lt-suc, suc-add, zero-add, zero-mul, mul-one, add-mul, mul_comm, mul_assoc, mul_right_comm, mul-le-mul_left, mul-le-mul_right, le_of_mul-le-mul_right, mul-pos, div-mul-le_self, pow-succ'}
use native.Mathlib.Omega.{arith}
use lib.IntN.{ℤ, pos}
use lib.Dec.{T, lit≤}
use lib.ListN.{length, get_or, take}
use lib.Pow.{pow-add, pow_pos, pow_mono, pow-lt}
use lib.Ieee.{Float, nan, inf, fin, Format, binary32, binary64, prec, emax, low, up, down, unlike, round, neg, sum, add, sub, mul, lt, le, is_nan}
use lib.Ieee.Fits.{down_pos}
use lib.Ieee.Bits.{is_true}
use lib.Ieee.Exact.{HasValue}
use lib.Ieee.Order.{le_of_values}
use lib.Ieee.Scale.{finite}
use Rattle.ieee.specs.Literal.{zero32}
use Rattle.ieee.specs.Sign.{abs, is_number}
use Rattle.ieee.specs.Choice.{min, at_least, at_most, clamp}
use Rattle.ieee.specs.Limit.{within, all_within, Bounded, AllBounded}
use Rattle.ieee.specs.Fused.{fma}
use Rattle.ieee.specs.Cut.{cut}
use Rattle.ieee.specs.Grid.{On}
use Rattle.ieee.specs.Root.{square, count, hypot_of}
use Rattle.ieee.proofs.Digits.{squares_lt}
use Rattle.ieee.proofs.Cut.{cut_small, cut_le_pow, cut_absorb}
use Rattle.ieee.proofs.Round.{prec_pos, round_cut, below_top}
use Rattle.ieee.proofs.Signed.{P, N, Le}
use Rattle.ieee.proofs.Sum.{sum_of}
use Rattle.ieee.proofs.Operations.{sub_is}
use Rattle.ieee.proofs.Order.{le→Le, le_number_l, le_number_r, not_lt→le, round_le}
use Rattle.ieee.proofs.Monotone.{zero_is}
use Rattle.ieee.proofs.Choice.{at_least_ge}
use Rattle.ieee.proofs.Isqrt.{cut_root, cut_root_le}
use Rattle.ieee.proofs.Root.{root_val}

-- ---- the bound, the value and the order
pub value_bounded : (n : ℕ) (x : Float) (s : Bool) (a c : ℕ) → 0 < c → HasValue x s a c → a ≤ n * c → Bounded n x
value_bounded n nan s a c C v h = v
value_bounded n (inf t) s a c C v h = v
value_bounded n (fin t m e) s a c C v h =
    le_of_mul-le-mul_right (le_trans (le_of_eq v.1) (le_trans (mul-le-mul_right (down e) h) (le_of_eq (mul_right_comm n c (down e))))) C

pub bounded_finite : (n : ℕ) (x : Float) → Bounded n x → T (finite x)
bounded_finite n nan X = absurd X
bounded_finite n (inf s) X = absurd X
bounded_finite n (fin s m e) X = tt

pub bounded_number : (n : ℕ) (x : Float) → Bounded n x → T (is_number x)
bounded_number n nan X = absurd X
bounded_number n (inf s) X = absurd X
bounded_number n (fin s m e) X = tt

pub zero_bounded : (n : ℕ) → Bounded n zero32
zero_bounded n = subst (λ (z : Float). Bounded n z) (sym zero_is) zero-le

pub bounded_weaken : (a b : ℕ) (x : Float) → a ≤ b → Bounded a x → Bounded b x
bounded_weaken a b nan h X = X
bounded_weaken a b (inf s) h X = X
bounded_weaken a b (fin s m e) h X = le_trans X (mul-le-mul_right (down e) h)

-- a grid's bound is one
pub on_bounded : (q b : ℕ) (x : Float) → On q b x → Bounded (2 ^ b) x
on_bounded q b x X = value_bounded (2 ^ b) x X.sign X.count (2 ^ q) (pow_pos q) X.value (le_trans X.bound (le_of_eq (pow-add 2 b q)))

-- a tighter bound
pub tighten : (q b c : ℕ) (x : Float) → On q b x → Bounded (2 ^ c) x → On q c x
tighten q b c x X B = record { sign = X.sign; count = X.count; value = X.value; bound = go x X.sign X.count X.value B }
  where
    go : (x : Float) (s : Bool) (n : ℕ) → HasValue x s n (2 ^ q) → Bounded (2 ^ c) x → n ≤ 2 ^ (c + q)
    go nan s n v B = absurd v
    go (inf t) s n v B = absurd v
    go (fin t m e) s n v B =
        le_of_mul-le-mul_right
        (le_trans (le_of_eq (sym v.1)) (le_trans (mul-le-mul_right (2 ^ q) B) (le_of_eq (mul_right_comm (2 ^ c) (down e) (2 ^ q) ∙ ap (λ (z : ℕ). z * down e) (sym (pow-add 2 c q))))))
        (down_pos e)

-- what stands between two bounded numbers
under : (n K M De Dg : ℕ) → 0 < De → K * De ≤ M * Dg → M ≤ n * De → K ≤ n * Dg
under n K M De Dg D h X = le_of_mul-le-mul_right (le_trans h (le_trans (mul-le-mul_right Dg X) (le_of_eq (mul_right_comm n De Dg)))) D

pub bounded_between : (n : ℕ) (l x h : Float) → Bounded n l → Bounded n h → T (le l x) → T (le x h) → Bounded n x
bounded_between n nan x h L H p q = absurd L
bounded_between n (inf s) x h L H p q = absurd L
bounded_between n (fin s m e) x nan L H p q = absurd H
bounded_between n (fin s m e) x (inf t) L H p q = absurd H
bounded_between n (fin s m e) nan (fin t k g) L H p q = absurd (le_number_l nan (fin t k g) q)
bounded_between n (fin s m e) (inf true) (fin t k g) L H p q = absurd (unfold le in p)
bounded_between n (fin s m e) (inf false) (fin t k g) L H p q = absurd (unfold le in q)
bounded_between n (fin s m e) (fin false i j) (fin t k g) L H p q = under n (i * up j) (k * up g) (down g) (down j) (down_pos g) (go t (le→Le false i j t k g q)) H
  where
    go : (t : Bool) → Le false (i * up j * down g) t (k * up g * down j) → i * up j * down g ≤ k * up g * down j
    go false l = omega arith
    go true l = omega arith
bounded_between n (fin s m e) (fin true i j) (fin t k g) L H p q = under n (i * up j) (m * up e) (down e) (down j) (down_pos e) (go s (le→Le s m e true i j p)) L
  where
    go : (s : Bool) → Le s (m * up e * down j) true (i * up j * down e) → i * up j * down e ≤ m * up e * down j
    go false l = omega arith
    go true l = omega arith

-- ---- signs
pub neg_bounded : (n : ℕ) (x : Float) → Bounded n x → Bounded n (neg x)
unfolding neg
neg_bounded n nan X = X
neg_bounded n (inf s) X = X
neg_bounded n (fin s m e) X = X

pub abs_bounded : (n : ℕ) (x : Float) → Bounded n x → Bounded n (abs x)
abs_bounded n nan X = X
abs_bounded n (inf s) X = X
abs_bounded n (fin s m e) X = X

-- ---- choices
either : (n : ℕ) (b : Bool) (x y : Float) → Bounded n x → Bounded n y → Bounded n (cond b x y)
either n true x y X Y = X
either n false x y X Y = Y

pub min_bounded : (n : ℕ) (x y : Float) → Bounded n x → Bounded n y → Bounded n (min x y)
unfolding min
min_bounded n x y X Y = either n (lt x y) x (cond (is_nan y) x y) X (either n (is_nan y) x y X Y)

pub clamp_bounded : (n : ℕ) (lo hi x : Float) → Bounded n lo → Bounded n hi → T (is_number x) → Bounded n (clamp lo hi x)
unfolding clamp at_most
clamp_bounded n lo hi x L H p =
    let z = at_least lo x in
    let g = at_least_ge lo (bounded_number n lo L) x p in
    go (lt hi z) (λ h. not_lt→le hi z (bounded_number n hi H) (le_number_r lo z g) h) g
  where
    go : (b : Bool) → (T (not b) → T (le (at_least lo x) hi)) → T (le lo (at_least lo x)) → Bounded n (cond b hi (at_least lo x))
    go true h g = H
    go false h g = bounded_between n lo (at_least lo x) hi L H g (h tt)

-- ---- rounding: n rounds to c at most, and c does not overflow
pub record Reach (f : Format) (n c : ℕ) : Type 0 where
  pub rounds : cut (prec f) n ≤ c
  pub below : c < 2 ^ suc (emax f)

past : (b E : ℕ) → b ≤ E → b < suc E
past b E h = omega arith

-- up to a power of two, up to a whole number that the format holds, and up to a power of two with a much smaller one beside it
pub reach_pow : (f : Format) (n b : ℕ) → n ≤ 2 ^ b → b ≤ emax f → Reach f n (2 ^ b)
reach_pow f n b h B = record { rounds = cut_le_pow (prec f) n b (prec_pos f) h; below = pow-lt (past b (emax f) B) }

pub reach_whole : (f : Format) (n : ℕ) → n < 2 ^ prec f → Reach f n n
reach_whole f n h = record { rounds = le_of_eq (cut_small (prec f) n h); below = lt_of_lt_of_le h (pow_mono (wide f)) }
  where
    wide : (f : Format) → prec f ≤ suc (emax f)
    wide binary32 = lit≤ tt
    wide binary64 = lit≤ tt

pub reach_absorb : (f : Format) (b c : ℕ) → c + prec f < b → b ≤ emax f → Reach f (2 ^ b + 2 ^ c) (2 ^ b)
reach_absorb f b c h B = record { rounds = cut_absorb (prec f) (2 ^ b + 2 ^ c) c b (prec_pos f) h (le_of_eq refl); below = pow-lt (past b (emax f) B) }

end_bounded : (f : Format) (s : Bool) (n c : ℕ) → Reach f n c → Bounded c (round f s n 1)
end_bounded f s n c R =
    value_bounded c (round f s n 1) s (cut (prec f) n) 1 (zero-lt-suc 0)
    (round_cut f s n 1 0 n (zero-lt-suc 0) zero-le refl (subst (λ (z : ℕ). cut (prec f) n < 2 ^ z) (sym (zero-add (suc (emax f)))) (lt_of_le_of_lt R.rounds R.below))) (le_trans R.rounds (le_of_eq (sym (mul-one c))))

pub round_bounded : (f : Format) (s : Bool) (a d n c : ℕ) → 0 < d → a ≤ n * d → Reach f n c → Bounded c (round f s a d)
round_bounded f s a d n c D h R =
    bounded_between c (round f true n 1) (round f s a d) (round f false n 1) (end_bounded f true n c R) (end_bounded f false n c R)
    (round_le f true n 1 s a d (zero-lt-suc 0) D (least s)) (round_le f s a d false n 1 D (zero-lt-suc 0) (most s))
  where
    h' : a * 1 ≤ n * d
    h' = le_trans (le_of_eq (mul-one a)) h

    least : (s : Bool) → Le true (n * d) s (a * 1)
    least false = omega arith
    least true = omega arith

    most : (s : Bool) → Le s (a * 1) false (n * d)
    most false = omega arith
    most true = omega arith

-- ---- sums
total_le : (r s t : Bool) (x a b : ℕ) → P r x + (N s a + N t b) ≡ N r x + (P s a + P t b) → x ≤ a + b
total_le false false false x a b h = omega arith
total_le false false true x a b h = omega arith
total_le false true false x a b h = omega arith
total_le false true true x a b h = omega arith
total_le true false false x a b h = omega arith
total_le true false true x a b h = omega arith
total_le true true false x a b h = omega arith
total_le true true true x a b h = omega arith

sum_bounded : (f : Format) (s : Bool) (a : ℕ) (t : Bool) (b d n c : ℕ) → 0 < d → a + b ≤ n * d → Reach f n c → Bounded c (sum f s a t b d)
sum_bounded f s a t b d n c D h R =
    let w = sum_of s a t b d in
    subst (λ (z : Float). Bounded c z) (sym (w.is f)) (round_bounded f w.sign w.size d n c D (le_trans (total_le w.sign s t w.size a b w.total) h) R)

-- a / De is at most a' and b / Dg at most b': over the common denominator
both : (A B a b De Dg : ℕ) → A ≤ a * De → B ≤ b * Dg → A * Dg + B * De ≤ (a + b) * (De * Dg)
both A B a b De Dg h k =
    let x : A * Dg ≤ a * De * Dg = mul-le-mul_right Dg h in
    let y : B * De ≤ b * Dg * De = mul-le-mul_right De k in
    let e : a * De * Dg ≡ a * (De * Dg) = mul_assoc a De Dg in
    let g : b * Dg * De ≡ b * (De * Dg) = mul_assoc b Dg De ∙ ap (λ (z : ℕ). b * z) (mul_comm Dg De) in
    let s : (a + b) * (De * Dg) ≡ a * (De * Dg) + b * (De * Dg) = add-mul a b (De * Dg) in
    omega arith

pub add_bounded : (f : Format) (a b c : ℕ) (x y : Float) → Reach f (a + b) c → Bounded a x → Bounded b y → Bounded c (add f x y)
unfolding add
add_bounded f a b c nan y R X Y = absurd X
add_bounded f a b c (inf s) y R X Y = absurd X
add_bounded f a b c (fin s m e) nan R X Y = absurd Y
add_bounded f a b c (fin s m e) (inf t) R X Y = absurd Y
add_bounded f a b c (fin s m e) (fin t n d) R X Y =
    sum_bounded f s (m * up e * down d) t (n * up d * down e) (down e * down d) (a + b) c (mul-pos (down_pos e) (down_pos d)) (both (m * up e) (n * up d) a b (down e) (down d) X Y) R

pub sub_bounded : (f : Format) (a b c : ℕ) (x y : Float) → Reach f (a + b) c → Bounded a x → Bounded b y → Bounded c (sub f x y)
sub_bounded f a b c x y R X Y = subst (λ (z : Float). Bounded c z) (sym (sub_is f x y)) (add_bounded f a b c x (neg y) R X (neg_bounded b y Y))

-- ---- products: of a number at most a, by one that a times is at most q
abbrev pub Times : ℕ → ℕ → Float → Type 0
Times a q nan = ⊥
Times a q (inf s) = ⊥
Times a q (fin s m e) = a * (m * up e) ≤ q * down e

pub times_bounded : (a b : ℕ) (y : Float) → Bounded b y → Times a (a * b) y
times_bounded a b nan Y = Y
times_bounded a b (inf s) Y = Y
times_bounded a b (fin s m e) Y = le_trans (mul-le-mul_left a Y) (le_of_eq (sym (mul_assoc a b (down e))))

product : (A B a q De Dg : ℕ) → A ≤ a * De → a * B ≤ q * Dg → A * B ≤ q * (De * Dg)
product A B a q De Dg h k =
    le_trans (mul-le-mul_right B h)
    (le_trans (le_of_eq (mul_right_comm a De B)) (le_trans (mul-le-mul_right De k) (le_of_eq (mul_assoc q Dg De ∙ ap (λ (z : ℕ). q * z) (mul_comm Dg De)))))

pub mul_times : (f : Format) (a q c : ℕ) (x y : Float) → Reach f q c → Bounded a x → Times a q y → Bounded c (mul f x y)
unfolding mul
mul_times f a q c nan y R X Y = absurd X
mul_times f a q c (inf s) y R X Y = absurd X
mul_times f a q c (fin s m e) nan R X Y = absurd Y
mul_times f a q c (fin s m e) (inf t) R X Y = absurd Y
mul_times f a q c (fin s m e) (fin t n d) R X Y =
    round_bounded f (unlike s t) (m * up e * (n * up d)) (down e * down d) q c (mul-pos (down_pos e) (down_pos d)) (product (m * up e) (n * up d) a q (down e) (down d) X Y) R

pub mul_bounded : (f : Format) (a b c : ℕ) (x y : Float) → Reach f (a * b) c → Bounded a x → Bounded b y → Bounded c (mul f x y)
mul_bounded f a b c x y R X Y = mul_times f a (a * b) c x y R X (times_bounded a b y Y)

pub fma_times : (f : Format) (a q g c : ℕ) (x y z : Float) → Reach f (q + g) c → Bounded a x → Times a q y → Bounded g z → Bounded c (fma f x y z)
unfolding fma
fma_times f a q g c nan y z R X Y Z = absurd X
fma_times f a q g c (inf s) y z R X Y Z = absurd X
fma_times f a q g c (fin s m e) nan z R X Y Z = absurd Y
fma_times f a q g c (fin s m e) (inf t) z R X Y Z = absurd Y
fma_times f a q g c (fin s m e) (fin t n d) nan R X Y Z = absurd Z
fma_times f a q g c (fin s m e) (fin t n d) (inf u) R X Y Z = absurd Z
fma_times f a q g c (fin s m e) (fin t n d) (fin u k h) R X Y Z =
    let D = down e * down d in
    sum_bounded f (unlike s t) (m * up e * (n * up d) * down h) u (k * up h * D) (D * down h) (q + g) c (mul-pos (mul-pos (down_pos e) (down_pos d)) (down_pos h))
    (both (m * up e * (n * up d)) (k * up h) q g D (down h) (product (m * up e) (n * up d) a q (down e) (down d) X Y) Z) R

pub fma_bounded : (f : Format) (a b g c : ℕ) (x y z : Float) → Reach f (a * b + g) c → Bounded a x → Bounded b y → Bounded g z → Bounded c (fma f x y z)
fma_bounded f a b g c x y z R X Y Z = fma_times f a (a * b) g c x y z R X (times_bounded a b y Y) Z

-- ---- the root of two squares: it is not negative, and at most twice as large
-- in units of the format's smallest value
count_le : (f : Format) (b m : ℕ) (e : ℤ) → m * up e ≤ 2 ^ b * down e → count f m e ≤ 2 ^ (b + low f)
count_le f b m e h =
    le_of_mul-le-mul_right
    (le_trans (div-mul-le_self (m * up e * 2 ^ low f) (down e))
    (le_trans (mul-le-mul_right (2 ^ low f) h) (le_of_eq (mul_right_comm (2 ^ b) (down e) (2 ^ low f) ∙ ap (λ (z : ℕ). z * down e) (sym (pow-add 2 b (low f)))))))
    (down_pos e)

module _ (f : Format) (b : ℕ) (B : suc b ≤ emax f) where
  root_le : (m n : ℕ) → m ≤ 2 ^ (b + low f) → n ≤ 2 ^ (b + low f) → cut_root (prec f) (square m + square n) ≤ 2 ^ (suc b + low f)
  root_le m n M L =
      cut_root_le (prec f) (square m + square n) (suc b + low f)
      (subst (λ (z : ℕ). square m + square n < z * z) two (squares_lt m n (2 ^ (b + low f)) M L (pow_pos (b + low f))))
    where
      two : 2 * 2 ^ (b + low f) ≡ 2 ^ (suc b + low f)
      two = sym (pow-succ' 2 (b + low f)) ∙ ap (λ (z : ℕ). 2 ^ z) (sym (suc-add b (low f)))

  hypot_value : (x y : Float) → Bounded (2 ^ b) x → Bounded (2 ^ b) y → (n : ℕ) × HasValue (hypot_of f x y) false n (2 ^ low f) × (n ≤ 2 ^ (suc b + low f))
  unfolding hypot_of
  hypot_value nan y X Y = absurd X
  hypot_value (inf s) y X Y = absurd X
  hypot_value (fin s m e) nan X Y = absurd Y
  hypot_value (fin s m e) (inf t) X Y = absurd Y
  hypot_value (fin s m e) (fin t n d) X Y =
      let N = square (count f m e) + square (count f n d) in
      let l = root_le (count f m e) (count f n d) (count_le f b m e X) (count_le f b n d Y) in
      (cut_root (prec f) N, root_val f N (below_top f (low f) (suc b) (cut_root (prec f) N) B l), l)

  pub hypot_bounded : (x y : Float) → Bounded (2 ^ b) x → Bounded (2 ^ b) y → Bounded (2 ^ suc b) (hypot_of f x y)
  hypot_bounded x y X Y =
      let v = hypot_value x y X Y in
      value_bounded (2 ^ suc b) (hypot_of f x y) false v.0 (2 ^ low f) (pow_pos (low f)) v.1 (le_trans v.2 (le_of_eq (pow-add 2 (suc b) (low f))))

  pub hypot_plus : (x y : Float) → Bounded (2 ^ b) x → Bounded (2 ^ b) y → T (le zero32 (hypot_of f x y))
  hypot_plus x y X Y =
      let v = hypot_value x y X Y in
      subst (λ (z : Float). T (le z (hypot_of f x y))) (sym zero_is)
      (le_of_values (fin false 0 (pos 0)) (hypot_of f x y) 0 1 v.0 (2 ^ low f) (zero-lt-suc 0) (pow_pos (low f)) (refl, refl) v.1 (le_trans (le_of_eq (zero-mul (2 ^ low f))) zero-le))

-- ---- the test: a limit L that is n, as a float
within_l : (n : ℕ) (L x : Float) → HasValue L false n 1 → T (within L x) → Bounded n x
within_l n L x v h = go x L v h
  where
    go : (x L : Float) → HasValue L false n 1 → T (le (abs x) L) → Bounded n x
    go x nan v h = absurd v
    go x (inf t) v h = absurd v
    go nan (fin t k g) v h = absurd (le_number_l nan (fin t k g) h)
    go (inf s) (fin t k g) v h = absurd (unfold le in h)
    go (fin s m e) (fin t k g) v h = under n (m * up e) (k * up g) (down g) (down e) (down_pos g) (less t (le→Le false m e t k g h)) (value_bounded n (fin t k g) false n 1 (zero-lt-suc 0) v (le_of_eq (sym (mul-one n))))
      where
        less : (t : Bool) → Le false (m * up e * down g) t (k * up g * down e) → m * up e * down g ≤ k * up g * down e
        less false l = omega arith
        less true l = omega arith

pub within→bounded : (n : ℕ) (L x : Float) → HasValue L false n 1 → within L x ≡ true → Bounded n x
within→bounded n L x v h = within_l n L x v (subst T (sym h) tt)

pub bounded→within : (n : ℕ) (L x : Float) → HasValue L false n 1 → Bounded n x → within L x ≡ true
bounded→within n L nan v X = absurd X
bounded→within n L (inf s) v X = absurd X
bounded→within n L (fin s m e) v X =
    is_true (within L (fin s m e))
    (le_of_values (fin false m e) L (m * up e) (down e) n 1 (down_pos e) (zero-lt-suc 0) (refl, refl) v (le_trans (le_of_eq (mul-one (m * up e))) X))

-- ---- lists
pub all_within→bounded : (n : ℕ) (L : Float) (xs : List Float) → HasValue L false n 1 → all_within L xs ≡ true → AllBounded n xs
unfolding all_within
all_within→bounded n L [] v h = tt
all_within→bounded n L (x ∷ xs) v h =
    let t = (and-eq-true_iff (within L x) (all_within L xs)).0 h in
    (within→bounded n L x v t.0, all_within→bounded n L xs v t.1)

pub all_bounded→within : (n : ℕ) (L : Float) (xs : List Float) → HasValue L false n 1 → AllBounded n xs → all_within L xs ≡ true
unfolding all_within
all_bounded→within n L [] v X = refl
all_bounded→within n L (x ∷ xs) v X = (and-eq-true_iff (within L x) (all_within L xs)).1 (bounded→within n L x v X.0, all_bounded→within n L xs v X.1)

-- the number at a place, where the first k are bounded
pub all_bounded_at : (n k : ℕ) (xs : List Float) → AllBounded n (take k xs) → k ≤ length xs → (i : ℕ) → i < k → Bounded n (get_or xs i nan)
all_bounded_at n zero xs X K i h = absurd (not-suc-le-zero h)
all_bounded_at n (suc k) [] X K i h = absurd (not-suc-le-zero K)
all_bounded_at n (suc k) (x ∷ xs) X K zero h = X.0
all_bounded_at n (suc k) (x ∷ xs) X K (suc i) h = all_bounded_at n k xs X.1 (le_of_suc-le-suc K) i (le_of_suc-le-suc h)
