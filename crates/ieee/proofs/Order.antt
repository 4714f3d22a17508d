-- `le` is a total order on the floats that are no NaN, up to a zero's sign; changing signs turns it round; and the larger of two fractions rounds to a float that is no smaller. Assumes nothing.
use mathlib.Core.Path.{◌≡◌, refl, sym, ap, ◌∙◌, subst}
use Prim.Native.Nat.{ℕ, zero, suc, ◌+◌, ◌*◌, ◌^◌, ◌≤◌, ◌<◌}
use native.Mathlib.Nat.{lt_of_not-le, zero-lt-suc, zero-mul, suc-mul, mul_right_comm}
use native.Mathlib.Omega.{arith}
use mathlib.Core.Bool.{Bool, true, false, not, ◌||◌, cond}
use lib.IntN.{ℤ, pos}
use lib.Dec.{T, ltb}
use lib.Ieee.{Float, nan, inf, fin, Format, binary32, binary64, prec, emax, low, up, down, size, odd, units, round, neg, lt, eq, le}
use lib.Ieee.Fits.{round_is, down_pos}
use lib.Ieee.Order as O
use lib.Ieee.Scale.{round_same, finite}
use Rattle.ieee.specs.Sign.{is_number}
use Rattle.ieee.proofs.Round.{neg_round}
use Rattle.ieee.proofs.Signed.{Le, Le-refl, Le-trans, Le-mul, Le-div, Le-flip, test→Le, Le→test, not_below, below_not}

-- ---- finite values, by their fractions
module _ (s : Bool) (m : ℕ) (e : ℤ) (t : Bool) (n : ℕ) (d : ℤ) where
  pub le→Le : T (le (fin s m e) (fin t n d)) → Le s (m * up e * down d) t (n * up d * down e)
  unfolding le
  le→Le h = test→Le s (m * up e * down d) t (n * up d * down e) h

  pub Le→le : Le s (m * up e * down d) t (n * up d * down e) → T (le (fin s m e) (fin t n d))
  unfolding le
  Le→le h = Le→test s (m * up e * down d) t (n * up d * down e) h

-- ---- the ends
pub least : (y : Float) → T (is_number y) → T (le (inf true) y)
unfolding le
least nan h = absurd h
least (inf true) h = tt
least (inf false) h = tt
least (fin s m e) h = tt

pub most : (x : Float) → T (is_number x) → T (le x (inf false))
unfolding le
most nan h = absurd h
most (inf true) h = tt
most (inf false) h = tt
most (fin s m e) h = tt

-- what is compared is a number
pub le_number_l : (x y : Float) → T (le x y) → T (is_number x)
unfolding le
le_number_l nan y h = h
le_number_l (inf s) y h = tt
le_number_l (fin s m e) y h = tt

pub le_number_r : (x y : Float) → T (le x y) → T (is_number y)
unfolding le
le_number_r nan nan h = h
le_number_r (inf s) nan h = h
le_number_r (fin s m e) nan h = h
le_number_r x (inf s) h = tt
le_number_r x (fin s m e) h = tt

-- nothing else is above +∞ or below -∞
over_top : (y : Float) → T (le (inf false) y) → y ≡ inf false
unfolding le
over_top nan h = absurd h
over_top (inf true) h = absurd h
over_top (inf false) h = refl
over_top (fin s m e) h = absurd h

-- ---- the order
pub le_refl : (x : Float) → T (is_number x) → T (le x x)
unfolding le
le_refl nan h = h
le_refl (inf true) h = tt
le_refl (inf false) h = tt
le_refl (fin s m e) h = Le→le s m e s m e (Le-refl s (m * up e * down e))

fin_trans : (s : Bool) (m : ℕ) (e : ℤ) (t : Bool) (n : ℕ) (d : ℤ) (u : Bool) (k : ℕ) (g : ℤ) → T (le (fin s m e) (fin t n d)) → T (le (fin t n d) (fin u k g)) → T (le (fin s m e) (fin u k g))
fin_trans s m e t n d u k g h h' =
    let A = m * up e in
    let B = n * up d in
    let C = k * up g in
    let x : Le s (A * down d * down g) t (B * down e * down g) = Le-mul s (A * down d) t (B * down e) (down g) (le→Le s m e t n d h) in
    let y : Le t (B * down g * down e) u (C * down d * down e) = Le-mul t (B * down g) u (C * down d) (down e) (le→Le t n d u k g h') in
    let y' : Le t (B * down e * down g) u (C * down d * down e) = subst (λ (z : ℕ). Le t z u (C * down d * down e)) (mul_right_comm B (down g) (down e)) y in
    let w : Le s (A * down d * down g) u (C * down d * down e) = Le-trans s (A * down d * down g) t (B * down e * down g) u (C * down d * down e) x y' in
    let w' : Le s (A * down g * down d) u (C * down e * down d) = subst (λ (z : ℕ). Le s (A * down g * down d) u z) (mul_right_comm C (down d) (down e)) (subst (λ (z : ℕ). Le s z u (C * down d * down e)) (mul_right_comm A (down d) (down g)) w) in
    Le→le s m e u k g (Le-div s (A * down g) u (C * down e) (down d) (down_pos d) w')

fin_bottom : (s : Bool) (m : ℕ) (e : ℤ) → le (fin s m e) (inf true) ≡ false
unfolding le
fin_bottom s m e = refl

pub le_trans : (x y z : Float) → T (le x y) → T (le y z) → T (le x z)
le_trans nan y z h k = absurd (le_number_l nan y h)
le_trans (inf true) y z h k = least z (le_number_r y z k)
le_trans (inf false) y z h k = subst (λ (w : Float). T (le w z)) (over_top y h) k
le_trans (fin s m e) nan z h k = absurd (le_number_l nan z k)
le_trans (fin s m e) (inf true) z h k = absurd (subst T (fin_bottom s m e) h)
le_trans (fin s m e) (inf false) z h k = subst (λ (w : Float). T (le (fin s m e) w)) (sym (over_top z k)) (most (fin s m e) tt)
le_trans (fin s m e) (fin t n d) nan h k = absurd (le_number_r (fin t n d) nan k)
le_trans (fin s m e) (fin t n d) (inf true) h k = absurd (subst T (fin_bottom t n d) k)
le_trans (fin s m e) (fin t n d) (inf false) h k = most (fin s m e) tt
le_trans (fin s m e) (fin t n d) (fin u k g) h h' = fin_trans s m e t n d u k g h h'

pub lt→le : (x y : Float) → T (lt x y) → T (le x y)
unfolding le
lt→le x y h = go (lt x y) (eq x y) h
  where
    go : (a b : Bool) → T a → T (a || b)
    go true b t = tt
    go false b t = absurd t

-- what is not below is no smaller, so the order is total
pub not_lt→le : (x y : Float) → T (is_number x) → T (is_number y) → T (not (lt x y)) → T (le y x)
unfolding lt
not_lt→le nan y p q h = absurd p
not_lt→le (inf s) nan p q h = absurd q
not_lt→le (inf true) (inf true) p q h = unfold le in tt
not_lt→le (inf true) (inf false) p q h = absurd h
not_lt→le (inf false) (inf true) p q h = unfold le in tt
not_lt→le (inf false) (inf false) p q h = unfold le in tt
not_lt→le (inf true) (fin t n d) p q h = absurd h
not_lt→le (inf false) (fin t n d) p q h = unfold le in tt
not_lt→le (fin s m e) nan p q h = absurd q
not_lt→le (fin s m e) (inf true) p q h = unfold le in tt
not_lt→le (fin s m e) (inf false) p q h = absurd h
not_lt→le (fin s m e) (fin t n d) p q h = Le→le t n d s m e (not_below s (m * up e * down d) t (n * up d * down e) h)

pub le_not_lt : (x y : Float) → T (le x y) → T (lt y x) → ⊥
unfolding lt
le_not_lt nan y h k = absurd (le_number_l nan y h)
le_not_lt (inf s) nan h k = absurd k
le_not_lt (inf true) (inf true) h k = absurd k
le_not_lt (inf true) (inf false) h k = absurd k
le_not_lt (inf false) (inf true) h k = absurd (unfold le in h)
le_not_lt (inf false) (inf false) h k = absurd k
le_not_lt (inf true) (fin t n d) h k = absurd k
le_not_lt (inf false) (fin t n d) h k = absurd (unfold le in h)
le_not_lt (fin s m e) nan h k = absurd k
le_not_lt (fin s m e) (inf true) h k = absurd (unfold le in h)
le_not_lt (fin s m e) (inf false) h k = absurd k
le_not_lt (fin s m e) (fin t n d) h k = below_not t (n * up d * down e) s (m * up e * down d) k (le→Le s m e t n d h)

-- strictly between two others there are finite values alone
pub between_finite : (x y z : Float) → T (lt x y) → T (lt y z) → finite y ≡ true
between_finite x nan z h k = absurd (le_number_l nan z (lt→le nan z k))
between_finite x (inf true) z h k = absurd (le_not_lt (inf true) x (least x (le_number_l x (inf true) (lt→le x (inf true) h))) h)
between_finite x (inf false) z h k = absurd (le_not_lt z (inf false) (most z (le_number_r (inf false) z (lt→le (inf false) z k))) k)
between_finite x (fin s m e) z h k = refl

-- ---- a function that keeps the infinities and is monotone on finite values is monotone
module _ (g : Float → Float) (keeps : (s : Bool) → g (inf s) ≡ inf s) (mono : (s : Bool) (m : ℕ) (e : ℤ) (t : Bool) (n : ℕ) (d : ℤ) → T (le (fin s m e) (fin t n d)) → T (le (g (fin s m e)) (g (fin t n d)))) where
  there : (s : Bool) (m : ℕ) (e : ℤ) → T (is_number (g (fin s m e)))
  there s m e = le_number_l (g (fin s m e)) (g (fin s m e)) (mono s m e s m e (le_refl (fin s m e) tt))

  pub extend : (x y : Float) → T (le x y) → T (le (g x) (g y))
  extend nan y h = absurd (le_number_l nan y h)
  extend (inf true) nan h = absurd (le_number_r (inf true) nan h)
  extend (inf true) (inf t) h = subst (λ (w : Float). T (le w (g (inf t)))) (sym (keeps true)) (subst (λ (w : Float). T (le (inf true) w)) (sym (keeps t)) (least (inf t) tt))
  extend (inf true) (fin t n d) h = subst (λ (w : Float). T (le w (g (fin t n d)))) (sym (keeps true)) (least (g (fin t n d)) (there t n d))
  extend (inf false) y h = subst (λ (w : Float). T (le (g (inf false)) (g w))) (sym (over_top y h)) (le_refl (g (inf false)) (subst (λ (w : Float). T (is_number w)) (sym (keeps false)) tt))
  extend (fin s m e) nan h = absurd (le_number_r (fin s m e) nan h)
  extend (fin s m e) (inf true) h = absurd (unfold le in h)
  extend (fin s m e) (inf false) h = subst (λ (w : Float). T (le (g (fin s m e)) w)) (sym (keeps false)) (most (g (fin s m e)) (there s m e))
  extend (fin s m e) (fin t n d) h = mono s m e t n d h

-- ---- the signs changed
neg_fin : (s : Bool) (m : ℕ) (e : ℤ) → neg (fin s m e) ≡ fin (not s) m e
unfolding neg
neg_fin s m e = refl

pub neg_le : (x y : Float) → T (le x y) → T (le (neg y) (neg x))
neg_le nan y h = absurd (unfold le in h)
neg_le (inf s) nan h = absurd (unfold le in h)
neg_le (inf true) (inf true) h = unfold le neg in tt
neg_le (inf true) (inf false) h = unfold le neg in tt
neg_le (inf false) (inf true) h = absurd (unfold le in h)
neg_le (inf false) (inf false) h = unfold le neg in tt
neg_le (inf true) (fin t n d) h = unfold le neg in tt
neg_le (inf false) (fin t n d) h = absurd (unfold le in h)
neg_le (fin s m e) nan h = absurd (unfold le in h)
neg_le (fin s m e) (inf true) h = absurd (unfold le in h)
neg_le (fin s m e) (inf false) h = unfold le neg in tt
neg_le (fin s m e) (fin t n d) h =
    subst (λ (w : Float). T (le w (neg (fin s m e)))) (sym (neg_fin t n d))
    (subst (λ (w : Float). T (le (fin (not t) n d) w)) (sym (neg_fin s m e))
    (Le→le (not t) n d (not s) m e (Le-flip s (m * up e * down d) t (n * up d * down e) (le→Le s m e t n d h))))

-- ---- what `round f false` gives is not negative
abbrev plus : Float → Bool
plus nan = false
plus (inf s) = not s
plus (fin s m e) = not s

plus_odd : (d : ℕ) (q k l : ℕ) → T (plus (odd d false q k l))
unfolding odd
plus_odd d zero k l = tt
plus_odd d (suc q) k l = tt

plus_units : (f : Format) (q k : ℕ) → T (plus (units f false q k))
unfolding units
plus_units f q k = go (ltb (q * 2 ^ k) (2 ^ (low f + suc (emax f))))
  where
    go : (b : Bool) → T (plus (cond b (odd (suc (prec f)) false q k (low f)) (inf false)))
    go true = plus_odd (suc (prec f)) q k (low f)
    go false = tt

plus_round : (f : Format) (n d : ℕ) → T (plus (round f false n d))
plus_round f n d = subst (λ (w : Float). T (plus w)) (sym (round_is f false n d)) (plus_units f _ _)

across : (x y : Float) → T (plus x) → T (plus y) → T (le (neg x) y)
across nan y p q = absurd p
across (inf true) y p q = absurd p
across (inf false) y p q = subst (λ (w : Float). T (le w y)) (sym bottom) (least y (number y q))
  where
    bottom : neg (inf false) ≡ inf true
    bottom = unfold neg in refl

    number : (y : Float) → T (plus y) → T (is_number y)
    number nan q = q
    number (inf s) q = tt
    number (fin s m e) q = tt
across (fin true m e) y p q = absurd p
across (fin false m e) nan p q = absurd q
across (fin false m e) (inf true) p q = absurd q
across (fin false m e) (inf false) p q = unfold le neg in tt
across (fin false m e) (fin true n d) p q = absurd q
across (fin false m e) (fin false n d) p q = subst (λ (w : Float). T (le w (fin false n d))) (sym (neg_fin false m e)) (Le→le true m e false n d (omega arith))

-- ---- zero
round_zero : (f : Format) → round f false 0 1 ≡ fin false 0 (pos 0)
unfolding round size units odd lib.Ieee.span lib.Ieee.climb
round_zero binary32 = refl
round_zero binary64 = refl

zero_round : (f : Format) (a b : ℕ) → 0 < b → a ≡ 0 → round f false a b ≡ fin false 0 (pos 0)
zero_round f a b B e = round_same f false a b 0 1 B (zero-lt-suc 0) (ap (λ (x : ℕ). x * 1) e ∙ sym (zero-mul b)) ∙ round_zero f

zeros : T (le (fin false 0 (pos 0)) (neg (fin false 0 (pos 0))))
unfolding le neg
zeros = tt

-- x * k is at most a sum that is nothing
none : (x k y : ℕ) → 0 < k → x * k + y ≤ 0 + 0 → x ≡ 0
none zero k y K h = refl
none (suc x) k y K h = absurd (omega (arith, suc-mul x k))

-- ---- of two fractions with signs the larger rounds to a float that is no smaller
pub round_le : (f : Format) (s : Bool) (a b : ℕ) (t : Bool) (c d : ℕ) → 0 < b → 0 < d → Le s (a * d) t (c * b) → T (le (round f s a b) (round f t c d))
round_le f false a b false c d B D h = O.round_mono f a b c d B D (omega arith)
round_le f true a b true c d B D h =
    subst (λ (w : Float). T (le w (round f true c d))) (neg_round f a b)
    (subst (λ (w : Float). T (le (neg (round f false a b)) w)) (neg_round f c d)
    (neg_le (round f false c d) (round f false a b) (O.round_mono f c d a b D B (omega arith))))
round_le f true a b false c d B D h =
    subst (λ (w : Float). T (le w (round f false c d))) (neg_round f a b) (across (round f false a b) (round f false c d) (plus_round f a b) (plus_round f c d))
round_le f false a b true c d B D h =
    subst (λ (w : Float). T (le w (round f true c d))) (sym (zero_round f a b B (none a d (c * b) D h)))
    (subst (λ (w : Float). T (le (fin false 0 (pos 0)) w)) (ap neg (sym (zero_round f c d D (none c b (a * d) B (omega arith)))) ∙ neg_round f c d) zeros)

-- so a strict test of two rounded fractions is a strict test of the fractions
pub round_lt : (f : Format) (a b c d : ℕ) → 0 < b → 0 < d → T (lt (round f false a b) (round f false c d)) → a * d < c * b
round_lt f a b c d B D h = lt_of_not-le (λ (g : c * b ≤ a * d). le_not_lt (round f false c d) (round f false a b) (O.round_mono f c d a b D B g) h)
