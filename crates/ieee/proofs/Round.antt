-- Rounding. On a grid of 2 ^ -q `round` is `cut` (`round_cut`), so 2 ^ k times a fraction rounds to 2 ^ k times what the fraction rounds to, as data (`round_scale`);
-- a value that the format holds is what its own fraction rounds to (`round_own`); the sign goes through (`neg_round`). Assumes nothing.
use mathlib.Core.Path.{◌≡◌, refl, sym, ap, ◌∙◌, subst}
use Prim.Native.Nat.{ℕ, zero, suc, ◌+◌, ◌-◌, ◌*◌, ◌^◌, ◌≤◌, ◌<◌}
use native.Mathlib.Nat.{le_trans, le_of_eq, lt_of_le_of_lt, zero-mul, one-mul, mul-one, mul_comm, mul_assoc, mul_right_comm, mul-le-mul_right, mul-lt-mul_of_pos_right, lt_of_mul-lt-mul_right, mul-pos, mul-div_cancel, sub-add_cancel}
use native.Mathlib.Omega.{arith}
use mathlib.Core.Bool.{Bool, true, false, cond}
use lib.IntN.{ℤ, pos, negsuc}
use lib.Dec.{T, ltb}
use lib.Pow.{pow-add, pow_pos, pow-lt}
use lib.Ieee.{Float, nan, inf, fin, Format, prec, emax, low, up, down, size, odd, units, round, neg, fits}
use lib.Ieee.Fits.{round_is, round-fits, down_pos, two, two-le_pos}
use lib.Ieee.Exact.{HasValue, units_val, round_exact}
use lib.Ieee.Nearest.{closest, closest_same}
use lib.Ieee.Scale.{round_same, overflow}
use Rattle.ieee.specs.Grid.{scale, On}
use Rattle.ieee.specs.Cut.{cut}
use Rattle.ieee.proofs.Digits.{grow, pow_le_back, pow_split}
use Rattle.ieee.proofs.Cut.{cut_is, cut_scale}
use Rattle.ieee.proofs.Value.{Fitting, fits_elim, rescale, scale_val, scale_fits, value_unique}

pub prec_pos : (f : Format) → 0 < prec f
prec_pos f = two-le_pos (prec f) (two f)

-- ---- `round` at N of the format's smallest values
pub round_units : (f : Format) (s : Bool) (N : ℕ) → round f s N (2 ^ low f) ≡ units f s (closest N (2 ^ (size N - prec f))) (size N - prec f)
round_units f s N =
    let u = 2 ^ low f in
    let k = size N - prec f in
    round_is f s N u
    ∙ ap (λ (z : ℕ). units f s (closest (N * u) (u * 2 ^ (size z - prec f))) (size z - prec f)) (mul-div_cancel N (pow_pos (low f)))
    ∙ ap (λ (z : ℕ). units f s z k) (closest_same (N * u) (u * 2 ^ k) N (2 ^ k) (mul-pos (pow_pos (low f)) (pow_pos k)) (pow_pos k) (simp mul_assoc))

units_cut : (f : Format) (s : Bool) (N : ℕ) → cut (prec f) N < overflow f → HasValue (round f s N (2 ^ low f)) s (cut (prec f) N) (2 ^ low f)
units_cut f s N h =
    subst (λ (x : Float). HasValue x s (cut (prec f) N) (2 ^ low f)) (sym (round_units f s N))
    (subst (λ (z : ℕ). HasValue (units f s (closest N (2 ^ (size N - prec f))) (size N - prec f)) s z (2 ^ low f)) (sym (cut_is (prec f) N))
    (units_val f s (closest N (2 ^ (size N - prec f))) (size N - prec f) (subst (λ (z : ℕ). z < overflow f) (cut_is (prec f) N) h)))

-- ---- `round` at n * 2 ^ -q
pub exps : (q l E : ℕ) → q ≤ l → q + suc E + (l - q) ≡ l + suc E
exps q l E h = omega arith

pub round_cut : (f : Format) (s : Bool) (num den q n : ℕ) → 0 < den → q ≤ low f → num * 2 ^ q ≡ n * den → cut (prec f) n < 2 ^ (q + suc (emax f))
    → HasValue (round f s num den) s (cut (prec f) n) (2 ^ q)
round_cut f s num den q n D Q h b =
    let l = low f in
    let w = 2 ^ (l - q) in
    let N = n * w in
    let c = cut (prec f) n in
    let sp : 2 ^ q * w ≡ 2 ^ l = pow_split q l Q in
    let e : num * 2 ^ l ≡ N * den = ap (λ (z : ℕ). num * z) (sym sp) ∙ sym (mul_assoc num (2 ^ q) w) ∙ ap (λ (z : ℕ). z * w) h ∙ mul_right_comm n den w in
    let same : round f s num den ≡ round f s N (2 ^ l) = round_same f s num den N (2 ^ l) D (pow_pos l) e in
    let cs : cut (prec f) N ≡ c * w = cut_scale (prec f) n (l - q) (prec_pos f) in
    let lt : cut (prec f) N < overflow f =
    subst (λ (z : ℕ). z < overflow f) (sym cs)
    (subst (λ (z : ℕ). c * w < z) (sym (pow-add 2 (q + suc (emax f)) (l - q)) ∙ ap (λ (z : ℕ). 2 ^ z) (exps q l (emax f) Q)) (mul-lt-mul_of_pos_right b (pow_pos (l - q)))) in
    subst (λ (x : Float). HasValue x s c (2 ^ q)) (sym same)
    (rescale (round f s N (2 ^ l)) s (cut (prec f) N) (2 ^ l) c (2 ^ q) (pow_pos l)
    (ap (λ (z : ℕ). c * z) (sym sp) ∙ ap (λ (z : ℕ). c * z) (mul_comm (2 ^ q) w) ∙ sym (mul_assoc c w (2 ^ q)) ∙ ap (λ (z : ℕ). z * 2 ^ q) (sym cs))
    (units_cut f s N lt))

-- THE CORE: a fraction that is a whole multiple of 2 ^ -q, q ≤ 149 at an f32, and does not overflow
pub round_scale : (f : Format) (s : Bool) (num den q n k : ℕ) → 0 < den → q ≤ low f → num * 2 ^ q ≡ n * den → cut (prec f) n * 2 ^ k < 2 ^ (q + suc (emax f))
    → round f s (num * 2 ^ k) den ≡ scale k (round f s num den)
round_scale f s num den q n k D Q h b =
    let c = cut (prec f) n in
    let cs : cut (prec f) (n * 2 ^ k) ≡ c * 2 ^ k = cut_scale (prec f) n k (prec_pos f) in
    let v : HasValue (round f s (num * 2 ^ k) den) s (c * 2 ^ k) (2 ^ q) =
    subst (λ (z : ℕ). HasValue (round f s (num * 2 ^ k) den) s z (2 ^ q)) cs
    (round_cut f s (num * 2 ^ k) den q (n * 2 ^ k) D Q (mul_right_comm num (2 ^ k) (2 ^ q) ∙ ap (λ (z : ℕ). z * 2 ^ k) h ∙ mul_right_comm n den (2 ^ k)) (subst (λ (z : ℕ). z < 2 ^ (q + suc (emax f))) (sym cs) b)) in
    let w : HasValue (round f s num den) s c (2 ^ q) = round_cut f s num den q n D Q h (lt_of_le_of_lt (grow c (2 ^ k) (pow_pos k)) b) in
    value_unique f (round f s (num * 2 ^ k) den) (scale k (round f s num den)) s (c * 2 ^ k) (2 ^ q) (pow_pos q) (round-fits f s (num * 2 ^ k) den)
    (scale_fits f k (round f s num den) s c (2 ^ q) (round-fits f s num den) w (subst (λ (z : ℕ). c * 2 ^ k < z) (pow-add 2 q (suc (emax f)) ∙ mul_comm (2 ^ q) (2 ^ suc (emax f))) b))
    v
    (scale_val k (round f s num den) s c (2 ^ q) w)

-- ---- the bound: what is at most 2 ^ b is not too large 2 ^ k times, if b + k ≤ emax
reach : (q b k E : ℕ) → b + k ≤ E → b + q + k < q + suc E
reach q b k E h = omega arith

pub under_top : (f : Format) (q b k c : ℕ) → b + k ≤ emax f → c ≤ 2 ^ (b + q) → c * 2 ^ k < 2 ^ (q + suc (emax f))
under_top f q b k c h l = lt_of_le_of_lt (le_trans (mul-le-mul_right (2 ^ k) l) (le_of_eq (sym (pow-add 2 (b + q) k)))) (pow-lt (reach q b k (emax f) h))

pub below_top : (f : Format) (q b c : ℕ) → b ≤ emax f → c ≤ 2 ^ (b + q) → c < 2 ^ (q + suc (emax f))
below_top f q b c h l = lt_of_le_of_lt l (pow-lt (reach0 q b (emax f) h))
  where
    reach0 : (q b E : ℕ) → b ≤ E → b + q < q + suc E
    reach0 q b E h = omega arith

pub round_on : (f : Format) (s : Bool) (q b n : ℕ) → q ≤ low f → b ≤ emax f → cut (prec f) n ≤ 2 ^ (b + q) → On q b (round f s n (2 ^ q))
round_on f s q b n Q B l = record {
  sign = s;
  count = cut (prec f) n;
  value = round_cut f s n (2 ^ q) q n (pow_pos q) Q refl (below_top f q b (cut (prec f) n) B l);
  bound = l;
}

-- ---- a value that the format holds
-- 2 ^ e is 2 ^ j smallest values
pub place : (l : ℕ) (e : ℤ) → down e ≤ 2 ^ l → (j : ℕ) × (up e * 2 ^ l ≡ 2 ^ j * down e)
place l (pos a) h = (a + l, sym (pow-add 2 a l) ∙ sym (mul-one (2 ^ (a + l))))
place l (negsuc a) h = (l - suc a, one-mul (2 ^ l) ∙ ap (λ (x : ℕ). 2 ^ x) (sym (sub-add_cancel (pow_le_back (suc a) l h))) ∙ pow-add 2 (l - suc a) (suc a))

fit_val : (f : Format) (s : Bool) (m : ℕ) (e : ℤ) → Fitting f m e → HasValue (round f s (m * up e) (down e)) s (m * up e) (down e)
fit_val f s m e g =
    let l = low f in
    let pl = place l e g.2 in
    let j = pl.0 in
    let h : m * up e * 2 ^ l ≡ m * 2 ^ j * down e = mul_assoc m (up e) (2 ^ l) ∙ ap (λ (x : ℕ). m * x) pl.1 ∙ sym (mul_assoc m (2 ^ j) (down e)) in
    round_exact f s (m * up e) (down e) m j (down_pos e) g.1
    (lt_of_mul-lt-mul_right (down e)
    (subst (λ (x : ℕ). x < 2 ^ (l + suc (emax f)) * down e) h
    (subst (λ (x : ℕ). m * up e * 2 ^ l < x) (mul_right_comm (2 ^ suc (emax f)) (down e) (2 ^ l) ∙ ap (λ (x : ℕ). x * down e) (mul_comm (2 ^ suc (emax f)) (2 ^ l) ∙ sym (pow-add 2 l (suc (emax f)))))
    (mul-lt-mul_of_pos_right g.3 (pow_pos l)))))
    h

zero_val : (f : Format) (s : Bool) (e : ℤ) → HasValue (round f s (0 * up e) (down e)) s (0 * up e) (down e)
zero_val f s e =
    round_exact f s (0 * up e) (down e) 0 0 (down_pos e) (pow_pos (prec f)) (pow_pos (low f + suc (emax f)))
    (ap (λ (x : ℕ). x * 2 ^ low f) (zero-mul (up e)) ∙ zero-mul (2 ^ low f) ∙ sym (zero-mul (down e)))

pub round_own : (f : Format) (x : Float) (s : Bool) (a c : ℕ) → T (fits f x) → 0 < c → HasValue x s a c → round f s a c ≡ x
round_own f nan s a c t C v = absurd v
round_own f (inf r) s a c t C v = absurd v
round_own f (fin r zero e) s a c t C v =
    round_same f s a c (0 * up e) (down e) C (down_pos e) (sym v.1)
    ∙ value_unique f (round f s (0 * up e) (down e)) (fin r zero e) s (0 * up e) (down e) (down_pos e) (round-fits f s (0 * up e) (down e)) t (zero_val f s e) (v.0, refl)
round_own f (fin r (suc m) e) s a c t C v =
    round_same f s a c (suc m * up e) (down e) C (down_pos e) (sym v.1)
    ∙ value_unique f (round f s (suc m * up e) (down e)) (fin r (suc m) e) s (suc m * up e) (down e) (down_pos e) (round-fits f s (suc m * up e) (down e)) t (fit_val f s (suc m) e (fits_elim f r m e t)) (v.0, refl)

-- ---- the sign
neg_odd : (d : ℕ) (q k l : ℕ) → neg (odd d false q k l) ≡ odd d true q k l
unfolding neg odd
neg_odd d zero k l = refl
neg_odd d (suc q) k l = refl

neg_units : (f : Format) (q k : ℕ) → neg (units f false q k) ≡ units f true q k
unfolding units
neg_units f q k = go (ltb (q * 2 ^ k) (2 ^ (low f + suc (emax f))))
  where
    inf_neg : neg (inf false) ≡ inf true
    inf_neg = unfold neg in refl

    go : (b : Bool) → neg (cond b (odd (suc (prec f)) false q k (low f)) (inf false)) ≡ cond b (odd (suc (prec f)) true q k (low f)) (inf true)
    go true = neg_odd (suc (prec f)) q k (low f)
    go false = inf_neg

pub neg_round : (f : Format) (n d : ℕ) → neg (round f false n d) ≡ round f true n d
neg_round f n d = ap neg (round_is f false n d) ∙ neg_units f _ _ ∙ sym (round_is f true n d)
