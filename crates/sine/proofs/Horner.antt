-- The sums as polynomials in a⁴, by Horner's rule over coefficients that do not hang on a: what a test over many angles computes.
-- Assumes nothing.
use mathlib.Core.Path.{◌≡◌, refl, sym, ap, ◌∙◌}
use mathlib.Core.Bool.{Bool, true, false, not, cond}
use mathlib.Core.List.{List, [], ◌∷◌}
use Prim.Native.Nat.{ℕ, zero, suc, ◌+◌, ◌*◌, ◌^◌}
use native.Mathlib.Nat.{pow-suc, pow-zero, zero-mul}
use native.Mathlib.Omega.{arith}
use lib.ListN.{length}
use Rattle.sine.specs.Series.{even, factor, numerator, added, taken}
use Rattle.sine.proofs.Terms.{numerator_zero, numerator_suc}

abbrev pub times : ℕ → List ℕ → List ℕ
times g [] = []
times g (c ∷ cs) = c * g ∷ times g cs

abbrev pub snoc : List ℕ → ℕ → List ℕ
snoc [] x = x ∷ []
snoc (c ∷ cs) x = c ∷ snoc cs x

abbrev pub more : Bool → List ℕ → List ℕ
more true l = snoc l 1
more false l = l

abbrev pub horner : ℕ → List ℕ → ℕ
horner x [] = 0
horner x (c ∷ cs) = c + x * horner x cs

-- every second term over the denominator of term n: the coefficients of terms n, n - 2, .. for true, and n - 1, n - 3, .. for false, the lowest first
unfoldable pub coefs : Bool → ℕ → ℕ → List ℕ
coefs b d zero = more b []
coefs b d (suc n) = more b (times (factor d n) (coefs (not b) d n))

-- ---- Horner's rule

times_step : (c x h k g : ℕ) → h ≡ k * g → c * g + x * h ≡ (c + x * k) * g
times_step c x h k g e = omega (arith, ap (λ (i : ℕ). x * i) e)

horner_times : (x g : ℕ) (l : List ℕ) → horner x (times g l) ≡ horner x l * g
horner_times x g [] = sym (zero-mul g)
horner_times x g (c ∷ cs) = times_step c x (horner x (times g cs)) (horner x cs) g (horner_times x g cs)

snoc_step : (c x h k p q : ℕ) → h ≡ k + p → q ≡ p * x → c + x * h ≡ c + x * k + q
snoc_step c x h k p q i j = omega (arith, ap (λ (m : ℕ). x * m) i, j)

snoc_first : (x p : ℕ) → p ≡ 1 → 1 + x * 0 ≡ 0 + p
snoc_first x p h = omega (arith, h)

horner_snoc : (x : ℕ) (l : List ℕ) → horner x (snoc l 1) ≡ horner x l + x ^ length l
horner_snoc x [] = snoc_first x (x ^ 0) (pow-zero x)
horner_snoc x (c ∷ cs) = snoc_step c x (horner x (snoc cs 1)) (horner x cs) (x ^ length cs) (x ^ suc (length cs)) (horner_snoc x cs) (pow-suc x (length cs))

length_snoc : (l : List ℕ) → length (snoc l 1) ≡ suc (length l)
length_snoc [] = refl
length_snoc (c ∷ cs) = ap suc (length_snoc cs)

length_times : (g : ℕ) (l : List ℕ) → length (times g l) ≡ length l
length_times g [] = refl
length_times g (c ∷ cs) = ap suc (length_times g cs)

-- ---- the powers of a

abbrev pub fourth_power : ℕ → ℕ
fourth_power a = a * a * (a * a)

-- whether the lowest of the terms n, n - 2, .. or n - 1, n - 3, .. is term 0
abbrev from_first : Bool → ℕ → Bool
from_first b zero = b
from_first b (suc n) = from_first (not b) n

-- and its power of a
abbrev lowest : Bool → ℕ → ℕ
lowest b a = cond b a (a * a * a)

numerator_1 : (a x y : ℕ) → x ≡ a → y ≡ x * (a * a) → y ≡ a * a * a * 1
numerator_1 a x y h k = omega (arith, k, ap (λ (i : ℕ). i * (a * a)) h)

numerator_2 : (a x y z f : ℕ) → x ≡ a → y ≡ x * (a * a) → z ≡ y * (a * a) → f ≡ 1 * fourth_power a → z ≡ a * f
numerator_2 a x y z f h i j k =
    omega (arith, j, ap (λ (m : ℕ). m * (a * a)) i, ap (λ (m : ℕ). m * (a * a) * (a * a)) h, ap (λ (m : ℕ). a * m) k)

numerator_3 : (a x y z l p q : ℕ) → x ≡ l * p → y ≡ x * (a * a) → z ≡ y * (a * a) → q ≡ p * fourth_power a → z ≡ l * q
numerator_3 a x y z l p q h i j k =
    omega (arith, j, ap (λ (m : ℕ). m * (a * a)) i, ap (λ (m : ℕ). m * (a * a) * (a * a)) h, ap (λ (m : ℕ). l * m) k)

-- the term that follows them, by the number of the coefficients
next_term : (b : Bool) (a d n : ℕ) →
    numerator a (suc (cond b (suc n) n)) ≡ lowest (from_first b n) a * fourth_power a ^ length (coefs b d n)
unfolding coefs
next_term true a d zero =
    numerator_2 a (numerator a 0) (numerator a 1) (numerator a 2) (fourth_power a ^ 1) (numerator_zero a) (numerator_suc a 0) (numerator_suc a 1)
    (pow-suc (fourth_power a) 0 ∙ ap (λ (i : ℕ). i * fourth_power a) (pow-zero (fourth_power a)))
next_term false a d zero =
    numerator_1 a (numerator a 0) (numerator a 1) (numerator_zero a) (numerator_suc a 0) ∙ ap (λ (i : ℕ). a * a * a * i) (sym (pow-zero (fourth_power a)))
next_term true a d (suc n) =
    let l = coefs false d n in
    numerator_3 a (numerator a (suc n)) (numerator a (suc (suc n))) (numerator a (suc (suc (suc n)))) (lowest (from_first false n) a)
    (fourth_power a ^ length l) (fourth_power a ^ suc (length l)) (next_term false a d n) (numerator_suc a (suc n)) (numerator_suc a (suc (suc n)))
    (pow-suc (fourth_power a) (length l))
    ∙ ap (λ (i : ℕ). lowest (from_first false n) a * fourth_power a ^ i) (sym (length_snoc (times (factor d n) l) ∙ ap suc (length_times (factor d n) l)))
next_term false a d (suc n) =
    next_term true a d n ∙ ap (λ (i : ℕ). lowest (from_first true n) a * fourth_power a ^ i) (sym (length_times (factor d n) (coefs true d n)))

-- ---- the sums

-- over the denominator of term n, the sum of the terms n, n - 2, .. for true, and n - 1, n - 3, .. for false
unfoldable part : Bool → ℕ → ℕ → ℕ → ℕ
part b a d zero = cond b a 0
part b a d (suc n) = part (not b) a d n * factor d n + cond b (numerator a (suc n)) 0

part_zero : (b : Bool) (a x : ℕ) → cond b a 0 ≡ lowest b a * horner x (more b [])
part_zero true a x = omega arith
part_zero false a x = omega arith

part_step : (s t h k g q x : ℕ) → s ≡ t * h → k ≡ h * g → x ≡ t * q → s * g + x ≡ t * (k + q)
part_step s t h k g q x i j l = omega (arith, ap (λ (m : ℕ). m * g) i, ap (λ (m : ℕ). t * m) j, l)

part_same : (s t h k g : ℕ) → s ≡ t * h → k ≡ h * g → s * g + 0 ≡ t * k
part_same s t h k g i j = omega (arith, ap (λ (m : ℕ). m * g) i, ap (λ (m : ℕ). t * m) j)

part_horner : (b : Bool) (a d n : ℕ) → part b a d n ≡ lowest (from_first b n) a * horner (fourth_power a) (coefs b d n)
unfolding part coefs
part_horner b a d zero = part_zero b a (fourth_power a)
part_horner true a d (suc n) =
    let x = fourth_power a in
    let g = factor d n in
    let l = coefs false d n in
    let t = lowest (from_first false n) a in
    part_step (part false a d n) t (horner x l) (horner x (times g l)) g (x ^ length l) (numerator a (suc n))
    (part_horner false a d n) (horner_times x g l) (next_term false a d n)
    ∙ ap (λ (m : ℕ). t * m) (sym (horner_snoc x (times g l) ∙ ap (λ (m : ℕ). horner x (times g l) + x ^ m) (length_times g l)))
part_horner false a d (suc n) =
    let x = fourth_power a in
    let l = coefs true d n in
    part_same (part true a d n) (lowest (from_first true n) a) (horner x l) (horner x (times (factor d n) l)) (factor d n)
    (part_horner true a d n) (horner_times x (factor d n) l)

not_not : (b : Bool) → not (not b) ≡ b
not_not true = refl
not_not false = refl

even_first : (n : ℕ) → from_first (even n) n ≡ true
even_first zero = refl
even_first (suc n) = ap (λ (b : Bool). from_first b n) (not_not (even n)) ∙ even_first n

odd_first : (n : ℕ) → from_first (not (even n)) n ≡ false
odd_first zero = refl
odd_first (suc n) = ap (λ (b : Bool). from_first (not b) n) (not_not (even n)) ∙ odd_first n

added_part : (a d n : ℕ) → added a d n ≡ part (even n) a d n
unfolding added part
added_part a d zero = refl
added_part a d (suc n) =
    ap (λ (x : ℕ). x * factor d n + cond (not (even n)) (numerator a (suc n)) 0)
    (added_part a d n ∙ ap (λ (b : Bool). part b a d n) (sym (not_not (even n))))

taken_part : (a d n : ℕ) → taken a d n ≡ part (not (even n)) a d n
unfolding taken part
taken_part a d zero = refl
taken_part a d (suc n) =
    ap (λ (x : ℕ). x * factor d n + cond (not (not (even n))) (numerator a (suc n)) 0)
    (taken_part a d n ∙ ap (λ (b : Bool). part (not b) a d n) (sym (not_not (even n))))

pub added_horner : (a d n : ℕ) → added a d n ≡ a * horner (fourth_power a) (coefs (even n) d n)
added_horner a d n =
    added_part a d n ∙ part_horner (even n) a d n ∙ ap (λ (b : Bool). lowest b a * horner (fourth_power a) (coefs (even n) d n)) (even_first n)

pub taken_horner : (a d n : ℕ) → taken a d n ≡ a * a * a * horner (fourth_power a) (coefs (not (even n)) d n)
taken_horner a d n =
    taken_part a d n ∙ part_horner (not (even n)) a d n
    ∙ ap (λ (b : Bool). lowest b a * horner (fourth_power a) (coefs (not (even n)) d n)) (odd_first n)
