-- Zeros: rounded, and added to and multiplied with finite numbers that have a clear sign; and what the tests for such numbers say. Assumes nothing.
use mathlib.Core.Path.{◌≡◌, refl, sym, ap, ◌∙◌, subst}
use mathlib.Core.Bool.{Bool, true, false, cond, false≢true}
use Prim.Native.Nat.{ℕ, zero, suc, ◌-◌, ◌*◌, ◌<◌}
use native.Mathlib.Nat.{zero-lt-suc, add-zero, zero-add, sub-zero, zero-mul, mul-zero, mul-pos}
use native.Mathlib.Omega.{arith}
use borrow.Author.Tests.{eqb-true, le-ltb, lt-ltb}
use lib.Dec.{T, eqb, eqb→eq, ltb}
use lib.IntN.{pos}
use lib.Ieee.{Float, nan, inf, fin, Format, up, down, unlike, fits, round, sum, add, mul, lt, eq}
use lib.Ieee.Exact.{HasValue}
use lib.Ieee.Fits.{up_pos, down_pos, and_l}
use lib.Ieee.Positive.{num, den, den_pos}
use lib.Ieee.Scale.{finite, grid, round_val, round_under}
use Rattle.ieee.specs.Literal.{zero32}
use Rattle.ieee.specs.Sign.{is_zero}
use Rattle.ieee.proofs.Round.{round_own}
use Rattle.ieee.proofs.Operations.{add_at, mul_at}
use Rattle.ieee.proofs.Monotone.{zero_is}

-- ---- the zero of a sign
abbrev pub zero_of : Bool → Float
zero_of s = fin s 0 (pos 0)

pub zero_fits : (f : Format) (s : Bool) → T (fits f (zero_of s))
unfolding fits
zero_fits f true = tt
zero_fits f false = tt

pub zero_has : (s : Bool) (c : ℕ) → HasValue (zero_of s) s 0 c
zero_has s c = (refl, zero-mul c)

pub round_zero : (f : Format) (s : Bool) (n c : ℕ) → n ≡ 0 → 0 < c → round f s n c ≡ zero_of s
round_zero f s n c e h = ap (λ (k : ℕ). round f s k c) e ∙ round_own f (zero_of s) s 0 c (zero_fits f s) h (zero_has s c)

-- ---- finite, with a clear sign
abbrev pub Plus : Float → Type 0
Plus nan = ⊥
Plus (inf s) = ⊥
Plus (fin s m e) = s ≡ false

pub plus_finite : (x : Float) → Plus x → finite x ≡ true
plus_finite nan p = absurd p
plus_finite (inf s) p = absurd p
plus_finite (fin s m e) p = refl

pub zero_plus : Plus zero32
zero_plus = subst Plus (sym zero_is) refl

plus_value : (x : Float) → Plus x → HasValue x false (num x) (den x)
plus_value nan p = absurd p
plus_value (inf s) p = absurd p
plus_value (fin s m e) p = (p, refl)

value_plus : (x : Float) (a c : ℕ) → HasValue x false a c → Plus x
value_plus nan a c v = absurd v
value_plus (inf s) a c v = absurd v
value_plus (fin s m e) a c v = v.0

above_plus_fin : (x : Float) → lt (fin false 0 (pos 0)) x ≡ true → finite x ≡ true → Plus x
unfolding lt
above_plus_fin nan h t = absurd (subst T (sym t) tt)
above_plus_fin (inf s) h t = absurd (subst T (sym t) tt)
above_plus_fin (fin false m e) h t = refl
above_plus_fin (fin true m e) h t = absurd (subst T (sym h) tt)

pub above_plus : (x : Float) → lt zero32 x ≡ true → finite x ≡ true → Plus x
above_plus x h t = above_plus_fin x (ap (λ (z : Float). lt z x) (sym zero_is) ∙ h) t

-- ---- zeros, of either sign
no_part : (u c d : ℕ) → 0 * u * c ≡ 0 * d
no_part u c d = omega arith

some_part : (n d : ℕ) → n * 1 ≡ 0 * 1 * d → 0 < n → ⊥
some_part n d h p = omega arith

pub zero_value : (z : Float) → is_zero z ≡ true → (c : ℕ) → (t : Bool) × HasValue z t 0 c
zero_value nan h c = absurd (subst T (sym h) tt)
zero_value (inf s) h c = absurd (subst T (sym h) tt)
zero_value (fin s m e) h c = (s, (refl, ap (λ (k : ℕ). k * up e * c) (eqb-true m 0 h) ∙ no_part (up e) c (down e)))

level_zero_fin : (x : Float) → eq x (fin false 0 (pos 0)) ≡ true → is_zero x ≡ true
unfolding eq
level_zero_fin nan h = absurd (subst T (sym h) tt)
level_zero_fin (inf s) h = absurd (subst T (sym h) tt)
level_zero_fin (fin s zero e) h = refl
level_zero_fin (fin s (suc m) e) h =
    let n = suc m * up e in
    let none = 0 * 1 * down e in
    absurd (some_part n (down e) (eqb→eq (n * 1) none (and_l (eqb (n * 1) none) _ (subst T (sym h) tt))) (mul-pos (zero-lt-suc m) (up_pos e)))

pub level_zero : (x : Float) → eq x zero32 ≡ true → is_zero x ≡ true
level_zero x h = level_zero_fin x (ap (eq x) (sym zero_is) ∙ h)

-- ---- sums
sum_zero : (f : Format) (a c : ℕ) (t : Bool) → sum f false a t 0 c ≡ round f false a c
unfolding sum
sum_zero f a c false = ap (λ (n : ℕ). round f false n c) (add-zero a)
sum_zero f a c true =
    ap (λ (b : Bool). cond b (round f true (0 - a) c) (round f false (a - 0) c)) (le-ltb a 0 (omega arith)) ∙ ap (λ (n : ℕ). round f false n c) (sub-zero a)

zero_sum : (f : Format) (a c : ℕ) (t : Bool) → sum f t 0 false a c ≡ round f false a c
unfolding sum
zero_sum f a c false = ap (λ (n : ℕ). round f false n c) (zero-add a)
zero_sum f zero c true = refl
zero_sum f (suc a) c true =
    ap (λ (b : Bool). cond b (round f false (suc a - 0) c) (round f (ltb (suc a) 0) (0 - suc a) c)) (lt-ltb 0 (suc a) (zero-lt-suc a)) ∙ ap (λ (n : ℕ). round f false n c) (sub-zero (suc a))

-- a zero added on either side changes nothing
pub add_zero_right : (f : Format) (x z : Float) → T (fits f x) → Plus x → is_zero z ≡ true → add f x z ≡ x
add_zero_right f x z F p h =
    let v = plus_value x p in
    let w = zero_value z h (den x) in
    add_at f x z false w.0 (num x) 0 (den x) (den_pos x) v w.1 ∙ sum_zero f (num x) (den x) w.0 ∙ round_own f x false (num x) (den x) F (den_pos x) v

pub add_zero_left : (f : Format) (z x : Float) → T (fits f x) → Plus x → is_zero z ≡ true → add f z x ≡ x
add_zero_left f z x F p h =
    let v = plus_value x p in
    let w = zero_value z h (den x) in
    add_at f z x w.0 false 0 (num x) (den x) (den_pos x) w.1 v ∙ zero_sum f (num x) (den x) w.0 ∙ round_own f x false (num x) (den x) F (den_pos x) v

-- ---- products
pub mul_plus : (f : Format) (x y : Float) → Plus x → Plus y → finite (mul f x y) ≡ true → Plus (mul f x y)
mul_plus f x y p q h =
    let a = num x * num y in
    let c = den x * den y in
    let e = mul_at f x y false false (num x) (den x) (num y) (den y) (den_pos x) (den_pos y) (plus_value x p) (plus_value y q) in
    subst Plus (sym e) (value_plus (round f false a c) (grid f a c) _ (round_val f a c (round_under f a c (subst T (sym (ap finite (sym e) ∙ h)) tt))))

-- the product of a finite number with a zero of either sign is a zero
pub mul_zero_right : (f : Format) (x z : Float) → finite x ≡ true → is_zero z ≡ true → is_zero (mul f x z) ≡ true
mul_zero_right f nan z p h = absurd (false≢true p)
mul_zero_right f (inf s) z p h = absurd (false≢true p)
mul_zero_right f (fin s m e) z p h =
    let w = zero_value z h 1 in
    ap is_zero
    (mul_at f (fin s m e) z s w.0 (m * up e) (down e) 0 1 (down_pos e) (zero-lt-suc 0) (refl, refl) w.1
    ∙ round_zero f (unlike s w.0) (m * up e * 0) (down e * 1) (mul-zero (m * up e)) (mul-pos (down_pos e) (zero-lt-suc 0)))

-- that of +0 is +0
pub mul_zero_left : (f : Format) (z x : Float) → z ≡ zero32 → Plus x → mul f z x ≡ zero32
mul_zero_left f z x z_is p =
    ap (λ (y : Float). mul f y x) (z_is ∙ zero_is)
    ∙ mul_at f (fin false 0 (pos 0)) x false false 0 1 (num x) (den x) (zero-lt-suc 0) (den_pos x) (refl, refl) (plus_value x p)
    ∙ round_zero f false (0 * num x) (1 * den x) (zero-mul (num x)) (mul-pos (zero-lt-suc 0) (den_pos x))
    ∙ sym zero_is
