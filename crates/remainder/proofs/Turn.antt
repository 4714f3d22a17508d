-- The remainder by 360 of a number that is a fraction, and of one that is within a turn; and the powers of two modulo 360. Assumes nothing.
use mathlib.Core.Path.{◌≡◌, refl, sym, ap, ◌∙◌, subst}
use Prim.Native.Nat.{ℕ, zero, suc, ◌+◌, ◌-◌, ◌*◌, ◌/◌, ◌%◌, ◌^◌, ◌≤◌, ◌<◌}
use native.Mathlib.Nat.{zero-lt-suc, mul-one, mul_assoc, mul_left_comm, mul-add, mod-eq_of_lt, add-mul-mod_self_left}
use native.Mathlib.Omega.{arith}
use mathlib.Core.Bool.{Bool, true, false}
use lib.IntN.{ℤ, pos}
use lib.Dec.{T, ltb→lt}
use lib.Count.{count_trailing_zeros}
use lib.Pow.{pow-add}
use lib.Ieee.{Float, nan, inf, fin, binary32, up, down, lt, neg, round, sub, div, rem, fits, of_bits, of_fields, odd}
use lib.Ieee.Fits.{down_pos}
use lib.Ieee.Exact.{HasValue}
use lib.Ieee.Back.{round_whole}
use lib.Ieee.Scale.{finite}
use Rattle.ieee.specs.Literal.{turn32}
use Rattle.ieee.specs.Sign.{abs}
use Rattle.ieee.proofs.Round.{round_own}
use Rattle.ieee.proofs.Operations.{unlike_false, div_at, rem_at}

turn_is : turn32 ≡ fin false 45 (pos 3)
unfolding of_bits of_fields odd count_trailing_zeros
turn_is = refl

pub turn_abs : abs turn32 ≡ turn32
unfolding of_bits of_fields odd count_trailing_zeros
turn_abs = refl

turn_value : HasValue turn32 false 360 1
turn_value = subst (λ (y : Float). HasValue y false 360 1) (sym turn_is) (refl, refl)

-- ---- by the value of x
pub rem_turn : (x : Float) (s : Bool) (a c : ℕ) → 0 < c → HasValue x s a c → rem binary32 x turn32 ≡ round binary32 s (a % (360 * c)) c
rem_turn x s a c C v =
    rem_at binary32 x turn32 s false a c 360 1 C (zero-lt-suc 359) (zero-lt-suc 0) v turn_value
    ∙ (λ i. round binary32 s (mul-one a i % (360 * c)) (mul-one c i))

pub rem_special : (x : Float) → finite x ≡ false → sub binary32 x x ≡ rem binary32 x turn32
unfolding sub rem
rem_special nan h = refl
rem_special (inf true) h = refl
rem_special (inf false) h = refl
rem_special (fin s m e) h = absurd (subst T h tt)

-- what is less than a turn stays
pub rem_less : (x : Float) (s : Bool) (a c : ℕ) → T (fits binary32 x) → 0 < c → HasValue x s a c → a < 360 * c → x ≡ rem binary32 x turn32
rem_less x s a c F C v h =
    sym (rem_turn x s a c C v ∙ ap (λ (n : ℕ). round binary32 s n c) (mod-eq_of_lt h) ∙ round_own binary32 x s a c F C v)

-- ---- between -360 and 360
near_fin : (s : Bool) (m : ℕ) (e : ℤ) → T (lt (fin s m e) (fin false 45 (pos 3))) → T (lt (fin true 45 (pos 3)) (fin s m e)) → m * up e < 360 * down e
unfolding lt
near_fin true m e h k = subst (λ (z : ℕ). z < 360 * down e) (mul-one (m * up e)) (ltb→lt (m * up e * 1) (360 * down e) k)
near_fin false m e h k = subst (λ (z : ℕ). z < 360 * down e) (mul-one (m * up e)) (ltb→lt (m * up e * 1) (360 * down e) h)

neg_turn : neg turn32 ≡ fin true 45 (pos 3)
neg_turn = ap neg turn_is ∙ (unfold neg in refl)

pub rem_near : (x : Float) → T (fits binary32 x) → T (lt x turn32) → T (lt (neg turn32) x) → x ≡ rem binary32 x turn32
rem_near x F h k = go x F (subst (λ (v : Float). T (lt x v)) turn_is h) (subst (λ (v : Float). T (lt v x)) neg_turn k)
  where
    go : (x : Float) → T (fits binary32 x) → T (lt x (fin false 45 (pos 3))) → T (lt (fin true 45 (pos 3)) x) → x ≡ rem binary32 x turn32
    go nan F h k = absurd (unfold lt in h)
    go (inf true) F h k = absurd (unfold lt in k)
    go (inf false) F h k = absurd (unfold lt in h)
    go (fin s m e) F h k = rem_less (fin s m e) s (m * up e) (down e) F (down_pos e) (refl, refl) (near_fin s m e h k)

-- ---- a quotient of whole numbers, each of them a float
pub quotient : (s : Bool) (n p : ℕ) → n ≤ 2 ^ 24 → p ≤ 2 ^ 24 → 0 < p → div binary32 (round binary32 s n 1) (round binary32 false p 1) ≡ round binary32 s n p
quotient s n p N P0 P =
    div_at binary32 (round binary32 s n 1) (round binary32 false p 1) s false n 1 p 1 (zero-lt-suc 0) P (zero-lt-suc 0) (round_whole binary32 s n N) (round_whole binary32 false p P0)
    ∙ (λ i. round binary32 (unlike_false s i) (mul-one n i) (mul-one p i))

-- ---- the powers of two from 8 on have period 12 modulo 360
eights : (t : ℕ) → (y : ℕ) × (8 * 2 ^ (12 * t) ≡ 8 + 360 * y)
eights zero = (0, refl)
eights (suc t) =
    let r = eights t in
    (91 + 4096 * r.0, ap (λ (x : ℕ). 8 * x) (ap (λ (x : ℕ). 2 ^ x) (twelve t) ∙ pow-add 2 (12 * t) 12) ∙ go (2 ^ (12 * t)) r.0 r.1)
  where
    twelve : (t : ℕ) → 12 * suc t ≡ 12 * t + 12
    twelve t = omega arith

    go : (p y : ℕ) → 8 * p ≡ 8 + 360 * y → 8 * (p * 4096) ≡ 8 + 360 * (91 + 4096 * y)
    go p y h = omega arith

pub period : (q j : ℕ) → 15 ≤ j → q * 2 ^ ((j - 3) % 12 + 3) % 360 ≡ q * 2 ^ j % 360
period q j h =
    let i = (j - 3) % 12 in
    let t = (j - 3) / 12 in
    let r = eights t in
    let a : q * 2 ^ (i + 3) ≡ q * 2 ^ i * 8 = ap (λ (x : ℕ). q * x) (pow-add 2 i 3) ∙ sym (mul_assoc q (2 ^ i) 8) in
    let b : q * 2 ^ j ≡ q * 2 ^ i * (8 + 360 * r.0) =
    ap (λ (x : ℕ). q * x) (ap (λ (x : ℕ). 2 ^ x) (parts j h) ∙ pow-add 2 i (3 + 12 * t) ∙ ap (λ (x : ℕ). 2 ^ i * x) (pow-add 2 3 (12 * t) ∙ r.1))
    ∙ sym (mul_assoc q (2 ^ i) (8 + 360 * r.0)) in
    let w = q * 2 ^ i in
    ap (λ (x : ℕ). x % 360) a
    ∙ sym (add-mul-mod_self_left (w * 8) 360 (w * r.0))
    ∙ ap (λ (x : ℕ). (w * 8 + x) % 360) (mul_left_comm 360 w r.0)
    ∙ ap (λ (x : ℕ). x % 360) (sym (mul-add w 8 (360 * r.0)))
    ∙ ap (λ (x : ℕ). x % 360) (sym b)
  where
    parts : (j : ℕ) → 15 ≤ j → j ≡ (j - 3) % 12 + (3 + 12 * ((j - 3) / 12))
    parts j h = omega arith
