-- What each way out of a function of this crate owes, as the code meets it: a premise for each test and for each call's result.
-- Assumes nothing.
use mathlib.Core.Path.{◌≡◌, refl, sym, ap, ◌∙◌, subst}
use mathlib.Core.Bool.{Bool, true, false, cond}
use Prim.Native.Nat.{ℕ, ◌+◌, ◌-◌, ◌*◌, ◌^◌, ◌≤◌, ◌<◌}
use native.Mathlib.Nat.{le_trans, mul_assoc, mul_right_comm, mul-le-mul_right, mul-le-mul, le_of_mul-le-mul_right}
use native.Mathlib.Omega.{arith}
use lib.Dec.{T, leb}
use lib.IntN.{ℤ}
use borrow.Author.Tests.{leb-true, leb-false}
use lib.Pow.{pow-add, pow_pos, pow_mono}
use lib.Ieee.{Float, nan, inf, fin, up, down, of_bits}
use lib.Ieee.Exact.{HasValue}
use lib.Ieee.Fits.{down_pos}
use lib.Ieee.Scale.{finite}
use Rattle.ieee.specs.Limit.{within, Bounded}
use Rattle.ieee.specs.Whole.{whole_down, whole_up}
use Rattle.ieee.proofs.Bounds.{within→bounded}
use Rattle.ieee.proofs.Whole.{Mono, down_mono, up_mono, same_of_mono}
use Rattle.float.specs.declared.parts.Parts.{Parts}
use Rattle.count.specs.Count.{count_down, count_up, count_limit}

limit_value : HasValue count_limit false (2 ^ 20) 1
unfolding of_bits
limit_value = (refl, refl)

too_large : 2 ^ 23 * 2 ^ 149 ≤ 2 ^ 20 * 2 ^ 149 → ⊥
too_large l = let z : 2 ^ 23 ≤ 2 ^ 20 = le_of_mul-le-mul_right l (pow_pos 149) in omega arith

-- q * 2 ^ k units of 2 ^ -149 are less than 2 ^ 23 only where k is below 149, if q has 24 digits wherever k is more than 0
few_drops : (q k : ℕ) → (0 < k → 2 ^ 23 ≤ q) → q * 2 ^ k ≤ 2 ^ 20 * 2 ^ 149 → k < 149
few_drops q k full h = go (leb 149 k) refl
  where
    go : (b : Bool) → leb 149 k ≡ b → k < 149
    go false e = leb-false 149 k e
    go true e =
        let l : 149 ≤ k = leb-true 149 k e in
        let digits : 2 ^ 23 ≤ q = full (omega arith) in
        let large : 2 ^ 23 * 2 ^ 149 ≤ q * 2 ^ k = mul-le-mul digits (pow_mono l) in
        absurd (too_large (le_trans large h))

-- what is not finite counts as none
pub down_other : (x : Float) → finite x ≡ false → 0 ≡ count_down x
down_other nan h = refl
down_other (inf s) h = refl
down_other (fin s m e) h = absurd (subst T h tt)

pub up_other : (x : Float) → finite x ≡ false → 0 ≡ count_up x
up_other nan h = refl
up_other (inf s) h = refl
up_other (fin s m e) h = absurd (subst T h tt)

module _ (x : Float) (r : Parts) (value : HasValue x r.negative (r.digits * 2 ^ r.drops) (2 ^ 149)) (w : within count_limit x ≡ true) where
  bounded : Bounded (2 ^ 20) x
  bounded = within→bounded (2 ^ 20) count_limit x limit_value w

  units : (y : Float) (s : Bool) (n : ℕ) → Bounded (2 ^ 20) y → HasValue y s n (2 ^ 149) → n ≤ 2 ^ 20 * 2 ^ 149
  units nan s n b v = absurd v
  units (inf t) s n b v = absurd v
  units (fin t m e) s n b v =
      le_of_mul-le-mul_right
      (subst (λ (z : ℕ). z ≤ 2 ^ 20 * 2 ^ 149 * down e) v.1 (subst (λ (z : ℕ). m * up e * 2 ^ 149 ≤ z) (mul_right_comm (2 ^ 20) (down e) (2 ^ 149)) (mul-le-mul_right (2 ^ 149) b)))
      (down_pos e)

  pub drops_few : r.drops < 149
  drops_few = few_drops r.digits r.drops r.full (units x r.negative (r.digits * 2 ^ r.drops) bounded value)

  pub drops_inside : r.drops ≤ 149
  drops_inside = let h = drops_few in omega arith

  -- the parts are the same fraction
  same : (g : ℕ → ℕ → ℕ) → Mono g → (y : Float) → HasValue y r.negative (r.digits * 2 ^ r.drops) (2 ^ 149) → r.negative ≡ false
      → (count : Float → ℕ) → ((s : Bool) (m : ℕ) (e : ℤ) → count (fin s m e) ≡ cond s 0 (g (m * up e) (down e))) → g r.digits (2 ^ (149 - r.drops)) ≡ count y
  same g mono nan v n count is = absurd v
  same g mono (inf t) v n count is = absurd v
  same g mono (fin t m e) v n count is =
      let whole : g r.digits (2 ^ (149 - r.drops)) ≡ g (m * up e) (down e) =
      same_of_mono g mono r.digits (2 ^ (149 - r.drops)) (r.digits * 2 ^ r.drops) (2 ^ 149) (pow_pos (149 - r.drops)) (pow_pos 149)
      (sym (mul_assoc r.digits (2 ^ r.drops) (2 ^ (149 - r.drops)) ∙ ap (λ (z : ℕ). r.digits * z) (split r.drops drops_few)))
      ∙ same_of_mono g mono (r.digits * 2 ^ r.drops) (2 ^ 149) (m * up e) (down e) (pow_pos 149) (down_pos e) (sym v.1) in
      whole ∙ sym (is t m e ∙ ap (λ (s : Bool). cond s 0 (g (m * up e) (down e))) (v.0 ∙ n))
    where
      split : (k : ℕ) → k < 149 → 2 ^ k * 2 ^ (149 - k) ≡ 2 ^ 149
      split k h = let e : k + (149 - k) ≡ 149 = omega arith in sym (pow-add 2 k (149 - k)) ∙ ap (λ (z : ℕ). 2 ^ z) e

  none : (y : Float) → HasValue y r.negative (r.digits * 2 ^ r.drops) (2 ^ 149) → r.negative ≡ true
      → (count : Float → ℕ) → ((s : Bool) (m : ℕ) (e : ℤ) → (n : ℕ) × (count (fin s m e) ≡ cond s 0 n)) → 0 ≡ count y
  none nan v n count is = absurd v
  none (inf t) v n count is = absurd v
  none (fin t m e) v n count is = let c = is t m e in sym (c.1 ∙ ap (λ (s : Bool). cond s 0 c.0) (v.0 ∙ n))

  pub down_negative : r.negative ≡ true → 0 ≡ count_down x
  down_negative n = none x value n count_down (λ s m e. (whole_down (m * up e) (down e), refl))

  pub up_negative : r.negative ≡ true → 0 ≡ count_up x
  up_negative n = none x value n count_up (λ s m e. (whole_up (m * up e) (down e), refl))

  pub down_count : r.negative ≡ false → (n : ℕ) → n ≡ whole_down r.digits (2 ^ (149 - r.drops)) → n ≡ count_down x
  down_count s n e = e ∙ same whole_down down_mono x value s count_down (λ s m e. refl)

  pub up_count : r.negative ≡ false → (n : ℕ) → n ≡ whole_up r.digits (2 ^ (149 - r.drops)) → n ≡ count_up x
  up_count s n e = e ∙ same whole_up up_mono x value s count_up (λ s m e. refl)

pub ruleset counts = (down_other, up_other, drops_few, drops_inside, down_negative, up_negative, down_count, up_count)
