-- What each way out of a function of this crate owes, as the code meets it: a premise for each test and for each call's result, so that `search` finds it. Assumes nothing.
use mathlib.Core.Path.{◌≡◌, sym, ap, ◌∙◌, subst}
use Prim.Native.Nat.{ℕ, ◌+◌, ◌-◌, ◌*◌, ◌%◌, ◌^◌, ◌≤◌, ◌<◌}
use native.Mathlib.Nat.{le_trans, le_of_lt, lt_of_lt_of_le, lt_of_le_of_lt, zero-lt-suc, one-mul, mul-one, mul_assoc, mul-pos, mod-le}
use native.Mathlib.Omega.{arith}
use mathlib.Core.Bool.{Bool, true, false, cond}
use lib.Dec.{T, lit≤}
use lib.Pow.{pow-add, pow_pos, pow_mono, pow-lt, shl_lt, shl_exact}
use lib.Ieee.{Float, binary32, round, add, sub, div, rem, fits, lt, neg}
use lib.Ieee.Exact.{HasValue}
use lib.Ieee.Scale.{finite}
use Rattle.ieee.specs.Literal.{zero32, turn32}
use Rattle.ieee.specs.Remainder.{lifted, rem_euclid}
use Rattle.ieee.proofs.Digits.{pow_split}
use Rattle.ieee.proofs.Value.{rescale}
use Rattle.float.specs.declared.parts.Parts.{Parts}
use Rattle.remainder.proofs.Turn.{turn_abs, rem_turn, rem_special, rem_less, rem_near, quotient, period}

-- ---- whole_rem, part_rem, power
pub rem_shift : (q j : ℕ) → q < 2 ^ 24 → j < 15 → (q * 2 ^ j % 2 ^ 64 % 360 ≡ q * 2 ^ j % 360) × (q * 2 ^ j % 2 ^ 64 % 360 < 360)
rem_shift q j Q h = (ap (λ (x : ℕ). x % 360) (shl_exact {a = q} 24 j 64 Q (omega arith)), omega arith)

pub rem_period : (q j : ℕ) → q < 2 ^ 24 → 15 ≤ j → (q * 2 ^ ((j - 3) % 12 + 3) % 2 ^ 64 % 360 ≡ q * 2 ^ j % 360) × (q * 2 ^ ((j - 3) % 12 + 3) % 2 ^ 64 % 360 < 360)
rem_period q j Q h = (ap (λ (x : ℕ). x % 360) (shl_exact {a = q} 24 ((j - 3) % 12 + 3) 64 Q (omega arith)) ∙ period q j h, omega arith)

turns : (s : ℕ) → s < 16 → 360 * 2 ^ s % 2 ^ 64 ≡ 360 * 2 ^ s
turns s h = shl_exact {a = 360} 9 s 64 (omega arith) (omega arith)

pub turns_pos : (s : ℕ) → s < 16 → 0 < 360 * 2 ^ s % 2 ^ 64
turns_pos s h = subst (λ (x : ℕ). 0 < x) (sym (turns s h)) (mul-pos (zero-lt-suc 359) (pow_pos s))

pub rem_rest : (q s : ℕ) → q < 2 ^ 24 → s < 16 → (q % (360 * 2 ^ s % 2 ^ 64) ≡ q % (360 * 2 ^ s)) × (q % (360 * 2 ^ s % 2 ^ 64) < 2 ^ 24)
rem_rest q s Q h = (ap (λ (x : ℕ). q % x) (turns s h), lt_of_le_of_lt (mod-le q (360 * 2 ^ s % 2 ^ 64)) Q)

pub power_is : (s : ℕ) → s < 16 → (1 * 2 ^ s % 2 ^ 64 ≡ 2 ^ s) × (1 * 2 ^ s % 2 ^ 64 < 2 ^ 16)
power_is s h =
    let e : 1 * 2 ^ s % 2 ^ 64 ≡ 2 ^ s = shl_exact {a = 1} 1 s 64 (omega arith) (omega arith) ∙ one-mul (2 ^ s) in
    (e, subst (λ (x : ℕ). x < 2 ^ 16) (sym e) (pow-lt h))

-- ---- rem_parts, rem_360
pub parts_special : (x : Float) → finite x ≡ false → sub binary32 x x ≡ rem binary32 x turn32
parts_special x h = rem_special x h

module _ (x : Float) (r : Parts) (value : HasValue x r.negative (r.digits * 2 ^ r.drops) (2 ^ 149)) where
  -- a whole number
  pub parts_whole : (n : ℕ) (y : Float) → 149 ≤ r.drops → (n ≡ r.digits * 2 ^ (r.drops - 149) % 360) × (n < 360) → y ≡ round binary32 r.negative n 1 → y ≡ rem binary32 x turn32
  parts_whole n y k en ey =
      ey ∙ ap (λ (z : ℕ). round binary32 r.negative z 1) en.0
      ∙ sym (rem_turn x r.negative (r.digits * 2 ^ (r.drops - 149)) 1 (zero-lt-suc 0)
      (rescale x r.negative (r.digits * 2 ^ r.drops) (2 ^ 149) (r.digits * 2 ^ (r.drops - 149)) 1 (pow_pos 149)
      (mul_assoc r.digits (2 ^ (r.drops - 149)) (2 ^ 149) ∙ ap (λ (m : ℕ). r.digits * m) (sym (pow-add 2 (r.drops - 149) 149) ∙ ap (λ (m : ℕ). 2 ^ m) (back r.drops k)) ∙ sym (mul-one (r.digits * 2 ^ r.drops))) value))
    where
      back : (k : ℕ) → 149 ≤ k → k - 149 + 149 ≡ k
      back k h = omega arith

  -- below 2 ^ 9
  pub parts_small : fits binary32 x ≡ true → r.drops < 134 → x ≡ rem binary32 x turn32
  parts_small F k =
      rem_less x r.negative (r.digits * 2 ^ r.drops) (2 ^ 149) (subst T (sym F) tt) (pow_pos 149) value
      (lt_of_lt_of_le (shl_lt 24 r.drops r.small) (le_trans (pow_mono {i = 24 + r.drops} {j = 157} (omega arith)) (lit≤ tt)))

  -- a fraction over 2 ^ (149 - drops)
  pub parts_fraction : (n m : ℕ) (y z : Float) → r.drops < 149 → (n ≡ r.digits % (360 * 2 ^ (149 - r.drops))) × (n < 2 ^ 24) → (m ≡ 2 ^ (149 - r.drops)) × (m < 2 ^ 16)
      → y ≡ round binary32 r.negative n 1 → z ≡ round binary32 false m 1 → div binary32 y z ≡ rem binary32 x turn32
  parts_fraction n m y z k en em ey ez =
      (λ i. div binary32 (ey i) (ez i))
      ∙ quotient r.negative n m (le_of_lt en.1) (omega arith) (subst (λ (w : ℕ). 0 < w) (sym em.0) (pow_pos (149 - r.drops)))
      ∙ (λ i. round binary32 r.negative (en.0 i) (em.0 i))
      ∙ sym (rem_turn x r.negative r.digits (2 ^ (149 - r.drops)) (pow_pos (149 - r.drops))
      (rescale x r.negative (r.digits * 2 ^ r.drops) (2 ^ 149) r.digits (2 ^ (149 - r.drops)) (pow_pos 149)
      (ap (λ (w : ℕ). r.digits * w) (sym (pow_split r.drops 149 (le_of_lt k))) ∙ sym (mul_assoc r.digits (2 ^ r.drops) (2 ^ (149 - r.drops)))) value))

pub near_stays : (x : Float) → fits binary32 x ≡ true → lt x turn32 ≡ true → lt (neg turn32) x ≡ true → x ≡ rem binary32 x turn32
near_stays x F h k = rem_near x (subst T (sym F) tt) (subst T (sym h) tt) (subst T (sym k) tt)

-- ---- rem_euclid_360
lifted_is : (x r : Float) (b : Bool) → r ≡ rem binary32 x turn32 → lt r zero32 ≡ b → cond b (add binary32 r turn32) r ≡ rem_euclid binary32 x turn32
unfolding rem_euclid
lifted_is x r b e h = sym (ap (lifted binary32 turn32) (sym e) ∙ opened)
  where
    opened : lifted binary32 turn32 r ≡ cond b (add binary32 r turn32) r
    opened = unfold lifted in λ i. cond (h i) (add binary32 r (turn_abs i)) r

pub euclid_below : (x r : Float) → r ≡ rem binary32 x turn32 → lt r zero32 ≡ true → add binary32 r turn32 ≡ rem_euclid binary32 x turn32
euclid_below x r e h = lifted_is x r true e h

pub euclid_stays : (x r : Float) → r ≡ rem binary32 x turn32 → lt r zero32 ≡ false → r ≡ rem_euclid binary32 x turn32
euclid_stays x r e h = lifted_is x r false e h

pub ruleset ways = (turns_pos, power_is, parts_special, rem_shift, rem_period, rem_rest, parts_whole, parts_small, parts_fraction, near_stays, euclid_below, euclid_stays)
