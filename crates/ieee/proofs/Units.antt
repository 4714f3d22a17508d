-- `units`, a float as a number of the format's smallest values: finite below the overflow and infinite from there on, held by the format, and the same for the same number.
-- Assumes nothing.
use mathlib.Core.Path.{◌≡◌, sym, ap, ◌∙◌, subst}
use Prim.Native.Nat.{ℕ, suc, ◌+◌, ◌-◌, ◌*◌, ◌^◌, ◌≤◌, ◌<◌}
use native.Mathlib.Nat.{le_refl, lt_of_le_of_lt}
use native.Mathlib.Omega.{arith}
use mathlib.Core.Bool.{Bool, true, false, not, cond}
use lib.Dec.{T, ltb, ltb→lt, lt→ltb, nltb→le}
use lib.Arith.{le→nltb}
use lib.Pow.{pow-add, pow_pos, pow_mono, pow-lt}
use lib.Ieee.{Float, inf, Format, prec, low, odd, units, fits}
use lib.Ieee.Fits.{odd-fits, inf-fits, two, two-le_pos}
use lib.Ieee.Exact.{HasValue, units_val}
use lib.Ieee.Scale.{overflow}
use lib.Ieee.Bits.{is_true, is_false}
use Rattle.ieee.proofs.Value.{value_unique}

pub units_odd : (f : Format) (s : Bool) (q k : ℕ) → q * 2 ^ k < overflow f → units f s q k ≡ odd (suc (prec f)) s q k (low f)
unfolding units
units_odd f s q k h = ap (λ (b : Bool). cond b (odd (suc (prec f)) s q k (low f)) (inf s)) (is_true (ltb (q * 2 ^ k) (overflow f)) (lt→ltb (q * 2 ^ k) (overflow f) h))

pub units_inf : (f : Format) (s : Bool) (q k : ℕ) → overflow f ≤ q * 2 ^ k → units f s q k ≡ inf s
unfolding units
units_inf f s q k h = ap (λ (b : Bool). cond b (odd (suc (prec f)) s q k (low f)) (inf s)) (is_false (ltb (q * 2 ^ k) (overflow f)) (le→nltb (q * 2 ^ k) (overflow f) h))

-- on either side of the overflow
module _ (f : Format) (n : ℕ) (P : Type 0) where
  pub by_overflow : (n < overflow f → P) → (overflow f ≤ n → P) → P
  by_overflow low high = go (ltb n (overflow f)) (ltb→lt n (overflow f)) (nltb→le n (overflow f))
    where
      go : (b : Bool) → (T b → n < overflow f) → (T (not b) → overflow f ≤ n) → P
      go true l g = low (l tt)
      go false l g = high (g tt)

pub units_fits : (f : Format) (s : Bool) (q k : ℕ) → q ≤ 2 ^ prec f → T (fits f (units f s q k))
units_fits f s q k a =
    by_overflow f (q * 2 ^ k) (T (fits f (units f s q k)))
    (λ l. subst (λ (x : Float). T (fits f x)) (sym (units_odd f s q k l)) (odd-fits f (suc (prec f)) s q k (lt_of_le_of_lt a (pow-lt (le_refl (suc (prec f))))) a l))
    (λ g. subst (λ (x : Float). T (fits f x)) (sym (units_inf f s q k g)) (inf-fits f s))

units_same : (f : Format) (s : Bool) (q k q' k' : ℕ) → q ≤ 2 ^ prec f → q' ≤ 2 ^ prec f → q * 2 ^ k ≡ q' * 2 ^ k' → units f s q k ≡ units f s q' k'
units_same f s q k q' k' a a' e =
    by_overflow f (q * 2 ^ k) (units f s q k ≡ units f s q' k')
    (λ l. value_unique f (units f s q k) (units f s q' k') s (q' * 2 ^ k') (2 ^ low f) (pow_pos (low f)) (units_fits f s q k a) (units_fits f s q' k' a')
    (subst (λ (x : ℕ). HasValue (units f s q k) s x (2 ^ low f)) e (units_val f s q k l))
    (units_val f s q' k' (subst (λ (x : ℕ). x < overflow f) e l)))
    (λ g. units_inf f s q k g ∙ sym (units_inf f s q' k' (subst (λ (x : ℕ). overflow f ≤ x) e g)))

-- one more than the largest number of `prec` digits is the next place's least
pub units_carry : (f : Format) (s : Bool) (k j : ℕ) → k + 1 ≡ j → units f s (2 ^ prec f) k ≡ units f s (2 ^ (prec f - 1)) j
units_carry f s k j e =
    units_same f s (2 ^ prec f) k (2 ^ (prec f - 1)) j (le_refl (2 ^ prec f)) (pow_mono (less (prec f)))
    (sym (pow-add 2 (prec f) k) ∙ ap (λ (x : ℕ). 2 ^ x) (places (prec f) (two-le_pos (prec f) (two f))) ∙ pow-add 2 (prec f - 1) j)
  where
    less : (p : ℕ) → p - 1 ≤ p
    less p = omega arith

    places : (p : ℕ) → 0 < p → p + k ≡ p - 1 + j
    places p h = omega arith
