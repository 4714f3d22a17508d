-- What each way out of a function of this crate owes, as the code meets it: a premise for each test and for each call's result, so that `search` finds it. The ways of
-- `jammed`, `rounded` and `lifted` are laws of Shift, those of `pack` of Packed, of `plus_lower` of Aligned and of `quick` of Narrow. Assumes nothing.
use mathlib.Core.Path.{◌≡◌, refl, sym, ap, ◌∙◌, subst}
use Prim.Native.Nat.{ℕ, ◌+◌, ◌*◌, ◌%◌, ◌^◌, ◌≤◌, ◌<◌}
use native.Mathlib.Nat.{lt_of_lt_of_le, zero-mul, mul-pos}
use native.Mathlib.Omega.{arith}
use mathlib.Core.Bool.{Bool, true, false, ◌&&◌}
use lib.Dec.{lit≤}
use lib.Pow.{pow_pos}
use lib.Ieee.{Float, binary32, unlike, round, sum, units, add, mul}
use Rattle.ieee.specs.Fused.{fma}
use Rattle.ieee.proofs.Digits.{lt_pow_mul}
use lib.Ieee.Exact.{HasValue}
use lib.Ieee.Scale.{finite}
use Rattle.ieee.proofs.Value.{value_finite}
use Rattle.ieee.proofs.Pattern.{is_number}
use Rattle.ieee.proofs.Wide.{widens}
use Rattle.float.specs.declared.parts.Parts.{Parts}
use Rattle.fused.specs.declared.term.Term.{Term}
use Rattle.fused.specs.Align.{Operand}
use Rattle.fused.specs.Lifted.{Lifted}
use Rattle.fused.proofs.Shift.{zeros_fit, zeros_enough, zeros_few, zeros_room, lift_is, lift_same, back_le, next_fits, even_fits, round_down, round_up, round_tie, twice_fits, odd_fits, jam_far, jam_even, jam_odd, lifted_even, lifted_near}
use Rattle.fused.proofs.Packed.{pack_high, pack_none, pack_low, closest_small, closest_large}
use Rattle.fused.proofs.Aligned.{nought, plus_fits, plus_small, less_small, plus_way, less_way, more_way, none_way}
use Rattle.fused.proofs.Sums.{sum_like, sum_none, sum_swap, sum_left, sum_right}
use Rattle.fused.proofs.Special.{fma_first, fma_second, fma_last}
use Rattle.fused.proofs.Operands.{fma_parts}
use Rattle.fused.proofs.Narrow.{fast}

-- ---- exact
zero_units : (s : Bool) → units binary32 s 0 0 ≡ round binary32 s 0 (2 ^ 512)
unfolding units round
zero_units s = refl

gone : (p e : ℕ) → p ≡ 0 → p * 2 ^ e ≡ 0
gone p e z = ap (λ (x : ℕ). x * 2 ^ e) z ∙ zero-mul (2 ^ e)

there : (q g : ℕ) → (q ≡ 0 → ⊥) → 0 < q * 2 ^ g
there q g n = let h : 0 < q = omega arith in mul-pos h (pow_pos g)

-- the sum of two terms, rounded once
abbrev pub plus : Term → Term → Float
plus x y = sum binary32 x.negative (x.m * 2 ^ x.e) y.negative (y.m * 2 ^ y.e) (2 ^ 512)

module _ (x y : Term) where
  pub zeros : (s : Bool) (r : Float) → x.m ≡ 0 → y.m ≡ 0 → s ≡ (x.negative && y.negative) → r ≡ units binary32 s 0 0 → r ≡ plus x y
  zeros s r a b e h = h ∙ ap (λ (v : Bool). units binary32 v 0 0) e ∙ go x.negative y.negative
    where
      none : 0 ≡ x.m * 2 ^ x.e + y.m * 2 ^ y.e
      none = let u = gone x.m x.e a in let v = gone y.m y.e b in omega arith

      even : x.m * 2 ^ x.e ≡ y.m * 2 ^ y.e
      even = gone x.m x.e a ∙ sym (gone y.m y.e b)

      go : (s t : Bool) → units binary32 (s && t) 0 0 ≡ sum binary32 s (x.m * 2 ^ x.e) t (y.m * 2 ^ y.e) (2 ^ 512)
      go true true =
          zero_units true ∙ ap (λ (n : ℕ). round binary32 true n (2 ^ 512)) none
          ∙ sym (sum_like binary32 true true (x.m * 2 ^ x.e) (y.m * 2 ^ y.e) (2 ^ 512) refl)
      go false false =
          zero_units false ∙ ap (λ (n : ℕ). round binary32 false n (2 ^ 512)) none
          ∙ sym (sum_like binary32 false false (x.m * 2 ^ x.e) (y.m * 2 ^ y.e) (2 ^ 512) refl)
      go true false = zero_units false ∙ sym (sum_none binary32 true false (x.m * 2 ^ x.e) (y.m * 2 ^ y.e) (2 ^ 512) refl even)
      go false true = zero_units false ∙ sym (sum_none binary32 false true (x.m * 2 ^ x.e) (y.m * 2 ^ y.e) (2 ^ 512) refl even)

  pub first_zero : (r : Float) → x.m ≡ 0 → (y.m ≡ 0 → ⊥) → r ≡ round binary32 y.negative (y.m * 2 ^ y.e) (2 ^ 512) → r ≡ plus x y
  first_zero r a b h = h ∙ sym (sum_left binary32 x.negative y.negative (x.m * 2 ^ x.e) (y.m * 2 ^ y.e) (2 ^ 512) (gone x.m x.e a) (there y.m y.e b))

  pub second_zero : (r : Float) → (x.m ≡ 0 → ⊥) → y.m ≡ 0 → r ≡ round binary32 x.negative (x.m * 2 ^ x.e) (2 ^ 512) → r ≡ plus x y
  second_zero r a b h = h ∙ sym (sum_right binary32 x.negative y.negative (x.m * 2 ^ x.e) (y.m * 2 ^ y.e) (2 ^ 512) (gone y.m y.e b) (there x.m x.e a))

-- what `lifted` gives is what `plus_lower` takes
module _ (t r : Term) (l : Lifted t 2 r) where
  pub operand_is : t.m < 2 ^ 48 → Operand r.m
  operand_is h = record {
    low = l.low;
    high = l.high;
    even = ap (λ (x : ℕ). x % 2 ^ 14) l.up ∙ lifted_even t.m l.n h (subst (λ (x : ℕ). 2 ^ 61 ≤ x) l.up l.low);
  }

  pub operand_high : 0 < t.m → 128 ≤ t.e → 64 ≤ r.e
  operand_high M h = let n = lifted_near t.m l.n M (subst (λ (x : ℕ). x < 2 ^ 62) l.up l.high) in omega (arith, l.down)

-- ---- mul_add_exact
abbrev pub Valued : Float → Parts → Type 0
Valued x p = HasValue x p.negative (p.digits * 2 ^ p.drops) (2 ^ 149)

pub first_special : (a b c : Float) → finite a ≡ false → add binary32 (mul binary32 a b) c ≡ fma binary32 a b c
first_special a b c h = sym (fma_first binary32 a b c h)

pub second_special : (a b c : Float) → finite b ≡ false → add binary32 (mul binary32 a b) c ≡ fma binary32 a b c
second_special a b c h = sym (fma_second binary32 a b c h)

pub last_special : (a b c : Float) (x y : Parts) → Valued a x → Valued b y → finite c ≡ false → c ≡ fma binary32 a b c
last_special a b c x y X Y h = sym (fma_last binary32 a b c (value_finite a _ _ _ X) (value_finite b _ _ _ Y) h)

pub all_finite_lem : (a b c : Float) (x y z : Parts) → Valued a x → Valued b y → Valued c z → (r : Float)
    → r ≡ sum binary32 (unlike x.negative y.negative) (x.digits * y.digits * 2 ^ (x.drops + y.drops + 214)) z.negative (z.digits * 2 ^ (z.drops + 363)) (2 ^ 512)
    → r ≡ fma binary32 a b c
all_finite_lem a b c x y z X Y Z r h = h ∙ sym (fma_parts binary32 a b c x.negative y.negative z.negative x.digits x.drops y.digits y.drops z.digits z.drops X Y Z)

module _ (x y : Parts) where
  pub product_small : x.digits * y.digits < 2 ^ 48
  product_small = lt_pow_mul 24 24 x.digits y.digits x.small y.small

  pub product_fits : x.digits * y.digits < 2 ^ 64
  product_fits = lt_of_lt_of_le product_small (lit≤ tt)

pub ruleset ways = (jam_far, jam_even, jam_odd, twice_fits, odd_fits, back_le, next_fits, even_fits, round_down, round_up, round_tie, zeros_fit, zeros_enough, zeros_few, zeros_room, lift_is, lift_same, pack_high, pack_none, pack_low, closest_small, closest_large, plus_fits, plus_small, less_small, plus_way, less_way, more_way, none_way, zeros, first_zero, second_zero, sum_swap, first_special, second_special, last_special, all_finite_lem, product_small, product_fits, is_number, widens, fast)
