-- What the code computes from a number's pattern: in the normal range, the number cut to 24 digits. Assumes nothing.
use mathlib.Core.Path.{◌≡◌, refl, sym, ap, ◌∙◌, subst}
use Prim.Native.Nat.{ℕ, ◌+◌, ◌-◌, ◌*◌, ◌%◌, ◌^◌, ◌≤◌, ◌<◌}
use native.Mathlib.Nat.{mul_right_comm, eq_of_mul-eq-mul_right}
use native.Mathlib.Omega.{arith}
use mathlib.Core.Bool.{Bool, false}
use lib.IntN.{pos}
use lib.Dec.{T, leb, leb→le, le→leb, lit<}
use lib.Pow.{pow_pos}
use lib.Ieee.{Float, nan, inf, fin, binary64, up, down, add, sub, mul, fits, of_bits, to_bits}
use lib.Ieee.Fits.{down_pos, sub-fits}
use lib.Ieee.Bits.{of_bits-to_bits}
use lib.Ieee.Exact.{HasValue}
use Rattle.ieee.specs.Cut.{cut}
use Rattle.ieee.proofs.Tests.{same_test}
use Rattle.ieee.proofs.Cut.{cut_scale}
use Rattle.ieee.proofs.Value.{rescale}
use Rattle.ieee.proofs.Wide.{value_64}
use Rattle.narrow.specs.Kept.{Kept}
use Rattle.narrow.proofs.Field.{field_of, in_range}
use Rattle.narrow.proofs.Steps.{U, shift, cut_24, far, there, back}

-- ---- the code: the power of two below a number, by its pattern, and the number kept
abbrev leading : Float → Float
leading w = of_bits binary64 (to_bits binary64 w - to_bits binary64 w % 2 ^ 52)

abbrev pub result : Float → Float
result w = sub binary64 (add binary64 w (mul binary64 (leading w) shift)) (mul binary64 (leading w) shift)

-- ---- its pattern's sign, places and digits
abbrev sign : Float → Bool
sign w = leb (2 ^ 63) (to_bits binary64 w)

abbrev places : Float → ℕ
places w = field_of (to_bits binary64 w) - 1

abbrev digits : Float → ℕ
digits w = 2 ^ 52 + to_bits binary64 w % 2 ^ 52

-- ---- in the normal range
module _ (w : Float) (F : T (fits binary64 w)) (lo : 0 < field_of (to_bits binary64 w)) (hi : field_of (to_bits binary64 w) < 1923) where
  own_value : HasValue w (sign w) (digits w * 2 ^ places w) U
  own_value = subst (λ (x : Float). HasValue x (sign w) (digits w * 2 ^ places w) U) (of_bits-to_bits binary64 w F) (value_64 (to_bits binary64 w) lo (omega arith))

  leading_value : HasValue (leading w) (sign w) (2 ^ 52 * 2 ^ places w) U
  leading_value =
      let b = to_bits binary64 w in
      let a = b - b % 2 ^ 52 in
      let none : 2 ^ 52 + a % 2 ^ 52 ≡ 2 ^ 52 = omega arith in
      let field : field_of a ≡ field_of b = omega arith in
      let alike : leb (2 ^ 63) a ≡ sign w = same_test (leb (2 ^ 63) a) (sign w)
      (λ h. le→leb (2 ^ 63) b (omega (arith, leb→le (2 ^ 63) a h))) (λ h. le→leb (2 ^ 63) a (omega (arith, leb→le (2 ^ 63) b h))) in
      subst (λ (k : ℕ). HasValue (leading w) (sign w) (2 ^ 52 * 2 ^ (k - 1)) U) field
      (subst (λ (n : ℕ). HasValue (leading w) (sign w) (n * 2 ^ (field_of a - 1)) U) none
      (subst (λ (s : Bool). HasValue (leading w) s ((2 ^ 52 + a % 2 ^ 52) * 2 ^ (field_of a - 1)) U) alike
      (value_64 a (omega (arith, field)) (omega (arith, field)))))

  cut_value : HasValue (result w) (sign w) (cut 24 (digits w * 2 ^ places w)) U
  cut_value =
      let s = sign w in
      let Q = digits w in
      let e = places w in
      let E : e < 1922 = omega arith in
      let Q-lo : 2 ^ 52 ≤ Q = omega arith in
      let Q-hi : Q < 2 ^ 53 = omega arith in
      let c = mul binary64 (leading w) shift in
      let C = far s e E (leading w) leading_value in
      subst (λ (n : ℕ). HasValue (result w) s n U)
      (ap (λ (n : ℕ). n * 2 ^ e) (sym (cut_24 Q Q-lo Q-hi)) ∙ sym (cut_scale 24 Q e (lit< tt)))
      (back s e E Q Q-lo Q-hi c C (add binary64 w c) (there s e E Q Q-lo Q-hi c C w own_value))

-- ---- the same with any divisor
value_cross : (x : Float) (s t : Bool) (a b c d : ℕ) → HasValue x s a c → HasValue x t b d → (s ≡ t) × (a * d ≡ b * c)
value_cross nan s t a b c d v w = absurd v
value_cross (inf u) s t a b c d v w = absurd v
value_cross (fin u m e) s t a b c d v w = (
  sym v.0 ∙ w.0,
  eq_of_mul-eq-mul_right (down e) (down_pos e) (a * d) (b * c)
      (mul_right_comm a d (down e)
      ∙ ap (λ (z : ℕ). z * d) (sym v.1)
      ∙ mul_right_comm (m * up e) c d
      ∙ ap (λ (z : ℕ). z * c) w.1
      ∙ mul_right_comm b (down e) c),
)

cut_cross : (n m i j : ℕ) → n * 2 ^ i ≡ m * 2 ^ j → cut 24 n * 2 ^ i ≡ cut 24 m * 2 ^ j
cut_cross n m i j h = sym (cut_scale 24 n i (lit< tt)) ∙ ap (cut 24) h ∙ cut_scale 24 m j (lit< tt)

keeps_value : (w : Float) → T (fits binary64 w) → (s : Bool) (n q : ℕ) → HasValue w s n (2 ^ q) → 2 ^ q ≤ n * 2 ^ 1022 → n < 2 ^ (q + 900) → HasValue (result w) s (cut 24 n) (2 ^ q)
keeps_value w F s n q v lo hi =
    let r = in_range w s n q v lo hi in
    let N = digits w * 2 ^ places w in
    let x = value_cross w s (sign w) n N (2 ^ q) U v (own_value w F r.0 r.1) in
    subst (λ (z : Bool). HasValue (result w) z (cut 24 n) (2 ^ q)) (sym x.0)
    (rescale (result w) (sign w) (cut 24 N) U (cut 24 n) (2 ^ q) (pow_pos 1074) (cut_cross n N 1074 q x.1) (cut_value w F r.0 r.1))

-- ---- a +0
keeps_nought : result (fin false 0 (pos 0)) ≡ fin false 0 (pos 0)
unfolding sub add mul to_bits of_bits
keeps_nought = refl

pub keeps : (w : Float) → T (fits binary64 w) → Kept w (result w)
keeps w F = record {
  held = sub-fits binary64 (add binary64 w (mul binary64 (leading w) shift)) (mul binary64 (leading w) shift);
  value = keeps_value w F;
  nought = λ z. ap result z ∙ keeps_nought;
}
