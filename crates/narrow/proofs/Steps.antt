-- A number of 53 digits, with 2 ^ 29 times the power of two below it added and taken away again, is the number cut to 24 digits. Assumes nothing.
use mathlib.Core.Path.{◌≡◌, refl, sym, ap, ◌∙◌, subst}
use Prim.Native.Nat.{ℕ, suc, ◌+◌, ◌-◌, ◌*◌, ◌/◌, ◌%◌, ◌^◌, ◌≤◌, ◌<◌, compare, Ordering}
use native.Mathlib.Nat.{le_trans, le_refl, lt_of_lt_of_le, lt_of_le_of_lt, add-mul, mul_right_comm, mul-pos}
use native.Mathlib.Omega.{arith}
use mathlib.Core.Bool.{Bool, true, false, not}
use lib.Dec.{lit<}
use lib.Pow.{pow_pos, pow_mono, shl_lt}
use lib.Ieee.{Float, Format, binary64, nearest, round, sum, add, sub, mul, neg, of_bits}
use lib.Ieee.Exact.{HasValue}
use lib.Ieee.Nearest.{closest}
use Rattle.ieee.specs.Cut.{cut}
use Rattle.ieee.proofs.Digits.{size_is}
use Rattle.ieee.proofs.Closest.{closest_ge, closest_le}
use Rattle.ieee.proofs.Cut.{cut_is, cut_exact, cut_scale}
use Rattle.ieee.proofs.Value.{neg_val}
use Rattle.ieee.proofs.Round.{round_cut}
use Rattle.ieee.proofs.Signed.{P, N}
use Rattle.ieee.proofs.Sum.{sum_alike, sum_of}
use Rattle.ieee.proofs.Operations.{unlike_false, add_at, sub_is, mul_at}

-- ---- whole numbers: 2 ^ 81 + Q, cut to 53 digits, is 2 ^ 81 and Q cut to 24
nearest_more : (x : ℕ) (o : Ordering) → nearest (x + 2 ^ 52) o ≡ nearest x o + 2 ^ 52
nearest_more x Ordering.lt = refl
nearest_more x Ordering.eq = omega arith
nearest_more x Ordering.gt = omega arith

closest_more : (Q : ℕ) → closest (Q + 2 ^ 81) (2 ^ 29) ≡ closest Q (2 ^ 29) + 2 ^ 52
closest_more Q =
    let d : (Q + 2 ^ 81) / 2 ^ 29 ≡ Q / 2 ^ 29 + 2 ^ 52 = omega arith in
    let r : (Q + 2 ^ 81) % 2 ^ 29 ≡ Q % 2 ^ 29 = omega arith in
    (λ i. nearest (d i) (compare (r i * 2) (2 ^ 29))) ∙ nearest_more (Q / 2 ^ 29) (compare (Q % 2 ^ 29 * 2) (2 ^ 29))

-- the leading 24 digits of a number of 53
abbrev pub lead : ℕ → ℕ
lead Q = closest Q (2 ^ 29)

module _ (Q : ℕ) (lo : 2 ^ 52 ≤ Q) (hi : Q < 2 ^ 53) where
  lead_lo : 2 ^ 23 ≤ lead Q
  lead_lo = let h : 2 ^ 23 ≤ Q / 2 ^ 29 = omega arith in le_trans h (closest_ge Q (2 ^ 29))

  lead_hi : lead Q ≤ 2 ^ 24
  lead_hi = let h : suc (Q / 2 ^ 29) ≤ 2 ^ 24 = omega arith in le_trans (closest_le Q (2 ^ 29)) h

  pub cut_24 : cut 24 Q ≡ lead Q * 2 ^ 29
  cut_24 = cut_is 24 Q ∙ ap (λ (z : ℕ). closest Q (2 ^ (z - 24)) * 2 ^ (z - 24)) (size_is Q 52 lo hi)

  cut_53 : cut 53 (Q + 2 ^ 81) ≡ lead Q * 2 ^ 29 + 2 ^ 81
  cut_53 =
      let l : 2 ^ 81 ≤ Q + 2 ^ 81 = omega arith in
      let h : Q + 2 ^ 81 < 2 ^ 82 = omega arith in
      cut_is 53 (Q + 2 ^ 81)
      ∙ ap (λ (z : ℕ). closest (Q + 2 ^ 81) (2 ^ (z - 53)) * 2 ^ (z - 53)) (size_is (Q + 2 ^ 81) 81 l h)
      ∙ ap (λ (z : ℕ). z * 2 ^ 29) (closest_more Q)
      ∙ add-mul (lead Q) (2 ^ 52) (2 ^ 29)

-- ---- the sum of two numbers with opposite signs, the first of them the larger
larger : (s r : Bool) (a b x : ℕ) → b < a → P r x + (N s a + N (not s) b) ≡ N r x + (P s a + P (not s) b) → (r ≡ s) × (x ≡ a - b)
larger true true a b x h e = (refl, omega arith)
larger true false a b x h e = absurd (omega arith)
larger false true a b x h e = absurd (omega arith)
larger false false a b x h e = (refl, omega arith)

sum_opposed : (f : Format) (s : Bool) (a b c : ℕ) → b < a → sum f s a (not s) b c ≡ round f s (a - b) c
sum_opposed f s a b c h =
    let t = sum_of s a (not s) b c in
    let p = larger s t.sign a b t.size h t.total in
    t.is f ∙ (λ i. round f (p.0 i) (p.1 i) c)

-- ---- the multiplier, 2 ^ 29
abbrev pub shift : Float
shift = of_bits binary64 0x41c0_0000_0000_0000

shift_value : HasValue shift false (2 ^ 29) 1
unfolding of_bits
shift_value = (refl, refl)

-- ---- the three operations, in units of 2 ^ e of binary64's smallest values
abbrev pub U : ℕ
U = 2 ^ 1074

module _ (s : Bool) (e : ℕ) (E : e < 1922) where
  rounded : (n m : ℕ) → cut 53 n ≡ m → m < 2 ^ 82 → HasValue (round binary64 s (n * 2 ^ e) U) s (m * 2 ^ e) U
  rounded n m c small =
      let is : cut 53 (n * 2 ^ e) ≡ m * 2 ^ e = cut_scale 53 n e (lit< tt) ∙ ap (λ (z : ℕ). z * 2 ^ e) c in
      let room : 82 + e ≤ 2098 = omega arith in
      subst (λ (z : ℕ). HasValue (round binary64 s (n * 2 ^ e) U) s z U) is
      (round_cut binary64 s (n * 2 ^ e) U 1074 (n * 2 ^ e) (pow_pos 1074) (le_refl 1074) refl
      (subst (λ (z : ℕ). z < 2 ^ 2098) (sym is) (lt_of_lt_of_le (shl_lt 82 e small) (pow_mono room))))

  pub far : (x : Float) → HasValue x s (2 ^ 52 * 2 ^ e) U → HasValue (mul binary64 x shift) s (2 ^ 81 * 2 ^ e) U
  far x v =
      subst (λ (y : Float). HasValue y s (2 ^ 81 * 2 ^ e) U)
      (sym
      (mul_at binary64 x shift s false (2 ^ 52 * 2 ^ e) U (2 ^ 29) 1 (pow_pos 1074) (pow_pos 0) v shift_value
      ∙ (λ i. round binary64 (unlike_false s i) (mul_right_comm (2 ^ 52) (2 ^ e) (2 ^ 29) i) U)))
      (rounded (2 ^ 81) (2 ^ 81) (cut_exact 53 (2 ^ 52) 29 (lit< tt)) (lit< tt))

  module _ (Q : ℕ) (lo : 2 ^ 52 ≤ Q) (hi : Q < 2 ^ 53) (c : Float) (C : HasValue c s (2 ^ 81 * 2 ^ e) U) where
    abbrev pub M : ℕ
    M = lead Q * 2 ^ 29

    pub there : (w : Float) → HasValue w s (Q * 2 ^ e) U → HasValue (add binary64 w c) s ((M + 2 ^ 81) * 2 ^ e) U
    there w v =
        let small : M + 2 ^ 81 < 2 ^ 82 = omega (arith, lead_hi Q lo hi) in
        subst (λ (y : Float). HasValue y s ((M + 2 ^ 81) * 2 ^ e) U)
        (sym
        (add_at binary64 w c s s (Q * 2 ^ e) (2 ^ 81 * 2 ^ e) U (pow_pos 1074) v C
        ∙ sum_alike binary64 s (Q * 2 ^ e) (2 ^ 81 * 2 ^ e) U
        ∙ ap (λ (z : ℕ). round binary64 s z U) (sym (add-mul Q (2 ^ 81) (2 ^ e)))))
        (rounded (Q + 2 ^ 81) (M + 2 ^ 81) (cut_53 Q lo hi) small)

    pub back : (w : Float) → HasValue w s ((M + 2 ^ 81) * 2 ^ e) U → HasValue (sub binary64 w c) s (M * 2 ^ e) U
    back w v =
        let split = add-mul M (2 ^ 81) (2 ^ e) in
        let positive : 0 < M * 2 ^ e = mul-pos (mul-pos (lt_of_lt_of_le (lit< tt) (lead_lo Q lo hi)) (lit< tt)) (pow_pos e) in
        let less : 2 ^ 81 * 2 ^ e < (M + 2 ^ 81) * 2 ^ e = omega (arith, split, positive) in
        let rest : (M + 2 ^ 81) * 2 ^ e - 2 ^ 81 * 2 ^ e ≡ M * 2 ^ e = omega (arith, split) in
        subst (λ (y : Float). HasValue y s (M * 2 ^ e) U)
        (sym
        (sub_is binary64 w c
        ∙ add_at binary64 w (neg c) s (not s) ((M + 2 ^ 81) * 2 ^ e) (2 ^ 81 * 2 ^ e) U (pow_pos 1074) v (neg_val c s (2 ^ 81 * 2 ^ e) U C)
        ∙ sum_opposed binary64 s ((M + 2 ^ 81) * 2 ^ e) (2 ^ 81 * 2 ^ e) U less
        ∙ ap (λ (z : ℕ). round binary64 s z U) rest))
        (rounded M M (cut_exact 53 (lead Q) 29 (lt_of_le_of_lt (lead_hi Q lo hi) (lit< tt))) (omega (arith, lead_hi Q lo hi)))
