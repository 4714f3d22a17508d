-- A whole number of at most 2 ^ 30 as a float, over 2 ^ 30, is the float nearest to that fraction: both keep the same digits. Assumes nothing.
use Rattle.std.proofs.Common.{◌≡◌, ℕ, ◌^◌, ◌≤◌, Bool, true, false, pos, sym, refl, ap, ◌∙◌, lt_of_le_of_lt, mul-one, lit<, lit≤, pow_pos}
use lib.Ieee.{Float, binary32, round, of_int, div, neg, of_bits}
use lib.Ieee.Exact.{HasValue}
use lib.Ieee.Fits.{round-fits}
use Rattle.ieee.specs.Cut.{cut}
use Rattle.ieee.proofs.Cut.{cut_le_pow}
use Rattle.ieee.proofs.Round.{round_cut, round_own, neg_round}
use Rattle.ieee.proofs.Operations.{div_at}

-- 2 ^ 30
abbrev pub whole : Float
whole = of_bits binary32 0x4e80_0000

whole_value : HasValue whole false (2 ^ 30) 1
unfolding of_bits
whole_value = (refl, refl)

module _ (n : ℕ) (few : n ≤ 2 ^ 30) where
  kept : cut 24 n ≤ 2 ^ 30
  kept = cut_le_pow 24 n 30 (lit< tt) few

  pub over : (s : Bool) → HasValue (round binary32 s n (2 ^ 30)) s (cut 24 n) (2 ^ 30)
  over s = round_cut binary32 s n (2 ^ 30) 30 n (pow_pos 30) (lit≤ tt) refl (lt_of_le_of_lt kept (lit< tt))

  alone : HasValue (of_int binary32 (pos n)) false (cut 24 n) 1
  unfolding of_int
  alone = round_cut binary32 false n 1 0 n (lit< tt) (lit≤ tt) refl (lt_of_le_of_lt kept (lit< tt))

  ratio : div binary32 (of_int binary32 (pos n)) whole ≡ round binary32 false n (2 ^ 30)
  ratio =
      div_at binary32 (of_int binary32 (pos n)) whole false false (cut 24 n) 1 (2 ^ 30) 1 (lit< tt) (pow_pos 30) (lit< tt) alone whole_value
      ∙ (λ i. round binary32 false (mul-one (cut 24 n) i) (mul-one (2 ^ 30) i))
      ∙ round_own binary32 (round binary32 false n (2 ^ 30)) false (cut 24 n) (2 ^ 30) (round-fits binary32 false n (2 ^ 30)) (pow_pos 30) (over false)

-- ---- with its sign
module _ (n : ℕ) (few : n ≤ 2 ^ 30) (minus : Bool) (x : Float) (x_is : x ≡ of_int binary32 (pos n)) where
  quotient : div binary32 x whole ≡ round binary32 false n (2 ^ 30)
  quotient = ap (λ (y : Float). div binary32 y whole) x_is ∙ ratio n few

  pub entry_plus : minus ≡ false → div binary32 x whole ≡ round binary32 minus n (2 ^ 30)
  entry_plus h = quotient ∙ ap (λ (s : Bool). round binary32 s n (2 ^ 30)) (sym h)

  pub entry_minus : minus ≡ true → neg (div binary32 x whole) ≡ round binary32 minus n (2 ^ 30)
  entry_minus h = ap neg quotient ∙ neg_round binary32 n (2 ^ 30) ∙ ap (λ (s : Bool). round binary32 s n (2 ^ 30)) (sym h)
