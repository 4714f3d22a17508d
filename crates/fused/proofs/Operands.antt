-- `fma` as a sum of whole numbers of units: of 2 ^ -298, in which a product of two values of binary32 is whole, and of 2 ^ -512. Assumes nothing.
use mathlib.Core.Path.{◌≡◌, sym, ap, ◌∙◌}
use Prim.Native.Nat.{ℕ, ◌+◌, ◌*◌, ◌^◌}
use native.Mathlib.Nat.{mul_assoc}
use mathlib.Core.Bool.{Bool}
use lib.Pow.{pow-add, pow_pos}
use lib.Ieee.{Float, Format, unlike, sum}
use lib.Ieee.Exact.{HasValue}
use Rattle.ieee.specs.Fused.{fma}
use Rattle.ieee.proofs.Digits.{product_pow}
use Rattle.ieee.proofs.Value.{rescale}
use Rattle.ieee.proofs.Sum.{sum_same}
use Rattle.ieee.proofs.Operations.{fma_at}

-- the addend in the product's units
pub addend : (z : Float) (u : Bool) (d : ℕ) → HasValue z u d (2 ^ 149) → HasValue z u (d * 2 ^ 149) (2 ^ 298)
addend z u d v = rescale z u d (2 ^ 149) (d * 2 ^ 149) (2 ^ 298) (pow_pos 149) (mul_assoc d (2 ^ 149) (2 ^ 149)) v

module _ (f : Format) (x y z : Float) (s t u : Bool) where
  pub fma_sum : (a b d : ℕ) → HasValue x s a (2 ^ 149) → HasValue y t b (2 ^ 149) → HasValue z u d (2 ^ 149) → fma f x y z ≡ sum f (unlike s t) (a * b) u (d * 2 ^ 149) (2 ^ 298)
  fma_sum a b d v w r = fma_at f x y z s t u a (2 ^ 149) b (2 ^ 149) (d * 2 ^ 149) (pow_pos 149) (pow_pos 149) v w (addend z u d r)

  pub fma_parts : (a i b j d k : ℕ) → HasValue x s (a * 2 ^ i) (2 ^ 149) → HasValue y t (b * 2 ^ j) (2 ^ 149) → HasValue z u (d * 2 ^ k) (2 ^ 149)
      → fma f x y z ≡ sum f (unlike s t) (a * b * 2 ^ (i + j + 214)) u (d * 2 ^ (k + 363)) (2 ^ 512)
  fma_parts a i b j d k v w r =
      fma_sum (a * 2 ^ i) (b * 2 ^ j) (d * 2 ^ k) v w r
      ∙ sum_same f (unlike s t) u (a * 2 ^ i * (b * 2 ^ j)) (d * 2 ^ k * 2 ^ 149) (2 ^ 298) (a * b * 2 ^ (i + j + 214)) (d * 2 ^ (k + 363)) (2 ^ 512) (pow_pos 298) (pow_pos 512)
      (ap (λ (n : ℕ). n * 2 ^ 512) (product_pow a i b j) ∙ shift (a * b) (i + j) 214 298)
      (mul_assoc (d * 2 ^ k) (2 ^ 149) (2 ^ 512) ∙ shift d k 363 298)
    where
      -- n * 2 ^ (l + j), as l places of it and the rest
      shift : (n i j l : ℕ) → n * 2 ^ i * 2 ^ (j + l) ≡ n * 2 ^ (i + j) * 2 ^ l
      shift n i j l =
          ap (λ (x : ℕ). n * 2 ^ i * x) (pow-add 2 j l) ∙ sym (mul_assoc (n * 2 ^ i) (2 ^ j) (2 ^ l))
          ∙ ap (λ (x : ℕ). x * 2 ^ l) (mul_assoc n (2 ^ i) (2 ^ j) ∙ ap (λ (x : ℕ). n * x) (sym (pow-add 2 i j)))
