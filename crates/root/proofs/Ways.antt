-- What the functions of this crate owe, as the code meets it. Assumes nothing.
use mathlib.Core.Path.{◌≡◌, ◌∙◌, subst}
use Prim.Native.Nat.{ℕ, ◌+◌, ◌-◌, ◌*◌, ◌/◌, ◌^◌, ◌<◌}
use native.Mathlib.Omega.{arith}
use mathlib.Core.Bool.{Bool, true, not}
use lib.Dec.{T, ltb, ltb→lt}
use lib.Ieee.{Float, binary32, binary64, add, mul, fits, nan_bits}
use Rattle.ieee.specs.Root.{hypot_of}
use Rattle.ieee.proofs.Pattern.{rest_ok}
use Rattle.ieee.proofs.Wide.{rest_ok_64}
use Rattle.root.specs.Candidate.{IsCandidate, Sure, single_of}
use Rattle.root.proofs.Quick.{quick_is}

-- ---- is_sure, single
pub below_ok : (p d : ℕ) → p < 1150 * 2 ^ 52 → T (not (nan_bits binary64 (p - d)))
below_ok p d h = rest_ok_64 (p - d) (omega arith)

pub above_ok : (p d : ℕ) → p < 1150 * 2 ^ 52 → T (ltb d (2 ^ 52)) → T (not (nan_bits binary64 (p + d)))
above_ok p d h l = rest_ok_64 (p + d) (omega (arith, ltb→lt d (2 ^ 52) l))

pub result_ok : (p : ℕ) → p < 1150 * 2 ^ 52 → T (not (nan_bits binary32 (p / 2 ^ 29 - 0x1_c000_0000)))
result_ok p h = rest_ok (p / 2 ^ 29 - 0x1_c000_0000) (omega arith)

-- ---- the f32 of a candidate that is not in doubt
pub settled : (x y n r : Float) (p : ℕ) (sure : Bool) → fits binary32 x ≡ true → fits binary32 y ≡ true → IsCandidate p
    → n ≡ add binary64 (mul binary64 x x) (mul binary64 y y) → (sure ≡ true → Sure n p) → sure ≡ true → r ≡ single_of p → r ≡ hypot_of binary32 x y
settled x y n r p sure F G c is h t e = e ∙ quick_is x y p F G c (subst (λ (m : Float). Sure m p) is (h t))
