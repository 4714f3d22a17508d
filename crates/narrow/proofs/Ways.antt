-- What the code of this crate owes, as it meets it, so that `search` finds it. Assumes nothing.
use mathlib.Core.Path.{◌≡◌, sym, subst}
use Prim.Native.Nat.{ℕ, ◌-◌, ◌%◌, ◌^◌}
use native.Mathlib.Omega.{arith}
use mathlib.Core.Bool.{true, not}
use lib.Dec.{T}
use lib.Ieee.{Float, binary64, fits, nan_bits}
use Rattle.ieee.proofs.Wide.{rest_ok_64}
use Rattle.narrow.specs.Kept.{Kept}
use Rattle.narrow.proofs.Result.{result, keeps}

pub leading_ok : (b : ℕ) → T (not (nan_bits binary64 (b - b % 2 ^ 52)))
leading_ok b = rest_ok_64 (b - b % 2 ^ 52) (omega arith)

pub keeps_held : (w : Float) → fits binary64 w ≡ true → Kept w (result w)
keeps_held w f = keeps w (subst T (sym f) tt)
