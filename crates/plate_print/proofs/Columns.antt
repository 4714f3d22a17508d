-- A number in columns has that many bytes. Assumes nothing.
use mathlib.Core.Path.{◌≡◌, refl, ap, ◌∙◌}
use mathlib.Core.List.{[], ◌∷◌}
use Prim.Native.Nat.{ℕ, zero, suc, ◌+◌, ◌/◌}
use native.Mathlib.Omega.{arith}
use lib.ListN.{length, length-append}
use Rattle.plate_print.specs.Lines.{leading_digit, leading, column}

pub leading_length : (w n : ℕ) → length (leading w n) ≡ w
unfolding leading
leading_length zero n = refl
leading_length (suc w) n = length-append (leading w (n / 10)) (leading_digit n ∷ []) ∙ ap (λ (k : ℕ). k + 1) (leading_length w (n / 10)) ∙ omega arith

pub column_length : (w n : ℕ) → length (column w n) ≡ w
unfolding column
column_length zero n = refl
column_length (suc w) n = length-append (leading w (n / 10)) _ ∙ ap (λ (k : ℕ). k + 1) (leading_length w (n / 10)) ∙ omega arith
