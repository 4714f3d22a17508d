-- Closed cases of the definitions, each computed. Assumes nothing.
use Rattle.std.specs.Prelude.{Ok, Err}
use mathlib.Core.Path.{◌≡◌, refl}
use mathlib.Core.List.{List, [], ◌∷◌}
use Prim.Native.Nat.{ℕ}
use lib.Ieee.{Float, nan, binary32, lt, le, eq, of_bits, of_fields}
use Rattle.ieee.specs.Limit.{all_within}
use Rattle.command.specs.declared.Refusal.TheVariants.{TooMany, OutOfRange, NoSuchCopy}
use Rattle.repeater.specs.Repeater.{copy_count}
use Rattle.copies.specs.Order.{rising, falling, order_of, copy_order}
use Rattle.copies.specs.Calls.{repeater_of, has_too_many, repeater_checks, order_answer, copy_answer, transform_answer}

-- a repeater with these copies, offset and rotation, and 0 for the rest
abbrev numbers : Float → Float → Float → List Float
numbers copies offset rotation =
    let z = of_bits binary32 0 in
    copies ∷ offset ∷ z ∷ z ∷ z ∷ z ∷ z ∷ z ∷ rotation ∷ z ∷ z ∷ []

abbrev f : ℕ → Float
f n = of_bits binary32 n

-- 2.5 copies: 0, 1, 2 in mode 1, else 2, 1, 0; -1 copies: none
in_order : order_answer (repeater_of (numbers (f 0x4020_0000) (f 0) (f 0)) 1) ≡ Ok (0 ∷ 1 ∷ 2 ∷ [])
unfolding order_answer repeater_checks has_too_many copy_order copy_count order_of rising falling all_within lt le eq of_bits of_fields
in_order = refl

reversed : order_answer (repeater_of (numbers (f 0x4020_0000) (f 0) (f 0x8000_0000)) 0) ≡ Ok (2 ∷ 1 ∷ 0 ∷ [])
unfolding order_answer repeater_checks has_too_many copy_order copy_count order_of rising falling all_within lt le eq of_bits of_fields
reversed = refl

none : order_answer (repeater_of (numbers (f 0xbf80_0000) (f 0) (f 0)) 1) ≡ Ok []
unfolding order_answer repeater_checks has_too_many copy_order copy_count order_of rising falling all_within lt le eq of_bits of_fields
none = refl

-- an infinity meets 2 before 3, copies of minus infinity are 3, and a rotation is refused only past the limit
infinite : order_answer (repeater_of (numbers (f 0x7f80_0000) nan (f 0)) 1) ≡ Err TooMany
unfolding order_answer repeater_checks has_too_many lt le of_bits of_fields
infinite = refl

infinite_below : order_answer (repeater_of (numbers (f 0xff80_0000) (f 0) (f 0x3f80_0000)) 1) ≡ Err OutOfRange
unfolding order_answer repeater_checks has_too_many all_within lt le of_bits of_fields
infinite_below = refl

turned : order_answer (repeater_of (numbers (f 0x3f80_0000) (f 0) (f 0x4980_0000)) 1) ≡ Ok (0 ∷ [])
unfolding order_answer repeater_checks has_too_many copy_order copy_count order_of rising falling all_within lt le eq of_bits of_fields
turned = refl

turned_too_far : transform_answer (repeater_of (numbers (f 0x3f80_0000) (f 0) (f 0xc980_0001)) 1) 7 ≡ Err OutOfRange
unfolding transform_answer repeater_checks has_too_many all_within lt le eq of_bits of_fields
turned_too_far = refl

-- a copy index at the count is 9
missing : transform_answer (repeater_of (numbers (f 0x4020_0000) (f 0) (f 0)) 1) 3 ≡ Err NoSuchCopy
unfolding transform_answer repeater_checks has_too_many copy_answer copy_count all_within lt le eq of_bits of_fields
missing = refl
