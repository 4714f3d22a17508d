-- Closed cases of the definitions, each computed. Assumes nothing.
use mathlib.Core.Path.{◌≡◌, refl}
use mathlib.Core.List.{[], ◌∷◌}
use Prim.Native.Nat.{ℕ}
use lib.Ieee.{Float, nan, binary32, of_bits, of_fields}
use Rattle.count.specs.Count.{count_down, count_up}

-- an f32 by its bit pattern
abbrev f : ℕ → Float
f n = of_bits binary32 n

-- 2.5 counts as 3, and so does 3; -1, -0 and 0 count as 0, and the least f32 above 0 as 1
ups : count_up (f 0x4020_0000) ∷ count_up (f 0x4040_0000) ∷ count_up (f 0xbf80_0000) ∷ count_up (f 0x8000_0000) ∷ count_up (f 0) ∷ count_up (f 1) ∷ [] ≡ 3 ∷ 3 ∷ 0 ∷ 0 ∷ 0 ∷ 1 ∷ []
unfolding of_bits of_fields
ups = refl

-- 2.5 is 2 whole ones, the f32 before 1 none, and 1,048,576 as many as it says; -1.5 and a NaN are none
downs : count_down (f 0x4020_0000) ∷ count_down (f 0x3f7f_ffff) ∷ count_down (f 0x4980_0000) ∷ count_down (f 0xbfc0_0000) ∷ count_down nan ∷ [] ≡ 2 ∷ 0 ∷ 1_048_576 ∷ 0 ∷ 0 ∷ []
unfolding of_bits of_fields
downs = refl
