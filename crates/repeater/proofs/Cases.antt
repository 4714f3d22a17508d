-- Closed cases of the definitions, each computed. Assumes nothing.
use mathlib.Core.Path.{◌≡◌, refl}
use mathlib.Core.List.{List, [], ◌∷◌, map}
use Prim.Native.Nat.{ℕ}
use lib.Count.{count_trailing_zeros}
use lib.Ieee.{Float, binary32, span, climb, size, odd, units, round, neg, sum, add, sub, mul, div, lt, le, is_nan, of_int, of_fields, of_bits}
use Rattle.ieee.specs.Choice.{max}
use Rattle.ieee.specs.Fused.{fma}
use Rattle.matrix.specs.declared.Matrix.{Matrix}
use Rattle.repeater.specs.declared.RepeaterStyle.{RepeaterStyle}
use Rattle.sine.specs.Table.{sines}
use Rattle.sine.specs.Quadrants.{fold_of, size_of, minus_of, on_of}
use Rattle.angle.specs.Sixteenths.{sixteenths_in, sixteenths_of, reduced, turn_of}
use Rattle.angle.specs.Direction.{sine_of, cosine_of, direction_of}
use Rattle.matrix.specs.Matrix.{concat, pre_translate, pre_scale, pre_rotate, rotated}
use Rattle.repeater.specs.Repeater.{step_scale, step_part, step_matrix, step_transform, steps, iteration_transform, copy_transform}
use Rattle.repeater.specs.Repeater.{copy_count, opacity_of, copy_opacity}

-- an f32 by its bit pattern
abbrev f : ℕ → Float
f n = of_bits binary32 n

-- so many copies from an offset on, with the opacity falling from 1 to 0
abbrev style : ℕ → ℕ → ℕ → ℕ → ℕ → ℕ → ℕ → ℕ → RepeaterStyle
style copies offset ax ay x sx sy rotation =
    record {
      copies = f copies;
      offset = f offset;
      mode = 0;
      anchor = record { x = f ax; y = f ay };
      position = record { x = f x; y = f 0 };
      scale = record { x = f sx; y = f sy };
      rotation = f rotation;
      start_opacity = f 0x3f80_0000;
      end_opacity = f 0;
    }

-- the position is (10, 0), and nothing turns
abbrev repeater : ℕ → ℕ → ℕ → ℕ → ℕ → ℕ → RepeaterStyle
repeater copies offset ax ay sx sy = style copies offset ax ay 0x4120_0000 sx sy 0

-- a copy, and its matrix
record Case : Type 0 where
  style : RepeaterStyle
  copy : ℕ
  matrix : Matrix

-- no zero of it is negative, and b and c are zero
abbrev given : RepeaterStyle → ℕ → ℕ → ℕ → ℕ → ℕ → Case
given style copy a d e g = record { style = style; copy = copy; matrix = record { a = f a; b = f 0; c = f 0; d = f d; e = f e; f = f g } }

abbrev computed : Case → Case
computed c = record { style = c.style; copy = c.copy; matrix = copy_transform c.style c.copy }

-- the offset -1 and the scale 100: copies 0, 1 and 2 are at -10, 0 and 10
abbrev plain : RepeaterStyle
plain = repeater 0x4040_0000 0xbf80_0000 0 0 0x42c8_0000 0x42c8_0000

-- Then the scale 200 about (3, 4), a step forth and a step back, which is not its inverse; a step and a half, by 2 and by 1.5; the scales 0 and 50 back, by 10000 and 2;
-- the offset 2 ^ -23, which is none, and the next f32, which is some.
abbrev cases : List Case
cases =
    given plain 0 0x3f80_0000 0x3f80_0000 0xc120_0000 0
    ∷ given plain 1 0x3f80_0000 0x3f80_0000 0 0
    ∷ given plain 2 0x3f80_0000 0x3f80_0000 0x4120_0000 0
    ∷ given (repeater 0x4040_0000 0x3f80_0000 0x4040_0000 0x4080_0000 0x4348_0000 0x4348_0000) 0 0x4000_0000 0x4000_0000 0x40e0_0000 0xc080_0000
    ∷ given (repeater 0x4040_0000 0xbf80_0000 0x4040_0000 0x4080_0000 0x4348_0000 0x4348_0000) 0 0x3f00_0000 0x3f00_0000 0xc108_0000 0x4000_0000
    ∷ given (repeater 0x4040_0000 0x3f00_0000 0 0 0x4348_0000 0x4348_0000) 1 0x4040_0000 0x4040_0000 0x41a0_0000 0
    ∷ given (repeater 0x4040_0000 0xbf80_0000 0 0 0 0x4248_0000) 0 0x461c_4000 0x4000_0000 0xc120_0000 0
    ∷ given (repeater 0x4040_0000 0x3400_0000 0 0 0x42c8_0000 0x42c8_0000) 0 0x3f80_0000 0x3f80_0000 0 0
    ∷ given (repeater 0x4040_0000 0x3400_0001 0 0 0x42c8_0000 0x42c8_0000) 0 0x3f80_0000 0x3f80_0000 0x35a0_0001 0
    ∷ []

cases_hold : map computed cases ≡ cases
unfolding count_trailing_zeros span climb size odd units round neg sum add sub mul div lt le is_nan of_int of_fields of_bits max fma
    concat pre_translate pre_scale pre_rotate sixteenths_in sixteenths_of reduced turn_of
    step_scale step_part step_matrix step_transform steps iteration_transform copy_transform
cases_hold = refl

-- five copies in one place, each turned further
abbrev turning : ℕ → ℕ → ℕ → RepeaterStyle
turning offset sx rotation = style 0x40a0_0000 offset 0 0 0 sx 0x42c8_0000 rotation

abbrev turned : RepeaterStyle → ℕ → ℕ → ℕ → ℕ → ℕ → Case
turned style copy a b c d = record { style = style; copy = copy; matrix = record { a = f a; b = f b; c = f c; d = f d; e = f 0; f = f 0 } }

-- Turned by 90 degrees: once, twice, where c is -0, and back; by 30 degrees; by 359.97, whose every step is a whole turn; and by 90 with a scale of 200,
-- along the way that the copy's own x has turned to.
abbrev turned_cases : List Case
turned_cases =
    turned (turning 0 0x42c8_0000 0x42b4_0000) 1 0 0x3f80_0000 0xbf80_0000 0
    ∷ turned (turning 0 0x42c8_0000 0x42b4_0000) 2 0xbf80_0000 0 0x8000_0000 0xbf80_0000
    ∷ turned (turning 0xbf80_0000 0x42c8_0000 0x42b4_0000) 0 0 0xbf80_0000 0x3f80_0000 0
    ∷ turned (turning 0 0x42c8_0000 0x41f0_0000) 1 0x3f5d_b3d7 0x3f00_0000 0xbf00_0000 0x3f5d_b3d7
    ∷ turned (turning 0 0x42c8_0000 0x43b3_fc29) 3 0x3f80_0000 0 0 0x3f80_0000
    ∷ turned (turning 0 0x4348_0000 0x42b4_0000) 1 0 0x4000_0000 0xbf80_0000 0
    ∷ []

turned_cases_hold : map computed turned_cases ≡ turned_cases
unfolding count_trailing_zeros span climb size odd units round neg sum add sub mul div lt le is_nan of_int of_fields of_bits max fma
    concat pre_translate pre_scale pre_rotate rotated sixteenths_in sixteenths_of reduced turn_of sine_of cosine_of direction_of sines fold_of size_of minus_of on_of
    step_scale step_part step_matrix step_transform steps iteration_transform copy_transform
turned_cases_hold = refl

-- three copies: 1, 0.5 and 0
opacities : copy_opacity plain 0 ∷ copy_opacity plain 1 ∷ copy_opacity plain 2 ∷ [] ≡ f 0x3f80_0000 ∷ f 0x3f00_0000 ∷ f 0 ∷ []
unfolding count_trailing_zeros span climb size odd units round neg sum add sub div of_int of_fields of_bits fma copy_count opacity_of copy_opacity
opacities = refl

-- a single copy has the first opacity
single : copy_opacity (repeater 0x3f80_0000 0 0 0 0x42c8_0000 0x42c8_0000) 0 ≡ f 0x3f80_0000
unfolding of_fields of_bits copy_count opacity_of copy_opacity
single = refl
