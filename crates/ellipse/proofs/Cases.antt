-- Closed cases of an ellipse, each computed; k is 0.5522848. Assumes nothing.
use mathlib.Core.Path.{◌≡◌, refl}
use mathlib.Core.List.{[], ◌∷◌}
use Prim.Native.Nat.{ℕ}
use lib.ListN.{get_or}
use lib.Ieee.{Float, binary32, mul, sub, neg, sum, round, units, size, span, climb, odd, of_bits, of_fields}
use Rattle.ieee.specs.Fused.{fma}
use Rattle.command.specs.declared.PathCommand.TheVariants.{Move, Cubic, Close}
use Rattle.rect.specs.Bounds.{rect_bounds}
use Rattle.ellipse.specs.Ellipse.{tangent_on, ellipse_path}

-- an f32 by its bit pattern
abbrev f : ℕ → Float
f n = of_bits binary32 n

-- centre (0, 0), size (2, 4): from (0, -2) by (1, 0), (0, 2) and (-1, 0), with the tangents k and 2k
two_by_four : ellipse_path (f 0) (f 0) (f 0x4000_0000) (f 0x4080_0000)
    ≡ Move (f 0) (f 0xc000_0000)
    ∷ Cubic (f 0x3f0d_6289) (f 0xc000_0000) (f 0x3f80_0000) (f 0xbf8d_6289) (f 0x3f80_0000) (f 0)
    ∷ Cubic (f 0x3f80_0000) (f 0x3f8d_6289) (f 0x3f0d_6289) (f 0x4000_0000) (f 0) (f 0x4000_0000)
    ∷ Cubic (f 0xbf0d_6289) (f 0x4000_0000) (f 0xbf80_0000) (f 0x3f8d_6289) (f 0xbf80_0000) (f 0)
    ∷ Cubic (f 0xbf80_0000) (f 0xbf8d_6289) (f 0xbf0d_6289) (f 0xc000_0000) (f 0) (f 0xc000_0000)
    ∷ Close
    ∷ []
unfolding ellipse_path tangent_on rect_bounds fma mul sub neg sum round units size span climb odd of_bits of_fields
two_by_four = refl

-- centre (5, 6), size (0, -2): flat, and drawn from (5, 5) to (5, 7) and back, with the tangents 0 and k
flat : ellipse_path (f 0x40a0_0000) (f 0x40c0_0000) (f 0) (f 0xc000_0000)
    ≡ Move (f 0x40a0_0000) (f 0x40a0_0000)
    ∷ Cubic (f 0x40a0_0000) (f 0x40a0_0000) (f 0x40a0_0000) (f 0x40ae_53af) (f 0x40a0_0000) (f 0x40c0_0000)
    ∷ Cubic (f 0x40a0_0000) (f 0x40d1_ac51) (f 0x40a0_0000) (f 0x40e0_0000) (f 0x40a0_0000) (f 0x40e0_0000)
    ∷ Cubic (f 0x40a0_0000) (f 0x40e0_0000) (f 0x40a0_0000) (f 0x40d1_ac51) (f 0x40a0_0000) (f 0x40c0_0000)
    ∷ Cubic (f 0x40a0_0000) (f 0x40ae_53af) (f 0x40a0_0000) (f 0x40a0_0000) (f 0x40a0_0000) (f 0x40a0_0000)
    ∷ Close
    ∷ []
unfolding ellipse_path tangent_on rect_bounds fma mul sub neg sum round units size span climb odd of_bits of_fields
flat = refl

-- a centre of -0 and no size: the ends keep the centre's sign, where a sum with 0 is 0
signs_kept : ellipse_path (f 0x8000_0000) (f 0x8000_0000) (f 0) (f 0)
    ≡ Move (f 0x8000_0000) (f 0x8000_0000)
    ∷ Cubic (f 0) (f 0x8000_0000) (f 0) (f 0x8000_0000) (f 0) (f 0x8000_0000)
    ∷ Cubic (f 0) (f 0) (f 0) (f 0) (f 0x8000_0000) (f 0)
    ∷ Cubic (f 0x8000_0000) (f 0) (f 0x8000_0000) (f 0) (f 0x8000_0000) (f 0x8000_0000)
    ∷ Cubic (f 0x8000_0000) (f 0x8000_0000) (f 0x8000_0000) (f 0x8000_0000) (f 0x8000_0000) (f 0x8000_0000)
    ∷ Close
    ∷ []
unfolding ellipse_path tangent_on rect_bounds fma mul sub neg sum round units size span climb odd of_bits of_fields
signs_kept = refl

-- centre (1, 1), size (3, 3): a control point is a sum with the rounded tangent. The curve by left starts at 0x3e2f_b0c8; fused it would at 0x3e2f_b0ca
not_fused : get_or (ellipse_path (f 0x3f80_0000) (f 0x3f80_0000) (f 0x4040_0000) (f 0x4040_0000)) 3 Close
    ≡ Cubic (f 0x3e2f_b0c8) (f 0x4020_0000) (f 0xbf00_0000) (f 0x3fea_09e7) (f 0xbf00_0000) (f 0x3f80_0000)
unfolding ellipse_path tangent_on rect_bounds fma mul sub neg sum round units size span climb odd of_bits of_fields
not_fused = refl

-- the half is rounded before the product: 13 units of 2^-149 have the half 6 and the tangent 3, where 13 times 0.2761424 would be 4
half_first : tangent_on (f 13) ≡ f 3
unfolding tangent_on mul round units size span climb odd of_bits of_fields
half_first = refl
