-- Closed cases of the definitions, each computed. The expected bit patterns are from exact fractions. Assumes nothing.
use mathlib.Core.Path.{◌≡◌, refl}
use Prim.Native.Nat.{ℕ}
use lib.Ieee.{Float, binary32, add, sub, mul, div, sum, neg, round, units, size, span, climb, odd, of_int, of_bits, of_fields}
use Rattle.ieee.specs.Fused.{fma}
use Rattle.ieee.specs.Root.{hypot_of, root_of, isqrt, root}
use Rattle.point.specs.declared.Point.{Point}
use Rattle.curve.specs.Curve.{distance, quad_at, eval_quad, cubic_at, eval_cubic, step_of, quad_point, cubic_point, chords, quad_length_after, cubic_length_after, quad_length, cubic_length}

-- an f32 and a point by bit patterns
abbrev f : ℕ → Float
f n = of_bits binary32 n

abbrev p : ℕ → ℕ → Point
p x y = record { x = f x; y = f y }

abbrev origin : Point
origin = p 0 0

-- from (0, 0) to (3, 4)
three_four_five : distance origin (p 0x4040_0000 0x4080_0000) ≡ f 0x40a0_0000
unfolding distance hypot_of root_of isqrt root add sub neg sum round units size span climb odd of_bits of_fields
three_four_five = refl

-- the quad (0.1, 0.2), (0.7, -3.3), (-1.3, 0.7) at 0.3
quad_point_lem : eval_quad (p 0x3dcc_cccd 0x3e4c_cccd) (p 0x3f33_3333 0xc053_3333) (p 0xbfa6_6666 0x3f33_3333) (f 0x3e99_999a) ≡ p 0x3e67_6c8b 0xbf9c_cccd
unfolding eval_quad quad_at fma mul add sub neg sum round units size span climb odd of_bits of_fields
quad_point_lem = refl

-- the cubic (0.1, 0.2), (0.7, -3.3), (5.1, 2.9), (-1.3, 0.7) at 0.3
cubic_point_lem : eval_cubic (p 0x3dcc_cccd 0x3e4c_cccd) (p 0x3f33_3333 0xc053_3333) (p 0x40a3_3333 0x4039_999a) (p 0xbfa6_6666 0x3f33_3333) (f 0x3e99_999a)
    ≡ p 0x3fa2_ca57 0xbf51_d7db
unfolding eval_cubic cubic_at fma mul add sub neg sum round units size span climb odd of_bits of_fields
cubic_point_lem = refl

-- the quad (0, 0), (10, 20), (30, 0)
quad_whole : quad_length origin (p 0x4120_0000 0x41a0_0000) (p 0x41f0_0000 0) ≡ f 0x4216_259a
unfolding quad_length_after quad_point step_of chords distance hypot_of root_of isqrt root eval_quad quad_at fma mul div add sub neg sum round units size span climb odd of_int of_bits of_fields
quad_whole = refl

-- the cubic (0, 0), (0, 10), (20, 30), (30, 0)
cubic_whole : cubic_length origin (p 0 0x4120_0000) (p 0x41a0_0000 0x41f0_0000) (p 0x41f0_0000 0) ≡ f 0x423b_82ae
unfolding cubic_length_after cubic_point step_of chords distance hypot_of root_of isqrt root eval_cubic cubic_at fma mul div add sub neg sum round units size span climb odd of_int of_bits of_fields
cubic_whole = refl
