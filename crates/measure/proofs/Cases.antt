-- Closed cases of the definitions, each computed. The expected bit patterns are from exact fractions. Assumes nothing.
use mathlib.Core.Path.{◌≡◌, refl}
use mathlib.Core.List.{[], ◌∷◌}
use Prim.Native.Nat.{ℕ}
use lib.Ieee.{Float, binary32, add, sub, mul, div, sum, neg, round, units, size, span, climb, odd, of_int, of_bits, of_fields}
use Rattle.ieee.specs.Fused.{fma}
use Rattle.ieee.specs.Root.{hypot_of, root_of, isqrt, root}
use Rattle.command.specs.declared.PathCommand.TheVariants.{Move, Line, Cubic, Close, Quad}
use Rattle.curve.specs.Curve.{distance, quad_at, eval_quad, cubic_at, eval_cubic, step_of, quad_point, cubic_point, chords, quad_length_after, cubic_length_after}
use Rattle.measure.specs.Length.{start_pen, added, move_to, arrive, line_to, quad_to, cubic_to, closing, close, step, steps, length_after, path_length}

-- an f32 by its bit pattern
abbrev f : ℕ → Float
f n = of_bits binary32 n

-- (0, 0), (3, 0), (3, 4) and back: 12
triangle : path_length (Move (f 0) (f 0) ∷ Line (f 0x4040_0000) (f 0) ∷ Line (f 0x4040_0000) (f 0x4080_0000) ∷ Close ∷ []) ≡ f 0x4140_0000
unfolding path_length length_after steps step start_pen move_to line_to arrive added close closing distance hypot_of root_of isqrt root add sub neg sum round units size span climb odd of_bits of_fields
triangle = refl

-- No move: the line to (3, 4) adds nothing, the one to (0, 0) adds 5. The close adds nothing and clears the point, so the line to (5, 5) adds nothing,
-- and the one to (5, 6) adds 1.
without_a_move : path_length (Line (f 0x4040_0000) (f 0x4080_0000) ∷ Line (f 0) (f 0) ∷ Close ∷ Line (f 0x40a0_0000) (f 0x40a0_0000) ∷ Line (f 0x40a0_0000) (f 0x40c0_0000) ∷ [])
    ≡ f 0x40c0_0000
unfolding path_length length_after steps step start_pen move_to line_to arrive added close closing distance hypot_of root_of isqrt root add sub neg sum round units size span climb odd of_bits of_fields
without_a_move = refl

-- After a close the next line goes on from the start: (1, 1), (1, 3) and back, then to (4, 5) makes 9.
on_from_the_start : path_length (Move (f 0x3f80_0000) (f 0x3f80_0000) ∷ Line (f 0x3f80_0000) (f 0x4040_0000) ∷ Close ∷ Line (f 0x4080_0000) (f 0x40a0_0000) ∷ [])
    ≡ f 0x4110_0000
unfolding path_length length_after steps step start_pen move_to line_to arrive added close closing distance hypot_of root_of isqrt root add sub neg sum round units size span climb odd of_bits of_fields
on_from_the_start = refl

-- (0, 0), a quad by (10, 20) to (30, 0), a cubic by (30, 10) and (20, 30) to (0, 0), a line to (0, 1), and back
every_kind : path_length (Move (f 0) (f 0) ∷ Quad (f 0x4120_0000) (f 0x41a0_0000) (f 0x41f0_0000) (f 0)
    ∷ Cubic (f 0x41f0_0000) (f 0x4120_0000) (f 0x41a0_0000) (f 0x41f0_0000) (f 0) (f 0) ∷ Line (f 0) (f 0x3f80_0000) ∷ Close ∷ [])
    ≡ f 0x42ac_8b06
unfolding path_length length_after steps step start_pen move_to line_to quad_to cubic_to arrive added close closing quad_length_after quad_point cubic_length_after cubic_point step_of chords distance hypot_of root_of isqrt root eval_quad quad_at eval_cubic cubic_at fma mul div add sub neg sum round units size span climb odd of_int of_bits of_fields
every_kind = refl
