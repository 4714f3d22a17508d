-- Closed cases of needs, each computed: document 02's straight frames, and what a tangent adds. Assumes nothing.
use Rattle.std.specs.Prelude.{Ok, Err}
use mathlib.Core.Path.{◌≡◌, refl}
use mathlib.Core.List.{List, [], ◌∷◌, ◌++◌}
use Prim.Native.Nat.{ℕ}
use lib.Ieee.{Float, binary32, add, sub, le, sum, round, units, size, span, climb, odd, of_bits, of_fields}
use Rattle.command.specs.declared.Refusal.TheVariants.{Empty, Unlisted, OutOfBounds}
use Rattle.command.specs.Buffers.{need_of}
use Rattle.path.specs.Path.{bezier_segment}
use Rattle.draw.specs.Paths.{draw_path}

-- an f32 by its bit pattern
abbrev f : ℕ → Float
f n = of_bits binary32 n

-- a vertex with an out-tangent in x
abbrev vertex : Float → Float → Float → List Float
vertex x y ox = x ∷ y ∷ f 0 ∷ f 0 ∷ ox ∷ f 0 ∷ []

-- (0, 0), (3, 0), (3, 4); and the same with the out-tangent (1, 0) at the last
abbrev triangle : List Float
triangle = vertex (f 0) (f 0) (f 0) ++ vertex (f 0x4040_0000) (f 0) (f 0) ++ vertex (f 0x4040_0000) (f 0x4080_0000) (f 0)

abbrev bent : List Float
bent = vertex (f 0) (f 0) (f 0) ++ vertex (f 0x4040_0000) (f 0) (f 0) ++ vertex (f 0x4040_0000) (f 0x4080_0000) (f 0x3f80_0000)

straight_triangle : need_of (draw_path 1 triangle 3) ≡ Ok (5, 8)
unfolding draw_path bezier_segment add sub le sum round units size span climb odd of_bits of_fields
straight_triangle = refl

-- the closing segment is a cubic: a move, two lines, a cubic and a close
bent_triangle : need_of (draw_path 1 bent 3) ≡ Ok (5, 12)
unfolding draw_path bezier_segment add sub le sum round units size span climb odd of_bits of_fields
bent_triangle = refl

-- which an open path does not have
open_triangle : need_of (draw_path 0 bent 3) ≡ Ok (3, 6)
unfolding draw_path bezier_segment add sub le sum round units size span climb odd of_bits of_fields
open_triangle = refl

-- one vertex, whatever the flag
one_vertex : need_of (draw_path 1 bent 1) ≡ Ok (2, 4)
unfolding draw_path le of_bits of_fields
one_vertex = refl

-- refused as drawing is
none : need_of (draw_path 2 bent 0) ≡ Err Empty
unfolding draw_path
none = refl

flag_before_length : need_of (draw_path 2 [] 3) ≡ Err Unlisted
unfolding draw_path
flag_before_length = refl

short_list : need_of (draw_path 1 [] 3) ≡ Err OutOfBounds
unfolding draw_path
short_list = refl
