-- Closed cases of a merge's drawing, each computed. Assumes nothing.
use Rattle.std.specs.Prelude.{Ok, Err}
use mathlib.Core.Path.{◌≡◌, refl}
use mathlib.Core.List.{List, [], ◌∷◌, ◌++◌}
use Prim.Native.Nat.{ℕ}
use lib.Ieee.{Float, nan, binary32, mul, lt, le, sub, neg, sum, round, units, size, span, climb, odd, of_bits, of_fields, is_nan}
use Rattle.ieee.specs.Choice.{min, clamp}
use Rattle.ieee.specs.Fused.{fma}
use Rattle.command.specs.declared.PathCommand.TheVariants.{Move, Line, Cubic, Close}
use Rattle.command.specs.declared.Refusal.TheVariants.{Empty, TooMany, OutOfRange, Unsupported, NotMergeable, OutOfBounds}
use Rattle.path.specs.Path.{path_commands}
use Rattle.rect.specs.Bounds.{rect_bounds}
use Rattle.rect.specs.Rect.{corner_radius, rect_path}
use Rattle.ellipse.specs.Ellipse.{tangent_on, ellipse_path}
use Rattle.item.specs.Kinds.{kind_of}
use Rattle.join.specs.Merge.{draw_merge}

-- an f32 by its bit pattern
abbrev f : ℕ → Float
f n = of_bits binary32 n

-- the six entries of a visible row at depth 0: an open path of so many vertices at a place, a rectangle, an ellipse and a polystar at a place,
-- and an mm of mode 1
abbrev path : ℕ → ℕ → List ℕ
path place count = 1 ∷ 0 ∷ 0 ∷ 0 ∷ place ∷ count ∷ []

abbrev rectangle : ℕ → List ℕ
rectangle place = 2 ∷ 0 ∷ 0 ∷ 0 ∷ place ∷ 0 ∷ []

abbrev ellipse : ℕ → List ℕ
ellipse place = 3 ∷ 0 ∷ 0 ∷ 0 ∷ place ∷ 0 ∷ []

abbrev polystar : ℕ → List ℕ
polystar place = 4 ∷ 0 ∷ 0 ∷ 0 ∷ place ∷ 0 ∷ []

abbrev hidden_rectangle : ℕ → List ℕ
hidden_rectangle place = 2 ∷ 1 ∷ 0 ∷ 0 ∷ place ∷ 0 ∷ []

abbrev merge : List ℕ
merge = 13 ∷ 0 ∷ 0 ∷ 1 ∷ 0 ∷ 0 ∷ []

-- the square of 2 around 0 at place 0, and around (2, 0) at place 5 the rectangle 2 by 4
abbrev rectangles : List Float
rectangles =
    f 0 ∷ f 0 ∷ f 0x4000_0000 ∷ f 0x4000_0000 ∷ f 0
    ∷ f 0x4000_0000 ∷ f 0 ∷ f 0x4000_0000 ∷ f 0x4080_0000 ∷ f 0 ∷ []

-- ---- the commands of the sources, in row order
two : draw_merge (rectangle 5 ++ rectangle 0 ++ merge) 3 rectangles
    ≡ Ok (
    Move (f 0x3f80_0000) (f 0xc000_0000) ∷ Line (f 0x4040_0000) (f 0xc000_0000) ∷ Line (f 0x4040_0000) (f 0x4000_0000) ∷ Line (f 0x3f80_0000) (f 0x4000_0000) ∷ Close
    ∷ Move (f 0xbf80_0000) (f 0xbf80_0000) ∷ Line (f 0x3f80_0000) (f 0xbf80_0000) ∷ Line (f 0x3f80_0000) (f 0x3f80_0000) ∷ Line (f 0xbf80_0000) (f 0x3f80_0000) ∷ Close ∷ [])
unfolding draw_merge rect_bounds corner_radius rect_path fma min clamp mul lt le neg sum round units size span climb odd of_bits of_fields is_nan kind_of
two = refl

-- an ellipse is a source too; that of the last four numbers is flat, since its height is 0. With the tangents k = 0.5522848 times 2 and 0
flat_ellipse : draw_merge (path 0 1 ++ ellipse 6 ++ merge) 3 rectangles
    ≡ Ok (
    Move (f 0) (f 0) ∷ Line (f 0) (f 0)
    ∷ Move (f 0) (f 0x4000_0000)
    ∷ Cubic (f 0x3f8d_6289) (f 0x4000_0000) (f 0x4000_0000) (f 0x4000_0000) (f 0x4000_0000) (f 0x4000_0000)
    ∷ Cubic (f 0x4000_0000) (f 0x4000_0000) (f 0x3f8d_6289) (f 0x4000_0000) (f 0) (f 0x4000_0000)
    ∷ Cubic (f 0xbf8d_6289) (f 0x4000_0000) (f 0xc000_0000) (f 0x4000_0000) (f 0xc000_0000) (f 0x4000_0000)
    ∷ Cubic (f 0xc000_0000) (f 0x4000_0000) (f 0xbf8d_6289) (f 0x4000_0000) (f 0) (f 0x4000_0000)
    ∷ Close ∷ [])
unfolding draw_merge path_commands rect_bounds tangent_on ellipse_path fma mul le sub neg sum round units size span climb odd of_bits of_fields kind_of
flat_ellipse = refl

-- a path of one vertex is a move and a line to it; a hidden row between draws nothing, and its place is not looked at
points : draw_merge (path 0 1 ++ hidden_rectangle 99 ++ path 4 1 ++ merge) 4 rectangles
    ≡ Ok (Move (f 0) (f 0) ∷ Line (f 0) (f 0) ∷ Move (f 0) (f 0x4000_0000) ∷ Line (f 0) (f 0x4000_0000) ∷ [])
unfolding draw_merge path_commands le of_bits of_fields kind_of
points = refl

-- ---- the first refusal of a source, in row order: from place 7 on there are four of the 11 numbers, and at place 0 is a NaN
outside_first : draw_merge (rectangle 7 ++ rectangle 0 ++ merge) 3 (nan ∷ rectangles) ≡ Err OutOfBounds
unfolding draw_merge kind_of
outside_first = refl

nan_first : draw_merge (rectangle 0 ++ rectangle 7 ++ merge) 3 (nan ∷ rectangles) ≡ Err OutOfRange
unfolding draw_merge le kind_of
nan_first = refl

-- a polystar is 5 before its place is looked at; an ellipse whose numbers are not there is 12; a path without vertices is 1, and one of 1,025 is 2
unsupported : draw_merge (path 0 1 ++ polystar 99 ++ merge) 3 rectangles ≡ Err Unsupported
unfolding draw_merge le of_bits of_fields kind_of
unsupported = refl

ellipse_outside : draw_merge (path 0 1 ++ ellipse 7 ++ merge) 3 rectangles ≡ Err OutOfBounds
unfolding draw_merge le of_bits of_fields kind_of
ellipse_outside = refl

no_vertices : draw_merge (path 0 1 ++ path 99 0 ++ merge) 3 rectangles ≡ Err Empty
unfolding draw_merge le of_bits of_fields kind_of
no_vertices = refl

many_vertices : draw_merge (path 0 1 ++ path 99 1025 ++ merge) 3 rectangles ≡ Err TooMany
unfolding draw_merge le of_bits of_fields kind_of
many_vertices = refl

-- ---- what the rows decide comes before any source is judged: one source is too few
one_source : draw_merge (ellipse 99 ++ merge) 2 rectangles ≡ Err NotMergeable
unfolding draw_merge kind_of
one_source = refl
