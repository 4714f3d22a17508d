-- Closed cases of the definitions, each computed. Assumes nothing.
use mathlib.Core.Path.{◌≡◌, refl}
use Prim.Native.Nat.{◌+◌, ◌-◌, ◌^◌}
use mathlib.Core.Bool.{true, false}
use lib.IntN.{pos, negsuc}
use lib.Ieee.{Float, nan, inf, fin, binary32, add, mul, lt, size, of_bits, is_nan}
use Rattle.ieee.specs.Literal.{turn32}
use Rattle.ieee.specs.Sign.{abs}
use Rattle.ieee.specs.Choice.{min, max, clamp}
use Rattle.ieee.specs.Whole.{floor, ceil, round_away}
use Rattle.ieee.specs.Remainder.{rem_euclid}
use Rattle.ieee.specs.Fused.{fma}
use Rattle.ieee.specs.Root.{hypot_of, isqrt}
use Rattle.ieee.specs.Cut.{cut}
use Rattle.ieee.specs.Grid.{scale, on}

abbrev zero : Float
zero = fin false 0 (pos 0)

abbrev minus_zero : Float
minus_zero = fin true 0 (pos 0)

abbrev one : Float
one = fin false 1 (pos 0)

abbrev minus_one : Float
minus_one = fin true 1 (pos 0)

-- ---- sign and choice
abs_minus_zero : abs minus_zero ≡ zero
abs_minus_zero = refl

min_nan : min nan one ≡ one
unfolding min lt is_nan
min_nan = refl

min_zeros : min minus_zero zero ≡ zero
unfolding min lt is_nan
min_zeros = refl

max_zeros : max minus_zero zero ≡ zero
unfolding max lt is_nan
max_zeros = refl

clamp_minus_zero : clamp zero one minus_zero ≡ minus_zero
unfolding clamp lt
clamp_minus_zero = refl

clamp_above : clamp zero one (inf false) ≡ one
unfolding clamp lt
clamp_above = refl

-- ---- whole numbers, at -2.5 and -0.5
abbrev x : Float
x = fin true 5 (negsuc 0)

floor_x : floor binary32 x ≡ fin true 3 (pos 0)
unfolding floor
floor_x = refl

ceil_x : ceil binary32 x ≡ fin true 1 (pos 1)
unfolding ceil
ceil_x = refl

round_x : round_away binary32 x ≡ fin true 3 (pos 0)
unfolding round_away
round_x = refl

ceil_half : ceil binary32 (fin true 1 (negsuc 0)) ≡ minus_zero
unfolding ceil
ceil_half = refl

-- ---- remainders: -90 gives 270, and a tiny negative number gives 360 itself
quarter_back : rem_euclid binary32 (fin true 45 (pos 1)) turn32 ≡ fin false 135 (pos 1)
unfolding rem_euclid of_bits
quarter_back = refl

whole_turn : rem_euclid binary32 (fin true 1 (negsuc 22)) turn32 ≡ turn32
unfolding rem_euclid of_bits
whole_turn = refl

-- ---- fused sums
zero_times_infinity : fma binary32 (inf false) zero one ≡ nan
unfolding fma
zero_times_infinity = refl

infinities_apart : fma binary32 (inf false) one (inf true) ≡ nan
unfolding fma
infinities_apart = refl

-- a finite product does not overflow before the sum
no_overflow_first : fma binary32 (fin false 1 (pos 127)) (fin false 1 (pos 127)) (inf true) ≡ inf true
unfolding fma
no_overflow_first = refl

-- (1 + 2^-23) (1 - 2^-23) - 1 is -2^-46, and multiplying first loses it
fused : fma binary32 (fin false (2 ^ 23 + 1) (negsuc 22)) (fin false (2 ^ 23 - 1) (negsuc 22)) minus_one ≡ fin true 1 (negsuc 45)
unfolding fma
fused = refl

apart : add binary32 (mul binary32 (fin false (2 ^ 23 + 1) (negsuc 22)) (fin false (2 ^ 23 - 1) (negsuc 22))) minus_one ≡ zero
unfolding add mul
apart = refl

exact_zero : fma binary32 one one minus_one ≡ zero
unfolding fma
exact_zero = refl

negative_zeros : fma binary32 minus_zero one minus_zero ≡ minus_zero
unfolding fma
negative_zeros = refl

-- ---- roots
three_four : hypot_of binary32 (fin false 3 (pos 0)) (fin true 1 (pos 2)) ≡ fin false 5 (pos 0)
unfolding hypot_of isqrt size
three_four = refl

root_zeros : hypot_of binary32 minus_zero minus_zero ≡ zero
unfolding hypot_of isqrt size
root_zeros = refl

root_two : hypot_of binary32 one one ≡ of_bits binary32 0x3fb504f3
unfolding hypot_of isqrt size of_bits
root_two = refl

largest : hypot_of binary32 (of_bits binary32 0x7f7fffff) (of_bits binary32 0x7f7fffff) ≡ inf false
unfolding hypot_of isqrt size of_bits
largest = refl

smallest : hypot_of binary32 (of_bits binary32 1) (of_bits binary32 1) ≡ of_bits binary32 1
unfolding hypot_of isqrt size of_bits
smallest = refl

-- halfway between two floats: the even one
tie_down : hypot_of binary32 (of_bits binary32 0x49f65ed8) (of_bits binary32 0x4b7e38a4) ≡ of_bits binary32 0x4b800a36
unfolding hypot_of isqrt size of_bits
tie_down = refl

infinite_nan : hypot_of binary32 nan (inf true) ≡ inf false
unfolding hypot_of
infinite_nan = refl

-- ---- cutting, multiples and grids
cut_tie : cut 24 16777217 ≡ 16777216
unfolding cut size
cut_tie = refl

six : scale 3 (fin false 3 (negsuc 1)) ≡ fin false 3 (pos 1)
six = refl

scaled_zero : scale 3 minus_zero ≡ minus_zero
scaled_zero = refl

smallest_doubled : scale 1 (fin false 1 (negsuc 148)) ≡ fin false 1 (negsuc 147)
smallest_doubled = refl

on_the_grid : on 10 13 (fin true 1 (pos 13)) ≡ true
on_the_grid = refl

between_the_grid : on 10 13 (fin false 1 (negsuc 10)) ≡ false
between_the_grid = refl

beyond_the_bound : on 10 13 (fin false 8388609 (negsuc 9)) ≡ false
beyond_the_bound = refl
