-- Closed cases of the definitions, each computed: the trim plates of document 01, and traps. Assumes nothing.
use mathlib.Core.Path.{◌≡◌, refl}
use Prim.Native.Nat.{ℕ}
use mathlib.Core.Bool.{Bool, true, false}
use mathlib.Core.List.{List, [], ◌∷◌, map}
use lib.Count.{count_trailing_zeros}
use lib.Ieee.{binary32, span, climb, size, odd, units, round, neg, sum, add, sub, mul, div, rem, lt, eq, le, of_fields, of_bits}
use Rattle.ieee.specs.Choice.{at_least, at_most, clamp}
use Rattle.ieee.specs.Remainder.{lifted, rem_euclid}
use Rattle.ieee.specs.Whole.{round_away}
use Rattle.trim.specs.declared.TrimStyle.{TrimStyle}
use Rattle.trim.specs.declared.Ranges.{Ranges}
use Rattle.trim.specs.declared.Ranges.TheVariants.{Nothing, One, Two}
use Rattle.trim.specs.Trim.{offset_of, placed_at, snapped, near, near_both, is_whole, ranges_between, lower, upper, normalized_trim_segments, is_full_trim_segments}

-- a trim, its ranges, and whether they are marked as whole
record Case : Type 0 where
  trim : TrimStyle
  ranges : Ranges
  whole : Bool

abbrev given : ℕ → ℕ → ℕ → Ranges → Bool → Case
given s e o ranges whole =
    record {
      trim = record { start = of_bits binary32 s; end = of_bits binary32 e; offset_degrees = of_bits binary32 o; mode = 1 };
      ranges = ranges;
      whole = whole;
    }

abbrev one : ℕ → ℕ → Ranges
one a b = One (of_bits binary32 a) (of_bits binary32 b)

abbrev two : ℕ → ℕ → Ranges
two a b = Two (of_bits binary32 a) (of_bits binary32 b)

-- the same trim with the answers worked out
abbrev computed : Case → Case
computed c = record { trim = c.trim; ranges = normalized_trim_segments c.trim; whole = is_full_trim_segments (normalized_trim_segments c.trim) }

-- Document 01: 0, 100, 0 whole; 25, 75, 0 and 75, 25, 0; 0, 100, 90; 0, 100, 180 not whole; 25, 75, -0.0000001; 30, 30, 0 and 0, 0.01, 0 nothing; 0, 0.02, 0 one range;
-- 0, 99.99, 0 not whole. Then traps: 0.01, 100, 0 is whole; 50, 50.01, 0 is one range; -0, 50, -360 starts at -0; 3.125, 50, 0 starts at 0.0313, as a half goes away from
-- zero; 0, 0.02, -0.0000001 is worked out past 1, so that its end is not that of 0, 0.02, 0.
abbrev cases : List Case
cases =
    given 0 0x42c8_0000 0 (one 0 0x3f80_0000) true
    ∷ given 0x41c8_0000 0x4296_0000 0 (one 0x3e80_0000 0x3f40_0000) false
    ∷ given 0x4296_0000 0x41c8_0000 0 (one 0x3e80_0000 0x3f40_0000) false
    ∷ given 0 0x42c8_0000 0x42b4_0000 (two 0x3e80_0000 0x3e80_0000) false
    ∷ given 0 0x42c8_0000 0x4334_0000 (two 0x3f00_0000 0x3f00_0000) false
    ∷ given 0x41c8_0000 0x4296_0000 0xb3d6_bf95 (one 0x3e80_0000 0x3f40_0000) false
    ∷ given 0x41f0_0000 0x41f0_0000 0 Nothing false
    ∷ given 0 0x3c23_d70a 0 Nothing false
    ∷ given 0 0x3ca3_d70a 0 (one 0 0x3951_b717) false
    ∷ given 0 0x42c7_fae1 0 (one 0 0x3f7f_f972) false
    ∷ given 0x3c23_d70a 0x42c8_0000 0 (one 0 0x3f80_0000) true
    ∷ given 0x4248_0000 0x4248_0a3d 0 (one 0x3f00_0000 0x3f00_068e) false
    ∷ given 0x8000_0000 0x4248_0000 0xc3b4_0000 (one 0x8000_0000 0x3f00_0000) false
    ∷ given 0x4048_0000 0x4248_0000 0 (one 0x3d00_346e 0x3f00_0000) false
    ∷ given 0 0x3ca3_d70a 0xb3d6_bf95 (one 0 0x3951_c000) false
    ∷ []

cases_hold : map computed cases ≡ cases
unfolding count_trailing_zeros span climb size odd units round neg sum add sub mul div rem lt eq le of_fields of_bits at_least at_most clamp lifted rem_euclid round_away offset_of placed_at snapped near near_both is_whole ranges_between lower upper normalized_trim_segments is_full_trim_segments
cases_hold = refl
