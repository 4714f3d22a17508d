-- The visible ranges of a trim: `normalized_trim_segments` and `is_full_trim_segments` of drawing_paths.rs, operation by operation. Definitions only.
use Rattle.std.specs.Prelude.{Bool, false, cond, ◌&&◌, ◌||◌, Float}
use Rattle.std.specs.Float.{binary32}
use Rattle.std.specs.Float.Ieee.{of_bits, div, lt, le}
use Rattle.ieee.specs.Literal.{zero32, one32, turn32, hundred32, ten_thousandth32}
use Rattle.ieee.specs.Operators.{◌⊕◌, ◌⊖◌, ◌⊗◌}
use Rattle.ieee.specs.Choice.{clamp}
use Rattle.ieee.specs.Limit.{within}
use Rattle.ieee.specs.Remainder.{rem_euclid}
use Rattle.ieee.specs.Whole.{round_away}
use Rattle.trim.specs.declared.TrimStyle.{TrimStyle}
use Rattle.trim.specs.declared.Ranges.{Ranges}
use Rattle.trim.specs.declared.Ranges.TheVariants.{Nothing, One, Two}

-- 10000.0
abbrev pub ten_thousand32 : Float
ten_thousand32 = of_bits binary32 0x461c_4000

-- the f32 nearest to 0.0001, by which trims are rounded; it is `FULL_TRIM_EPSILON` too
abbrev pub trim_step : Float
trim_step = ten_thousandth32

-- from 0 to 1; a -0 stays
abbrev pub clamp_unit : Float → Float
clamp_unit x = clamp zero32 one32 x

-- the offset as a part of a turn; a tiny negative one has the remainder 360 itself, and so is 1
unfoldable pub offset_of : Float → Float
offset_of degrees = div binary32 (rem_euclid binary32 degrees turn32) turn32

-- a percentage as a place from 0 to 1, moved on by the offset
unfoldable pub placed_at : Float → Float → Float
placed_at percent offset = clamp_unit (div binary32 percent hundred32) ⊕ offset

-- rounded to 0.0001, half away from zero
unfoldable pub snapped : Float → Float
snapped x = round_away binary32 (x ⊗ ten_thousand32) ⊗ trim_step

-- at most 0.0001 apart
unfoldable pub near : Float → Float → Bool
near a b = within trim_step (a ⊖ b)

-- start near a, and end near b
unfoldable pub near_both : Float → Float → Float → Float → Bool
near_both start end a b = near start a && near end b

-- from 0 to 1, or from 1 back to 0
unfoldable pub is_whole : Float → Float → Bool
is_whole start end = near_both start end zero32 one32 || near_both start end one32 zero32

-- the tests in the source's order: nothing, whole, within the path, past its end, else two ranges
unfoldable pub ranges_between : Float → Float → Ranges
ranges_between start end =
    cond (near start end) Nothing
    (cond (is_whole start end) (One zero32 one32)
    (cond (le end one32) (One (clamp_unit start) (clamp_unit end))
    (cond (le one32 start) (One (clamp_unit (start ⊖ one32)) (clamp_unit (end ⊖ one32)))
    (Two (clamp_unit start) (clamp_unit (end ⊖ one32))))))

-- the two are swapped if start is beyond end
unfoldable pub lower : Float → Float → Float
lower start end = cond (lt end start) end start

unfoldable pub upper : Float → Float → Float
upper start end = cond (lt end start) start end

unfoldable pub normalized_trim_segments : TrimStyle → Ranges
normalized_trim_segments trim =
    let offset = offset_of trim.offset_degrees in
    let start = placed_at trim.start offset in
    let end = placed_at trim.end offset in
    ranges_between (snapped (lower start end)) (snapped (upper start end))

-- 'Whole' is marked where there is one range, from 0 to 1, each to 0.0001.
unfoldable pub is_full_trim_segments : Ranges → Bool
is_full_trim_segments Nothing = false
is_full_trim_segments (One start end) = le start trim_step && near one32 end
is_full_trim_segments (Two start end) = false
