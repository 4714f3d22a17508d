-- The box of a centre and a size: the sides of `build_rect_path` of drawing_paths.rs, after sampling. Definitions only.
use Rattle.std.specs.Prelude.{Float}
use Rattle.std.specs.Float.Ieee.{neg, of_bits}
use Rattle.std.specs.Float.{binary32}
use Rattle.ieee.specs.Operators.{◌⊕◌}
use Rattle.ieee.specs.Sign.{abs}
use Rattle.ieee.specs.Fused.{fma}
use Rattle.rect.specs.declared.Bounds.{Bounds}

-- 0.5
abbrev pub half : Float
half = of_bits binary32 0x3f000000

-- left or top: fused, -0.5 times the size made positive, plus the centre
abbrev pub near_side : Float → Float → Float
near_side centre size = fma binary32 (abs size) (neg half) centre

-- Width and height made positive; left and top by fused -0.5 times size plus centre; right is left + width, bottom is top + height.
unfoldable pub rect_bounds : Float → Float → Float → Float → Bounds
rect_bounds cx cy w h =
    let left = near_side cx w in
    let top = near_side cy h in
    record { left = left; top = top; right = left ⊕ abs w; bottom = top ⊕ abs h }
