-- The matrix and the opacity of a repeater's copy: `repeater_transform_for_copy` and what it calls in drawing_paths.rs. Definitions only.
use Rattle.std.specs.Prelude.{ℕ, zero, suc, ◌-◌, Bool, cond, leb, pos, Float}
use Rattle.std.specs.Float.{binary32}
use Rattle.std.specs.Float.Ieee.{of_bits, of_int, div, neg, lt}
use Rattle.ieee.specs.Literal.{zero32, one32, hundred32, ten_thousandth32, epsilon32}
use Rattle.ieee.specs.Operators.{◌⊕◌, ◌⊖◌, ◌⊗◌}
use Rattle.ieee.specs.Sign.{abs}
use Rattle.ieee.specs.Limit.{within}
use Rattle.ieee.specs.Choice.{max}
use Rattle.ieee.specs.Fused.{fma}
use Rattle.count.specs.Count.{count_down, count_up}
use Rattle.matrix.specs.declared.Matrix.{Matrix}
use Rattle.matrix.specs.Matrix.{identity, concat, pre_translate, pre_scale, pre_rotate}
use Rattle.repeater.specs.declared.RepeaterStyle.{RepeaterStyle}

-- how many copies there are: the ceiling, not below 0
unfoldable pub copy_count : RepeaterStyle → ℕ
copy_count r = count_up r.copies

-- the f32 nearest to 1e-4, below which the inverse of a scale does not go
abbrev pub least_scale : Float
least_scale = ten_thousandth32

-- a part of a step's scale, and of the inverse step's
unfoldable pub step_scale : Float → Float → Bool → Float
step_scale scale percent inverse =
    let s = fma binary32 (div binary32 scale hundred32 ⊖ one32) percent one32 in
    cond inverse (div binary32 one32 (max s least_scale)) s

-- 1, or -1 for the inverse step
abbrev pub direction : Bool → Float
direction inverse = cond inverse (neg one32) one32

-- a part of a step's shift along an axis; and of its angle, 'rotation times sign times percent'
unfoldable pub step_part : Float → Float → Bool → Float
step_part amount percent inverse = amount ⊗ direction inverse ⊗ percent

-- a shift, then a rotation, by degrees, and a scaling around an anchor: the rotation is 'in source order between anchor and scale'
unfoldable pub step_matrix : Float → Float → Float → Float → Float → Float → Float → Matrix
step_matrix x y anchor_x anchor_y degrees scale_x scale_y =
    let anchored = pre_translate (pre_translate identity x y) anchor_x anchor_y in
    pre_translate (pre_scale (pre_rotate anchored degrees) scale_x scale_y) (neg anchor_x) (neg anchor_y)

-- `repeater_step_transform`, with the rotation in degrees, where the Rust has radians
unfoldable pub step_transform : RepeaterStyle → Float → Bool → Matrix
step_transform r percent inverse =
    step_matrix (step_part r.position.x percent inverse) (step_part r.position.y percent inverse) r.anchor.x r.anchor.y
    (step_part r.rotation percent inverse) (step_scale r.scale.x percent inverse) (step_scale r.scale.y percent inverse)

-- so many steps, one after another
unfoldable pub steps : ℕ → Matrix → Matrix
steps zero step = identity
steps (suc n) step = concat (steps n step) step

-- `repeater_transform_for_iteration`: whole steps, then a part of one; at most 2 ^ -23 in absolute value is the identity.
-- Of what is larger, Rust's `is_sign_negative` is `lt _ 0`.
unfoldable pub iteration_transform : RepeaterStyle → Float → Matrix
iteration_transform r iteration =
    let inverse = lt iteration zero32 in
    let whole = count_down (abs iteration) in
    let fraction = abs iteration ⊖ of_int binary32 (pos whole) in
    let transform = steps whole (step_transform r one32 inverse) in
    cond (within epsilon32 iteration) identity
    (cond (lt epsilon32 fraction) (concat transform (step_transform r fraction inverse)) transform)

-- the copy's matrix
unfoldable pub copy_transform : RepeaterStyle → ℕ → Matrix
copy_transform r copy = iteration_transform r (r.offset ⊕ of_int binary32 (pos copy))

-- 4,096: there are no more copies
abbrev pub most_copies : Float
most_copies = of_bits binary32 0x4580_0000

-- 4,096: no absolute offset is larger
abbrev pub most_offset : Float
most_offset = of_bits binary32 0x4580_0000

-- the opacity of one copy of so many, from that of the first to that of the last, fused
unfoldable pub opacity_of : Float → Float → ℕ → ℕ → Float
opacity_of start end count copy =
    cond (leb count 1) start (fma binary32 (end ⊖ start) (div binary32 (of_int binary32 (pos copy)) (of_int binary32 (pos (count - 1)))) start)

unfoldable pub copy_opacity : RepeaterStyle → ℕ → Float
copy_opacity r copy = opacity_of r.start_opacity r.end_opacity (copy_count r) copy
