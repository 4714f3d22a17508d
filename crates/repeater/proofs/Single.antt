-- A copy's shift is two f32: zeros, or sums. Assumes nothing.
use Prim.Native.Nat.{ℕ, zero, suc}
use mathlib.Core.Bool.{Bool, true, false, cond}
use lib.IntN.{pos}
use lib.Ieee.{Float, binary32, lt, of_int}
use Rattle.ieee.specs.Literal.{zero32, one32, epsilon32}
use Rattle.ieee.specs.Operators.{◌⊕◌, ◌⊖◌, ◌⊗◌}
use Rattle.ieee.specs.Limit.{within}
use Rattle.ieee.specs.Sign.{abs}
use Rattle.count.specs.Count.{count_down}
use Rattle.matrix.specs.declared.Matrix.{Matrix}
use Rattle.repeater.specs.declared.RepeaterStyle.{RepeaterStyle}
use Rattle.matrix.specs.Matrix.{identity, concat}
use Rattle.ieee.specs.Single.{Single}
use Rattle.ieee.proofs.Single.{add_single, zero_single}
use Rattle.repeater.specs.Repeater as repeater

abbrev pub ShiftSingle : Matrix → Type 0
ShiftSingle m = Single m.e × Single m.f

concat_single : (m n : Matrix) → ShiftSingle (concat m n)
unfolding concat
concat_single m n = (add_single (m.a ⊗ n.e ⊕ m.c ⊗ n.f) m.e, add_single (m.b ⊗ n.e ⊕ m.d ⊗ n.f) m.f)

repeated_single : (n : ℕ) (step : Matrix) → ShiftSingle (repeater.steps n step)
unfolding repeater.steps
repeated_single zero step = (zero_single, zero_single)
repeated_single (suc n) step = concat_single (repeater.steps n step) step

choice_single : (t : Bool) (m n : Matrix) → ShiftSingle m → ShiftSingle n → ShiftSingle (cond t m n)
choice_single true m n M N = M
choice_single false m n M N = N

iteration_single : (r : RepeaterStyle) (iteration : Float) → ShiftSingle (repeater.iteration_transform r iteration)
unfolding repeater.iteration_transform
iteration_single r iteration =
    let inverse = lt iteration zero32 in
    let whole = count_down (abs iteration) in
    let fraction = abs iteration ⊖ of_int binary32 (pos whole) in
    let transform = repeater.steps whole (repeater.step_transform r one32 inverse) in
    let further = concat transform (repeater.step_transform r fraction inverse) in
    choice_single (within epsilon32 iteration) identity (cond (lt epsilon32 fraction) further transform) (zero_single, zero_single)
    (choice_single (lt epsilon32 fraction) further transform (concat_single transform (repeater.step_transform r fraction inverse))
    (repeated_single whole (repeater.step_transform r one32 inverse)))

pub copy_single : (r : RepeaterStyle) (copy : ℕ) → ShiftSingle (repeater.copy_transform r copy)
unfolding repeater.copy_transform
copy_single r copy = iteration_single r (r.offset ⊕ of_int binary32 (pos copy))
