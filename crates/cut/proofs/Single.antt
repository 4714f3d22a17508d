-- Cut lengths are f32: each is a product, or 0. Assumes nothing.
use mathlib.Core.Bool.{cond}
use mathlib.Core.List.{List, [], ◌∷◌}
use lib.Ieee.{Float, binary32, lt, is_nan}
use lib.Ieee.Fits.{cond-fits, mul-fits}
use Rattle.ieee.specs.Literal.{zero32, one32}
use Rattle.ieee.specs.Operators.{◌⊖◌, ◌⊗◌}
use Rattle.ieee.specs.Choice.{max}
use Rattle.cut.specs.Cuts.{part_of, cut_all}
use Rattle.ieee.specs.Single.{AllSingle, Single}
use Rattle.ieee.proofs.Single.{zero_single}

part_single : (total part : Float) → Single (part_of total part)
unfolding part_of max
part_single total part =
    let x = total ⊗ part in
    let x_single = mul-fits binary32 total part in
    cond-fits binary32 (lt zero32 x) x (cond (is_nan zero32) x zero32) x_single (cond-fits binary32 (is_nan zero32) x zero32 x_single zero_single)

pub cuts_single : (total : Float) (ends : List Float) → AllSingle (cut_all total ends)
cuts_single total [] = tt
cuts_single total (start ∷ []) = tt
cuts_single total (start ∷ end ∷ ends) = (part_single total start, (part_single total (end ⊖ start), (part_single total (one32 ⊖ end), cuts_single total ends)))
