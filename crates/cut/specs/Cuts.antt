-- The lengths at which a path is cut for its visible ranges: the products of `trim_path` of drawing_paths.rs. Definitions only.
use Rattle.std.specs.Prelude.{List, [], ◌∷◌, ◌++◌, Float}
use Rattle.ieee.specs.Literal.{zero32, one32}
use Rattle.ieee.specs.Operators.{◌⊖◌, ◌⊗◌}
use Rattle.ieee.specs.Choice.{max}
use Rattle.cut.specs.declared.Cuts.{Cuts}

-- a part of the length, not below 0; a -0 becomes +0
unfoldable pub part_of : Float → Float → Float
part_of total part = max (total ⊗ part) zero32

-- what lies before, in and after the range from start to end
abbrev pub cuts_of : Float → Float → Float → Cuts
cuts_of total start end = record { before = part_of total start; visible = part_of total (end ⊖ start); after = part_of total (one32 ⊖ end) }

abbrev pub cut_numbers : Cuts → List Float
cut_numbers cuts = cuts.before ∷ cuts.visible ∷ cuts.after ∷ []

-- the same for each range, whose ends follow each other in a list
abbrev pub cut_all : Float → List Float → List Float
cut_all total [] = []
cut_all total (start ∷ []) = []
cut_all total (start ∷ end ∷ ends) = cut_numbers (cuts_of total start end) ++ cut_all total ends
