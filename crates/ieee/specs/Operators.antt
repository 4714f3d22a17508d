-- The f32 operators, each rounded once. Definitions only.
use Rattle.std.specs.Prelude.{Float}
use Rattle.std.specs.Float.Ieee.{add, sub, mul}
use Rattle.std.specs.Float.{binary32}

infixl 65 ◌⊕◌ ◌⊖◌
infixl 70 ◌⊗◌
abbrev pub ◌⊕◌ : Float → Float → Float
x ⊕ y = add binary32 x y

abbrev pub ◌⊖◌ : Float → Float → Float
x ⊖ y = sub binary32 x y

abbrev pub ◌⊗◌ : Float → Float → Float
x ⊗ y = mul binary32 x y
