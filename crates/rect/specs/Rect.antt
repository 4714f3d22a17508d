-- The radius of a rectangle's corners, and its commands: `build_rect_path` after sampling, and `build_round_rect_path`, of drawing_paths.rs. Definitions only.
use Rattle.std.specs.Prelude.{cond, List, [], ◌∷◌, Float}
use Rattle.std.specs.Float.Ieee.{le, of_bits}
use Rattle.std.specs.Float.{binary32}
use Rattle.ieee.specs.Literal.{zero32, epsilon32}
use Rattle.ieee.specs.Operators.{◌⊕◌, ◌⊖◌, ◌⊗◌}
use Rattle.ieee.specs.Sign.{abs}
use Rattle.ieee.specs.Choice.{min, clamp}
use Rattle.command.specs.declared.PathCommand.{PathCommand}
use Rattle.command.specs.declared.PathCommand.TheVariants.{Move, Line, Cubic, Close}
use Rattle.rect.specs.declared.Bounds.{Bounds}
use Rattle.rect.specs.Bounds.{half}

-- the f32 nearest to 0.5522848, `ROUND_RECT_KAPPA`
abbrev pub round_rect_kappa : Float
round_rect_kappa = of_bits binary32 0x3f0d6289

-- 2^-23, `f32::EPSILON`
abbrev pub epsilon : Float
epsilon = epsilon32

-- of a width, a height and a roundness: the roundness clamped to 0 .. half the smaller side
unfoldable pub corner_radius : Float → Float → Float → Float
corner_radius w h roundness = clamp zero32 (min (abs w) (abs h) ⊗ half) roundness

-- sharp corners
unfoldable pub plain_rect : Bounds → List PathCommand
plain_rect box =
    Move box.left box.top ∷ Line box.right box.top ∷ Line box.right box.bottom ∷ Line box.left box.bottom ∷ Close ∷ []

-- how far the control points of a corner with this radius stand from its ends
abbrev pub tangent_of : Float → Float
tangent_of radius = radius ⊗ round_rect_kappa

-- round corners, in the order of `build_round_rect_path`
unfoldable pub round_rect : Bounds → Float → List PathCommand
round_rect box q =
    let l = box.left in let t = box.top in let r = box.right in let b = box.bottom in
    let s = tangent_of q in
    Move (l ⊕ q) t
    ∷ Line (r ⊖ q) t
    ∷ Cubic ((r ⊖ q) ⊕ s) t r ((t ⊕ q) ⊖ s) r (t ⊕ q)
    ∷ Line r (b ⊖ q)
    ∷ Cubic r ((b ⊖ q) ⊕ s) ((r ⊖ q) ⊕ s) b (r ⊖ q) b
    ∷ Line (l ⊕ q) b
    ∷ Cubic ((l ⊕ q) ⊖ s) b l ((b ⊖ q) ⊕ s) l (b ⊖ q)
    ∷ Line l (t ⊕ q)
    ∷ Cubic l ((t ⊕ q) ⊖ s) ((l ⊕ q) ⊖ s) t (l ⊕ q) t
    ∷ Close
    ∷ []

-- a radius of at most 2^-23 is a sharp corner
unfoldable pub rect_path : Bounds → Float → List PathCommand
unfolding plain_rect round_rect
rect_path box radius = cond (le radius epsilon) (plain_rect box) (round_rect box radius)
