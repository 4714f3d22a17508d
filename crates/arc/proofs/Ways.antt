-- What the checks of this crate find of a curve: the points that make it are within the limit, and its coordinates are of like size. Assumes nothing.
use mathlib.Core.Path.{◌≡◌, refl, sym, ◌∙◌}
use mathlib.Core.Bool.{Bool, true, false}
use mathlib.Core.List.{[], ◌∷◌}
use Prim.Native.Nat.{ℕ, ◌^◌, ◌<◌}
use native.Mathlib.Omega.{arith}
use lib.Ieee.{nan, binary32, of_bits}
use lib.Ieee.Exact.{HasValue}
use lib.ListN.{get_or}
use Rattle.ieee.specs.Limit.{within, Bounded}
use Rattle.ieee.proofs.Bounds.{within→bounded}
use Rattle.point.specs.declared.Point.{Point}
use Rattle.curve.proofs.Rising.{Inside}
use Rattle.flatten.specs.Level.{AllNear}

-- ---- is_inside
limit : HasValue (of_bits binary32 0x4a80_0000) false (2 ^ 22) 1
unfolding of_bits
limit = (refl, refl)

pub inside_both : (p : Point) (a b : Bool) → a ≡ within (of_bits binary32 0x4a80_0000) p.x → a ≡ true → b ≡ within (of_bits binary32 0x4a80_0000) p.y → b ≡ true → Inside (2 ^ 22) p
inside_both p a b e h f k = record {
  x_bounded = within→bounded (2 ^ 22) (of_bits binary32 0x4a80_0000) p.x limit (sym e ∙ h);
  y_bounded = within→bounded (2 ^ 22) (of_bits binary32 0x4a80_0000) p.y limit (sym f ∙ k);
}

-- ---- LevelQuad::of
module _ (start control end : Point) (level : AllNear 6 (start.x ∷ start.y ∷ control.x ∷ control.y ∷ end.x ∷ end.y ∷ [])) where
  quad_near : (k : ℕ) → k < 6 → Bounded (2 ^ 22) (get_or (start.x ∷ start.y ∷ control.x ∷ control.y ∷ end.x ∷ end.y ∷ []) k nan)
  quad_near k l = (level.near k l).bounded

  pub quad_level_inside : Inside (2 ^ 22) start × Inside (2 ^ 22) control × Inside (2 ^ 22) end
  quad_level_inside = (
    record { x_bounded = quad_near 0 (omega arith); y_bounded = quad_near 1 (omega arith) },
    record { x_bounded = quad_near 2 (omega arith); y_bounded = quad_near 3 (omega arith) },
    record { x_bounded = quad_near 4 (omega arith); y_bounded = quad_near 5 (omega arith) },
  )

-- ---- LevelCubic::of
module _ (start control1 control2 end : Point) (level : AllNear 8 (start.x ∷ start.y ∷ control1.x ∷ control1.y ∷ control2.x ∷ control2.y ∷ end.x ∷ end.y ∷ [])) where
  near : (k : ℕ) → k < 8 → Bounded (2 ^ 22) (get_or (start.x ∷ start.y ∷ control1.x ∷ control1.y ∷ control2.x ∷ control2.y ∷ end.x ∷ end.y ∷ []) k nan)
  near k l = (level.near k l).bounded

  pub cubic_level_inside : Inside (2 ^ 22) start × Inside (2 ^ 22) control1 × Inside (2 ^ 22) control2 × Inside (2 ^ 22) end
  cubic_level_inside = (
    record { x_bounded = near 0 (omega arith); y_bounded = near 1 (omega arith) },
    record { x_bounded = near 2 (omega arith); y_bounded = near 3 (omega arith) },
    record { x_bounded = near 4 (omega arith); y_bounded = near 5 (omega arith) },
    record { x_bounded = near 6 (omega arith); y_bounded = near 7 (omega arith) },
  )
