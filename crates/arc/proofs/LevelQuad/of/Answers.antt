-- `LevelQuad::of` meets its contract. Assumes nothing.
use Rattle.flatten.proofs.Near.{quad_along_x, quad_along_y}
use Rattle.arc.proofs.Ways.{quad_level_inside}
use Rattle.arc.proofs.LevelQuad.of.Goals as goal

pub invariant_of-result : goal.invariant_of-result
invariant_of-result c =
    let p = c.args.quad in
    let level = c.is_level.ensures c.if-is_level.true in
    record { inside = ∣ quad_level_inside p.start p.control p.end level ∣₁; x = ∣ quad_along_x p.start.x p.start.y p.control.x p.control.y p.end.x p.end.y level ∣₁; y = ∣ quad_along_y p.start.x p.start.y p.control.x p.control.y p.end.x p.end.y level ∣₁ }
