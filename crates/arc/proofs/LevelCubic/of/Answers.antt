-- `LevelCubic::of` meets its contract. Assumes nothing.
use Rattle.flatten.proofs.Near.{along_x, along_y}
use Rattle.arc.proofs.Ways.{cubic_level_inside}
use Rattle.arc.proofs.LevelCubic.of.Goals as goal

pub invariant_of-result : goal.invariant_of-result
invariant_of-result c =
    let p = c.args.cubic in
    let level = c.is_level.ensures c.if-is_level.true in
    record { inside = ∣ cubic_level_inside p.start p.control1 p.control2 p.end level ∣₁; x = ∣ along_x p.start.x p.start.y p.control1.x p.control1.y p.control2.x p.control2.y p.end.x p.end.y level ∣₁; y = ∣ along_y p.start.x p.start.y p.control1.x p.control1.y p.control2.x p.control2.y p.end.x p.end.y level ∣₁ }
