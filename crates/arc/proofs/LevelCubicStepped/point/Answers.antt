-- `LevelCubic::point` meets its contract. Assumes nothing.
use mathlib.Core.Path.{sym}
use borrow.Author.Rules.{rules}
use Rattle.arc.proofs.Points.{cubic_last}
use Rattle.arc.proofs.LevelCubicStepped.point.Goals as goal

pub returns-in-32 : goal.returns-in-32
returns-in-32 c = let cubic = c.args.self.cubic in sym (cubic_last cubic.start cubic.control1 cubic.control2 cubic.end c.args.self.x c.args.self.y (search rules) (search rules) c.args.step c.in-32.is)
