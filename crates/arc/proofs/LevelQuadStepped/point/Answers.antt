-- `LevelQuad::point` meets its contract. Assumes nothing.
use mathlib.Core.Path.{sym}
use borrow.Author.Rules.{rules}
use Rattle.arc.proofs.Points.{quad_last}
use Rattle.arc.proofs.LevelQuadStepped.point.Goals as goal

pub returns-in-24 : goal.returns-in-24
returns-in-24 c = let quad = c.args.self.quad in sym (quad_last quad.start quad.control quad.end c.args.self.x c.args.self.y (search rules) (search rules) c.args.step c.in-24.is)
