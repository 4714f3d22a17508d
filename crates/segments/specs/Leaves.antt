-- Words of the counting's own way: what it promises is said by `path_commands` alone. Definitions only.
use Rattle.std.specs.Prelude.{ℕ, ◌≡◌, ◌<◌, ◌+◌, ◌*◌, Bool, not, length, drop}
use Rattle.command.specs.Commands.{numbers_of}
use Rattle.path.specs.declared.BezierVertex.{BezierVertex}
use Rattle.path.specs.Path.{approx_eq, out_x}
use Rattle.path.specs.Between.{segments_along}

-- A vertex from which a cubic goes, wherever it ends: the control point after a is not near a in x.
abbrev pub leaves : BezierVertex → Bool
leaves a = not (approx_eq a.x (out_x a))

-- the segments before vertex j are cubics, of six numbers each
pub record Passed (vertex : ℕ → BezierVertex) (count j : ℕ) : Type 0 where
  pub inside : j < count
  pub same : 6 * j + length (numbers_of (drop j (segments_along vertex count))) ≡ length (numbers_of (segments_along vertex count))
