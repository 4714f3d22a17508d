-- The path of vertices that are known by number, and its segments without the one that closes it. Definitions only.
use Rattle.std.specs.Prelude.{ℕ, ◌-◌, Bool, List}
use Rattle.command.specs.declared.PathCommand.{PathCommand}
use Rattle.path.specs.declared.BezierVertex.{BezierVertex}
use Rattle.path.specs.Path.{vertices_from, bezier_segments, bezier_path}

-- the path through the first `count` vertices
unfoldable pub path_along : Bool → (ℕ → BezierVertex) → ℕ → List PathCommand
unfolding bezier_path vertices_from
path_along closed vertex count = bezier_path closed (vertices_from vertex 0 count)

-- the segments between them, in order: a word of counting's and writing's own way
unfoldable pub segments_along : (ℕ → BezierVertex) → ℕ → List PathCommand
unfolding bezier_segments vertices_from
segments_along vertex count = bezier_segments (vertex 0) (vertices_from vertex 1 (count - 1))
