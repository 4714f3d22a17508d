-- The segments of a vertex list that is drawn, and where their commands stand in the buffers of a call. Definitions only.
use Rattle.std.specs.Prelude.{ℕ, ◌-◌, ◌≡◌, Bool, cond, ◌&&◌, ◌||◌, List, ◌++◌, eqb, ltb, Float, length, get_or, take, drop, Ok}
use Rattle.command.specs.declared.PathCommand.{PathCommand}
use Rattle.command.specs.Outcomes.{Outcome}
use Rattle.command.specs.Buffers.{in_buffers, fitted, FilledBoth}
use Rattle.path.specs.declared.BezierVertex.{BezierVertex}
use Rattle.path.specs.Path.{vertex_at, path_commands}
use Rattle.reader.specs.Read.{size_of_code}
use Rattle.judge.specs.Lists.{place_of}

-- ---- the segments of a list: command k is one from vertex k - 1 to vertex k, and that of a closed path's last vertex goes back to the first

abbrev pub is_segment : ℕ → ℕ → ℕ → Bool
is_segment closed count k = ltb 0 k && (ltb k count || (eqb k count && (eqb closed 1 && ltb 1 count)))

-- 'the vertex carried over'
abbrev pub start_of : List Float → ℕ → BezierVertex
start_of v k = vertex_at v (k - 1)

-- 'the next'
abbrev pub next_of : List Float → ℕ → ℕ → BezierVertex
next_of v count k = vertex_at v (cond (eqb k count) 0 k)

-- ---- where they stand

-- the path of a list is a part of a drawing, from command p on
pub record DrawnIn (o : Outcome (List PathCommand)) (p closed : ℕ) (v : List Float) (count : ℕ) : Type 0 where
  pub before : List PathCommand
  pub after : List PathCommand
  pub place : length before ≡ p
  pub drawn : o ≡ Ok (before ++ path_commands closed v count ++ after)

-- a call that draws has answered and left these buffers, whatever they held before: its promise, with the number 0
pub record Wrote (o : Outcome (List PathCommand)) (codes : List ℕ) (numbers : List Float) : Type 0 where
  pub codes_before : List ℕ
  pub numbers_before : List Float
  pub codes_count : ℕ
  pub numbers_count : ℕ
  pub filled : FilledBoth (fitted (in_buffers (length codes_before) (length numbers_before)) o) 0 codes_count numbers_count codes_before codes numbers_before numbers

-- command k of two buffers: its code and its numbers, which are as many as the code has
abbrev pub written_at : List ℕ → List Float → ℕ → ℕ × List Float
written_at codes numbers k = (get_or codes k 3, take (size_of_code (get_or codes k 3)) (drop (place_of k codes) numbers))
