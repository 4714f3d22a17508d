-- What the program `plate` prints for the text that it reads, whatever that is. Definitions only.
use Rattle.std.specs.Prelude.{ℕ, ◌/◌, List, map, Float, length, Ok, Err}
use Rattle.std.specs.Float.Ieee.{of_bits}
use Rattle.std.specs.Float.{binary32}
use Rattle.command.specs.declared.PathCommand.{PathCommand}
use Rattle.command.specs.Outcomes.{Outcome}
use Rattle.draw.specs.Paths.{draw_path}
use Rattle.measure.specs.Length.{path_length}
use Rattle.plate_read.specs.Text.{Content, faulty, given, read_text}
use Rattle.plate_print.specs.Lines.{answer_text, refusal_text, list_text}

-- a path drawn: its commands and its length, or the refusal
unfoldable pub drawn_text : Outcome (List PathCommand) → List ℕ
drawn_text (Err r) = refusal_text r
drawn_text (Ok cs) = answer_text cs (path_length cs)

-- What is read, drawn. Six patterns are a vertex; a refusal of the text comes before those of the vertex list.
unfoldable pub content_text : Content → List ℕ
content_text (faulty r) = refusal_text r
content_text (given closed patterns) = drawn_text (draw_path closed (map (of_bits binary32) patterns) (length patterns / 6))

unfoldable pub plate_text : List ℕ → List ℕ
plate_text text = content_text (read_text text)

-- a step between: a command list as it is written, with what measuring it answered
unfoldable pub measured_text : List ℕ → List Float → Outcome Float → List ℕ
measured_text codes numbers (Err r) = refusal_text r
measured_text codes numbers (Ok x) = list_text codes numbers x
