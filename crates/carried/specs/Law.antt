-- Document 02, U6: 'What a segment writes is proved to hang on the vertex carried over and the six numbers of the next alone'. Definitions only.
use Rattle.std.specs.Prelude.{ℕ, ◌+◌, ◌<◌, ◌≡◌, true, List, Float, length, get_or, take, drop, Ok}
use Rattle.command.specs.declared.PathCommand.{PathCommand}
use Rattle.command.specs.Commands.{code_of, coordinates_of}
use Rattle.command.specs.Outcomes.{Outcome, list_of}
use Rattle.path.specs.Path.{bezier_segment}
use Rattle.item.specs.declared.ItemRow.{ItemRow}
use Rattle.item.specs.Rows.{item_row, is_path}
use Rattle.draw.specs.Paths.{draw_path}
use Rattle.draw.specs.Items.{draw_item}
use Rattle.merge.specs.Decision.{decision}
use Rattle.join.specs.Merge.{draw_joined, draw_merge}
use Rattle.carried.specs.Segments.{is_segment, start_of, next_of, DrawnIn, Wrote, written_at}

-- a segment's command in the buffers is one function of the two vertices
abbrev pub SegmentWritten : Type 0
SegmentWritten =
    (o : Outcome (List PathCommand)) (codes : List ℕ) (numbers : List Float) (p closed : ℕ) (v : List Float) (count k : ℕ)
    → Wrote o codes numbers → DrawnIn o p closed v count → is_segment closed count k ≡ true
    → written_at codes numbers (p + k)
    ≡ (code_of (bezier_segment (start_of v k) (next_of v count k)), coordinates_of (bezier_segment (start_of v k) (next_of v count k)))

-- 'whatever else differs, flag and count too, segments of two drawn lists whose start and next vertex agree bit for bit write the same command': its code,
-- its numbers and how many they are
abbrev pub SegmentsAlike : Type 0
SegmentsAlike =
    (o o' : Outcome (List PathCommand)) (codes codes' : List ℕ) (numbers numbers' : List Float)
    (p p' closed closed' : ℕ) (v v' : List Float) (count count' k k' : ℕ)
    → Wrote o codes numbers → DrawnIn o p closed v count → is_segment closed count k ≡ true
    → Wrote o' codes' numbers' → DrawnIn o' p' closed' v' count' → is_segment closed' count' k' ≡ true
    → start_of v k ≡ start_of v' k' → next_of v count k ≡ next_of v' count' k'
    → written_at codes numbers (p + k) ≡ written_at codes' numbers' (p' + k')

-- ---- the lists that a call draws which has answered: its own, that of a row, and those of the rows that a merge joins, each after the rows before it

abbrev pub PathDrawn : Type 0
PathDrawn =
    (closed : ℕ) (v : List Float) (count : ℕ) (codes : List ℕ) (numbers : List Float)
    → Wrote (draw_path closed v count) codes numbers → DrawnIn (draw_path closed v count) 0 closed v count

-- the vertices of a row stand in the items from its place on, and its mark is the flag
abbrev pub RowDrawn : Type 0
RowDrawn =
    (row : List ℕ) (items : List Float) (codes : List ℕ) (numbers : List Float)
    → Wrote (draw_item row items) codes numbers → is_path (item_row row 0) ≡ true
    → DrawnIn (draw_item row items) 0 (item_row row 0).mark (drop (item_row row 0).place items) (item_row row 0).count

abbrev pub SourceDrawn : Type 0
SourceDrawn =
    (rows : List ℕ) (n : ℕ) (items : List Float) (joined : List ℕ) (index : ℕ) (row : ItemRow) (codes : List ℕ) (numbers : List Float)
    → Wrote (draw_merge rows n items) codes numbers
    → decision rows n ≡ Ok joined → index < length joined → row ≡ item_row rows (get_or joined index 0) → is_path row ≡ true
    → DrawnIn (draw_merge rows n items) (length (list_of (draw_joined rows items (take index joined)))) row.mark (drop row.place items) row.count
