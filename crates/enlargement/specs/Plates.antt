-- A plate, a plate on the grid, and a plate that is another one enlarged. Definitions only.
use Rattle.std.specs.Prelude.{ℕ, ◌+◌, ◌*◌, ◌≤◌, ◌<◌, ◌≡◌, true, false, List, [], map, pos, Float, length, get_or, Ok}
use Rattle.std.specs.Float.{nan, fin, binary32}
use Rattle.std.specs.Float.Ieee.{fits, mul, eq}
use Rattle.std.specs.Float.Ieee.Scale.{finite}
use Rattle.ieee.specs.Literal.{zero32, hundred32}
use Rattle.ieee.specs.Grid.{On}
use Rattle.command.specs.declared.PathCommand.{PathCommand}
use Rattle.command.specs.Commands.{codes_of, numbers_of}
use Rattle.item.specs.declared.ItemRow.{ItemRow}
use Rattle.item.specs.Rows.{item_row, entries_of}
use Rattle.draw.specs.Paths.{draw_path}
use Rattle.draw.specs.Items.{draw_item}
use Rattle.join.specs.Merge.{draw_merge}
use Rattle.join.specs.Joined.{JoinedRow}
use Rattle.reach.specs.Reach.{is_length}
use Rattle.trim.specs.declared.TrimStyle.{TrimStyle}
use Rattle.repeater.specs.declared.RepeaterStyle.{RepeaterStyle}

-- what is lent to the calls for a plate, and enlarging leaves alone
pub record Lent : Type 0 where
  -- the closed flag and the number of vertices of a vertex list
  pub closed : ℕ
  pub count : ℕ
  -- a row that is drawn; rows that are merged, and how many they are
  pub row : List ℕ
  pub rows : List ℕ
  pub row_count : ℕ
  -- the codes of a command list, and the command that is asked for
  pub codes : List ℕ
  pub command : ℕ
  pub trim : TrimStyle
  -- the copy that is asked for
  pub copy : ℕ

-- a plate: that, the numbers of the vertex list, of the rows and of the command list, the length that the command list is asked to reach, and a repeater
pub record Plate : Type 0 where
  pub lent : Lent
  pub vertices : List Float
  pub items : List Float
  pub numbers : List Float
  pub least : Float
  pub repeater : RepeaterStyle

-- ---- what is read

-- place i of a list is among the numbers of so many vertices, of a row, of a row that a merge joins
abbrev pub OfVertices : ℕ → ℕ → Type 0
OfVertices count i = i < 6 * count

pub record OfRow (row : ItemRow) (i : ℕ) : Type 0 where
  pub from : row.place ≤ i
  pub to : i < row.place + entries_of row

pub record OfMerge (rows : List ℕ) (n i : ℕ) : Type 0 where
  pub row : ItemRow
  pub is_joined : JoinedRow rows n row
  pub is_its : OfRow row i

-- ---- the grid

-- an f32 that is a whole multiple of 1 / 1,024, and at most 8,192 in absolute value
pub record OnGrid (x : Float) : Type 0 where
  pub single : fits binary32 x ≡ true
  pub grid : On 10 13 x

-- the numbers at these places of the list are on the grid
abbrev pub GridAt : (ℕ → Type 0) → List Float → Type 0
GridAt read v = (i : ℕ) → read i → i < length v → OnGrid (get_or v i nan)

-- a command list that is what drawing or a merge gives for items on the grid, or none
pub data Made : List PathCommand → Type 0 where
  of_nothing : Made []
  of_vertices : (closed count : ℕ) (v : List Float) (cs : List PathCommand) → GridAt (OfVertices count) v → draw_path closed v count ≡ Ok cs → Made cs
  of_row : (row : List ℕ) (items : List Float) (cs : List PathCommand) → GridAt (OfRow (item_row row 0)) items → draw_item row items ≡ Ok cs → Made cs
  of_merge : (rows : List ℕ) (n : ℕ) (items : List Float) (cs : List PathCommand) → GridAt (OfMerge rows n) items → draw_merge rows n items ≡ Ok cs → Made cs

-- The conditions of the third demand: every number that is read as a coordinate is on the grid, the command list is made of such, and the repeater
-- scales by 100 and has no rotation, that is one of +0 or -0: of turned copies nothing is claimed. Nothing is asked of numbers that are not read, nor
-- of all else.
pub record PlateOnGrid (p : Plate) : Type 0 where
  pub vertices : GridAt (OfVertices p.lent.count) p.vertices
  pub row : GridAt (OfRow (item_row p.lent.row 0)) p.items
  pub rows : GridAt (OfMerge p.lent.rows p.lent.row_count) p.items
  pub commands : List PathCommand
  pub made : Made commands
  pub codes_are : p.lent.codes ≡ codes_of commands
  pub numbers_are : p.numbers ≡ numbers_of commands
  pub scale_x : p.repeater.scale.x ≡ hundred32
  pub scale_y : p.repeater.scale.y ≡ hundred32
  pub no_rotation : eq p.repeater.rotation zero32 ≡ true
  pub position_x : OnGrid p.repeater.position.x
  pub position_y : OnGrid p.repeater.position.y
  pub anchor_x : OnGrid p.repeater.anchor.x
  pub anchor_y : OnGrid p.repeater.anchor.y

-- What is asked of the length that is to be reached, for the call about it alone: it is an f32, as whatever is handed to the call is, and where it is a
-- length its multiple in the enlarged plate is finite.
pub record LengthAsked (p p' : Plate) : Type 0 where
  pub single : fits binary32 p.least ≡ true
  pub multiple : is_length p.least ≡ true → finite p'.least ≡ true

-- ---- enlarging

-- x times 2 ^ k, by the multiplication of IEEE 754
abbrev pub times : ℕ → Float → Float
times k x = mul binary32 x (fin false 1 (pos k))

-- the repeater with its position and its anchor multiplied
unfoldable pub enlarged_repeater : ℕ → RepeaterStyle → RepeaterStyle
enlarged_repeater k r = record {
  copies = r.copies;
  offset = r.offset;
  mode = r.mode;
  anchor = record { x = times k r.anchor.x; y = times k r.anchor.y };
  position = record { x = times k r.position.x; y = times k r.position.y };
  scale = r.scale;
  rotation = r.rotation;
  start_opacity = r.start_opacity;
  end_opacity = r.end_opacity;
}

-- a list of the same length whose numbers at these places are multiplied; the others may be anything
pub record MultipliedAt (k : ℕ) (read : ℕ → Type 0) (v v' : List Float) : Type 0 where
  pub same_length : length v' ≡ length v
  pub multiplied : (i : ℕ) → read i → i < length v → get_or v' i nan ≡ times k (get_or v i nan)

-- p' is p enlarged 2 ^ k times
pub record Enlarged (k : ℕ) (p p' : Plate) : Type 0 where
  pub lent : p'.lent ≡ p.lent
  pub vertices : MultipliedAt k (OfVertices p.lent.count) p.vertices p'.vertices
  pub row : MultipliedAt k (OfRow (item_row p.lent.row 0)) p.items p'.items
  pub rows : MultipliedAt k (OfMerge p.lent.rows p.lent.row_count) p.items p'.items
  pub numbers : p'.numbers ≡ map (times k) p.numbers
  pub least : p'.least ≡ times k p.least
  pub repeater : p'.repeater ≡ enlarged_repeater k p.repeater

-- the plate with every number of its lists multiplied, read or not, and the length that is asked for
unfoldable pub enlarge : ℕ → Plate → Plate
unfolding enlarged_repeater
enlarge k p = record {
  lent = p.lent;
  vertices = map (times k) p.vertices;
  items = map (times k) p.items;
  numbers = map (times k) p.numbers;
  least = times k p.least;
  repeater = enlarged_repeater k p.repeater;
}
