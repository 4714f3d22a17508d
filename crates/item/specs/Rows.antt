-- Item rows: six numbers each, lent as one list. The rules of document 01 for a row by itself, and document 02's for an ellipse (U1).
-- Definitions only.
use Rattle.std.specs.Prelude.{ℕ, ◌+◌, ◌*◌, Bool, true, false, cond, ◌&&◌, ◌||◌, List, eqb, leb, get_or}
use Rattle.item.specs.declared.Kind.{Kind}
use Rattle.item.specs.declared.Kind.TheVariants.{Path, Rect, Ellipse, Group, Transform, Merge}
use Rattle.item.specs.declared.ItemRow.{ItemRow}
use Rattle.item.specs.Kinds.{kind_of, is_listed_kind, is_source_kind, is_style_kind}

-- the six entries of the row at place r: kind, hidden, depth, mark, place, count
abbrev pub item_row : List ℕ → ℕ → ItemRow
item_row rows r = record {
  kind = kind_of (get_or rows (6 * r) 0);
  hidden = get_or rows (6 * r + 1) 0;
  depth = get_or rows (6 * r + 2) 0;
  mark = get_or rows (6 * r + 3) 0;
  place = get_or rows (6 * r + 4) 0;
  count = get_or rows (6 * r + 5) 0;
}

-- a row by itself
abbrev pub row_of : List ℕ → ItemRow
row_of entries = item_row entries 0

-- ---- the questions about a row's kind

abbrev pub is_path : ItemRow → Bool
is_path row = elim row.kind [ Path ↦ true | _ ↦ false ]

abbrev pub is_rect : ItemRow → Bool
is_rect row = elim row.kind [ Rect ↦ true | _ ↦ false ]

abbrev pub is_ellipse : ItemRow → Bool
is_ellipse row = elim row.kind [ Ellipse ↦ true | _ ↦ false ]

-- what can be drawn: sh, rc, el, sr
abbrev pub is_source : ItemRow → Bool
is_source row = is_source_kind row.kind

abbrev pub is_group : ItemRow → Bool
is_group row = elim row.kind [ Group ↦ true | _ ↦ false ]

abbrev pub is_transform : ItemRow → Bool
is_transform row = elim row.kind [ Transform ↦ true | _ ↦ false ]

-- what colours or alters a drawing: fl, st, gf, gs, tm, rp
abbrev pub is_style : ItemRow → Bool
is_style row = is_style_kind row.kind

abbrev pub is_merge : ItemRow → Bool
is_merge row = elim row.kind [ Merge ↦ true | _ ↦ false ]

abbrev pub is_visible : ItemRow → Bool
is_visible row = eqb row.hidden 0

-- ---- the rules

-- the marks that a kind may bear: a closed flag for sh, a mode for mm, where 0 is also that of none, else 0
unfoldable pub is_mark : Kind → ℕ → Bool
is_mark Path mark = leb mark 1
is_mark Merge mark = leb mark 255
is_mark _ mark = eqb mark 0

-- A row with listed entries. The count is the vertex number of an sh, else 0; the place may be any.
unfoldable pub is_listed : ItemRow → Bool
unfolding is_mark
is_listed row =
    is_listed_kind row.kind && leb row.hidden 1 && is_mark row.kind row.mark
    && (is_path row || eqb row.count 0)

-- how many numbers a row has in the item list: six a vertex for sh; centre, size and roundness for rc; centre and size for el;
-- a kind that is not drawn has none
unfoldable pub entries_of : ItemRow → ℕ
entries_of row =
    cond (is_path row) (6 * row.count)
    (cond (is_rect row) 5
    (cond (is_ellipse row) 4
    0))
