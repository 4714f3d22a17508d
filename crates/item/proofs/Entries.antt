-- How many numbers a row of each kind has in the item list. Assumes nothing.
use mathlib.Core.Path.{◌≡◌}
use mathlib.Core.Bool.{true, false}
use Prim.Native.Nat.{◌*◌}
use Rattle.item.specs.declared.ItemRow.{ItemRow}
use Rattle.item.specs.Rows.{is_path, is_rect, is_ellipse, entries_of}

pub entries_path : (row : ItemRow) → is_path row ≡ true → entries_of row ≡ 6 * row.count
unfolding entries_of
entries_path row a = rw a

pub entries_rect : (row : ItemRow) → is_path row ≡ false → is_rect row ≡ true → entries_of row ≡ 5
unfolding entries_of
entries_rect row a b = rw (a, b)

pub entries_ellipse : (row : ItemRow) → is_path row ≡ false → is_rect row ≡ false → is_ellipse row ≡ true → entries_of row ≡ 4
unfolding entries_of
entries_ellipse row a b c = rw (a, b, c)
