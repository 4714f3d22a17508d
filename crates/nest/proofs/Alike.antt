-- Two lists of rows that agree on what a merge decides by: kinds, hidden flags and depths, and marks where the rows are visible. They are nested, shallow and empty alike.
-- Assumes nothing.
use mathlib.Core.Path.{◌≡◌, refl}
use mathlib.Core.Bool.{true}
use mathlib.Core.List.{List, [], ◌∷◌}
use Prim.Native.Nat.{ℕ}
use Rattle.std.specs.List.{list_all}
use Rattle.item.specs.declared.ItemRow.{ItemRow}
use Rattle.item.specs.Rows.{is_visible}
use Rattle.nest.specs.Lists.{is_shallow, deepest_after, is_nested}
use Rattle.nest.specs.Flat.{children_empty, group_empty}

pub record Same (r q : ItemRow) : Type 0 where
  pub kind : r.kind ≡ q.kind
  pub hidden : r.hidden ≡ q.hidden
  pub depth : r.depth ≡ q.depth
  pub mark : is_visible r ≡ true → r.mark ≡ q.mark

pub data Alike : List ItemRow → List ItemRow → Type 0 where
  ends : Alike [] []
  goes : {r q : ItemRow} {rs qs : List ItemRow} → Same r q → Alike rs qs → Alike (r ∷ rs) (q ∷ qs)

pub children_alike : {rs qs : List ItemRow} (g : ℕ) → Alike rs qs → children_empty g rs ≡ children_empty g qs
unfolding children_empty
children_alike g ends = refl
children_alike g (goes {r} {q} {rs} {qs} s a) =
    rw (s.kind, s.hidden, s.depth, children_alike g a, children_alike q.depth a)

pub group_alike : {r q : ItemRow} {rs qs : List ItemRow} → Same r q → Alike rs qs → group_empty r rs ≡ group_empty q qs
unfolding group_empty
group_alike {r} {q} s a = rw (s.kind, s.depth, children_alike q.depth a)

pub nested_alike : {rs qs : List ItemRow} (m : ℕ) → Alike rs qs → is_nested m rs ≡ is_nested m qs
unfolding is_nested
nested_alike m ends = refl
nested_alike m (goes {r} {q} {rs} {qs} s a) = rw (s.kind, s.depth, nested_alike (deepest_after q) a)

pub shallow_alike : {rs qs : List ItemRow} → Alike rs qs → list_all is_shallow rs ≡ list_all is_shallow qs
shallow_alike ends = refl
shallow_alike (goes {r} {q} {rs} {qs} s a) = rw (s.depth, shallow_alike a)
