-- Flat rows and the nested items that they stand for.
--     children_are   empty groups decided on rows are those of the rule on items
--     whole          nested rows read as items lose no row and keep their order
-- Assumes nothing.
use mathlib.Core.Path.{◌≡◌, refl, ap, ap₂, ◌∙◌}
use mathlib.Core.Bool.{Bool, true, false, cond, not, ◌&&◌, ◌||◌}
use mathlib.Core.List.{List, [], ◌∷◌, ◌++◌}
use Prim.Native.Nat.{ℕ, ◌+◌, ◌<◌, ◌≤◌}
use native.Mathlib.Omega.{arith}
use lib.Dec.{leb, ltb, eqb}
use borrow.Author.Tests.{le-ltb, lt-ltb, leb-true, leb-false, ltb-true, ltb-false, eqb-true, eqb-false}
use Rattle.item.specs.declared.ItemRow.{ItemRow}
use Rattle.item.specs.Rows.{is_visible, is_group, is_transform}
use Rattle.nest.specs.Lists.{deepest_after, is_nested}
use Rattle.nest.specs.Items.{Items, none, more, items_at, rows_of, all_empty}
use Rattle.nest.specs.Flat.{children_empty}
use Rattle.nest.proofs.Lists.{nested_first, nested_rest}

-- ---- empty groups

not_deeper : (d g : ℕ) → ltb d (g + 1) ≡ leb d g
not_deeper d g = go (leb d g) refl
  where
    go : (b : Bool) → leb d g ≡ b → ltb d (g + 1) ≡ b
    go true e = let h : d ≤ g = leb-true d g e in lt-ltb d (g + 1) (omega arith)
    go false e = let h : g < d = leb-false d g e in le-ltb d (g + 1) (omega arith)

-- a child that is visible, a tr or a group, of which x says whether its children are empty and y whether the later ones are
child : (visible transform group x y : Bool)
    → cond (visible && not transform) (group && x && y) y ≡ ((not visible || transform || (group && x)) && y)
child true true group x y = refl
child true false group x y = refl
child false transform group x y = refl

-- a row, by whether it ends the list and whether it is a child
row_are : (i : ℕ) (r : ItemRow) (children rest : Items) (x y : Bool) → x ≡ all_empty children → y ≡ all_empty rest → (ends is_child : Bool)
    → cond ends true (cond (is_child && is_visible r && not (is_transform r)) (is_group r && x && y) y)
    ≡ all_empty (cond ends none (cond is_child (more i r children rest) rest))
unfolding all_empty
row_are i r children rest x y e f true is_child = refl
row_are i r children rest x y e f false true =
    child (is_visible r) (is_transform r) (is_group r) x y
    ∙ ap₂ (λ (a b : Bool). (not (is_visible r) || is_transform r || (is_group r && a)) && b) e f
row_are i r children rest x y e f false false = f

pub children_are : (rs : List ItemRow) (g i : ℕ) → children_empty g rs ≡ all_empty (items_at (g + 1) i rs)
unfolding children_empty items_at all_empty
children_are [] g i = refl
children_are (r ∷ rs) g i =
    rw (not_deeper r.depth g)
    (row_are i r (items_at (r.depth + 1) (i + 1) rs) (items_at (g + 1) (i + 1) rs) (children_empty r.depth rs) (children_empty g rs)
    (children_are rs r.depth (i + 1))
    (children_are rs g (i + 1))
    (leb r.depth g)
    (eqb r.depth (g + 1)))

-- ---- nothing is lost

-- the rows before the first that is less deep than d, and the rows from it on
inner : ℕ → List ItemRow → List ItemRow
inner d [] = []
inner d (r ∷ rs) = cond (ltb r.depth d) [] (r ∷ inner d rs)

outer : ℕ → List ItemRow → List ItemRow
outer d [] = []
outer d (r ∷ rs) = cond (ltb r.depth d) (r ∷ rs) (outer d rs)

after_le : (r : ItemRow) → deepest_after r ≤ r.depth + 1
after_le r = go (is_group r)
  where
    go : (b : Bool) → cond b (r.depth + 1) r.depth ≤ r.depth + 1
    go true = omega arith
    go false = omega arith

-- nested rows do not start deeper than they may
outer_all : (m d : ℕ) (rs : List ItemRow) → is_nested m rs ≡ true → m < d → outer d rs ≡ rs
unfolding outer
outer_all m d [] e h = refl
outer_all m d (r ∷ rs) e h =
    let k : r.depth ≤ m = nested_first m r rs e in
    rw (lt-ltb r.depth d (omega arith))

inner_all : (rs : List ItemRow) → inner 0 rs ≡ rs
unfolding inner
inner_all [] = refl
inner_all (r ∷ rs) = rw (le-ltb r.depth 0 (omega arith)) (ap (λ (l : List ItemRow). r ∷ l) (inner_all rs))

-- what is inside d + 1, then what follows it inside d, is what is inside d
inner_joined : (d : ℕ) (rs : List ItemRow) → inner (d + 1) rs ++ inner d (outer (d + 1) rs) ≡ inner d rs
unfolding inner outer
inner_joined d [] = refl
inner_joined d (r ∷ rs) = go (ltb r.depth (d + 1)) (ltb r.depth d) refl refl (inner_joined d rs)
  where
    go : (a b : Bool) → ltb r.depth (d + 1) ≡ a → ltb r.depth d ≡ b → inner (d + 1) rs ++ inner d (outer (d + 1) rs) ≡ inner d rs
        → cond a [] (r ∷ inner (d + 1) rs) ++ inner d (cond a (r ∷ rs) (outer (d + 1) rs)) ≡ cond b [] (r ∷ inner d rs)
    go true b e f rest = rw f
    go false true e f rest =
        let x : d + 1 ≤ r.depth = ltb-false r.depth (d + 1) e in
        let y : r.depth < d = ltb-true r.depth d f in
        absurd (omega arith)
    go false false e f rest = ap (λ (l : List ItemRow). r ∷ l) rest

-- row r among the items at depth d, by how its own depth stands to d
row_kept : (d i : ℕ) (r : ItemRow) (rs : List ItemRow) (a b : Bool) → ltb r.depth d ≡ a → eqb r.depth d ≡ b
    → rows_of (items_at (r.depth + 1) (i + 1) rs) ≡ inner (r.depth + 1) rs
    → rows_of (items_at d (i + 1) rs) ≡ inner d (outer (d + 1) rs)
    → rows_of (cond a none (cond b (more i r (items_at (r.depth + 1) (i + 1) rs) (items_at d (i + 1) rs)) (items_at d (i + 1) rs))) ≡ inner d (outer (d + 1) (r ∷ rs))
unfolding inner outer rows_of
row_kept d i r rs true b e f children rest =
    let x : r.depth < d = ltb-true r.depth d e in
    rw (lt-ltb r.depth (d + 1) (omega arith), e)
row_kept d i r rs false true e f children rest =
    let x : r.depth ≡ d = eqb-true r.depth d f in
    rw (lt-ltb r.depth (d + 1) (omega arith), e)
    (ap (λ (l : List ItemRow). r ∷ l) (ap₂ ◌++◌ (children ∙ ap (λ (k : ℕ). inner (k + 1) rs) x) rest ∙ inner_joined d rs))
row_kept d i r rs false false e f children rest =
    let x : d ≤ r.depth = ltb-false r.depth d e in
    let y : r.depth ≡ d → ⊥ = eqb-false r.depth d f in
    rw (le-ltb r.depth (d + 1) (omega arith)) rest

items_kept : (rs : List ItemRow) (m d i : ℕ) → is_nested m rs ≡ true → rows_of (items_at d i rs) ≡ inner d (outer (d + 1) rs)
unfolding items_at rows_of inner outer
items_kept [] m d i e = refl
items_kept (r ∷ rs) m d i e =
    let t : is_nested (deepest_after r) rs ≡ true = nested_rest m r rs e in
    let l : deepest_after r ≤ r.depth + 1 = after_le r in
    row_kept d i r rs (ltb r.depth d) (eqb r.depth d) refl refl
    (items_kept rs (deepest_after r) (r.depth + 1) (i + 1) t ∙ ap (inner (r.depth + 1)) (outer_all (deepest_after r) (r.depth + 1 + 1) rs t (omega arith)))
    (items_kept rs (deepest_after r) d (i + 1) t)

pub whole : (rs : List ItemRow) (i : ℕ) → is_nested 0 rs ≡ true → rows_of (items_at 0 i rs) ≡ rs
whole rs i e = items_kept rs 0 0 i e ∙ ap (inner 0) (outer_all 0 (0 + 1) rs e (omega arith)) ∙ inner_all rs
