-- The merge rule on flat rows is the one on nested items.
--     entries_are       the items at the top of rows are the rows at depth 0, each with whether its children are empty
--     late_are          the flag carried along the rows tells what may follow the merge row
--     no_scan, scanned  what a scan of the rows says of the items
--     ruling_flat       so the rule on items is the rule on rows
-- Assumes nothing.
use Rattle.std.specs.Prelude.{Option, None, Some, Ok, Err}
use mathlib.Core.Path.{◌≡◌, refl, sym, ap, ap₂, ◌∙◌}
use mathlib.Core.Bool.{Bool, true, false, cond, not, ◌&&◌, ◌||◌, true≢false, and-true, and-false, and-eq-true_iff}
use mathlib.Core.List.{List, [], ◌∷◌}
use Prim.Native.Nat.{ℕ, zero, suc, ◌+◌, ◌<◌, ◌≤◌}
use native.Mathlib.Omega.{arith}
use lib.Dec.{leb, eqb}
use lib.ListN.{length, take, drop}
use borrow.Author.Tests.{le-ltb}
use Rattle.command.specs.declared.Refusal.{Refusal}
use Rattle.command.specs.declared.Refusal.TheVariants.{NotMergeable}
use Rattle.command.specs.Outcomes.{Outcome, ◌gives◌, checked}
use Rattle.item.specs.declared.Kind.{Kind}
use Rattle.item.specs.declared.Kind.TheVariants.{Group, Transform, Merge}
use Rattle.item.specs.declared.ItemRow.{ItemRow}
use Rattle.item.specs.Kinds.{is_style_kind}
use Rattle.item.specs.Rows.{item_row, is_visible, is_source, is_group, is_transform, is_style, is_merge}
use Rattle.nest.specs.Lists.{rows_from}
use Rattle.nest.specs.Items.{more, items_at, items_of}
use Rattle.nest.specs.Flat.{children_empty, group_empty}
use Rattle.nest.proofs.Items.{children_are}
use Rattle.merge.specs.Rule.{Entry, entries, is_merge_entry, is_union, is_source_entry, no_new_sources, may_precede, may_follow}
use Rattle.merge.specs.Rule.{found, before, up_to, after, early, late, sources, joins}
use Rattle.merge.specs.Flat.{is_top, is_union_row, is_source_row, sources_from, precedes, scan_from, follows, clean_after, late_from}
use Rattle.merge.specs.Decision.{ruling}

-- ---- the items at the top

-- the row r, which is row i, with the rows after it
abbrev entry_at : ℕ → ItemRow → List ItemRow → Entry
entry_at i r rs = record { number = i; row = r; empty = children_empty r.depth rs }

-- the rows at depth 0, of rows that start at row i
unfoldable top_entries : ℕ → List ItemRow → List Entry
top_entries i [] = []
top_entries i (r ∷ rs) = cond (eqb r.depth 0) (entry_at i r rs ∷ top_entries (i + 1) rs) (top_entries (i + 1) rs)

entries_are : (rs : List ItemRow) (i : ℕ) → entries (items_at 0 i rs) ≡ top_entries i rs
unfolding entries items_at top_entries
entries_are [] i = refl
entries_are (r ∷ rs) i = rw (le-ltb r.depth 0 (omega arith)) (go (eqb r.depth 0) (entries_are rs (i + 1)))
  where
    go : (b : Bool) → entries (items_at 0 (i + 1) rs) ≡ top_entries (i + 1) rs
        → entries (cond b (more i r (items_at (r.depth + 1) (i + 1) rs) (items_at 0 (i + 1) rs)) (items_at 0 (i + 1) rs))
        ≡ cond b (entry_at i r rs ∷ top_entries (i + 1) rs) (top_entries (i + 1) rs)
    go true e = ap₂ (λ (b : Bool) (es : List Entry). (record { number = i; row = r; empty = b }) ∷ es) (sym (children_are rs r.depth (i + 1))) e
    go false e = e

-- ---- a row at depth 0 is to the rule what its item is

top_is : (r : ItemRow) → eqb r.depth 0 ≡ true → is_top r ≡ is_visible r
top_is r h = ap (λ (b : Bool). is_visible r && b) h ∙ and-true (is_visible r)

below_is : (r : ItemRow) → eqb r.depth 0 ≡ false → is_top r ≡ false
below_is r h = ap (λ (b : Bool). is_visible r && b) h ∙ and-false (is_visible r)

module _ (i : ℕ) (r : ItemRow) (rs : List ItemRow) (h : eqb r.depth 0 ≡ true) where
  union_top : is_union_row r ≡ is_union (entry_at i r rs)
  union_top = ap (λ (b : Bool). b && is_merge r && eqb r.mark 1) (top_is r h)

  source_top : is_source_row r ≡ is_source_entry (entry_at i r rs)
  source_top = ap (λ (b : Bool). b && is_source r) (top_is r h)

  precedes_top : precedes r rs ≡ may_precede (entry_at i r rs)
  unfolding precedes group_empty
  precedes_top =
      ap (λ (b : Bool). not b || is_source r || is_transform r || (is_group r && children_empty r.depth rs)) (top_is r h)
      ∙ turn (is_visible r) (is_source r) (is_transform r) (is_group r && children_empty r.depth rs)
    where
      turn : (v a b c : Bool) → (not v || a || b || c) ≡ (not v || b || c || (v && a))
      turn false a b c = refl
      turn true true true c = refl
      turn true true false true = refl
      turn true false true c = refl
      turn true false false true = refl
      turn true true false false = refl
      turn true false false false = refl

  follows_top : (back : List Entry) → follows (no_new_sources back) r ≡ may_follow back (entry_at i r rs)
  follows_top back = ap (λ (b : Bool). not b || is_transform r || is_style r || (is_merge r && no_new_sources back)) (top_is r h)

-- ---- what may follow the merge row

-- a group at depth 0 that is visible may not follow
group_stops : (r : ItemRow) (clean : Bool) → is_visible r ≡ true → is_group r ≡ true
    → (not (is_visible r) || is_transform r || is_style r || (is_merge r && clean)) ≡ false
group_stops r clean v g = rw v (go r.kind g)
  where
    go : (k : Kind) → elim k [ Group ↦ true | _ ↦ false ] ≡ true
        → (elim k [ Transform ↦ true | _ ↦ false ] || is_style_kind k || (elim k [ Merge ↦ true | _ ↦ false ] && clean)) ≡ false
    go Group e = refl
    go _ e = cc

-- so the flag after a row that may follow is what the rule says of the items up to it
clean_top : (i : ℕ) (r : ItemRow) (rs : List ItemRow) (back : List Entry) → eqb r.depth 0 ≡ true → may_follow back (entry_at i r rs) ≡ true
    → clean_after (no_new_sources back) r ≡ no_new_sources (entry_at i r rs ∷ back)
unfolding no_new_sources
clean_top i r rs back h f =
    rw (top_is r h) (go (is_visible r) (is_merge r) (is_transform r) (is_group r) (children_empty r.depth rs) (no_new_sources back) no_group)
  where
    no_group : is_visible r ≡ true → is_group r ≡ true → ⊥
    no_group v g = true≢false (sym f ∙ group_stops r (no_new_sources back) v g)

    go : (v m t g e clean : Bool) → (v ≡ true → g ≡ true → ⊥) → cond v (m || (t && clean)) clean ≡ ((v && m) || ((not v || t || (g && e)) && clean))
    go false m t g e clean x = refl
    go true true t g e clean x = refl
    go true false true g e clean x = refl
    go true false false true e clean x = absurd (x refl refl)
    go true false false false e clean x = refl

late_top : (i : ℕ) (r : ItemRow) (rs : List ItemRow) (back : List Entry) (b : Bool) → eqb r.depth 0 ≡ b
    → ((back' : List Entry) → late_from (no_new_sources back') rs ≡ late back' (top_entries (i + 1) rs))
    → late_from (no_new_sources back) (r ∷ rs) ≡ late back (cond b (entry_at i r rs ∷ top_entries (i + 1) rs) (top_entries (i + 1) rs))
unfolding late_from late
late_top i r rs back false h ih = rw (below_is r h) (ih back)
late_top i r rs back true h ih = rw (follows_top i r rs h back) (go (may_follow back (entry_at i r rs)) refl)
  where
    go : (f : Bool) → may_follow back (entry_at i r rs) ≡ f
        → (f && late_from (clean_after (no_new_sources back) r) rs) ≡ (f && late (entry_at i r rs ∷ back) (top_entries (i + 1) rs))
    go false e = refl
    go true e = ap (λ (b : Bool). late_from b rs) (clean_top i r rs back h e) ∙ ih (entry_at i r rs ∷ back)

late_are : (rs : List ItemRow) (i : ℕ) (back : List Entry) → late_from (no_new_sources back) rs ≡ late back (top_entries i rs)
unfolding late_from late top_entries
late_are [] i back = refl
late_are (r ∷ rs) i back = late_top i r rs back (eqb r.depth 0) refl (late_are rs (i + 1))

-- ---- what a scan says

-- a scan at a row at depth 0 and at a deeper one
scan_top : (i k : ℕ) (r : ItemRow) (rs : List ItemRow) → eqb r.depth 0 ≡ true
    → scan_from i k (r ∷ rs)
    ≡ cond (is_union (entry_at i r rs)) (Some (i, k))
    (cond (may_precede (entry_at i r rs)) (scan_from (i + 1) (k + cond (is_source_entry (entry_at i r rs)) 1 0) rs) None)
unfolding scan_from
scan_top i k r rs h =
    λ j. cond (union_top i r rs h j) (Some (i, k)) (cond (precedes_top i r rs h j) (scan_from (i + 1) (k + cond (source_top i r rs h j) 1 0) rs) None)

scan_below : (i k : ℕ) (r : ItemRow) (rs : List ItemRow) → eqb r.depth 0 ≡ false → scan_from i k (r ∷ rs) ≡ scan_from (i + 1) (k + 0) rs
unfolding scan_from precedes
scan_below i k r rs h =
    λ j. cond (below_is r h j && is_merge r && eqb r.mark 1) (Some (i, k))
    (cond (not (below_is r h j) || is_source r || is_transform r || group_empty r rs) (scan_from (i + 1) (k + cond (below_is r h j && is_source r) 1 0) rs) None)

at_nowhere : {A : Type 0} {m c : ℕ} → ◌≡◌ {A = Option (ℕ × ℕ)} (Some (m, c)) None → A
at_nowhere e = let z : ◌≡◌ {A = ℕ} 0 1 = cc in absurd (omega arith)

nowhere_at : {A : Type 0} {m c : ℕ} → ◌≡◌ {A = Option (ℕ × ℕ)} None (Some (m, c)) → A
nowhere_at e = let z : ◌≡◌ {A = ℕ} 0 1 = cc in absurd (omega arith)

-- no merge item that stands after such items as may stand before it
none_step : (e : Entry) (es : List Entry) (i k : ℕ) (s : Option (ℕ × ℕ)) (u p : Bool) → is_union e ≡ u → may_precede e ≡ p → cond u (Some (i, k)) (cond p s None) ≡ None
    → (s ≡ None → (found es && early (before es)) ≡ false) → (found (e ∷ es) && early (before (e ∷ es))) ≡ false
unfolding found early before
none_step e es i k s true p U P h ih = at_nowhere h
none_step e es i k s false true U P h ih = rw (U, P) (ih h)
none_step e es i k s false false U P h ih = rw (U, P) (and-false (found es))

none_top : (i k : ℕ) (r : ItemRow) (rs : List ItemRow) (b : Bool) → eqb r.depth 0 ≡ b → scan_from i k (r ∷ rs) ≡ None
    → ((k' : ℕ) → scan_from (i + 1) k' rs ≡ None → (found (top_entries (i + 1) rs) && early (before (top_entries (i + 1) rs))) ≡ false)
    → let es = cond b (entry_at i r rs ∷ top_entries (i + 1) rs) (top_entries (i + 1) rs) in (found es && early (before es)) ≡ false
none_top i k r rs false h e ih = ih (k + 0) (sym (scan_below i k r rs h) ∙ e)
none_top i k r rs true h e ih =
    none_step (entry_at i r rs) (top_entries (i + 1) rs) i k (scan_from (i + 1) (k + cond (is_source_entry (entry_at i r rs)) 1 0) rs)
    (is_union (entry_at i r rs)) (may_precede (entry_at i r rs)) refl refl (sym (scan_top i k r rs h) ∙ e) (ih (k + cond (is_source_entry (entry_at i r rs)) 1 0))

no_scan : (rs : List ItemRow) (i k : ℕ) → scan_from i k rs ≡ None → (found (top_entries i rs) && early (before (top_entries i rs))) ≡ false
unfolding top_entries found
no_scan [] i k e = refl
no_scan (r ∷ rs) i k e = none_top i k r rs (eqb r.depth 0) refl e (no_scan rs (i + 1))

-- a scan of rows that start at row i, with k sources before them, ends at row m with c sources before it
record Scanned (i k m c : ℕ) (rs : List ItemRow) (es : List Entry) : Type 0 where
  place : ℕ
  row : m ≡ i + place
  inside : place < length rs
  is_found : found es ≡ true
  is_early : early (before es) ≡ true
  many : c ≡ k + length (sources (before es))
  named : sources (before es) ≡ sources_from i (take place rs)
  rest : after es ≡ top_entries (m + 1) (drop (suc place) rs)
  clean : (back : List Entry) → no_new_sources (up_to back es) ≡ true

-- the row r is the merge row
stop : (i k m c : ℕ) (r : ItemRow) (rs : List ItemRow) → is_union (entry_at i r rs) ≡ true → ◌≡◌ {A = Option (ℕ × ℕ)} (Some (i, k)) (Some (m, c))
    → Scanned i k m c (r ∷ rs) (entry_at i r rs ∷ top_entries (i + 1) rs)
unfolding found early before after sources sources_from no_new_sources up_to
stop i k m c r rs U e =
    let t : ◌≡◌ {A = ℕ × ℕ} (i, k) (m, c) = cc in
    let p : i ≡ m = ap (λ (x : ℕ × ℕ). x.0) t in
    let q : k ≡ c = ap (λ (x : ℕ × ℕ). x.1) t in
    record {
      place = 0;
      row = omega arith;
      inside = omega arith;
      is_found = rw U;
      is_early = rw U;
      many = rw (U, q) (omega arith);
      named = rw U;
      rest = rw (U, p);
      clean = λ back. rw (U, ((and-eq-true_iff (is_merge_entry (entry_at i r rs)) (eqb r.mark 1)).0 U).0);
    }

-- the row r stands before the merge row
pass : (i k m c : ℕ) (r : ItemRow) (rs : List ItemRow) → eqb r.depth 0 ≡ true → is_union (entry_at i r rs) ≡ false → may_precede (entry_at i r rs) ≡ true
    → Scanned (i + 1) (k + cond (is_source_entry (entry_at i r rs)) 1 0) m c rs (top_entries (i + 1) rs)
    → Scanned i k m c (r ∷ rs) (entry_at i r rs ∷ top_entries (i + 1) rs)
unfolding found early before after sources sources_from no_new_sources up_to
pass i k m c r rs h U P s = record {
  place = suc s.place;
  row = omega arith;
  inside = omega arith;
  is_found = rw U s.is_found;
  is_early = rw (U, P) s.is_early;
  many = rw U (s.many ∙ count (is_source_entry (entry_at i r rs)) (sources (before (top_entries (i + 1) rs))));
  named = rw (U, source_top i r rs h, ← s.named);
  rest = rw U s.rest;
  clean = λ back. rw U (s.clean (entry_at i r rs ∷ back));
}
  where
    count : (b : Bool) (l : List ℕ) → k + cond b 1 0 + length l ≡ k + length (cond b (i ∷ l) l)
    count true l = omega arith
    count false l = omega arith

-- the row r is no item at the top
skip : (i k m c : ℕ) (r : ItemRow) (rs : List ItemRow) (es : List Entry) → eqb r.depth 0 ≡ false → Scanned (i + 1) (k + 0) m c rs es
    → Scanned i k m c (r ∷ rs) es
unfolding sources_from
skip i k m c r rs es h s = record {
  place = suc s.place;
  row = omega arith;
  inside = omega arith;
  is_found = s.is_found;
  is_early = s.is_early;
  many = omega arith;
  named = rw (below_is r h) s.named;
  rest = s.rest;
  clean = s.clean;
}

scan_step : (i k m c : ℕ) (r : ItemRow) (rs : List ItemRow) (u p : Bool)
    → eqb r.depth 0 ≡ true → is_union (entry_at i r rs) ≡ u → may_precede (entry_at i r rs) ≡ p
    → cond u (Some (i, k)) (cond p (scan_from (i + 1) (k + cond (is_source_entry (entry_at i r rs)) 1 0) rs) None) ≡ Some (m, c)
    → ((k' : ℕ) → scan_from (i + 1) k' rs ≡ Some (m, c) → Scanned (i + 1) k' m c rs (top_entries (i + 1) rs))
    → Scanned i k m c (r ∷ rs) (entry_at i r rs ∷ top_entries (i + 1) rs)
scan_step i k m c r rs true p h U P e ih = stop i k m c r rs U e
scan_step i k m c r rs false true h U P e ih = pass i k m c r rs h U P (ih (k + cond (is_source_entry (entry_at i r rs)) 1 0) e)
scan_step i k m c r rs false false h U P e ih = nowhere_at e

scanned_top : (i k m c : ℕ) (r : ItemRow) (rs : List ItemRow) (b : Bool) → eqb r.depth 0 ≡ b → scan_from i k (r ∷ rs) ≡ Some (m, c)
    → ((k' : ℕ) → scan_from (i + 1) k' rs ≡ Some (m, c) → Scanned (i + 1) k' m c rs (top_entries (i + 1) rs))
    → Scanned i k m c (r ∷ rs) (cond b (entry_at i r rs ∷ top_entries (i + 1) rs) (top_entries (i + 1) rs))
scanned_top i k m c r rs false h e ih = skip i k m c r rs (top_entries (i + 1) rs) h (ih (k + 0) (sym (scan_below i k r rs h) ∙ e))
scanned_top i k m c r rs true h e ih =
    scan_step i k m c r rs (is_union (entry_at i r rs)) (may_precede (entry_at i r rs)) h refl refl (sym (scan_top i k r rs h) ∙ e) ih

scanned : (rs : List ItemRow) (i k m c : ℕ) → scan_from i k rs ≡ Some (m, c) → Scanned i k m c rs (top_entries i rs)
unfolding scan_from top_entries
scanned [] i k m c e = nowhere_at e
scanned (r ∷ rs) i k m c e = scanned_top i k m c r rs (eqb r.depth 0) refl e (λ k' e'. scanned rs (i + 1) k' m c e')

-- ---- the rule

-- what the code makes of a scan
unfoldable pub settled : Option (ℕ × ℕ) → List ItemRow → Outcome (List ℕ)
settled None rs = Err NotMergeable
settled (Some (m, c)) rs = cond (leb 2 c && late_from true (drop (m + 1) rs)) (Ok (sources_from 0 (take m rs))) (Err NotMergeable)

unfoldable pub flat_ruling : List ItemRow → Outcome (List ℕ)
unfolding settled
flat_ruling rs = settled (scan_from 0 0 rs) rs

unfoldable entry_ruling : List Entry → Outcome (List ℕ)
unfolding joins sources before
entry_ruling es = checked ((not (joins es) gives NotMergeable) ∷ []) (Ok (sources (before es)))

-- a check that something does not hold
not_holds : (b : Bool) (r : Refusal) (o : Outcome (List ℕ)) → checked ((not b gives r) ∷ []) o ≡ cond b o (Err r)
not_holds true r o = refl
not_holds false r o = refl

entries_settled : (rs : List ItemRow) (s : Option (ℕ × ℕ)) → scan_from 0 0 rs ≡ s → entry_ruling (top_entries 0 rs) ≡ settled s rs
unfolding entry_ruling settled joins
entries_settled rs None e = rw (no_scan rs 0 0 e)
entries_settled rs (Some (m, c)) e =
    let s = scanned rs 0 0 m c e in
    let p : s.place ≡ m = omega arith in
    let q : suc s.place ≡ m + 1 = omega arith in
    let many : length (sources (before (top_entries 0 rs))) ≡ c = omega arith in
    rw (s.is_found, s.is_early, many, s.rest, ← late_are (drop (suc s.place) rs) (m + 1) (up_to [] (top_entries 0 rs)), s.clean [], q, s.named, p)
    (not_holds (leb 2 c && late_from true (drop (m + 1) rs)) NotMergeable (Ok (sources_from 0 (take m rs))))

-- the rule on items is the rule on rows
pub ruling_flat : (rows : List ℕ) (n : ℕ) → ruling rows n ≡ flat_ruling (rows_from rows 0 n)
unfolding ruling flat_ruling items_of entry_ruling
ruling_flat rows n = ap entry_ruling (entries_are (rows_from rows 0 n) 0) ∙ entries_settled (rows_from rows 0 n) (scan_from 0 0 (rows_from rows 0 n)) refl

-- ---- rows of a list

pub length_rows : (rows : List ℕ) (i left : ℕ) → length (rows_from rows i left) ≡ left
unfolding rows_from
length_rows rows i zero = refl
length_rows rows i (suc left) = ap suc (length_rows rows (i + 1) left)

pub take_rows : (rows : List ℕ) (j i left : ℕ) → j ≤ left → take j (rows_from rows i left) ≡ rows_from rows i j
unfolding rows_from
take_rows rows zero i left h = refl
take_rows rows (suc j) i zero h = absurd (omega arith)
take_rows rows (suc j) i (suc left) h = ap (λ (rs : List ItemRow). item_row rows i ∷ rs) (take_rows rows j (i + 1) left (omega arith))

pub scan_inside : (rs : List ItemRow) (m c : ℕ) → scan_from 0 0 rs ≡ Some (m, c) → m < length rs
scan_inside rs m c e = let s = scanned rs 0 0 m c e in omega arith
