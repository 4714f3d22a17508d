-- What a decision reads of the rows: kinds, hidden flags and depths, the marks of visible rows, and whether every row is listed.
-- It reads nothing past the row number.
-- So altering a hidden row's place, mark or count within the rules for a row changes no decision.
-- Assumes nothing.
use Rattle.std.specs.Prelude.{Option, None, Some, Ok, Err}
use Rattle.std.specs.List.{list_all}
use mathlib.Core.Path.{◌≡◌, refl, sym, ap, ◌∙◌}
use mathlib.Core.Bool.{Bool, true, false, cond, ◌&&◌}
use mathlib.Core.List.{List, ◌∷◌}
use Prim.Native.Nat.{ℕ, zero, suc, ◌+◌, ◌*◌, ◌<◌, ◌≤◌}
use lib.Dec.{eqb, leb}
use lib.ListN.{length, get_or, take, drop}
use borrow.Author.Tests.{le-ltb}
use Rattle.command.specs.declared.Refusal.TheVariants.{NotMergeable}
use Rattle.item.specs.declared.ItemRow.{ItemRow}
use Rattle.item.specs.Rows.{is_visible, is_listed}
use Rattle.nest.specs.Lists.{rows_from}
use Rattle.nest.proofs.Rows.{rows_read}
use Rattle.nest.proofs.Alike.{Same, Alike, ends, goes, group_alike, nested_alike, shallow_alike}
use Rattle.merge.specs.Flat.{is_union_row, is_source_row, source_count, sources_from, precedes, scan_from, follows, clean_after, late_from}
use Rattle.merge.specs.Decision.{ruling, decision}
use Rattle.merge.proofs.Flat.{settled, flat_ruling, ruling_flat}

-- ---- one row

module _ {r q : ItemRow} (s : Same r q) where
  union_alike : is_union_row r ≡ is_union_row q
  union_alike = go (is_visible r) refl
    where
      go : (b : Bool) → is_visible r ≡ b → is_union_row r ≡ is_union_row q
      go true e = rw (s.kind, s.hidden, s.depth, s.mark e)
      go false e = rw (e, sym (ap (λ (h : ℕ). eqb h 0) s.hidden) ∙ e)

  source_alike : is_source_row r ≡ is_source_row q
  source_alike = rw (s.kind, s.hidden, s.depth)

  follows_alike : (clean : Bool) → follows clean r ≡ follows clean q
  follows_alike clean = rw (s.kind, s.hidden, s.depth)

  clean_alike : (clean : Bool) → clean_after clean r ≡ clean_after clean q
  clean_alike clean = rw (s.kind, s.hidden, s.depth)

  precedes_alike : {rs qs : List ItemRow} → Alike rs qs → precedes r rs ≡ precedes q qs
  unfolding precedes
  precedes_alike a = rw (group_alike s a, s.kind, s.hidden, s.depth)

-- ---- the rule on rows

scan_alike : {rs qs : List ItemRow} (i k : ℕ) → Alike rs qs → scan_from i k rs ≡ scan_from i k qs
unfolding scan_from
scan_alike i k ends = refl
scan_alike i k (goes {r} {q} {rs} {qs} s a) =
    (λ j. cond (union_alike s j) (Some (i, k)) (cond (precedes_alike s a j) (scan_from (i + 1) (k + cond (source_alike s j) 1 0) rs) None))
    ∙ ap (λ (t : Option (ℕ × ℕ)). cond (is_union_row q) (Some (i, k)) (cond (precedes q qs) t None)) (scan_alike (i + 1) (k + source_count q) a)

late_alike : {rs qs : List ItemRow} (clean : Bool) → Alike rs qs → late_from clean rs ≡ late_from clean qs
unfolding late_from
late_alike clean ends = refl
late_alike clean (goes {r} {q} {rs} {qs} s a) =
    (λ j. follows_alike s clean j && late_from (clean_alike s clean j) rs)
    ∙ ap (λ (b : Bool). follows clean q && b) (late_alike (clean_after clean q) a)

sources_alike : {rs qs : List ItemRow} (i : ℕ) → Alike rs qs → sources_from i rs ≡ sources_from i qs
unfolding sources_from
sources_alike i ends = refl
sources_alike i (goes {r} {q} {rs} {qs} s a) =
    λ j. cond (source_alike s j) (i ∷ sources_alike (i + 1) a j) (sources_alike (i + 1) a j)

take_alike : {rs qs : List ItemRow} (m : ℕ) → Alike rs qs → Alike (take m rs) (take m qs)
take_alike zero a = ends
take_alike (suc m) ends = ends
take_alike (suc m) (goes s a) = goes s (take_alike m a)

drop_alike : {rs qs : List ItemRow} (m : ℕ) → Alike rs qs → Alike (drop m rs) (drop m qs)
drop_alike zero a = a
drop_alike (suc m) ends = ends
drop_alike (suc m) (goes s a) = drop_alike m a

settled_alike : {rs qs : List ItemRow} (s : Option (ℕ × ℕ)) → Alike rs qs → settled s rs ≡ settled s qs
unfolding settled
settled_alike None a = refl
settled_alike (Some (m, c)) a =
    λ j. cond (leb 2 c && late_alike true (drop_alike (m + 1) a) j) (Ok (sources_alike 0 (take_alike m a) j)) (Err NotMergeable)

pub flat_alike : {rs qs : List ItemRow} → Alike rs qs → flat_ruling rs ≡ flat_ruling qs
unfolding flat_ruling
flat_alike {rs} {qs} a = ap (λ (s : Option (ℕ × ℕ)). settled s rs) (scan_alike 0 0 a) ∙ settled_alike (scan_from 0 0 qs) a

-- ---- the decision

pub ruling_alike : (rows rows' : List ℕ) (n : ℕ) → Alike (rows_from rows 0 n) (rows_from rows' 0 n) → ruling rows n ≡ ruling rows' n
ruling_alike rows rows' n a = ruling_flat rows n ∙ flat_alike a ∙ sym (ruling_flat rows' n)

pub decision_alike : (rows rows' : List ℕ) (n : ℕ) → length rows ≡ length rows' → Alike (rows_from rows 0 n) (rows_from rows' 0 n)
    → list_all is_listed (rows_from rows 0 n) ≡ list_all is_listed (rows_from rows' 0 n) → decision rows n ≡ decision rows' n
unfolding decision
decision_alike rows rows' n l a listed = rw (l, shallow_alike a, listed, nested_alike 0 a, ruling_alike rows rows' n a)

pub decision_read : (n : ℕ) (rows rows' : List ℕ) → 6 * n ≤ length rows → 6 * n ≤ length rows'
    → ((j : ℕ) → j < 6 * n → get_or rows j 0 ≡ get_or rows' j 0) → decision rows n ≡ decision rows' n
unfolding decision
decision_read n rows rows' l l' same =
    let e : rows_from rows 0 n ≡ rows_from rows' 0 n = rows_read n rows rows' same in
    let f : ruling rows n ≡ ruling rows' n = ruling_flat rows n ∙ ap flat_ruling e ∙ sym (ruling_flat rows' n) in
    rw (le-ltb (length rows) (6 * n) l, le-ltb (length rows') (6 * n) l', f, e)
