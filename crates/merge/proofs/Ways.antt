-- What `decide` comes to where the rows keep every rule before the merge rule.
-- Assumes nothing.
use Rattle.std.specs.Prelude.{Option, None, Some, Ok, Err}
use Rattle.std.specs.List.{list_all}
use mathlib.Core.Path.{◌≡◌, refl, sym, ap, ◌∙◌}
use mathlib.Core.Bool.{Bool, true, false, cond, ◌&&◌}
use mathlib.Core.List.{List}
use Prim.Native.Nat.{ℕ, ◌+◌, ◌*◌, ◌<◌, ◌≤◌}
use native.Mathlib.Omega.{arith}
use lib.Dec.{leb}
use lib.ListN.{length, take, drop}
use borrow.Author.Tests.{ne_eqb, le-ltb}
use Rattle.command.specs.declared.Refusal.TheVariants.{NotMergeable}
use Rattle.command.specs.Outcomes.{Outcome}
use Rattle.item.specs.declared.ItemRow.{ItemRow}
use Rattle.item.specs.Rows.{is_listed}
use Rattle.nest.specs.Lists.{rows_from, is_shallow, is_nested}
use Rattle.merge.specs.Flat.{sources_from, scan_from, late_from, chosen, rows_before}
use Rattle.merge.specs.Decision.{ruling, decision, said, Settled}
use Rattle.merge.proofs.Flat.{settled, flat_ruling, ruling_flat, scan_inside, length_rows, take_rows}

-- ---- what the rule gives of the first n rows is what it says, and they are the first
row_said : (s : Option (ℕ × ℕ)) (rs : List ItemRow) → said (chosen s rs) ≡ settled s rs
unfolding said chosen settled
row_said None rs = refl
row_said (Some (m, c)) rs = go (leb 2 c && late_from true (drop (m + 1) rs))
  where
    go : (b : Bool) → said (cond b (Ok (take m rs)) (Err NotMergeable)) ≡ cond b (Ok (sources_from 0 (take m rs))) (Err NotMergeable)
    go true = refl
    go false = refl

module _ (rows : List ℕ) (n : ℕ) where
  rule_said : said (rows_before (rows_from rows 0 n)) ≡ ruling rows n
  unfolding rows_before flat_ruling
  rule_said = row_said (scan_from 0 0 (rows_from rows 0 n)) (rows_from rows 0 n) ∙ sym (ruling_flat rows n)

  first_settled : n ≤ 256 → 6 * n ≤ length rows → (m : ℕ) → m < n → Settled rows (Ok (take m (rows_from rows 0 n)))
  first_settled few long m h =
      let t : take m (rows_from rows 0 n) ≡ rows_from rows 0 m = take_rows rows m 0 n (omega arith) in
      let l : length (take m (rows_from rows 0 n)) ≡ m = ap length t ∙ length_rows rows 0 m in
      (omega arith, omega arith, t ∙ ap (rows_from rows 0) (sym l))

  row_settled : n ≤ 256 → 6 * n ≤ length rows → (s : Option (ℕ × ℕ)) → scan_from 0 0 (rows_from rows 0 n) ≡ s → Settled rows (chosen s (rows_from rows 0 n))
  unfolding chosen
  row_settled few long None e = tt
  row_settled few long (Some (m, c)) e = go (leb 2 c && late_from true (drop (m + 1) (rows_from rows 0 n)))
    where
      go : (b : Bool) → Settled rows (cond b (Ok (take m (rows_from rows 0 n))) (Err NotMergeable))
      go true = first_settled few long m (omega (arith, scan_inside (rows_from rows 0 n) m c e, length_rows rows 0 n))
      go false = tt

  rule_settled : n ≤ 256 → 6 * n ≤ length rows → Settled rows (rows_before (rows_from rows 0 n))
  unfolding rows_before
  rule_settled few long = row_settled few long (scan_from 0 0 (rows_from rows 0 n)) refl

-- ---- rows that keep the rules before the merge rule
module _ (rows : List ℕ) (n : ℕ) (some : n ≡ 0 → ⊥) (few : n ≤ 256) (long : 6 * n ≤ length rows) (first : List ItemRow) (first_is : first ≡ rows_from rows 0 n) where
  rows_pass : list_all is_shallow first ≡ true → list_all is_listed first ≡ true → is_nested 0 first ≡ true → ruling rows n ≡ decision rows n
  unfolding decision
  rows_pass a b d =
      rw (ne_eqb n 0 some, le-ltb 256 n few, le-ltb (length rows) (6 * n) long, ← first_is, a, b, d)

  pub decided : list_all is_shallow first ≡ true → list_all is_listed first ≡ true → is_nested 0 first ≡ true → (answer : Outcome (List ItemRow)) → answer ≡ rows_before first
      → (said answer ≡ decision rows n) × Settled rows answer
  decided a b d answer answer_is =
      let e : answer ≡ rows_before (rows_from rows 0 n) = answer_is ∙ ap rows_before first_is in
      (ap said e ∙ rule_said rows n ∙ rows_pass a b d, rw e (rule_settled rows n few long))
