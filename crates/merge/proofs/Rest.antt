-- What a scan that found the merge row comes to, by the rows after it. Assumes nothing.
use Rattle.std.proofs.Common.{◌≡◌, sym, ap, ◌∙◌, ℕ, ◌+◌, ◌-◌, ◌≤◌, Bool, true, false, cond, Some, Option, Ok, Err, List, map, length, take, drop, arith}
use Rattle.std.proofs.lemmas.List.{drop-map, take-map, take_all, length-drop}
use borrow.Author.Tests.{le-leb}
use Rattle.command.specs.declared.Refusal.TheVariants.{NotMergeable}
use Rattle.item.specs.Rows.{row_of}
use Rattle.merge.specs.Flat.{scan_from, late_from, chosen, rows_before}

module _ (rows : List (List ℕ)) (m c : ℕ) (found : ◌≡◌ {A = Option (ℕ × ℕ)} (Some (m, c)) (scan_from 0 0 (map row_of rows))) (many : 2 ≤ c) where
  after : late_from true (drop (m + 1) (map row_of rows)) ≡ late_from true (map row_of (take (length rows - (m + 1)) (drop (m + 1) rows)))
  after =
      let few : length (drop (m + 1) rows) ≤ length rows - (m + 1) = omega (arith, length-drop {A = List ℕ}) in
      ap (late_from true) (drop-map row_of (m + 1) rows ∙ ap (map row_of) (sym (take_all (length rows - (m + 1)) (drop (m + 1) rows) few)))

  rested : (x : Bool) → x ≡ late_from true (map row_of (take (length rows - (m + 1)) (drop (m + 1) rows))) → rows_before (map row_of rows) ≡ cond x (Ok (take m (map row_of rows))) (Err NotMergeable)
  unfolding rows_before chosen
  rested x x_is = rw (← found, le-leb 2 c many, after, ← x_is)

  module _ (x : Bool) (x_is : x ≡ late_from true (map row_of (take (length rows - (m + 1)) (drop (m + 1) rows)))) where
    pub merge_kept : x ≡ true → Ok (map row_of (take m rows)) ≡ rows_before (map row_of rows)
    merge_kept t = ap Ok (sym (take-map row_of m rows)) ∙ sym (rested x x_is ∙ ap (λ (b : Bool). cond b (Ok (take m (map row_of rows))) (Err NotMergeable)) t)

    pub merge_stopped : x ≡ false → Err NotMergeable ≡ rows_before (map row_of rows)
    merge_stopped t = sym (rested x x_is ∙ ap (λ (b : Bool). cond b (Ok (take m (map row_of rows))) (Err NotMergeable)) t)
