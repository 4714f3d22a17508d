-- The loops of `plate_print::put_leading`.
use Rattle.std.proofs.Common.{◌≡◌, ◌≤◌, length}
use Rattle.std.proofs.lemmas.List.Edits.{sets}
use Rattle.plate_print.specs.Lines.{leading}
use Rattle.plate_print.proofs.put_leading.Given as goal

-- the columns still to fill, filled in the buffer as it is, give all of them in the buffer as it was
abbrev pub invariant-loop-i : goal.invariant-loop-i
invariant-loop-i l = record {
  bound : l.i ≤ l.width;
  same : length l.out ≡ length l.initial.out;
  last : sets l.out l.at (leading l.i l.rest) ≡ sets l.initial.out l.at (leading l.width l.value);
}
