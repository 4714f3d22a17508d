-- The loops of `plate_read::digits_value`.
use mathlib.Core.Path.{◌≡◌}
use Prim.Native.Nat.{◌<◌, ◌^◌}
use lib.ListN.{drop}
use Rattle.plate_read.specs.Fields.{pattern_after}
use Rattle.plate_read.proofs.digits_value.Given as goal

abbrev pub invariant-loop-byte : goal.invariant-loop-byte
invariant-loop-byte l = record {
  left : pattern_after l.value (drop l.byte-index l.digits) ≡ pattern_after 0 l.digits;
  small : l.value < 2 ^ 32;
}
