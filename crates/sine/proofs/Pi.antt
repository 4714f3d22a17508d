-- The bracket holds pi: at its lower end the sums of the sine's series are above zero, and at its upper end below.
-- Assumes nothing.
use mathlib.Core.Path.{refl}
use lib.Dec.{lit<, lit≤}
use Rattle.sine.specs.Series.{factor, denominator, numerator, added, taken, Above, Below}
use Rattle.sine.specs.Nearest.{pi_unit, pi_low, pi_high, PiBracketed}
use Rattle.sine.proofs.Alternate.{above_on, below_on}

low_17 : Above 0 0 1 pi_low pi_unit 17
unfolding Above denominator factor numerator added taken
low_17 = lit< tt

high_18 : Below 0 0 1 pi_high pi_unit 18
unfolding Below denominator factor numerator added taken
high_18 = lit< tt

pub pi_bracketed : PiBracketed
pi_bracketed n h = (
  above_on 0 0 1 pi_low pi_unit (lit< tt) 17 (lit≤ tt) refl low_17 n h,
  below_on 0 0 1 pi_high pi_unit (lit< tt) 17 (lit≤ tt) refl high_18 n h,
)
