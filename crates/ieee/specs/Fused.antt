-- IEEE 754's fusedMultiplyAdd: x * y + z, rounded once. Definitions only.
use Rattle.std.specs.Prelude.{◌*◌, cond, eqb, Float}
use Rattle.std.specs.Float.{nan, inf, fin, Format}
use Rattle.std.specs.Float.Ieee.{unlike, up, down, sum, add}

-- An infinite factor times a zero is `nan`, and so is an infinite product plus the infinity of the other sign, by `add`. A finite product does not overflow before z
-- is added, so with an infinite z the sum is z. The exact product and the addend go to `sum` as two fractions over one divisor; it alone rounds, and alone knows the
-- sign of an exact zero.
unfoldable pub fma : Format → Float → Float → Float → Float
unfolding sum add
fma f nan y z = nan
fma f (inf s) nan z = nan
fma f (inf s) (inf t) z = add f (inf (unlike s t)) z
fma f (inf s) (fin t n d) z = cond (eqb n 0) nan (add f (inf (unlike s t)) z)
fma f (fin s m e) nan z = nan
fma f (fin s m e) (inf t) z = cond (eqb m 0) nan (add f (inf (unlike s t)) z)
fma f (fin s m e) (fin t n d) nan = nan
fma f (fin s m e) (fin t n d) (inf u) = inf u
fma f (fin s m e) (fin t n d) (fin u k g) = sum f (unlike s t) (m * up e * (n * up d) * down g) u (k * up g * (down e * down d)) (down e * down d * down g)
