-- An operation of binary32 answers an f32. Assumes nothing.
use Prim.Native.Nat.{ℕ, ◌+◌, ◌-◌, ◌*◌}
use mathlib.Core.Bool.{Bool, beq, cond, ◌&&◌}
use lib.Dec.{eqb, ltb}
use lib.Ieee.{Float, nan, inf, fin, binary32, fits, up, down, unlike, round, sum, of_bits}
use lib.Ieee.Fits.{round-fits, cond-fits, nan-fits, inf-fits, add-fits, sub-fits}
use Rattle.ieee.specs.Literal.{zero32}
use Rattle.ieee.specs.Operators.{◌⊕◌, ◌⊖◌}
use Rattle.ieee.specs.Fused.{fma}
use Rattle.ieee.specs.Single.{Single}

pub add_single : (x y : Float) → Single (x ⊕ y)
add_single x y = add-fits binary32 x y

pub sub_single : (x y : Float) → Single (x ⊖ y)
sub_single x y = sub-fits binary32 x y

pub zero_single : Single zero32
unfolding of_bits fits
zero_single = tt

sum_single : (s : Bool) (a : ℕ) (t : Bool) (b c : ℕ) → Single (sum binary32 s a t b c)
unfolding sum
sum_single s a t b c =
    cond-fits binary32 (beq s t) (round binary32 s (a + b) c) (cond (ltb a b) (round binary32 t (b - a) c) (round binary32 (s && ltb b a) (a - b) c)) (round-fits binary32 s (a + b) c)
    (cond-fits binary32 (ltb a b) (round binary32 t (b - a) c) (round binary32 (s && ltb b a) (a - b) c) (round-fits binary32 t (b - a) c) (round-fits binary32 (s && ltb b a) (a - b) c))

pub fma_single : (x y z : Float) → Single (fma binary32 x y z)
unfolding fma
fma_single nan y z = nan-fits binary32
fma_single (inf s) nan z = nan-fits binary32
fma_single (inf s) (inf t) z = add-fits binary32 (inf (unlike s t)) z
fma_single (inf s) (fin t n d) z = cond-fits binary32 (eqb n 0) nan _ (nan-fits binary32) (add-fits binary32 (inf (unlike s t)) z)
fma_single (fin s m e) nan z = nan-fits binary32
fma_single (fin s m e) (inf t) z = cond-fits binary32 (eqb m 0) nan _ (nan-fits binary32) (add-fits binary32 (inf (unlike s t)) z)
fma_single (fin s m e) (fin t n d) nan = nan-fits binary32
fma_single (fin s m e) (fin t n d) (inf u) = inf-fits binary32 u
fma_single (fin s m e) (fin t n d) (fin u k g) = sum_single (unlike s t) (m * up e * (n * up d) * down g) u (k * up g * (down e * down d)) (down e * down d * down g)
