-- What `fma` is where an operand is not finite. Assumes nothing.
use mathlib.Core.Path.{◌≡◌, refl, sym, ap, ◌∙◌, subst}
use mathlib.Core.Bool.{Bool, true, false, cond}
use lib.Dec.{T, eqb}
use lib.Ieee.{Float, nan, inf, fin, Format, unlike, add, mul}
use lib.Ieee.Scale.{finite}
use Rattle.ieee.specs.Fused.{fma}
use Rattle.ieee.proofs.Operations.{mul_swap, fma_swap}

-- ---- a factor: the product is exact
-- an infinity times a zero or not
infinite : (f : Format) (r : Bool) (z : Float) (b : Bool) → cond b nan (add f (inf r) z) ≡ add f (cond b nan (inf r)) z
infinite f r z true = unfold add in refl
infinite f r z false = refl

pub fma_first : (f : Format) (x y z : Float) → finite x ≡ false → fma f x y z ≡ add f (mul f x y) z
unfolding fma mul
fma_first f nan y z h = unfold add in refl
fma_first f (inf s) nan z h = unfold add in refl
fma_first f (inf s) (inf t) z h = refl
fma_first f (inf s) (fin t n d) z h = infinite f (unlike s t) z (eqb n 0)
fma_first f (fin s m e) y z h = absurd (subst T h tt)

pub fma_second : (f : Format) (x y z : Float) → finite y ≡ false → fma f x y z ≡ add f (mul f x y) z
fma_second f x y z h = fma_swap f x y z ∙ fma_first f y x z h ∙ ap (λ (p : Float). add f p z) (mul_swap f y x)

-- ---- the addend alone
pub fma_last : (f : Format) (x y z : Float) → finite x ≡ true → finite y ≡ true → finite z ≡ false → fma f x y z ≡ z
unfolding fma
fma_last f nan y z h k l = absurd (subst T (sym h) tt)
fma_last f (inf s) y z h k l = absurd (subst T (sym h) tt)
fma_last f (fin s m e) nan z h k l = absurd (subst T (sym k) tt)
fma_last f (fin s m e) (inf t) z h k l = absurd (subst T (sym k) tt)
fma_last f (fin s m e) (fin t n d) nan h k l = refl
fma_last f (fin s m e) (fin t n d) (inf u) h k l = refl
fma_last f (fin s m e) (fin t n d) (fin u o g) h k l = absurd (subst T l tt)
