-- The coordinates of a chord are finite, and a difference of finite numbers is a number: infinite at most, and no NaN. Assumes nothing.
use mathlib.Core.Path.{◌≡◌, refl, sym, subst}
use mathlib.Core.Bool.{Bool, true, not, ◌&&◌}
use Prim.Native.Nat.{ℕ, ◌*◌}
use native.Mathlib.Nat.{mul-pos}
use lib.IntN.{ℤ}
use lib.Dec.{T}
use lib.Ieee.{Float, nan, inf, fin, Format, binary32, binary64, up, down, neg, add, sub, mul, fits, is_nan}
use lib.Ieee.Fits.{and_i, sub-fits, fits_widens, down_pos}
use lib.Ieee.Bits.{is_true}
use lib.Ieee.Scale.{finite}
use Rattle.ieee.specs.Sign.{is_number}
use Rattle.ieee.specs.Operators.{◌⊖◌}
use Rattle.ieee.proofs.Signed.{Le-refl}
use Rattle.ieee.proofs.Sum.{sum_of}
use Rattle.ieee.proofs.Order.{le_number_l, round_le}
use Rattle.root.specs.Candidate.{IsCandidate, Sure, single_of}
use Rattle.root.proofs.Ways.{settled}
use Rattle.curve.specs.Curve.{distance}
use Rattle.point.specs.declared.Point.{Point}

-- ---- a sum, a difference
sum_number : (f : Format) (s : Bool) (m : ℕ) (e : ℤ) (t : Bool) (n : ℕ) (d : ℤ) → T (is_number (add f (fin s m e) (fin t n d)))
unfolding add
sum_number f s m e t n d =
    let c = down e * down d in
    let C = mul-pos (down_pos e) (down_pos d) in
    let w = sum_of s (m * up e * down d) t (n * up d * down e) c in
    subst (λ (z : Float). T (is_number z)) (sym (w.is f)) (le_number_l _ _ (round_le f w.sign w.size c w.sign w.size c C C (Le-refl w.sign (w.size * c))))

pub difference_number : (f : Format) (x y : Float) → T (finite x) → T (finite y) → T (is_number (sub f x y))
unfolding sub neg
difference_number f nan y p q = absurd p
difference_number f (inf s) y p q = absurd p
difference_number f (fin s m e) nan p q = absurd q
difference_number f (fin s m e) (inf t) p q = absurd q
difference_number f (fin s m e) (fin t n d) p q = sum_number f s m e (not t) n d

no_nan : (x : Float) → T (is_number x) → T (not (is_nan x))
unfolding is_nan
no_nan nan p = p
no_nan (inf s) p = tt
no_nan (fin s m e) p = tt

-- as a cast of one to binary64 asks
pub difference_widens : (x y : Float) → T (finite x) → T (finite y) → T (fits binary64 (x ⊖ y) && not (is_nan (x ⊖ y)))
difference_widens x y p q =
    and_i (fits binary64 (x ⊖ y)) (not (is_nan (x ⊖ y))) (fits_widens (x ⊖ y) (sub-fits binary32 x y)) (no_nan (x ⊖ y) (difference_number binary32 x y p q))

-- ---- the root of two squared differences
pub difference_settled : (a b : Point) (r : Float) (p : ℕ) (sure : Bool) → IsCandidate p
    → (sure ≡ true → Sure (add binary64 (mul binary64 (b.x ⊖ a.x) (b.x ⊖ a.x)) (mul binary64 (b.y ⊖ a.y) (b.y ⊖ a.y))) p) → sure ≡ true → r ≡ single_of p → r ≡ distance a b
unfolding distance
difference_settled a b r p sure c h t e = settled (b.x ⊖ a.x) (b.y ⊖ a.y) _ r p sure (is_true _ (sub-fits binary32 b.x a.x)) (is_true _ (sub-fits binary32 b.y a.y)) c refl h t e
