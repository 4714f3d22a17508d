-- The weighted sum of coordinates as the two `weighted` take it: what `narrowed` keeps of each sum in binary64 is what binary32 rounds it to. Assumes nothing.
use mathlib.Core.Path.{◌≡◌, ap, ◌∙◌}
use Prim.Native.Nat.{◌+◌}
use native.Mathlib.Omega.{arith}
use mathlib.Core.Bool.{not, ◌&&◌}
use lib.Dec.{T}
use lib.Ieee.{Float, binary32, binary64, add, mul, fits, is_nan}
use Rattle.ieee.specs.Fused.{fma}
use Rattle.narrow.specs.Kept.{Kept}
use Rattle.flatten.specs.Level.{Coordinates, QuadCoordinates}
use Rattle.flatten.specs.Weight.{Weights, QuadWeights}
use Rattle.flatten.proofs.Exact.{Same, same_number, kept_is, kept_number, product_same, step_same}

-- ---- the sum of three
module _ (w0 w1 w2 a b c : Float) (W : QuadWeights w0 w1 w2) (X : QuadCoordinates a b c) where
  one : Same (15 + X.q) W.k1 (mul binary64 w1 b) (mul binary32 w1 b)
  one = product_same X.fine W.control X.control (let t = W.total in omega arith)

  pub number_1 : T (not (is_nan (mul binary64 w1 b)))
  number_1 = same_number one

  module _ (r1 : Float) (K1 : Kept (mul binary64 w1 b) r1) where
    two : Same (15 + X.q) (W.k0 + W.k1) (add binary64 (mul binary64 w0 a) r1) (fma binary32 w0 a r1)
    two = step_same X.fine W.start X.start one K1 (let t = W.total in omega arith)

    pub number_2 : T (not (is_nan (add binary64 (mul binary64 w0 a) r1)))
    number_2 = same_number two

    module _ (r2 : Float) (K2 : Kept (add binary64 (mul binary64 w0 a) r1) r2) where
      three : Same (15 + X.q) (W.k2 + (W.k0 + W.k1)) (add binary64 (mul binary64 w2 c) r2) (fma binary32 w2 c r2)
      three = step_same X.fine W.end X.end two K2 (let t = W.total in omega arith)

      pub number_3 : T (not (is_nan (add binary64 (mul binary64 w2 c) r2)))
      number_3 = same_number three

      module _ (r3 : Float) (K3 : Kept (add binary64 (mul binary64 w2 c) r2) r3) where
        pub quad_number : T (fits binary32 r3 && not (is_nan r3))
        quad_number = kept_number three K3

        pub quad_weighted : r3 ≡ fma binary32 w2 c (fma binary32 w0 a (mul binary32 w1 b))
        quad_weighted = kept_is three K3 ∙ ap (fma binary32 w2 c) (kept_is two K2 ∙ ap (fma binary32 w0 a) (kept_is one K1))

-- ---- the first three of four
abbrev pub first_weights : {w0 w1 w2 w3 : Float} → Weights w0 w1 w2 w3 → QuadWeights w0 w1 w2
first_weights W = record { k0 = W.k0; k1 = W.k1; k2 = W.k2; start = W.start; control = W.control1; end = W.control2; total = let t = W.total in omega arith }

abbrev pub first_coordinates : {a b c d : Float} → Coordinates a b c d → QuadCoordinates a b c
first_coordinates X = record { q = X.q; fine = X.fine; start = X.start; control = X.control1; end = X.control2 }

-- ---- the sum of four
module _ (w0 w1 w2 w3 a b c d : Float) (W : Weights w0 w1 w2 w3) (X : Coordinates a b c d) (r1 : Float) (K1 : Kept (mul binary64 w1 b) r1) (r2 : Float) (K2 : Kept (add binary64 (mul binary64 w0 a) r1) r2)
    (r3 : Float) (K3 : Kept (add binary64 (mul binary64 w2 c) r2) r3) where
  four : Same (15 + X.q) (W.k3 + (W.k2 + (W.k0 + W.k1))) (add binary64 (mul binary64 w3 d) r3) (fma binary32 w3 d r3)
  four = step_same X.fine W.end X.end (three w0 w1 w2 a b c (first_weights W) (first_coordinates X) r1 K1 r2 K2) K3 (let t = W.total in omega arith)

  pub number_4 : T (not (is_nan (add binary64 (mul binary64 w3 d) r3)))
  number_4 = same_number four

  module _ (r4 : Float) (K4 : Kept (add binary64 (mul binary64 w3 d) r3) r4) where
    pub weighted_number : T (fits binary32 r4 && not (is_nan r4))
    weighted_number = kept_number four K4

    pub weighted_is : r4 ≡ fma binary32 w3 d (fma binary32 w2 c (fma binary32 w0 a (mul binary32 w1 b)))
    weighted_is = kept_is four K4 ∙ ap (fma binary32 w3 d) (quad_weighted w0 w1 w2 a b c (first_weights W) (first_coordinates X) r1 K1 r2 K2 r3 K3)
