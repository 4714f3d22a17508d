-- What the functions of this crate owe at each call and cast, as the code meets it. Assumes nothing.
use mathlib.Core.Path.{◌≡◌}
use mathlib.Core.Logic.{∥∥₁_elim}
use mathlib.Core.Bool.{true, not, ◌&&◌}
use lib.Dec.{T, T_prop}
use lib.Ieee.{Float, binary32, binary64, add, mul, fits, is_nan}
use Rattle.ieee.specs.Fused.{fma}
use Rattle.narrow.specs.Kept.{Kept}
use Rattle.flatten.specs.declared.CubicAxis.{CubicAxis}
use Rattle.flatten.specs.declared.CubicWeights.{CubicWeights}
use Rattle.flatten.specs.declared.QuadAxis.{QuadAxis}
use Rattle.flatten.specs.declared.QuadWeights.{QuadWeights}
use Rattle.flatten.specs.Level.{Level, Coordinates, QuadCoordinates}
use Rattle.flatten.specs.Weight as Weight
use Rattle.flatten.proofs.Exact.{float_set, level_widens}
use Rattle.flatten.proofs.Chain.{number_1, number_2, number_3, quad_number, quad_weighted, first_weights, first_coordinates, number_4, weighted_number, weighted_is}
use Rattle.flatten.proofs.Steps.{widens_0, widens_1, widens_2, widens_3, cubic_is}
use Rattle.flatten.proofs.Eighths.{eighth_widens_0, eighth_widens_1, eighth_widens_2, quad_is}

-- ---- the weighted sum of a quad's coordinates
module _ (x : QuadAxis) where
  quad_widens : (z : Float) → ((X : QuadCoordinates x.start x.control x.end) → Level X.q z) → fits binary32 z ≡ true → T (fits binary64 z && not (is_nan z))
  quad_widens z level f = ∥∥₁_elim x.level (T_prop _) (λ X. level_widens X.q z (level X) f)

  pub quad_start : fits binary32 x.start ≡ true → T (fits binary64 x.start && not (is_nan x.start))
  quad_start = quad_widens x.start (λ X. X.start)

  pub quad_control : fits binary32 x.control ≡ true → T (fits binary64 x.control && not (is_nan x.control))
  quad_control = quad_widens x.control (λ X. X.control)

  pub quad_end : fits binary32 x.end ≡ true → T (fits binary64 x.end && not (is_nan x.end))
  quad_end = quad_widens x.end (λ X. X.end)

  module _ (w : QuadWeights) where
    quad_both : {P : Type 0} → IsProp P → (Weight.QuadWeights w.start w.control w.end → QuadCoordinates x.start x.control x.end → P) → P
    quad_both prop f = ∥∥₁_elim w.weights prop (λ W. ∥∥₁_elim x.level prop (λ X. f W X))

    pub quad_number_1 : T (not (is_nan (mul binary64 w.control x.control)))
    quad_number_1 = quad_both (T_prop _) (λ W X. number_1 w.start w.control w.end x.start x.control x.end W X)

    module _ (r : Float) (K : Kept (mul binary64 w.control x.control) r) where
      pub quad_number_2 : T (not (is_nan (add binary64 (mul binary64 w.start x.start) r)))
      quad_number_2 = quad_both (T_prop _) (λ W X. number_2 w.start w.control w.end x.start x.control x.end W X r K)

      module _ (s : Float) (L : Kept (add binary64 (mul binary64 w.start x.start) r) s) where
        pub quad_number_3 : T (not (is_nan (add binary64 (mul binary64 w.end x.end) s)))
        quad_number_3 = quad_both (T_prop _) (λ W X. number_3 w.start w.control w.end x.start x.control x.end W X r K s L)

        module _ (t : Float) (M : Kept (add binary64 (mul binary64 w.end x.end) s) t) where
          pub quad_single : T (fits binary32 t && not (is_nan t))
          quad_single = quad_both (T_prop _) (λ W X. quad_number w.start w.control w.end x.start x.control x.end W X r K s L t M)

          pub quad_sum : t ≡ fma binary32 w.end x.end (fma binary32 w.start x.start (mul binary32 w.control x.control))
          quad_sum = quad_both (float_set _ _) (λ W X. quad_weighted w.start w.control w.end x.start x.control x.end W X r K s L t M)

pub ruleset quad_sums = (quad_start, quad_control, quad_end, quad_number_1, quad_number_2, quad_number_3)

-- ---- the weighted sum of a cubic's
module _ (x : CubicAxis) where
  cubic_widens : (z : Float) → ((X : Coordinates x.start x.control1 x.control2 x.end) → Level X.q z) → fits binary32 z ≡ true → T (fits binary64 z && not (is_nan z))
  cubic_widens z level f = ∥∥₁_elim x.level (T_prop _) (λ X. level_widens X.q z (level X) f)

  pub cubic_start : fits binary32 x.start ≡ true → T (fits binary64 x.start && not (is_nan x.start))
  cubic_start = cubic_widens x.start (λ X. X.start)

  pub cubic_control1 : fits binary32 x.control1 ≡ true → T (fits binary64 x.control1 && not (is_nan x.control1))
  cubic_control1 = cubic_widens x.control1 (λ X. X.control1)

  pub cubic_control2 : fits binary32 x.control2 ≡ true → T (fits binary64 x.control2 && not (is_nan x.control2))
  cubic_control2 = cubic_widens x.control2 (λ X. X.control2)

  pub cubic_end : fits binary32 x.end ≡ true → T (fits binary64 x.end && not (is_nan x.end))
  cubic_end = cubic_widens x.end (λ X. X.end)

  module _ (w : CubicWeights) where
    cubic_both : {P : Type 0} → IsProp P → (Weight.Weights w.start w.control1 w.control2 w.end → Coordinates x.start x.control1 x.control2 x.end → P) → P
    cubic_both prop f = ∥∥₁_elim w.weights prop (λ W. ∥∥₁_elim x.level prop (λ X. f W X))

    pub cubic_number_1 : T (not (is_nan (mul binary64 w.control1 x.control1)))
    cubic_number_1 = cubic_both (T_prop _) (λ W X. number_1 w.start w.control1 w.control2 x.start x.control1 x.control2 (first_weights W) (first_coordinates X))

    module _ (r : Float) (K : Kept (mul binary64 w.control1 x.control1) r) where
      pub cubic_number_2 : T (not (is_nan (add binary64 (mul binary64 w.start x.start) r)))
      cubic_number_2 = cubic_both (T_prop _) (λ W X. number_2 w.start w.control1 w.control2 x.start x.control1 x.control2 (first_weights W) (first_coordinates X) r K)

      module _ (s : Float) (L : Kept (add binary64 (mul binary64 w.start x.start) r) s) where
        pub cubic_number_3 : T (not (is_nan (add binary64 (mul binary64 w.control2 x.control2) s)))
        cubic_number_3 = cubic_both (T_prop _) (λ W X. number_3 w.start w.control1 w.control2 x.start x.control1 x.control2 (first_weights W) (first_coordinates X) r K s L)

        module _ (t : Float) (M : Kept (add binary64 (mul binary64 w.control2 x.control2) s) t) where
          pub cubic_number_4 : T (not (is_nan (add binary64 (mul binary64 w.end x.end) t)))
          cubic_number_4 = cubic_both (T_prop _) (λ W X. number_4 w.start w.control1 w.control2 w.end x.start x.control1 x.control2 x.end W X r K s L t M)

          module _ (u : Float) (N : Kept (add binary64 (mul binary64 w.end x.end) t) u) where
            pub cubic_single : T (fits binary32 u && not (is_nan u))
            cubic_single = cubic_both (T_prop _) (λ W X. weighted_number w.start w.control1 w.control2 w.end x.start x.control1 x.control2 x.end W X r K s L t M u N)

            pub cubic_sum : u ≡ fma binary32 w.end x.end (fma binary32 w.control2 x.control2 (fma binary32 w.start x.start (mul binary32 w.control1 x.control1)))
            cubic_sum = cubic_both (float_set _ _) (λ W X. weighted_is w.start w.control1 w.control2 w.end x.start x.control1 x.control2 x.end W X r K s L t M u N)

pub ruleset cubic_sums = (cubic_start, cubic_control1, cubic_control2, cubic_end, cubic_number_1, cubic_number_2, cubic_number_3, cubic_number_4)

-- ---- the points
pub ruleset cubic_points = (widens_0, widens_1, widens_2, widens_3, cubic_is)

pub ruleset quad_points = (eighth_widens_0, eighth_widens_1, eighth_widens_2, quad_is)
