-- Steps that neither turn nor mirror, taken without the terms of b and c, are the steps, where their scale is finite at the end: a finite product has finite factors, so it
-- was finite all the way. Assumes nothing.
use mathlib.Core.Path.{◌≡◌, refl, sym, ap, ◌∙◌, subst}
use mathlib.Core.Bool.{true, ◌&&◌}
use Prim.Native.Nat.{ℕ, zero, suc}
use lib.Dec.{T}
use lib.Ieee.{Float, binary32, lt, eq, of_bits}
use lib.Ieee.Bits.{is_true}
use lib.Ieee.Fits.{mul-fits, and_l, and_r}
use lib.Ieee.Scale.{finite}
use Rattle.ieee.specs.Literal.{zero32}
use Rattle.ieee.specs.Operators.{◌⊕◌, ◌⊗◌}
use Rattle.ieee.specs.Sign.{is_zero}
use Rattle.ieee.proofs.Operations.{mul_finite}
use Rattle.ieee.proofs.Single.{zero_single}
use Rattle.ieee.proofs.Zeros.{Plus, plus_finite, zero_plus, above_plus, level_zero, add_zero_right, add_zero_left, mul_plus, mul_zero_right, mul_zero_left}
use Rattle.matrix.specs.declared.Matrix.{Matrix}
use Rattle.matrix.specs.Matrix.{concat}
use Rattle.repeater.specs.Repeater.{steps}
use Rattle.repeater.specs.Upright.{is_upright, upright_concat, upright_steps}

-- ---- the test
pub record Upright (m : Matrix) : Type 0 where
  pub b_zero : is_zero m.b ≡ true
  pub c_zero : is_zero m.c ≡ true
  pub a_above : lt zero32 m.a ≡ true
  pub d_above : lt zero32 m.d ≡ true

pub upright : (m : Matrix) → is_upright m ≡ true → Upright m
unfolding is_upright
upright m h =
    let b = eq m.b zero32 in
    let c = eq m.c zero32 in
    let a = lt zero32 m.a in
    let d = lt zero32 m.d in
    let t : T (b && (c && (a && d))) = subst T (sym h) tt in
    let u = and_r b (c && (a && d)) t in
    let v = and_r c (a && d) u in
    record {
      b_zero = level_zero m.b (is_true b (and_l b (c && (a && d)) t));
      c_zero = level_zero m.c (is_true c (and_l c (a && d) u));
      a_above = is_true a (and_l a d v);
      d_above = is_true d (and_r a d v);
    }

-- ---- a product
concat_same : (m n : Matrix) → m.b ≡ zero32 → m.c ≡ zero32 → is_zero n.b ≡ true → is_zero n.c ≡ true → Plus m.a → Plus m.d → Plus n.a → Plus n.d
    → Plus (m.a ⊗ n.a) → Plus (m.d ⊗ n.d) → upright_concat m n ≡ concat m n
unfolding upright_concat concat
concat_same m n b_is c_is b_zero c_zero ma md na nd a_plus d_plus =
    λ i. record { a = A i; b = B i; c = C i; d = D i; e = m.a ⊗ n.e ⊕ sym c_is i ⊗ n.f ⊕ m.e; f = sym b_is i ⊗ n.e ⊕ m.d ⊗ n.f ⊕ m.f }
  where
    A : m.a ⊗ n.a ≡ m.a ⊗ n.a ⊕ m.c ⊗ n.b
    A =
        sym
        (add_zero_right binary32 (m.a ⊗ n.a) (m.c ⊗ n.b) (mul-fits binary32 m.a n.a) a_plus
        (mul_zero_right binary32 m.c n.b (plus_finite m.c (subst Plus (sym c_is) zero_plus)) b_zero))

    B : zero32 ≡ m.b ⊗ n.a ⊕ m.d ⊗ n.b
    B =
        sym
        (ap (λ (z : Float). z ⊕ m.d ⊗ n.b) (mul_zero_left binary32 m.b n.a b_is na)
        ∙ add_zero_right binary32 zero32 (m.d ⊗ n.b) zero_single zero_plus (mul_zero_right binary32 m.d n.b (plus_finite m.d md) b_zero))

    C : zero32 ≡ m.a ⊗ n.c ⊕ m.c ⊗ n.d
    C =
        sym
        (ap (λ (z : Float). m.a ⊗ n.c ⊕ z) (mul_zero_left binary32 m.c n.d c_is nd)
        ∙ add_zero_left binary32 (m.a ⊗ n.c) zero32 zero_single zero_plus (mul_zero_right binary32 m.a n.c (plus_finite m.a ma) c_zero))

    D : m.d ⊗ n.d ≡ m.b ⊗ n.c ⊕ m.d ⊗ n.d
    D =
        sym
        (add_zero_left binary32 (m.b ⊗ n.c) (m.d ⊗ n.d) (mul-fits binary32 m.d n.d) d_plus
        (mul_zero_right binary32 m.b n.c (plus_finite m.b (subst Plus (sym b_is) zero_plus)) c_zero))

-- ---- steps
pub record Kept (n : ℕ) (step : Matrix) : Type 0 where
  pub is : upright_steps n step ≡ steps n step
  pub b_is : (upright_steps n step).b ≡ zero32
  pub c_is : (upright_steps n step).c ≡ zero32
  pub a_plus : Plus (upright_steps n step).a
  pub d_plus : Plus (upright_steps n step).d

pub kept : (n : ℕ) (step : Matrix) → Upright step → finite (upright_steps n step).a ≡ true → finite (upright_steps n step).d ≡ true → Kept n step
unfolding of_bits steps upright_concat upright_steps
kept zero step S A D = record { is = refl; b_is = refl; c_is = refl; a_plus = refl; d_plus = refl }
kept (suc n) step S A D =
    let m = upright_steps n step in
    let a = mul_finite binary32 m.a step.a A in
    let d = mul_finite binary32 m.d step.d D in
    let K = kept n step S a.0 d.0 in
    let a_step = above_plus step.a S.a_above a.1 in
    let d_step = above_plus step.d S.d_above d.1 in
    let a_plus = mul_plus binary32 m.a step.a K.a_plus a_step A in
    let d_plus = mul_plus binary32 m.d step.d K.d_plus d_step D in
    record {
      is = concat_same m step K.b_is K.c_is S.b_zero S.c_zero K.a_plus K.d_plus a_step d_step a_plus d_plus ∙ ap (λ (k : Matrix). concat k step) K.is;
      b_is = refl;
      c_is = refl;
      a_plus = a_plus;
      d_plus = d_plus;
    }
