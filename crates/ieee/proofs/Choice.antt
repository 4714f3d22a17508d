-- What is chosen by `clamp` lies between its bounds, and `clamp` is monotone. Assumes nothing.
use mathlib.Core.Path.{◌≡◌, refl, sym, subst}
use mathlib.Core.Bool.{Bool, true, false, not, cond}
use lib.Dec.{T}
use lib.Ieee.{Float, lt, le}
use Rattle.ieee.specs.Sign.{is_number}
use Rattle.ieee.specs.Choice.{at_least, at_most, clamp}
use Rattle.ieee.proofs.Order.{le_number_l, le_number_r, le_refl, le_trans, lt→le, not_lt→le}

-- ---- not below c, and not above c
module _ (c : Float) (number : T (is_number c)) where
  pub at_least_ge : (x : Float) → T (is_number x) → T (le c (at_least c x))
  unfolding at_least
  at_least_ge x p = go (lt x c) refl
    where
      go : (b : Bool) → lt x c ≡ b → T (le c (cond b c x))
      go true e = le_refl c number
      go false e = not_lt→le x c p number (subst (λ (b : Bool). T (not b)) (sym e) tt)

  at_most_le : (x : Float) → T (is_number x) → T (le (at_most c x) c)
  unfolding at_most
  at_most_le x p = go (lt c x) refl
    where
      go : (b : Bool) → lt c x ≡ b → T (le (cond b c x) c)
      go true e = le_refl c number
      go false e = not_lt→le c x number p (subst (λ (b : Bool). T (not b)) (sym e) tt)

  at_least_mono : (x y : Float) → T (le x y) → T (le (at_least c x) (at_least c y))
  unfolding at_least
  at_least_mono x y h = go (lt x c) (lt y c) refl refl
    where
      go : (a b : Bool) → lt x c ≡ a → lt y c ≡ b → T (le (cond a c x) (cond b c y))
      go true true p q = le_refl c number
      go true false p q = not_lt→le y c (le_number_r x y h) number (subst (λ (b : Bool). T (not b)) (sym q) tt)
      go false true p q = le_trans x y c h (lt→le y c (subst T (sym q) tt))
      go false false p q = h

  at_most_mono : (x y : Float) → T (le x y) → T (le (at_most c x) (at_most c y))
  unfolding at_most
  at_most_mono x y h = go (lt c x) (lt c y) refl refl
    where
      go : (a b : Bool) → lt c x ≡ a → lt c y ≡ b → T (le (cond a c x) (cond b c y))
      go true true p q = le_refl c number
      go true false p q = le_trans c x y (lt→le c x (subst T (sym p) tt)) h
      go false true p q = not_lt→le c x number (le_number_l x y h) (subst (λ (b : Bool). T (not b)) (sym p) tt)
      go false false p q = h

-- ---- between two bounds
module _ (lo hi : Float) (bounds : T (le lo hi)) where
  low : T (is_number lo)
  low = le_number_l lo hi bounds

  high : T (is_number hi)
  high = le_number_r lo hi bounds

  pub clamp_mono : (x y : Float) → T (le x y) → T (le (clamp lo hi x) (clamp lo hi y))
  unfolding clamp
  clamp_mono x y h = at_most_mono hi high (at_least lo x) (at_least lo y) (at_least_mono lo low x y h)

  pub clamp_le : (x : Float) → T (is_number x) → T (le (clamp lo hi x) hi)
  unfolding clamp
  clamp_le x p = at_most_le hi high (at_least lo x) (le_number_r lo (at_least lo x) (at_least_ge lo low x p))

  pub clamp_ge : (x : Float) → T (is_number x) → T (le lo (clamp lo hi x))
  unfolding clamp
  clamp_ge x p = go (at_least lo x) (at_least_ge lo low x p)
    where
      pick : (z : Float) (b : Bool) → T (le lo z) → T (le lo (cond b hi z))
      pick z true h = bounds
      pick z false h = h

      go : (z : Float) → T (le lo z) → T (le lo (at_most hi z))
      go z h = unfold at_most in pick z (lt hi z) h
