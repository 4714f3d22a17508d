-- Laws of half a side and of a tangent, and of a coordinate moved by one: they are bounded, and those of an enlarged side are multiplied. Round corners and
-- ellipses are made of them. Assumes nothing.
use mathlib.Core.Path.{refl}
use mathlib.Core.Bool.{false}
use Prim.Native.Nat.{ℕ, ◌+◌, ◌^◌, ◌≤◌, ◌<◌}
use native.Mathlib.Nat.{mul-le-mul_right}
use native.Mathlib.Omega.{arith}
use lib.Dec.{T, leb, lit≤, lit<}
use lib.Ieee.{Float, of_bits, binary32}
use Rattle.ieee.specs.Operators.{◌⊕◌, ◌⊖◌, ◌⊗◌}
use Rattle.ieee.specs.Limit.{Bounded}
use Rattle.ieee.specs.Grid.{On, Twin}
use Rattle.ieee.proofs.Bounds.{Times, reach_whole, bounded_weaken, add_bounded, sub_bounded, mul_times, mul_bounded}
use Rattle.ieee.proofs.Twins.{finer, twin_add, twin_sub, twin_mul}
use Rattle.rect.specs.Bounds.{half}
use Rattle.rect.specs.Rect.{round_rect_kappa, tangent_of}
use Rattle.rect.proofs.Box.{part, half_on}

-- ---- bounded: half of 2 ^ 20 is 2 ^ 19, and kappa is at most 1
half_times : Times (part 2) (part 1) half
unfolding of_bits
half_times = lit≤ tt

pub half_bounded : (side : Float) → Bounded (part 2) side → Bounded (part 1) (side ⊗ half)
half_bounded side S = mul_times binary32 (part 2) (part 1) (part 1) side half (reach_whole binary32 (part 1) (lit< tt)) S half_times

kappa_bounded : Bounded 1 round_rect_kappa
unfolding of_bits
kappa_bounded = lit≤ tt

pub tangent_bounded : (q : Float) → Bounded (part 1) q → Bounded (part 1) (tangent_of q)
tangent_bounded q Q = mul_bounded binary32 (part 1) 1 (part 1) q round_rect_kappa (reach_whole binary32 (part 1) (lit< tt)) Q kappa_bounded

-- a coordinate moved by a radius or a tangent
module _ (n : ℕ) (x y : Float) (small : part n + part 1 < 2 ^ 24) (X : Bounded (part n) x) (Y : Bounded (part 1) y) where
  pub plus_bounded : Bounded (part n + part 1) (x ⊕ y)
  plus_bounded = add_bounded binary32 (part n) (part 1) (part n + part 1) x y (reach_whole binary32 (part n + part 1) small) X Y

  pub less_bounded : Bounded (part n + part 1) (x ⊖ y)
  less_bounded = sub_bounded binary32 (part n) (part 1) (part n + part 1) x y (reach_whole binary32 (part n + part 1) small) X Y

-- one of at most 8 as a number of the commands
pub number_bounded : (n : ℕ) (x : Float) → n ≤ 8 → Bounded (part n) x → Bounded (2 ^ 22) x
number_bounded n x h X = bounded_weaken (part n) (2 ^ 22) x (mul-le-mul_right (2 ^ 19) h) X

-- ---- enlarged
kappa_on : On 24 0 round_rect_kappa
unfolding of_bits
kappa_on = record { sign = false; count = 9265801; value = (refl, refl); bound = lit≤ tt }

-- a coordinate of the box's grid as one of the commands'
pub number_twin : {k b : ℕ} {x x' : Float} → Twin k 11 b x x' → T (leb b 16) → Twin k 35 16 x x'
number_twin X t = finer 35 16 (lit≤ tt) (lit≤ t) X

module _ {k : ℕ} (K : k ≤ 6) where
  pub half_twin : {side side' : Float} → Twin k 10 13 side side' → Twin k 11 13 (side ⊗ half) (side' ⊗ half)
  half_twin {side} {side'} S = twin_mul binary32 k 10 13 1 0 side side' half (lit≤ tt) (omega arith) S half_on

  pub tangent_twin : {q q' : Float} → Twin k 11 13 q q' → Twin k 35 15 (tangent_of q) (tangent_of q')
  tangent_twin {q} {q'} Q = finer 35 15 (lit≤ tt) (lit≤ tt) (twin_mul binary32 k 11 13 24 0 q q' round_rect_kappa (lit≤ tt) (omega arith) Q kappa_on)

  -- a coordinate moved by a tangent
  module _ {x x' s s' : Float} (X : Twin k 11 15 x x') (S : Twin k 35 15 s s') where
    pub plus_tangent : Twin k 35 16 (x ⊕ s) (x' ⊕ s')
    plus_tangent = twin_add binary32 k 35 15 x x' s s' (lit≤ tt) (omega arith) (finer 35 15 (lit≤ tt) (lit≤ tt) X) S

    pub less_tangent : Twin k 35 16 (x ⊖ s) (x' ⊖ s')
    less_tangent = twin_sub binary32 k 35 15 x x' s s' (lit≤ tt) (omega arith) (finer 35 15 (lit≤ tt) (lit≤ tt) X) S
