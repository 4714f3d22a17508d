-- Laws of a box, whatever is drawn in it: its sides are bounded, they are f32, and those of an enlarged box are multiplied. Assumes nothing.
use mathlib.Core.Path.{refl}
use mathlib.Core.Bool.{false}
use Prim.Native.Nat.{ℕ, ◌*◌, ◌^◌, ◌≤◌}
use native.Mathlib.Omega.{arith}
use lib.Dec.{lit≤, lit<}
use lib.Ieee.{Float, neg, of_bits, binary32}
use Rattle.ieee.specs.Operators.{◌⊕◌}
use Rattle.ieee.specs.Sign.{abs}
use Rattle.ieee.specs.Limit.{Bounded}
use Rattle.ieee.specs.Single.{Single}
use Rattle.ieee.specs.Grid.{On, Twin}
use Rattle.ieee.proofs.Bounds.{Times, reach_whole, abs_bounded, add_bounded, fma_times}
use Rattle.ieee.proofs.Single.{fma_single, add_single}
use Rattle.ieee.proofs.Grid.{neg_on}
use Rattle.ieee.proofs.Twins.{finer, twin_abs, twin_add, twin_fma_right}
use Rattle.rect.specs.declared.Bounds.{Bounds}
use Rattle.rect.specs.Bounds.{half, near_side, rect_bounds}

-- ---- bounded: in units of 2 ^ 19, a near side is at most 3 and a far one at most 5, where centre and size are at most 2
-- n times 2 ^ 19
abbrev pub part : ℕ → ℕ
part n = n * 2 ^ 19

minus_half_times : Times (part 2) (part 1) (neg half)
unfolding neg of_bits
minus_half_times = lit≤ tt

near : (c w : Float) → Bounded (part 2) c → Bounded (part 2) w → Bounded (part 3) (near_side c w)
near c w C W =
    fma_times binary32 (part 2) (part 1) (part 2) (part 3) (abs w) (neg half) c (reach_whole binary32 (part 3) (lit< tt))
    (abs_bounded (part 2) w W) minus_half_times C

far : (l w : Float) → Bounded (part 3) l → Bounded (part 2) w → Bounded (part 5) (l ⊕ abs w)
far l w L W = add_bounded binary32 (part 3) (part 2) (part 5) l (abs w) (reach_whole binary32 (part 5) (lit< tt)) L (abs_bounded (part 2) w W)

pub record BoundsBounded (box : Bounds) : Type 0 where
  pub left_bounded : Bounded (part 3) box.left
  pub top_bounded : Bounded (part 3) box.top
  pub right_bounded : Bounded (part 5) box.right
  pub bottom_bounded : Bounded (part 5) box.bottom

pub bounds_bounded : (cx cy w h : Float) → Bounded (2 ^ 20) cx → Bounded (2 ^ 20) cy → Bounded (2 ^ 20) w → Bounded (2 ^ 20) h
    → BoundsBounded (rect_bounds cx cy w h)
unfolding rect_bounds
bounds_bounded cx cy w h X Y W H =
    let l = near cx w X W in
    let t = near cy h Y H in
    record {
      left_bounded = l;
      top_bounded = t;
      right_bounded = far (near_side cx w) w l W;
      bottom_bounded = far (near_side cy h) h t H;
    }

-- ---- f32: an operation rounded each side
pub record BoundsSingle (box : Bounds) : Type 0 where
  pub left_single : Single box.left
  pub top_single : Single box.top
  pub right_single : Single box.right
  pub bottom_single : Single box.bottom

pub bounds_single : (cx cy w h : Float) → BoundsSingle (rect_bounds cx cy w h)
unfolding rect_bounds
bounds_single cx cy w h = record {
  left_single = fma_single (abs w) (neg half) cx;
  top_single = fma_single (abs h) (neg half) cy;
  right_single = add_single (near_side cx w) (abs w);
  bottom_single = add_single (near_side cy h) (abs h);
}

-- ---- enlarged
pub half_on : On 1 0 half
unfolding of_bits
half_on = record { sign = false; count = 1; value = (refl, refl); bound = lit≤ tt }

pub record BoundsTwin (k : ℕ) (box box' : Bounds) : Type 0 where
  pub left_twin : Twin k 11 14 box.left box'.left
  pub top_twin : Twin k 11 14 box.top box'.top
  pub right_twin : Twin k 11 15 box.right box'.right
  pub bottom_twin : Twin k 11 15 box.bottom box'.bottom

module _ {k : ℕ} (K : k ≤ 6) where
  -- centre - size / 2
  near_twin : {w w' c c' : Float} → Twin k 10 13 w w' → Twin k 10 13 c c' → Twin k 11 14 (near_side c w) (near_side c' w')
  near_twin {w} {w'} {c} {c'} W C =
      twin_fma_right binary32 k 1 0 10 13 13 13 (neg half) (abs w) (abs w') c c' (lit≤ tt) (lit≤ tt) (lit≤ tt) (omega arith) (neg_on 1 0 half half_on)
      (twin_abs k 10 13 w w' W) (finer 11 13 (lit≤ tt) (lit≤ tt) C)

  far_twin : {l l' w w' : Float} → Twin k 11 14 l l' → Twin k 10 13 w w' → Twin k 11 15 (l ⊕ w) (l' ⊕ w')
  far_twin {l} {l'} {w} {w'} L W = twin_add binary32 k 11 14 l l' w w' (lit≤ tt) (omega arith) L (finer 11 14 (lit≤ tt) (lit≤ tt) W)

  pub bounds_twin : {cx cx' cy cy' w w' h h' : Float} → Twin k 10 13 cx cx' → Twin k 10 13 cy cy' → Twin k 10 13 w w' → Twin k 10 13 h h'
      → BoundsTwin k (rect_bounds cx cy w h) (rect_bounds cx' cy' w' h')
  unfolding rect_bounds
  bounds_twin {w = w} {w' = w'} {h = h} {h' = h'} CX CY W H =
      let width = twin_abs k 10 13 w w' W in
      let height = twin_abs k 10 13 h h' H in
      let left = near_twin W CX in
      let top = near_twin H CY in
      record { left_twin = left; top_twin = top; right_twin = far_twin left width; bottom_twin = far_twin top height }
