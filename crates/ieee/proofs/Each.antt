-- A property of every number of two lists is one of the lists joined, and so is a limit. Assumes nothing.
use mathlib.Core.Path.{◌≡◌, refl}
use mathlib.Core.Bool.{Bool, true, false, ◌&&◌}
use mathlib.Core.List.{List, [], ◌∷◌, ◌++◌}
use lib.Ieee.{Float}
use Rattle.ieee.specs.Each.{Each}
use Rattle.ieee.specs.Limit.{within, all_within}

pub each_append : (P : Float → Type 0) (xs ys : List Float) → Each P xs → Each P ys → Each P (xs ++ ys)
each_append P [] ys X Y = Y
each_append P (x ∷ xs) ys X Y = (X.0, each_append P xs ys X.1 Y)

pub each_split : (P : Float → Type 0) (xs ys : List Float) → Each P (xs ++ ys) → Each P xs × Each P ys
each_split P [] ys X = (tt, X)
each_split P (x ∷ xs) ys X = let t = each_split P xs ys X.1 in ((X.0, t.0), t.1)

pub within_append : (limit : Float) (xs ys : List Float) → all_within limit (xs ++ ys) ≡ (all_within limit xs && all_within limit ys)
unfolding all_within
within_append limit [] ys = refl
within_append limit (x ∷ xs) ys = go (within limit x) (all_within limit (xs ++ ys)) (all_within limit xs) (all_within limit ys) (within_append limit xs ys)
  where
    go : (b p q r : Bool) → p ≡ (q && r) → (b && p) ≡ ((b && q) && r)
    go true p q r e = e
    go false p q r e = refl
