-- Chords between points at most 2 ^ b are finite and not negative; their sum is finite however many there are, since a large sum absorbs what is much
-- smaller. So are the points of a curve. Assumes nothing.
use mathlib.Core.Path.{◌≡◌, sym, subst}
use Prim.Native.Nat.{ℕ, zero, suc, ◌+◌, ◌*◌, ◌^◌, ◌≤◌, ◌<◌, zero-le}
use native.Mathlib.Nat.{le_refl, le_trans, le_of_eq, zero-lt-suc}
use native.Mathlib.Omega.{arith}
use lib.IntN.{pos}
use lib.Dec.{T, lit≤, lit<}
use lib.Pow.{pow-add, pow_mono}
use lib.Ieee.{Float, div, le, fits, round, units, size, span, climb, odd, of_int, of_bits, of_fields, binary32}
use lib.Ieee.Fits.{add-fits}
use lib.Ieee.Order.{round_mono}
use lib.Ieee.Positive.{positive}
use Rattle.ieee.specs.Literal.{zero32, one32}
use Rattle.ieee.specs.Operators.{◌⊖◌, ◌⊗◌}
use Rattle.ieee.specs.Limit.{Bounded}
use Rattle.ieee.specs.Fused.{fma}
use Rattle.ieee.proofs.Monotone.{div_le}
use Rattle.ieee.proofs.Bounds.{Reach, reach_pow, reach_whole, reach_absorb, zero_bounded, bounded_between, bounded_weaken, add_bounded, sub_bounded, mul_bounded, fma_bounded, hypot_bounded, hypot_plus}
use Rattle.point.specs.declared.Point.{Point}
use Rattle.curve.specs.Curve.{two32, three32, squared, cubed, distance, quad_at, eval_quad, cubic_at, eval_cubic, step_of, quad_point, cubic_point, chords}

-- both coordinates are at most n
pub record Inside (n : ℕ) (p : Point) : Type 0 where
  pub x_bounded : Bounded n p.x
  pub y_bounded : Bounded n p.y

pub inside_weaken : (a b : ℕ) (p : Point) → a ≤ b → Inside a p → Inside b p
inside_weaken a b p h P = record { x_bounded = bounded_weaken a b p.x h P.x_bounded; y_bounded = bounded_weaken a b p.y h P.y_bounded }

-- ---- distances
module _ (b : ℕ) (B : b + 2 ≤ 127) (p q : Point) (P : Inside (2 ^ b) p) (Q : Inside (2 ^ b) q) where
  less : (x y : Float) → Bounded (2 ^ b) x → Bounded (2 ^ b) y → Bounded (2 ^ (b + 1)) (x ⊖ y)
  less x y X Y = sub_bounded binary32 (2 ^ b) (2 ^ b) (2 ^ (b + 1)) x y (reach_pow binary32 (2 ^ b + 2 ^ b) (b + 1) (omega (arith, pow-add 2 b 1)) (omega arith)) X Y

  pub distance_bounded : Bounded (2 ^ (b + 2)) (distance p q)
  unfolding distance
  distance_bounded =
      subst (λ (z : ℕ). Bounded (2 ^ z) (distance p q)) next
      (hypot_bounded binary32 (b + 1) (omega arith) (q.x ⊖ p.x) (q.y ⊖ p.y) (less q.x p.x Q.x_bounded P.x_bounded) (less q.y p.y Q.y_bounded P.y_bounded))
    where
      next : suc (b + 1) ≡ b + 2
      next = omega arith

  pub distance_plus : T (le zero32 (distance p q))
  unfolding distance
  distance_plus = hypot_plus binary32 (b + 1) (omega arith) (q.x ⊖ p.x) (q.y ⊖ p.y) (less q.x p.x Q.x_bounded P.x_bounded) (less q.y p.y Q.y_bounded P.y_bounded)

-- ---- chords between points at most 2 ^ b
zero_fits : T (fits binary32 zero32)
unfolding fits of_bits of_fields odd
zero_fits = tt

module _ (b : ℕ) (B : b + 27 ≤ 127) (point : ℕ → Point) where
  pub chords_fits : (n : ℕ) → T (fits binary32 (chords point n))
  unfolding chords
  chords_fits zero = zero_fits
  chords_fits (suc n) = add-fits binary32 (chords point n) (distance (point n) (point (suc n)))

  pub chords_bounded : (n : ℕ) → ((k : ℕ) → k ≤ n → Inside (2 ^ b) (point k)) → Bounded (2 ^ (b + 27)) (chords point n)
  unfolding chords
  chords_bounded zero P = zero_bounded (2 ^ (b + 27))
  chords_bounded (suc n) P =
      add_bounded binary32 (2 ^ (b + 27)) (2 ^ (b + 2)) (2 ^ (b + 27)) (chords point n) (distance (point n) (point (suc n))) (reach_absorb binary32 (b + 27) (b + 2) (omega arith) B)
      (chords_bounded n (λ (k : ℕ) (h : k ≤ n). P k (up k n h))) (distance_bounded b (omega arith) (point n) (point (suc n)) (P n (up n n (le_refl n))) (P (suc n) (le_refl (suc n))))
    where
      up : (k n : ℕ) → k ≤ n → k ≤ suc n
      up k n h = omega arith

-- ---- the points of a curve: a step is at most 1
module _ (steps : ℕ) (S : T (positive (of_int binary32 (pos steps)))) (first : Bounded 1 (step_of steps 0)) (last : Bounded 1 (step_of steps steps)) where
  step_le : (n m : ℕ) → n ≤ m → T (le (step_of steps n) (step_of steps m))
  unfolding step_of of_int
  step_le n m h = div_le binary32 (of_int binary32 (pos steps)) (of_int binary32 (pos n)) (of_int binary32 (pos m)) S (round_mono binary32 n 1 m 1 (zero-lt-suc 0) (zero-lt-suc 0) (omega arith))

  step_bounded : (n : ℕ) → n ≤ steps → Bounded 1 (step_of steps n)
  step_bounded n h = bounded_between 1 (step_of steps 0) (step_of steps n) (step_of steps steps) first last (step_le 0 n zero-le) (step_le n steps h)

step_24 : (n : ℕ) → n ≤ 24 → Bounded 1 (step_of 24 n)
unfolding step_of div of_int round units size span climb odd
step_24 n h = step_bounded 24 tt (lit≤ tt) (lit≤ tt) n h

step_32 : (n : ℕ) → n ≤ 32 → Bounded 1 (step_of 32 n)
unfolding step_of div of_int round units size span climb odd
step_32 n h = step_bounded 32 tt (lit≤ tt) (lit≤ tt) n h

one_bounded : Bounded 1 one32
unfolding of_bits
one_bounded = lit≤ tt

two_bounded : Bounded 2 two32
unfolding of_bits
two_bounded = lit≤ tt

three_bounded : Bounded 3 three32
unfolding of_bits
three_bounded = lit≤ tt

-- a product of small whole bounds
small : (a b : ℕ) (x y : Float) → a * b < 2 ^ 24 → Bounded a x → Bounded b y → Bounded (a * b) (x ⊗ y)
small a b x y h X Y = mul_bounded binary32 a b (a * b) x y (reach_whole binary32 (a * b) h) X Y

module _ (b : ℕ) (B : b + 7 ≤ 127) (t : Float) (S : Bounded 1 t) where
  reach : (k n : ℕ) → k ≤ 7 → n ≤ 2 ^ b * 2 ^ k → Reach binary32 n (2 ^ b * 2 ^ k)
  reach k n K h = subst (λ (z : ℕ). Reach binary32 n z) (pow-add 2 b k) (reach_pow binary32 n (b + k) (le_trans h (le_of_eq (sym (pow-add 2 b k)))) (omega arith))

  rest : Bounded 2 (one32 ⊖ t)
  rest = sub_bounded binary32 1 1 2 one32 t (reach_whole binary32 2 (lit< tt)) one_bounded S

  quad_at_bounded : (start control end : Float) → Bounded (2 ^ b) start → Bounded (2 ^ b) control → Bounded (2 ^ b) end → Bounded (2 ^ b * 2 ^ 7) (quad_at start control end t)
  unfolding quad_at
  quad_at_bounded start control end P C E =
      let w = 2 ^ b in
      let u = one32 ⊖ t in
      let U = small 2 2 u u (lit< tt) rest rest in
      let D = small 4 1 (two32 ⊗ u) t (lit< tt) (small 2 2 two32 u (lit< tt) two_bounded rest) S in
      let h2 : 4 * w ≤ w * 4 = omega arith in
      let h3 : 4 * w + w * 4 ≤ w * 8 = omega arith in
      let h7 : 1 * w + w * 8 ≤ w * 128 = omega arith in
      let c = two32 ⊗ u ⊗ t ⊗ control in
      let middle = mul_bounded binary32 4 w (w * 4) (two32 ⊗ u ⊗ t) control (reach 2 (4 * w) (lit≤ tt) h2) D C in
      let first = fma_bounded binary32 4 w (w * 4) (w * 8) (u ⊗ u) start c (reach 3 (4 * w + w * 4) (lit≤ tt) h3) U P middle in
      fma_bounded binary32 1 w (w * 8) (w * 128) (t ⊗ t) end (fma binary32 (u ⊗ u) start c) (reach 7 (1 * w + w * 8) (lit≤ tt) h7) (small 1 1 t t (lit< tt) S S) E first

  cubic_at_bounded : (start control1 control2 end : Float) → Bounded (2 ^ b) start → Bounded (2 ^ b) control1 → Bounded (2 ^ b) control2 → Bounded (2 ^ b) end
      → Bounded (2 ^ b * 2 ^ 7) (cubic_at start control1 control2 end t)
  unfolding cubic_at
  cubic_at_bounded start control1 control2 end P C D E =
      let w = 2 ^ b in
      let u = one32 ⊖ t in
      let U2 = small 2 2 u u (lit< tt) rest rest in
      let U3 = small 2 4 u (squared u) (lit< tt) rest U2 in
      let T2 = small 1 1 t t (lit< tt) S S in
      let T3 = small 1 1 t (squared t) (lit< tt) S T2 in
      let W1 = small 12 1 (three32 ⊗ squared u) t (lit< tt) (small 3 4 three32 (squared u) (lit< tt) three_bounded U2) S in
      let W2 = small 6 1 (three32 ⊗ u) (squared t) (lit< tt) (small 3 2 three32 u (lit< tt) three_bounded rest) T2 in
      let h4 : 12 * w ≤ w * 16 = omega arith in
      let h5 : 8 * w + w * 16 ≤ w * 32 = omega arith in
      let h6 : 6 * w + w * 32 ≤ w * 64 = omega arith in
      let h7 : 1 * w + w * 64 ≤ w * 128 = omega arith in
      let c = three32 ⊗ squared u ⊗ t ⊗ control1 in
      let x = fma binary32 (cubed u) start c in
      let y = fma binary32 (three32 ⊗ u ⊗ squared t) control2 x in
      let middle = mul_bounded binary32 12 w (w * 16) (three32 ⊗ squared u ⊗ t) control1 (reach 4 (12 * w) (lit≤ tt) h4) W1 C in
      let first = fma_bounded binary32 8 w (w * 16) (w * 32) (cubed u) start c (reach 5 (8 * w + w * 16) (lit≤ tt) h5) U3 P middle in
      let second = fma_bounded binary32 6 w (w * 32) (w * 64) (three32 ⊗ u ⊗ squared t) control2 x (reach 6 (6 * w + w * 32) (lit≤ tt) h6) W2 D first in
      fma_bounded binary32 1 w (w * 64) (w * 128) (cubed t) end y (reach 7 (1 * w + w * 64) (lit≤ tt) h7) T3 E second

-- ---- the lengths of curves whose points are at most 2 ^ b
raised : (b : ℕ) (x : Float) → Bounded (2 ^ b * 2 ^ 7) x → Bounded (2 ^ (b + 7)) x
raised b x X = subst (λ (z : ℕ). Bounded z x) (sym (pow-add 2 b 7)) X

grown : (b : ℕ) → 2 ^ b ≤ 2 ^ (b + 7)
grown b = pow_mono (more b)
  where
    more : (b : ℕ) → b ≤ b + 7
    more b = omega arith

module _ (b : ℕ) (B : b + 34 ≤ 127) (start control end : Point) (P : Inside (2 ^ b) start) (C : Inside (2 ^ b) control) (E : Inside (2 ^ b) end) where
  pub quad_inside : (k : ℕ) → k ≤ 24 → Inside (2 ^ (b + 7)) (quad_point start control end k)
  unfolding quad_point eval_quad
  quad_inside zero h = inside_weaken (2 ^ b) (2 ^ (b + 7)) start (grown b) P
  quad_inside (suc n) h =
      let t = step_of 24 (suc n) in
      let S = step_24 (suc n) h in
      let x = quad_at_bounded b (omega arith) t S start.x control.x end.x P.x_bounded C.x_bounded E.x_bounded in
      let y = quad_at_bounded b (omega arith) t S start.y control.y end.y P.y_bounded C.y_bounded E.y_bounded in
      record { x_bounded = raised b (quad_at start.x control.x end.x t) x; y_bounded = raised b (quad_at start.y control.y end.y t) y }

module _ (b : ℕ) (B : b + 34 ≤ 127) (start control1 control2 end : Point) (P : Inside (2 ^ b) start) (C : Inside (2 ^ b) control1) (D : Inside (2 ^ b) control2) (E : Inside (2 ^ b) end) where
  pub cubic_inside : (k : ℕ) → k ≤ 32 → Inside (2 ^ (b + 7)) (cubic_point start control1 control2 end k)
  unfolding cubic_point eval_cubic
  cubic_inside zero h = inside_weaken (2 ^ b) (2 ^ (b + 7)) start (grown b) P
  cubic_inside (suc n) h =
      let t = step_of 32 (suc n) in
      let S = step_32 (suc n) h in
      let x = cubic_at_bounded b (omega arith) t S start.x control1.x control2.x end.x P.x_bounded C.x_bounded D.x_bounded E.x_bounded in
      let y = cubic_at_bounded b (omega arith) t S start.y control1.y control2.y end.y P.y_bounded C.y_bounded D.y_bounded E.y_bounded in
      record { x_bounded = raised b (cubic_at start.x control1.x control2.x end.x t) x; y_bounded = raised b (cubic_at start.y control1.y control2.y end.y t) y }
