-- A weighted sum of coordinates of like size is a number of one grid, so that binary64 holds it, and cut to 24 digits it is the sum as binary32 rounds it. Assumes nothing.
use mathlib.Core.Path.{◌≡◌, refl, sym, ap, ◌∙◌, subst}
use mathlib.Core.Logic.{inl, inr}
use mathlib.Core.Sum.{⊎_set}
use Prim.Native.Nat.{ℕ, ◌+◌, ◌-◌, ◌*◌, ◌^◌, ◌≤◌, ◌<◌, zero-le}
use native.Mathlib.Nat.{ℕ_set, le_trans, le_of_eq, lt_of_le_of_lt, lt_irrefl, mul-pos, mul-le-mul_left, mul-le-mul_right, eq-zero-or-pos}
use native.Mathlib.Omega.{arith}
use mathlib.Core.Bool.{Bool, true, false, not, ◌&&◌, true≢false}
use lib.Dec.{T, ltb, lit≤}
use lib.Arith.{le→nltb}
use lib.Pow.{pow-add, pow_pos, pow_mono, pow-lt}
use lib.Ieee.{Float, Format, binary32, binary64, unlike, round, sum, add, mul, fits, is_nan}
use lib.Ieee.Fits.{and_i, mul-fits, round-fits, fits_widens}
use lib.Ieee.Bits.{is_false, cond_no}
use lib.Ieee.Exact.{HasValue}
use Rattle.ieee.specs.Cut.{cut}
use Rattle.ieee.specs.Fused.{fma}
use Rattle.ieee.proofs.Signed.{P, N}
use Rattle.ieee.proofs.Sum.{SumOf, sum_of}
use Rattle.ieee.proofs.Cut.{cut_small, cut_exact, cut_mono, cut_le_pow}
use Rattle.ieee.proofs.Counted.{Counted}
use Rattle.ieee.proofs.Value.{value_finite, value_once, value_unique}
use Rattle.ieee.proofs.Round.{round_cut, below_top}
use Rattle.ieee.proofs.Operations.{add_at, mul_at, fma_at}
use Rattle.ieee.proofs.Zeros.{zero_of, round_zero}
use Rattle.ieee.proofs.Pattern.{finite_number}
use Rattle.narrow.specs.Kept.{Kept}
use Rattle.flatten.specs.Level.{Level}
use Rattle.flatten.specs.Weight.{Weight}

-- ---- floats are a set, so an equation of two follows from what is only known to be
pub float_set : IsSet Float
float_set = hlevel (⊎_set, ℕ_set)

value_number : (x : Float) (s : Bool) (a c : ℕ) → HasValue x s a c → T (not (is_nan x))
value_number x s a c v = finite_number x (value_finite x s a c v)

-- ---- binary64 holds the coordinates and the weights
value_widens : (x : Float) (s : Bool) (a c : ℕ) → HasValue x s a c → T (fits binary32 x) → T (fits binary64 x && not (is_nan x))
value_widens x s a c v f = and_i (fits binary64 x) (not (is_nan x)) (fits_widens x f) (value_number x s a c v)

pub level_widens : (q : ℕ) (x : Float) → Level q x → fits binary32 x ≡ true → T (fits binary64 x && not (is_nan x))
level_widens q x X f = value_widens x X.sign X.count (2 ^ q) X.value (subst T (sym f) tt)

pub weight_widens : {k : ℕ} (x y : Float) → Weight k (mul binary32 x y) → T (fits binary64 (mul binary32 x y) && not (is_nan (mul binary32 x y)))
weight_widens {k} x y W = value_widens (mul binary32 x y) false k (2 ^ 15) W.value (mul-fits binary32 x y)

-- w is the number ±count * 2 ^ -Q as binary64 rounds it, and z as binary32 does; it is at most A * 2 ^ 37 units, and not -0
pub record Same (Q A : ℕ) (w z : Float) : Type 0 where
  pub fine : Q ≤ 149
  pub part : A ≤ 2 ^ 15
  pub sign : Bool
  pub count : ℕ
  pub wide : w ≡ round binary64 sign count (2 ^ Q)
  pub narrow : z ≡ round binary32 sign count (2 ^ Q)
  pub bound : count ≤ A * 2 ^ 37
  pub fair : count ≡ 0 → sign ≡ false

small : (A n : ℕ) → A ≤ 2 ^ 15 → n ≤ A * 2 ^ 37 → n ≤ 2 ^ 52
small A n h l = omega arith

-- ---- the size and the sign of a total
total_le : (r : Bool) (n : ℕ) (s : Bool) (a : ℕ) (t : Bool) (b : ℕ) → P r n + (N s a + N t b) ≡ N r n + (P s a + P t b) → n ≤ a + b
total_le r n s a t b h = go r h
  where
    whole : (s : Bool) (a : ℕ) → P s a + N s a ≡ a
    whole true a = omega arith
    whole false a = omega arith

    go : (r : Bool) → P r n + (N s a + N t b) ≡ N r n + (P s a + P t b) → n ≤ a + b
    go true h = omega (arith, whole s a, whole t b)
    go false h = omega (arith, whole s a, whole t b)

-- two numbers that cancel make +0, where they are not both -0
zero_total : (f : Format) (s : Bool) (a : ℕ) (t : Bool) (b c : ℕ) → (a + b ≡ 0 → s ≡ false) → N s a + N t b ≡ P s a + P t b → sum f s a t b c ≡ round f false 0 c
unfolding sum
zero_total f false a false b c h e = ap (λ (n : ℕ). round f false n c) (omega arith)
zero_total f true a true b c h e = absurd (true≢false (h (omega arith)))
zero_total f false a true b c h e = cond_no (ltb a b) (round f true (b - a) c) (round f false (a - b) c) (le→nltb a b (omega arith)) ∙ ap (λ (n : ℕ). round f false n c) (omega arith)
zero_total f true a false b c h e =
    cond_no (ltb a b) (round f false (b - a) c) (round f (ltb b a) (a - b) c) (le→nltb a b (omega arith))
    ∙ ap (λ (r : Bool). round f r (a - b) c) (is_false (ltb b a) (le→nltb b a (omega arith)))
    ∙ ap (λ (n : ℕ). round f false n c) (omega arith)

-- ---- on a grid of 2 ^ -Q, at most A * 2 ^ 37 units
module _ (Q A : ℕ) (fine : Q ≤ 149) (part : A ≤ 2 ^ 15) where
  fits_up : (p n : ℕ) → 0 < p → n ≤ A * 2 ^ 37 → cut p n ≤ 2 ^ (52 + Q)
  fits_up p n h l = le_trans (cut_le_pow p n 52 h (small A n part l)) (pow_mono {i = 52} {j = 52 + Q} (omega arith))

  wide_value : (s : Bool) (n : ℕ) → n ≤ A * 2 ^ 37 → HasValue (round binary64 s n (2 ^ Q)) s n (2 ^ Q)
  wide_value s n l =
      subst (λ (z : ℕ). HasValue (round binary64 s n (2 ^ Q)) s z (2 ^ Q)) (cut_small 53 n (lt_of_le_of_lt (small A n part l) (omega arith)))
      (round_cut binary64 s n (2 ^ Q) Q n (pow_pos Q) (omega arith) refl (below_top binary64 Q 52 (cut 53 n) (lit≤ tt) (fits_up 53 n (omega arith) l)))

  narrow_value : (s : Bool) (n : ℕ) → n ≤ A * 2 ^ 37 → HasValue (round binary32 s n (2 ^ Q)) s (cut 24 n) (2 ^ Q)
  narrow_value s n l = round_cut binary32 s n (2 ^ Q) Q n (pow_pos Q) fine refl (below_top binary32 Q 52 (cut 24 n) (lit≤ tt) (fits_up 24 n (omega arith) l))

  narrow_bound : (n : ℕ) → n ≤ A * 2 ^ 37 → cut 24 n ≤ A * 2 ^ 37
  narrow_bound n l = le_trans (cut_mono 24 n (A * 2 ^ 37) (omega arith) l) (le_of_eq (cut_exact 24 A 37 (omega arith)))

  total_fair : (s : Bool) (a : ℕ) (t : Bool) (b : ℕ) (S : SumOf s a t b (2 ^ Q)) → S.size ≤ A * 2 ^ 37 → (a + b ≡ 0 → s ≡ false) → S.size ≡ 0 → S.sign ≡ false
  total_fair s a t b S l h e =
      let z : round binary32 S.sign S.size (2 ^ Q) ≡ round binary32 false 0 (2 ^ Q) = sym (S.is binary32) ∙ zero_total binary32 s a t b (2 ^ Q) h (even S.sign S.size e S.total) in
      (value_once (round binary32 false 0 (2 ^ Q)) S.sign false (cut 24 S.size) (cut 24 0) (2 ^ Q)
      (subst (λ (x : Float). HasValue x S.sign (cut 24 S.size) (2 ^ Q)) z (narrow_value S.sign S.size l))
      (narrow_value false 0 zero-le)).0
    where
      even : (r : Bool) (n : ℕ) → n ≡ 0 → P r n + (N s a + N t b) ≡ N r n + (P s a + P t b) → N s a + N t b ≡ P s a + P t b
      even true n e h = omega arith
      even false n e h = omega arith

-- ---- what is kept of a number that binary64 holds is what binary32 rounds it to
module _ {Q A : ℕ} {w z : Float} (S : Same Q A w z) where
  same_value : HasValue w S.sign S.count (2 ^ Q)
  same_value = subst (λ (x : Float). HasValue x S.sign S.count (2 ^ Q)) (sym S.wide) (wide_value Q A S.fine S.part S.sign S.count S.bound)

  rounded_value : HasValue z S.sign (cut 24 S.count) (2 ^ Q)
  rounded_value = subst (λ (x : Float). HasValue x S.sign (cut 24 S.count) (2 ^ Q)) (sym S.narrow) (narrow_value Q A S.fine S.part S.sign S.count S.bound)

  rounded_fits : T (fits binary32 z)
  rounded_fits = subst (λ (x : Float). T (fits binary32 x)) (sym S.narrow) (round-fits binary32 S.sign S.count (2 ^ Q))

  pub same_number : T (not (is_nan w))
  same_number = value_number w S.sign S.count (2 ^ Q) same_value

  pub kept_is : {r : Float} → Kept w r → r ≡ z
  kept_is {r} K = elim (eq-zero-or-pos S.count) [
    | inl e ↦
        let s = S.fair e in
        K.nought (S.wide ∙ round_zero binary64 S.sign S.count (2 ^ Q) e (pow_pos Q) ∙ ap zero_of s) ∙ sym (S.narrow ∙ round_zero binary32 S.sign S.count (2 ^ Q) e (pow_pos Q) ∙ ap zero_of s)
    | inr p ↦
        value_unique binary64 r z S.sign (cut 24 S.count) (2 ^ Q) (pow_pos Q) K.held (fits_widens z rounded_fits)
        (K.value S.sign S.count Q same_value
        (le_trans (pow_mono {i = Q} {j = 1022} (omega arith)) (mul-le-mul_right (2 ^ 1022) p))
        (lt_of_le_of_lt (small A S.count S.part S.bound) (pow-lt {i = 52} {j = Q + 900} (omega arith))))
        rounded_value
  ]

  pub kept_number : {r : Float} → Kept w r → T (fits binary32 r && not (is_nan r))
  kept_number K =
      subst (λ (x : Float). T (fits binary32 x && not (is_nan x))) (sym (kept_is K))
      (and_i (fits binary32 z) (not (is_nan z)) rounded_fits (value_number z S.sign (cut 24 S.count) (2 ^ Q) rounded_value))

  kept_counted : {r : Float} → Kept w r → Counted Q (A * 2 ^ 37) r
  kept_counted K =
      subst (λ (x : Float). Counted Q (A * 2 ^ 37) x) (sym (kept_is K))
      (record { sign = S.sign; count = cut 24 S.count; value = rounded_value; bound = narrow_bound Q A S.fine S.part S.count S.bound })

-- ---- a weight times a coordinate, alone and on top of what there is
false_unlike : (s : Bool) → unlike false s ≡ s
false_unlike true = refl
false_unlike false = refl

module _ {q k : ℕ} {w x : Float} (fine : q ≤ 134) (W : Weight k w) (X : Level q x) where
  product_at : (f : Format) → mul f w x ≡ round f X.sign (k * X.count) (2 ^ (15 + q))
  product_at f =
      mul_at f w x false X.sign k (2 ^ 15) X.count (2 ^ q) (pow_pos 15) (pow_pos q) W.value X.value
      ∙ (λ i. round f (false_unlike X.sign i) (k * X.count) (sym (pow-add 2 15 q) i))

  product_fair : k * X.count ≡ 0 → X.sign ≡ false
  product_fair e = elim (eq-zero-or-pos X.count) [
    | inl z ↦ X.fair z
    | inr p ↦ absurd (lt_irrefl 0 (subst (λ (n : ℕ). 0 < n) e (mul-pos W.some p)))
  ]

  pub product_same : k ≤ 2 ^ 15 → Same (15 + q) k (mul binary64 w x) (mul binary32 w x)
  product_same part = record {
    fine = omega arith;
    part = part;
    sign = X.sign;
    count = k * X.count;
    wide = product_at binary64;
    narrow = product_at binary32;
    bound = mul-le-mul_left k X.bound;
    fair = product_fair;
  }

  pub step_same : {A : ℕ} {u z v : Float} → Same (15 + q) A u z → Kept u v → k + A ≤ 2 ^ 15 → Same (15 + q) (k + A) (add binary64 (mul binary64 w x) v) (fma binary32 w x v)
  unfolding product_same
  step_same {A} {u} {z} {v} U K part =
      let C = kept_counted U K in
      let Q = 15 + q in
      let a = k * X.count in
      let S = sum_of X.sign a C.sign C.count (2 ^ Q) in
      let l : S.size ≤ (k + A) * 2 ^ 37 = le_trans (total_le S.sign S.size X.sign a C.sign C.count S.total) (both a C.count (mul-le-mul_left k X.bound) C.bound) in
      record {
        fine = omega arith;
        part = part;
        sign = S.sign;
        count = S.size;
        wide = add_at binary64 (mul binary64 w x) v X.sign C.sign a C.count (2 ^ Q) (pow_pos Q) (same_value (product_same (omega arith))) C.value ∙ S.is binary64;
        narrow = fma_at binary32 w x v false X.sign C.sign k (2 ^ 15) X.count (2 ^ q) C.count (pow_pos 15) (pow_pos q) W.value X.value (subst (λ (n : ℕ). HasValue v C.sign C.count n) (pow-add 2 15 q) C.value)
            ∙ (λ i. sum binary32 (false_unlike X.sign i) a C.sign C.count (sym (pow-add 2 15 q) i))
            ∙ S.is binary32;
        bound = l;
        fair = total_fair Q (k + A) (omega arith) part X.sign a C.sign C.count S l (λ e. product_fair (first a C.count e));
      }
    where
      both : (a c : ℕ) → a ≤ k * 2 ^ 37 → c ≤ A * 2 ^ 37 → a + c ≤ (k + A) * 2 ^ 37
      both a c h l = omega arith

      first : (a c : ℕ) → a + c ≡ 0 → a ≡ 0
      first a c e = omega arith
