-- The ways from a fraction to a whole number see only its value, stay at a whole number, and are monotone; and so do and are `floor`, `ceil` and `round_away`.
-- `floor_le` and `ceil_le` stand beside `round_away_le` for readers: nothing here needs them. Assumes nothing.
use mathlib.Core.Path.{◌≡◌, refl, sym, ap, ◌∙◌, subst}
use Prim.Native.Nat.{ℕ, zero, suc, ◌+◌, ◌*◌, ◌/◌, ◌≤◌, ◌<◌}
use native.Mathlib.Nat.{le_trans, le_of_eq, le_antisymm, lt_of_lt_of_le, mul-one, zero-mul, suc-mul, zero-lt-suc, mul-pos, mul_comm, mul_left_comm, mul_right_comm, mul-mul-mul_comm, mul-le-mul_right, le_of_mul-le-mul_right, lt_of_mul-lt-mul_right, add-mul, div-one, div-add-mod', mod-lt}
use native.Mathlib.Omega.{arith}
use mathlib.Core.Bool.{Bool, true, false, not, cond}
use lib.IntN.{ℤ}
use lib.Dec.{T, ltb, ltb→lt, nltb→le}
use lib.Ieee.{Float, nan, inf, fin, Format, up, down, round, le, fits}
use lib.Ieee.Fits.{down_pos}
use lib.Ieee.Exact.{HasValue}
use lib.Ieee.Scale.{finite}
use lib.Ieee.Nearest.{div_mono}
use Rattle.ieee.specs.Whole.{whole_down, whole_up, whole_near, floor, ceil, round_away}
use Rattle.ieee.proofs.Value.{rescale}
use Rattle.ieee.proofs.Round.{round_own}
use Rattle.ieee.proofs.Signed.{Le, Le-zeros}
use Rattle.ieee.proofs.Order.{le→Le, round_le, extend}

-- ---- each way is monotone in the value of its fraction
abbrev pub Mono : (ℕ → ℕ → ℕ) → Type 0
Mono g = (a c b d : ℕ) → 0 < c → 0 < d → a * d ≤ b * c → g a c ≤ g b d

pub down_mono : Mono whole_down
down_mono a c b d C D h = div_mono a c b d C D h

-- the least whole number that is no less
up_ge : (a c : ℕ) → 0 < c → a ≤ whole_up a c * c
up_ge a c C = go (ltb (a / c * c) a) (nltb→le (a / c * c) a)
  where
    go : (b : Bool) → (T (not b) → a ≤ a / c * c) → a ≤ (a / c + cond b 1 0) * c
    go true h = omega (arith, div-add-mod' a c, mod-lt a C)
    go false h = let l = h tt in omega arith

up_le : (a c K : ℕ) → 0 < c → a ≤ K * c → whole_up a c ≤ K
up_le a c K C h = go (ltb (a / c * c) a) (ltb→lt (a / c * c) a)
  where
    below : a / c ≤ K
    below = le_trans (div_mono a c K 1 C (zero-lt-suc 0) (le_trans (le_of_eq (mul-one a)) h)) (le_of_eq (div-one K))

    go : (b : Bool) → (T b → a / c * c < a) → a / c + cond b 1 0 ≤ K
    go true l = let k : a / c < K = lt_of_mul-lt-mul_right c (lt_of_lt_of_le (l tt) h) in omega arith
    go false l = let k = below in omega arith

pub up_mono : Mono whole_up
up_mono a c b d C D h =
    up_le a c (whole_up b d) C
    (le_of_mul-le-mul_right (le_trans h (le_trans (mul-le-mul_right c (up_ge b d D)) (le_of_eq (mul_right_comm (whole_up b d) d c)))) D)

pub near_mono : Mono whole_near
near_mono a c b d C D h =
    div_mono (2 * a + c) (2 * c) (2 * b + d) (2 * d) (mul-pos (zero-lt-suc 1) C) (mul-pos (zero-lt-suc 1) D)
    (go (a * d) (b * c) (c * d) ((2 * a + c) * (2 * d)) ((2 * b + d) * (2 * c)) (l a c d) (r b d c) h)
  where
    l : (a c d : ℕ) → (2 * a + c) * (2 * d) ≡ 4 * (a * d) + 2 * (c * d)
    l a c d = add-mul (2 * a) c (2 * d) ∙ (λ i. mul-mul-mul_comm 2 a 2 d i + mul_left_comm c 2 d i)

    r : (b d c : ℕ) → (2 * b + d) * (2 * c) ≡ 4 * (b * c) + 2 * (c * d)
    r b d c = add-mul (2 * b) d (2 * c) ∙ (λ i. mul-mul-mul_comm 2 b 2 c i + (mul_left_comm d 2 c ∙ ap (λ (z : ℕ). 2 * z) (mul_comm d c)) i)

    go : (x y z l r : ℕ) → l ≡ 4 * x + 2 * z → r ≡ 4 * y + 2 * z → x ≤ y → l ≤ r
    go x y z l r e g h = omega arith

-- ---- so it sees only that value
pub same_of_mono : (g : ℕ → ℕ → ℕ) → Mono g → (a c b d : ℕ) → 0 < c → 0 < d → a * d ≡ b * c → g a c ≡ g b d
same_of_mono g mono a c b d C D e = le_antisymm (mono a c b d C D (le_of_eq e)) (mono b d a c D C (le_of_eq (sym e)))

-- ---- at a whole number
pub down_exact : (c d : ℕ) → 0 < d → whole_down (c * d) d ≡ c
down_exact c d D = same_of_mono whole_down down_mono (c * d) d c 1 D (zero-lt-suc 0) (mul-one (c * d)) ∙ div-one c

pub up_exact : (c d : ℕ) → 0 < d → whole_up (c * d) d ≡ c
up_exact c d D =
    le_antisymm (up_le (c * d) d c D (le_of_eq refl))
    (le_of_mul-le-mul_right (up_ge (c * d) d D) D)

pub near_exact : (c d : ℕ) → 0 < d → whole_near (c * d) d ≡ c
near_exact c d D = same_of_mono whole_near near_mono (c * d) d c 1 D (zero-lt-suc 0) (mul-one (c * d)) ∙ go
  where
    go : (2 * c + 1) / 2 ≡ c
    go = omega arith

-- ---- a way for each sign, and a float function that goes it
pub record Way (w : Bool → ℕ → ℕ → ℕ) : Type 0 where
  pub mono : (s : Bool) → Mono (w s)
  pub exact : (s : Bool) (c d : ℕ) → 0 < d → w s (c * d) d ≡ c

pub record Goes (f : Format) (w : Bool → ℕ → ℕ → ℕ) (g : Float → Float) : Type 0 where
  pub stays : g nan ≡ nan
  pub keeps : (s : Bool) → g (inf s) ≡ inf s
  pub is : (s : Bool) (m : ℕ) (e : ℤ) → g (fin s m e) ≡ round f s (w s (m * up e) (down e)) 1

module _ (f : Format) (w : Bool → ℕ → ℕ → ℕ) (g : Float → Float) (W : Way w) (G : Goes f w g) where
  -- by the value of its operand
  pub whole_at : (x : Float) (s : Bool) (a c : ℕ) → 0 < c → HasValue x s a c → g x ≡ round f s (w s a c) 1
  whole_at nan s a c C v = absurd v
  whole_at (inf t) s a c C v = absurd v
  whole_at (fin t m e) s a c C v =
      G.is t m e
      ∙ ap (λ (b : Bool). round f b (w b (m * up e) (down e)) 1) v.0
      ∙ ap (λ (n : ℕ). round f s n 1) (same_of_mono (w s) (W.mono s) (m * up e) (down e) a c (down_pos e) C v.1)

  -- a whole number stays
  pub whole_own : (x : Float) (s : Bool) (n c : ℕ) → 0 < c → T (fits f x) → HasValue x s (n * c) c → g x ≡ x
  whole_own x s n c C t v =
      whole_at x s (n * c) c C v
      ∙ ap (λ (k : ℕ). round f s k 1) (W.exact s n c C)
      ∙ round_own f x s n 1 t (zero-lt-suc 0) (rescale x s (n * c) c n 1 C (sym (mul-one (n * c))) v)

  -- and so does what is not finite
  pub whole_special : (x : Float) → finite x ≡ false → g x ≡ x
  whole_special nan h = G.stays
  whole_special (inf s) h = G.keeps s
  whole_special (fin s m e) h = absurd (subst T h tt)

  nil : (s : Bool) (a c k : ℕ) → 0 < c → 0 < k → a * k ≡ 0 → w s a c * 1 ≡ 0
  nil s a c k C K h = mul-one (w s a c) ∙ ap (λ (z : ℕ). w s z c) (zero_of a h ∙ sym (zero-mul c)) ∙ W.exact s 0 c C
    where
      zero_of : (a : ℕ) → a * k ≡ 0 → a ≡ 0
      zero_of zero h = refl
      zero_of (suc a) h = absurd (omega (arith, suc-mul a k))

  whole_Le : (s : Bool) (a c : ℕ) (t : Bool) (b d : ℕ) → 0 < c → 0 < d → Le s (a * d) t (b * c) → Le s (w s a c * 1) t (w t b d * 1)
  whole_Le false a c false b d C D l = let m = W.mono false a c b d C D (omega arith) in omega arith
  whole_Le false a c true b d C D l = Le-zeros false true (w false a c * 1) (w true b d * 1) (nil false a c d C D (omega arith)) (nil true b d c D C (omega arith))
  whole_Le true a c false b d C D l = omega arith
  whole_Le true a c true b d C D l = let m = W.mono true b d a c D C (omega arith) in omega arith

  whole_le : (x y : Float) → T (le x y) → T (le (g x) (g y))
  whole_le = extend g G.keeps go
    where
      go : (s : Bool) (m : ℕ) (e : ℤ) (t : Bool) (n : ℕ) (d : ℤ) → T (le (fin s m e) (fin t n d)) → T (le (g (fin s m e)) (g (fin t n d)))
      go s m e t n d h =
          subst (λ (v : Float). T (le v (g (fin t n d)))) (sym (G.is s m e))
          (subst (λ (v : Float). T (le (round f s (w s (m * up e) (down e)) 1) v)) (sym (G.is t n d))
          (round_le f s (w s (m * up e) (down e)) 1 t (w t (n * up d) (down d)) 1 (zero-lt-suc 0) (zero-lt-suc 0)
          (whole_Le s (m * up e) (down e) t (n * up d) (down d) (down_pos e) (down_pos d) (le→Le s m e t n d h))))

-- ---- the three of them
abbrev pub floor_way : Bool → ℕ → ℕ → ℕ
floor_way s a c = cond s (whole_up a c) (whole_down a c)

abbrev pub ceil_way : Bool → ℕ → ℕ → ℕ
ceil_way s a c = cond s (whole_down a c) (whole_up a c)

abbrev pub near_way : Bool → ℕ → ℕ → ℕ
near_way s = whole_near

-- one way for negative sizes and another for the rest
signed_way : (g h : ℕ → ℕ → ℕ) → Mono g → Mono h → ((c d : ℕ) → 0 < d → g (c * d) d ≡ c) → ((c d : ℕ) → 0 < d → h (c * d) d ≡ c) → Way (λ s a c. cond s (g a c) (h a c))
signed_way g h gm hm ge he = record { mono = mono; exact = exact }
  where
    mono : (s : Bool) → Mono (λ a c. cond s (g a c) (h a c))
    mono true = gm
    mono false = hm

    exact : (s : Bool) (c d : ℕ) → 0 < d → cond s (g (c * d) d) (h (c * d) d) ≡ c
    exact true = ge
    exact false = he

pub floor_way_lem : Way floor_way
floor_way_lem = signed_way whole_up whole_down up_mono down_mono up_exact down_exact

pub ceil_way_lem : Way ceil_way
ceil_way_lem = signed_way whole_down whole_up down_mono up_mono down_exact up_exact

pub near_way_lem : Way near_way
near_way_lem = record { mono = λ s. near_mono; exact = λ s. near_exact }

module _ (f : Format) where
  pub floor_goes : Goes f floor_way (floor f)
  unfolding floor
  floor_goes = record { stays = refl; keeps = λ s. refl; is = λ s m e. refl }

  pub ceil_goes : Goes f ceil_way (ceil f)
  unfolding ceil
  ceil_goes = record { stays = refl; keeps = λ s. refl; is = λ s m e. refl }

  pub near_goes : Goes f near_way (round_away f)
  unfolding round_away
  near_goes = record { stays = refl; keeps = λ s. refl; is = λ s m e. refl }

  pub floor_le : (x y : Float) → T (le x y) → T (le (floor f x) (floor f y))
  floor_le = whole_le f floor_way (floor f) floor_way_lem floor_goes

  pub ceil_le : (x y : Float) → T (le x y) → T (le (ceil f x) (ceil f y))
  ceil_le = whole_le f ceil_way (ceil f) ceil_way_lem ceil_goes

  pub round_away_le : (x y : Float) → T (le x y) → T (le (round_away f x) (round_away f y))
  round_away_le = whole_le f near_way (round_away f) near_way_lem near_goes
