-- Where an angle points, from the sixteenths of its size and its sign. Assumes nothing.
use Rattle.std.proofs.Common.{◌≡◌, ℕ, zero, suc, ◌+◌, ◌-◌, ◌*◌, ◌%◌, ◌^◌, ◌<◌, ◌≤◌, Bool, true, false, cond, ℤ, pos, negsuc, neg_ℤ, sym, refl, ap, ◌∙◌, zero-mul, arith, lit<, lt_of_le_of_lt, ltb-false, ltb-true, eqb-true}
use Rattle.std.proofs.Math.Nat.{mod-lt, sub-le}
use lib.Ieee.{Float, nan, inf, fin, up, down, lt, below, of_bits}
use lib.Ieee.Exact.{HasValue}
use lib.Ieee.Fits.{down_pos}
use Rattle.ieee.specs.Literal.{zero32, number_limit}
use Rattle.ieee.specs.Sign.{is_zero}
use Rattle.ieee.specs.Limit.{within, Bounded}
use Rattle.ieee.specs.Whole.{whole_near}
use Rattle.ieee.proofs.Whole.{near_exact}
use Rattle.ieee.proofs.Comparison.{lt_at}
use Rattle.ieee.proofs.Bounds.{within→bounded}
use Rattle.angle.specs.Sixteenths.{sixteenths_in, sixteenths_of, reduced, turn_of}
use Rattle.angle.proofs.Halves.{limit_value}

-- ---- what is left of an angle without whole turns is below a whole turn
pub reduced_below : (z : ℤ) → reduced z < 5760
unfolding reduced
reduced_below (pos n) = mod-lt n (lit< tt)
reduced_below (negsuc n) = lt_of_le_of_lt (sub-le 5759 (n % 5760)) (lit< tt)

-- ---- whole numbers
back : (n : ℕ) → (5760 - n % 5760) % 5760 ≡ reduced (neg_ℤ (pos n))
unfolding reduced
back zero = refl
back (suc n) = omega arith

forth : (n : ℕ) → n % 5760 ≡ reduced (pos n)
unfolding reduced
forth n = refl

nothing : (n d : ℕ) → 0 < d → n ≡ 0 → whole_near (16 * n) d ≡ 0
nothing n d p e =
    let z : 16 * n ≡ 0 * d = omega (arith, e) in
    ap (λ (k : ℕ). whole_near k d) z ∙ near_exact 0 d p

-- ---- by the sign
zero_value : (c : ℕ) → HasValue zero32 false 0 c
unfolding of_bits
zero_value c = (refl, zero-mul c)

module _ (s : Bool) (m : ℕ) (e : ℤ) where
  tested : lt (fin s m e) zero32 ≡ below s (m * up e) false 0
  tested = lt_at (fin s m e) zero32 s false (m * up e) 0 (down e) (down_pos e) (refl, refl) (zero_value (down e))

none : (a : ℕ) → a < 0 → ⊥
none a h = omega arith

no_size : (a : ℕ) → a + 0 ≤ 0 → a ≡ 0
no_size a h = omega arith

pub turn_back : (x : Float) → Bounded (2 ^ 20) x → lt x zero32 ≡ true → (5760 - sixteenths_in x % 5760) % 5760 ≡ turn_of x
unfolding sixteenths_in sixteenths_of turn_of
turn_back nan b h = absurd b
turn_back (inf s) b h = absurd b
turn_back (fin true m e) b h = back (whole_near (16 * (m * up e)) (down e))
turn_back (fin false m e) b h = absurd (none (m * up e) (ltb-true (m * up e) 0 (sym (tested false m e) ∙ h)))

pub turn_forth : (x : Float) → Bounded (2 ^ 20) x → lt x zero32 ≡ false → sixteenths_in x % 5760 ≡ turn_of x
unfolding sixteenths_in sixteenths_of turn_of
turn_forth nan b h = absurd b
turn_forth (inf s) b h = absurd b
turn_forth (fin false m e) b h = forth (whole_near (16 * (m * up e)) (down e))
turn_forth (fin true m e) b h =
    let z : m * up e ≡ 0 = no_size (m * up e) (ltb-false 0 (m * up e + 0) (sym (tested true m e) ∙ h)) in
    let w : whole_near (16 * (m * up e)) (down e) ≡ 0 = nothing (m * up e) (down e) (down_pos e) z in
    ap (λ (k : ℕ). k % 5760) w ∙ sym (ap (λ (k : ℕ). reduced (neg_ℤ (pos k))) w ∙ sym (back 0))

-- ---- as `turn` meets them
module _ (x : Float) (inside : within number_limit x ≡ true) (n : ℕ) (n_is : n ≡ sixteenths_in x) where
  bounded : Bounded (2 ^ 20) x
  bounded = within→bounded (2 ^ 20) number_limit x limit_value inside

  pub turned_back : (turn : ℕ) → turn ≡ (5760 - n % 5760) % 5760 → lt x zero32 ≡ true → turn ≡ turn_of x
  turned_back turn e h = e ∙ ap (λ (k : ℕ). (5760 - k % 5760) % 5760) n_is ∙ turn_back x bounded h

  pub turned_forth : (turn : ℕ) → turn ≡ n % 5760 → lt x zero32 ≡ false → turn ≡ turn_of x
  turned_forth turn e h = e ∙ ap (λ (k : ℕ). k % 5760) n_is ∙ turn_forth x bounded h

-- ---- an angle of zero, of either sign
zero_reduced : (s : Bool) (n : ℕ) → n ≡ 0 → reduced (cond s (neg_ℤ (pos n)) (pos n)) ≡ 0
unfolding reduced
zero_reduced true n e = ap (λ (k : ℕ). reduced (neg_ℤ (pos k))) e
zero_reduced false n e = ap (λ (k : ℕ). reduced (pos k)) e

pub zero_turn : (x : Float) → is_zero x ≡ true → turn_of x ≡ 0
unfolding sixteenths_in sixteenths_of reduced turn_of
zero_turn nan h = refl
zero_turn (inf s) h = refl
zero_turn (fin s m e) h =
    let z : m * up e ≡ 0 = ap (λ (k : ℕ). k * up e) (eqb-true m 0 h) ∙ zero-mul (up e) in
    zero_reduced s (whole_near (16 * (m * up e)) (down e)) (nothing (m * up e) (down e) (down_pos e) z)
