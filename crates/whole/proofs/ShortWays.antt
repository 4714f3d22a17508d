-- What each way out of `floor`, `ceil`, `round` and the functions that they call owes, as the code meets it. Assumes nothing.
use mathlib.Core.Path.{◌≡◌, refl, sym, ap, ◌∙◌, subst}
use Prim.Native.Nat.{ℕ, ◌+◌, ◌-◌, ◌%◌, ◌^◌, ◌<◌}
use native.Mathlib.Omega.{arith}
use mathlib.Core.Bool.{Bool, true, false, not, cond}
use lib.Dec.{T}
use lib.Ieee.{Float, nan, inf, fin, binary32, sub, mul, neg, lt, fits, is_nan, nan_bits, to_bits, of_bits}
use lib.Ieee.Bits.{to_bits-lt, of_bits-to_bits}
use Rattle.ieee.specs.Literal.{zero32, one32}
use Rattle.ieee.specs.Sign.{abs}
use Rattle.ieee.specs.Limit.{within}
use Rattle.ieee.specs.Whole.{floor, ceil, round_away}
use Rattle.ieee.proofs.Pattern.{rest_ok, read_number, abs_pattern}
use Rattle.ieee.proofs.Whole.{floor_way, ceil_way, near_way, floor_way_lem, ceil_way_lem, near_way_lem, floor_goes, ceil_goes, near_goes}
use Rattle.float.proofs.Ways.{ok_plus}
use Rattle.whole.specs.Even.{round_even}
use Rattle.whole.specs.Small.{Small, UnitOf}
use Rattle.whole.proofs.Even.{even_size_is}
use Rattle.whole.proofs.Limit.{limit, small_within, stays_beyond}
use Rattle.whole.proofs.Short.{near_size_is, floor_is}
use Rattle.whole.proofs.Signs.{unit_of, round_short, even_short, abs_neg, mirrored}

-- ---- size_of, unit_of
pub size_ok : (x : Float) → fits binary32 x ≡ true → T (not (is_nan x)) → T (not (nan_bits binary32 (to_bits binary32 x % 2 ^ 31)))
size_ok x f t = ok_plus (to_bits binary32 x % 2 ^ 31) (read_number x (subst T (sym f) tt) t)

pub abs_number : (x : Float) → fits binary32 x ≡ true → of_bits binary32 (to_bits binary32 x % 2 ^ 31) ≡ abs x
abs_number x f = abs_pattern (to_bits binary32 x) ∙ ap abs (of_bits-to_bits binary32 x (subst T (sym f) tt))

pub unit_fits : (x : Float) → fits binary32 x ≡ true → to_bits binary32 x - to_bits binary32 x % 2 ^ 31 + 0x3f80_0000 < 2 ^ 32
unit_fits x f = go (to_bits binary32 x) (to_bits-lt binary32 x (subst T (sym f) tt))
  where
    go : (b : ℕ) → b < 2 ^ 32 → b - b % 2 ^ 31 + 0x3f80_0000 < 2 ^ 32
    go b h = omega arith

pub unit_ok : (b : ℕ) → T (not (nan_bits binary32 (b - b % 2 ^ 31 + 0x3f80_0000)))
unit_ok b = rest_ok (b - b % 2 ^ 31 + 0x3f80_0000) (omega arith)

-- ---- what is small in size, and what is not
pub small_number : (x : Float) → Small (abs x) → T (not (is_nan x))
unfolding is_nan
small_number nan s = absurd s.value
small_number (inf t) s = tt
small_number (fin t m e) s = tt

pub small_same : (x a : Float) → a ≡ abs x → Small (abs x) → Small a
small_same x a e s = subst Small (sym e) s

module _ (x : Float) (t : Bool) (f : fits binary32 x ≡ true) (e : t ≡ within limit x) where
  module _ (h : t ≡ true) where
    pub small_found : Small (abs x)
    small_found = small_within x f (sym e ∙ h)

    pub small_mirrored : Small (abs (neg x))
    small_mirrored = subst Small (sym (abs_neg x)) small_found

  module _ (h : t ≡ false) where
    pub floor_beyond : x ≡ floor binary32 x
    floor_beyond = stays_beyond x f floor_way (floor binary32) floor_way_lem (floor_goes binary32) (sym e ∙ h)

    pub ceil_beyond : x ≡ ceil binary32 x
    ceil_beyond = stays_beyond x f ceil_way (ceil binary32) ceil_way_lem (ceil_goes binary32) (sym e ∙ h)

    pub round_beyond : x ≡ round_away binary32 x
    round_beyond = stays_beyond x f near_way (round_away binary32) near_way_lem (near_goes binary32) (sym e ∙ h)

-- ---- from a size to the number
module _ (x u : Float) (S : Small (abs x)) (o : UnitOf x u) where
  pub round_signed : mul binary32 (round_away binary32 (abs x)) u ≡ round_away binary32 x
  round_signed = round_short x (round_away binary32 (abs x)) u S o refl

  abbrev even : Float
  even = mul binary32 (round_even binary32 (abs x)) u

  pub floor_stepped : sub binary32 even (cond (lt x even) one32 zero32) ≡ floor binary32 x
  floor_stepped = floor_is x even S (even_short x (round_even binary32 (abs x)) u S o refl) (cond (lt x even) one32 zero32) refl

pub ceil_mirrored : (x r : Float) → r ≡ floor binary32 (neg x) → neg r ≡ ceil binary32 x
ceil_mirrored x r e = ap neg e ∙ mirrored x

pub ruleset short_ways = (
  even_size_is,
  near_size_is,
  abs_number,
  size_ok,
  unit_fits,
  unit_ok,
  unit_of,
  small_number,
  small_same,
  small_found,
  small_mirrored,
  floor_beyond,
  ceil_beyond,
  round_beyond,
  round_signed,
  floor_stepped,
  ceil_mirrored,
)
