-- Laws of a field: its blanks, its digits and its value.
-- Assumes nothing.
use mathlib.Core.Path.{◌≡◌, refl, sym, ap, ◌∙◌}
use mathlib.Core.Bool.{Bool, true, false, not, cond, ◌&&◌, and-eq-true_iff}
use mathlib.Core.List.{List, [], ◌∷◌}
use Prim.Native.Nat.{ℕ, zero, suc, ◌+◌, ◌-◌, ◌*◌, ◌≤◌, ◌<◌}
use native.Mathlib.Nat.{le_refl}
use native.Mathlib.Numerals.{add-one}
use native.Mathlib.Omega.{arith}
use lib.Dec.{eqb, leb, ltb}
use lib.ListN.{length, get_or, take, drop, length-drop, drop_of_length-le}
use lib.Seq.{drop-cons, take_all}
use borrow.Author.Tests.{eq-eqb, le-leb, lt-leb, leb-true, ltb-false}
use Rattle.std.specs.Prelude.{◌==◌, Option, Some, None}
use Rattle.std.specs.Char.{is_ascii_digit}
use Rattle.std.specs.List.{position}
use Rattle.std.specs.List.{position_or_len}
use Rattle.std.proofs.lemmas.List.Quantifiers.{position-Some}
use Rattle.std.proofs.lemmas.List.Sums.{fails_before_first}
use Rattle.plate_read.specs.Text.{is_digit, all_digits, is_numeral, value_after, unblanked, largest_pattern, field_value, is_field}
use Rattle.plate_read.specs.Fields.{pattern_after, field_pattern}

-- ---- blanks
-- the test by which the code looks for the first byte that is no blank
abbrev pub some_byte : ℕ → Bool
some_byte b = not (b == 32)

blank_is : (b : ℕ) → some_byte b ≡ false → eqb b 32 ≡ true
blank_is b e = go (eqb b 32) e
  where
    go : (t : Bool) → not t ≡ false → t ≡ true
    go true e = refl
    go false e = sym e

some_is : (b : ℕ) → some_byte b ≡ true → eqb b 32 ≡ false
some_is b e = go (eqb b 32) e
  where
    go : (t : Bool) → not t ≡ true → t ≡ false
    go true e = sym e
    go false e = refl

module _ (b : ℕ) (bs : List ℕ) where
  unblanked_blank : some_byte b ≡ false → unblanked (b ∷ bs) ≡ unblanked bs
  unfolding unblanked
  unblanked_blank e = rw (blank_is b e)

  unblanked_other : some_byte b ≡ true → unblanked (b ∷ bs) ≡ b ∷ bs
  unfolding unblanked
  unblanked_other e = rw (some_is b e)

unblanked_none : unblanked [] ≡ []
unfolding unblanked
unblanked_none = refl

-- blanks at the start change nothing
unblanked_after : (field : List ℕ) (i : ℕ) → i ≤ length field → ((k : ℕ) → k < i → some_byte (get_or field k 0) ≡ false) → unblanked field ≡ unblanked (drop i field)
unblanked_after field zero l h = refl
unblanked_after [] (suc i) l h = absurd (omega arith)
unblanked_after (b ∷ bs) (suc i) l h = unblanked_blank b bs (h 0 (omega arith)) ∙ unblanked_after bs i (omega arith) (λ k m. h (suc k) (omega arith))

module _ (field : List ℕ) where
  all_blank : position some_byte field ≡ None → (k : ℕ) → k < length field → some_byte (get_or field k 0) ≡ false
  all_blank e k h = go (ltb (position_or_len some_byte field) (length field)) refl e
    where
      go : (t : Bool) → ltb (position_or_len some_byte field) (length field) ≡ t → cond t (Some (position_or_len some_byte field)) None ≡ None → some_byte (get_or field k 0) ≡ false
      go true t_is e = cc
      go false t_is e = let l = ltb-false (position_or_len some_byte field) (length field) t_is in fails_before_first some_byte field k 0 (omega arith)

  pub found_none : position some_byte field ≡ None → unblanked field ≡ []
  found_none e =
      unblanked_after field (length field) (le_refl (length field)) (all_blank e) ∙ ap unblanked (drop_of_length-le field {i = length field} (le_refl (length field))) ∙ unblanked_none

  module _ (i : ℕ) (e : position some_byte field ≡ Some i) where
    found : (i < length field) × (some_byte (get_or field i 0) ≡ true) × ((k : ℕ) → k < i → some_byte (get_or field k 0) ≡ false)
    found = position-Some some_byte field i 0 e

    pub found_inside : i < length field
    found_inside = found.0

    pub found_some : unblanked field ≡ drop i field
    found_some =
        let here : drop i field ≡ get_or field i 0 ∷ drop (suc i) field = drop-cons field i 0 found.0 in
        unblanked_after field i (let l = found.0 in omega arith) found.2
        ∙ ap unblanked here
        ∙ unblanked_other (get_or field i 0) (drop (suc i) field) found.1
        ∙ sym here

-- ---- digits_value
digit_same : (b : ℕ) → is_ascii_digit b ≡ is_digit b
unfolding is_digit
digit_same b = refl

digit_between : (b : ℕ) → is_digit b ≡ true → (48 ≤ b) × (b ≤ 57)
unfolding is_digit
digit_between b e = let s = (and-eq-true_iff (leb 48 b) (leb b 57)).0 e in (leb-true 48 b s.0, leb-true b 57 s.1)

value_grows : (v : ℕ) (bs : List ℕ) → v ≤ value_after v bs
unfolding value_after
value_grows v [] = le_refl v
value_grows v (b ∷ bs) = let e = value_grows (v * 10 + (b - 48)) bs in omega arith

module _ (v b : ℕ) (bs : List ℕ) where
  pattern_other : is_digit b ≡ false → pattern_after v (b ∷ bs) ≡ None
  unfolding pattern_after all_digits
  pattern_other e = rw e

  pattern_digit : is_digit b ≡ true → pattern_after v (b ∷ bs) ≡ pattern_after (v * 10 + (b - 48)) bs
  unfolding pattern_after all_digits value_after
  pattern_digit e = rw e

pattern_large : (v : ℕ) (bs : List ℕ) → largest_pattern < v → pattern_after v bs ≡ None
unfolding pattern_after
pattern_large v bs h =
    let g = value_grows v bs in
    let l : largest_pattern < value_after v bs = omega arith in
    rw (lt-leb (value_after v bs) largest_pattern l) (go (all_digits bs))
  where
    go : (a : Bool) → cond (a && false) (Some (value_after v bs)) None ≡ None
    go true = refl
    go false = refl

pattern_end : (v : ℕ) → v ≤ largest_pattern → pattern_after v [] ≡ Some v
unfolding pattern_after all_digits value_after
pattern_end v h = rw (le-leb v largest_pattern h)

-- one digit more, a byte that is none, and the end
module _ (digits : List ℕ) (i value : ℕ) where
  pub digits_all : value < 4294967296 → length digits ≤ i → pattern_after value (drop i digits) ≡ Some value
  digits_all small h = ap (pattern_after value) (drop_of_length-le digits {i = i} h) ∙ pattern_end value (omega arith)

  module _ (h : i < length digits) where
    first : pattern_after value (drop i digits) ≡ pattern_after value (get_or digits i 0 ∷ drop (suc i) digits)
    first = ap (pattern_after value) (drop-cons digits i 0 h)

    pub digits_other : is_ascii_digit (get_or digits i 0) ≡ false → pattern_after value (drop i digits) ≡ None
    digits_other e = first ∙ pattern_other value (get_or digits i 0) (drop (suc i) digits) (sym (digit_same (get_or digits i 0)) ∙ e)

    module _ (e : is_ascii_digit (get_or digits i 0) ≡ true) where
      more : pattern_after value (drop i digits) ≡ pattern_after (value * 10 + (get_or digits i 0 - 48)) (drop (suc i) digits)
      more = first ∙ pattern_digit value (get_or digits i 0) (drop (suc i) digits) (sym (digit_same (get_or digits i 0)) ∙ e)

      pub digits_next : (value' : ℕ) → value' ≡ value * 10 + (get_or digits i 0 - 48) → pattern_after value (drop i digits) ≡ pattern_after value' (drop (i + 1) digits)
      digits_next value' value_is = rw (value_is, add-one) more

      pub digits_large : largest_pattern < value * 10 + (get_or digits i 0 - 48) → pattern_after value (drop i digits) ≡ None
      digits_large l = more ∙ pattern_large (value * 10 + (get_or digits i 0 - 48)) (drop (suc i) digits) l

pub digit_starts : (b : ℕ) → is_ascii_digit b ≡ true → (48 ≤ b) × (b ≤ 57)
digit_starts b e = digit_between b (sym (digit_same b) ∙ e)

pub ruleset values = (digits_all, digits_other, digit_starts, digits_large, digits_next)

-- ---- field_value
numeral_digits : (u : List ℕ) → 0 < length u → is_numeral u ≡ all_digits u
unfolding is_numeral
numeral_digits [] h = absurd (omega arith)
numeral_digits (b ∷ u) h = refl

numeral_none : is_numeral [] ≡ false
unfolding is_numeral
numeral_none = refl

module _ (field : List ℕ) (l : length field ≡ 11) where
  pub field_blank : position some_byte field ≡ None → None ≡ field_pattern field
  unfolding field_pattern is_field
  field_blank e = rw (eq-eqb (length field) 11 l, found_none field e, numeral_none)

  module _ (i : ℕ) (e : position some_byte field ≡ Some i) where
    some : 0 < length (unblanked field)
    some = let h = found_inside field i e in rw (found_some field i e, length-drop i field) (omega arith)

    pub field_digits : (r : Option ℕ) → r ≡ pattern_after 0 (take (length field - i) (drop i field)) → r ≡ field_pattern field
    unfolding field_pattern is_field pattern_after
    field_digits r r_is =
        let whole : take (length field - i) (drop i field) ≡ unblanked field = take_all (length field - i) (drop i field) (rw length-drop (le_refl _)) ∙ sym (found_some field i e) in
        r_is ∙ rw (whole, eq-eqb (length field) 11 l, numeral_digits (unblanked field) some)

pub ruleset fields = (field_blank, found_inside, field_digits)

-- what the answer tells of a field
module _ (field : List ℕ) (e : is_field field ≡ true) where
  pub field_most : field_value field ≤ largest_pattern
  unfolding is_field
  field_most =
      leb-true (field_value field) largest_pattern
      ((and-eq-true_iff (is_numeral (unblanked field)) (leb (field_value field) largest_pattern)).0
      ((and-eq-true_iff (eqb (length field) 11) (is_numeral (unblanked field) && leb (field_value field) largest_pattern)).0 e).1).1
