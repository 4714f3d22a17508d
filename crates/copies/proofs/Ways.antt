-- What each way out of a function of this crate owes, as the code meets it: a premise for each test and for each call's result.
-- Assumes nothing.
use Rattle.std.specs.Prelude.{Ok, Err}
use mathlib.Core.Path.{◌≡◌, refl, sym, ap, ◌∙◌, subst}
use mathlib.Core.Bool.{Bool, true, false, cond, not, ◌||◌, true≢false, and-eq-true_iff}
use mathlib.Core.List.{List, [], ◌∷◌}
use Prim.Native.Nat.{ℕ, zero, suc, ◌+◌, ◌-◌, ◌*◌, ◌^◌, ◌≤◌, ◌<◌, zero-le}
use native.Mathlib.Nat.{add-zero, zero-add, mul-one, le_trans, le_of_suc-le-suc, not-suc-le-zero}
use native.Mathlib.Numerals.{add-one}
use native.Mathlib.Omega.{arith}
use lib.Dec.{T, eqb, lit≤, lit<}
use lib.Ieee.{Float, nan, inf, fin, lt, le, up, down, of_bits, of_fields}
use lib.Ieee.Bits.{is_true}
use lib.Ieee.Exact.{HasValue}
use lib.Ieee.Fits.{down_pos}
use lib.ListN.{length, get_or, drop, set, drop_of_length-le}
use lib.Seq.{sets, drop-cons}
use borrow.Author.Tests.{eq-eqb, ne_eqb, not-false}
use Rattle.ieee.specs.Literal.{number_limit}
use Rattle.ieee.specs.Sign.{abs, is_number}
use Rattle.ieee.specs.Limit.{within, all_within, Bounded}
use Rattle.ieee.specs.Whole.{whole_up}
use Rattle.ieee.proofs.Bounds.{within→bounded}
use Rattle.ieee.proofs.Order.{le_number_l, not_lt→le}
use Rattle.ieee.proofs.Whole.{up_mono}
use Rattle.count.specs.Count.{count_up, count_limit}
use Rattle.command.specs.declared.Refusal.{Refusal}
use Rattle.command.specs.declared.Refusal.TheVariants.{NotFinite}
use Rattle.command.specs.Outcomes.{Outcome, number_of, value_or, ◌gives◌, checked, AllPass}
use Rattle.command.specs.Buffers.{fitted, in_buffer, Filled}
use Rattle.repeater.specs.declared.RepeaterStyle.{RepeaterStyle}
use Rattle.repeater.specs.Repeater.{most_copies, most_offset, copy_count}
use Rattle.command.proofs.Verdicts.{behind_refused, behind_passed, all_pass}
use Rattle.copies.specs.Order.{rising, falling, order_of, copy_order}
use Rattle.copies.specs.Calls.{repeater_numbers, has_too_many, repeater_limit, repeater_checks}
use Rattle.copies.specs.Calls.{order_answer, all_finite, copy_answer, transform_answer}

-- ---- copy_at
rising_at : (i n place : ℕ) → place < n → i + place ≡ get_or (rising i n) place 0
unfolding rising
rising_at i zero place h = absurd (not-suc-le-zero h)
rising_at i (suc n) zero h = add-zero i
rising_at i (suc n) (suc place) h = let s : i + suc place ≡ suc i + place = omega arith in s ∙ rising_at (suc i) n place (le_of_suc-le-suc h)

falling_at : (n place : ℕ) → place < n → n - 1 - place ≡ get_or (falling n) place 0
unfolding falling
falling_at zero place h = absurd (not-suc-le-zero h)
falling_at (suc n) zero h = let s : suc n - 1 - 0 ≡ n = omega arith in s
falling_at (suc n) (suc place) h = let s : suc n - 1 - suc place ≡ n - 1 - place = omega arith in s ∙ falling_at n place (le_of_suc-le-suc h)

module _ (mode n place : ℕ) (h : place < n) where
  pub at_rising : mode ≡ 1 → place ≡ get_or (order_of mode n) place 0
  unfolding order_of
  at_rising e = rw (eq-eqb mode 1 e) (sym (zero-add place) ∙ rising_at 0 n place h)

  pub at_falling : (mode ≡ 1 → ⊥) → n - 1 - place ≡ get_or (order_of mode n) place 0
  unfolding order_of
  at_falling e = rw (ne_eqb mode 1 e) (falling_at n place h)

pub ruleset places = (at_rising, at_falling)

-- ---- put
rising_length : (i n : ℕ) → length (rising i n) ≡ n
unfolding rising
rising_length i zero = refl
rising_length i (suc n) = ap suc (rising_length (suc i) n)

falling_length : (n : ℕ) → length (falling n) ≡ n
unfolding falling
falling_length zero = refl
falling_length (suc n) = ap suc (falling_length n)

pub order_length : (mode n : ℕ) → length (order_of mode n) ≡ n
unfolding order_of
order_length mode n = go (eqb mode 1)
  where
    go : (b : Bool) → length (cond b (rising 0 n) (falling n)) ≡ n
    go true = rising_length 0 n
    go false = falling_length n

-- the numbers from a place on, written from there
module _ (xs l : List ℕ) (i : ℕ) where
  pub rest_next : i < length xs → sets (set l i (get_or xs i 0)) (i + 1) (drop (i + 1) xs) ≡ sets l i (drop i xs)
  rest_next h = rw (add-one, drop-cons xs i 0 h)

  pub rest_none : length xs ≤ i → sets l i (drop i xs) ≡ l
  rest_none h = rw (drop_of_length-le xs {i = i} h)

pub ruleset puttings = (order_length, rest_next, rest_none)

-- ---- a repeater that passes its checks
most_value : HasValue most_copies false 4096 1
unfolding of_bits
most_value = (refl, refl)

whole_most : whole_up 4096 1 ≡ 4096
whole_most = refl

not_above : (most x : Float) → T (is_number most) → T (is_number x) → lt most x ≡ false → le x most ≡ true
not_above most x M h l = is_true (le x most) (not_lt→le most x M h (subst (λ (b : Bool). T (not b)) (sym l) tt))

within_number : (x : Float) → within count_limit x ≡ true → T (is_number x)
within_number nan h = absurd (true≢false (sym (unfold le in h)))
within_number (inf s) h = tt
within_number (fin s m d) h = tt

few : (x : Float) → T (is_number x) → lt most_copies x ≡ false → count_up x ≤ 4096
unfolding of_bits of_fields
few nan h l = zero-le
few (inf s) h l = zero-le
few (fin true m d) h l = zero-le
few (fin false m d) h l =
    let b : Bounded 4096 (fin false m d) = within→bounded 4096 most_copies (fin false m d) most_value (not_above most_copies (fin false m d) tt h l) in
    subst (λ (k : ℕ). whole_up (m * up d) (down d) ≤ k) whole_most
    (up_mono (m * up d) (down d) 4096 1 (down_pos d) (lit< tt) (subst (λ (k : ℕ). k ≤ 4096 * down d) (sym (mul-one (m * up d))) b))

-- each number of a list that is within the limit is
within_at : (limit : Float) (xs : List Float) → all_within limit xs ≡ true → (i : ℕ) → i < length xs → within limit (get_or xs i nan) ≡ true
unfolding all_within
within_at limit [] h i l = absurd (not-suc-le-zero l)
within_at limit (x ∷ xs) h zero l = ((and-eq-true_iff (within limit x) (all_within limit xs)).0 h).0
within_at limit (x ∷ xs) h (suc i) l = within_at limit xs ((and-eq-true_iff (within limit x) (all_within limit xs)).0 h).1 i (le_of_suc-le-suc l)

module _ (r : RepeaterStyle) (pass : AllPass (repeater_checks r)) where
  not_many : (lt most_copies r.copies ≡ false) × (lt most_offset (abs r.offset) ≡ false)
  unfolding repeater_checks has_too_many
  not_many = go (lt most_copies r.copies) (lt most_offset (abs r.offset)) pass.0
    where
      go : (a b : Bool) → (a || b) ≡ false → (a ≡ false) × (b ≡ false)
      go true b e = absurd (true≢false e)
      go false b e = (refl, e)

  numbers_within : all_within repeater_limit (repeater_numbers r) ≡ true
  unfolding repeater_checks
  numbers_within = search not-false

  pub copies_within : within count_limit r.copies ≡ true
  copies_within = within_at repeater_limit (repeater_numbers r) numbers_within 0 (lit< tt)

  offset_limit : within repeater_limit r.offset ≡ true
  offset_limit = within_at repeater_limit (repeater_numbers r) numbers_within 1 (lit< tt)

  pub rotation_within : within number_limit r.rotation ≡ true
  rotation_within = within_at repeater_limit (repeater_numbers r) numbers_within 8 (lit< tt)

  pub offset_within : within most_offset r.offset ≡ true
  unfolding of_bits of_fields
  offset_within = not_above most_offset (abs r.offset) tt (le_number_l (abs r.offset) repeater_limit (subst T (sym offset_limit) tt)) not_many.1

  pub count_few : copy_count r ≤ 4096
  unfolding copy_count
  count_few = few r.copies (within_number r.copies copies_within) not_many.0

-- ---- copy_order, copy_transform
module _ (r : RepeaterStyle) where
  abbrev checks : Outcome (Unit {0})
  checks = checked (repeater_checks r) (Ok tt)

  module _ (f : Refusal) (e : checks ≡ Err f) where
    pub order_turned : order_answer r ≡ Err f
    unfolding order_answer
    order_turned = behind_refused (repeater_checks r) checks refl f e (Ok (copy_order r))

    pub copy_turned : (copy : ℕ) → transform_answer r copy ≡ Err f
    unfolding transform_answer
    copy_turned copy = behind_refused (repeater_checks r) checks refl f e (copy_answer r copy)

  module _ (e : checks ≡ Ok tt) where
    pub passed : AllPass (repeater_checks r)
    passed = all_pass (repeater_checks r) checks refl e

    pub order_given : order_answer r ≡ Ok (order_of r.mode (copy_count r))
    unfolding order_answer copy_order
    order_given = behind_passed (repeater_checks r) checks refl e (Ok (copy_order r))

    pub copy_given : (copy : ℕ) → transform_answer r copy ≡ copy_answer r copy
    unfolding transform_answer
    copy_given copy = behind_passed (repeater_checks r) checks refl e (copy_answer r copy)

    pub order_small : copy_count r ≤ 4096
    order_small = count_few r passed

    pub copies_sound : within count_limit r.copies ≡ true
    copies_sound = copies_within r passed

pub ruleset orders = (order_turned, order_given, order_small, copies_sound)

pub ruleset transforms = (copy_turned, copy_given, passed)

-- ---- the numbers of a copy
-- numbers, refused where one is not finite
abbrev pub finite_only : List Float → Outcome (List Float)
finite_only xs = checked ((not (all_finite xs) gives NotFinite) ∷ []) (Ok xs)

-- ---- write_sound
module _ (r : RepeaterStyle) (pass : AllPass (repeater_checks r)) (n : ℕ) (n_is : n ≡ copy_count r) (copy : ℕ) where
  module _ (h : copy < n) where
    pub copy_few : copy ≤ 4096
    copy_few = let a = count_few r pass in omega arith

    pub copy_small : copy ≤ 2 ^ 24
    copy_small = let a = copy_few in le_trans a (lit≤ tt)

pub ruleset sounds = (copies_within, offset_within, rotation_within, copy_few, copy_small)

-- ---- callers that tell the answer in a number and a count
module _ (r r' : RepeaterStyle) (e : r ≡ r') (w : Outcome ℕ) (number count : ℕ) (number_is : number ≡ number_of w) (count_is : count ≡ value_or 0 w) where
  pub order_told : (l l' : List ℕ) → Filled (fitted (in_buffer (length l)) (order_answer r)) (number_of w) (value_or 0 w) l l'
      → Filled (fitted (in_buffer (length l)) (order_answer r')) number count l l'
  order_told l l' F = rw (number_is, count_is, ← e) F

  pub transform_told : (copy : ℕ) (l l' : List Float) → Filled (fitted (in_buffer (length l)) (transform_answer r copy)) (number_of w) (value_or 0 w) l l'
      → Filled (fitted (in_buffer (length l)) (transform_answer r' copy)) number count l l'
  transform_told copy l l' F = rw (number_is, count_is, ← e) F

pub ruleset telling = (order_told, transform_told)
