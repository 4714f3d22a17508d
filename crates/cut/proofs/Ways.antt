-- What a trim that is let through has, and what a caller owes that tells its answer in places. Assumes nothing.
use Rattle.std.specs.Prelude.{Ok, Err}
use Rattle.std.specs.Int.{from_bool}
use mathlib.Core.Path.{◌≡◌, refl, sym, ap, ◌∙◌}
use mathlib.Core.Bool.{Bool, true, false, cond}
use mathlib.Core.List.{List}
use Prim.Native.Nat.{ℕ, ◌*◌}
use native.Mathlib.Nat.{mul-zero}
use lib.Ieee.{Float}
use lib.ListN.{length}
use borrow.Author.Tests.{not-false}
use Rattle.command.specs.declared.Refusal.{Refusal}
use Rattle.command.specs.Refusals.{refusal_number}
use Rattle.command.specs.Outcomes.{Outcome, mapped, AllPass}
use Rattle.command.specs.Buffers.{onto}
use Rattle.command.proofs.Buffers.{unfilled}
use Rattle.trim.specs.declared.TrimStyle.{TrimStyle}
use Rattle.trim.specs.declared.Ranges.{Ranges}
use Rattle.trim.specs.declared.Ranges.TheVariants.{Nothing, One, Two}
use Rattle.trim.specs.Trim.{is_full_trim_segments}
use Rattle.trim.specs.Ranges.{range_count, range_ends}
use Rattle.cut.specs.Cuts.{cut_all}
use Rattle.cut.specs.Calls.{is_finite_trim, trim_ranges, trim_checks, trim_lengths}
use Rattle.cut.specs.Answers.{with_ends, ranges_answer, with_cuts, lengths_answer, mark_of, Placed}

-- a trim of which the checks find nothing has finite numbers
pub checks_finite : (trim : TrimStyle) → AllPass (trim_checks trim) → is_finite_trim trim ≡ true
checks_finite trim pass = not-false _ pass.0

-- ---- callers that tell the answer in places
module _ (width : ℕ) (o : Outcome (Ranges × List Float)) (l : List Float) (mark : ℕ) where
  unplaced : (r : Refusal) → Err r ≡ o → Placed width o (refusal_number r) 0 l l mark mark
  unplaced r is = rw (← is) (record { numbers_filled = rw mul-zero (unfilled r l); count_is = refl; mark_told = record { number_is = refl; value_is = refl } })

  placed : (r : Ranges) (xs l' : List Float) → Ok (r, xs) ≡ o → width * range_count r ≡ length xs → l' ≡ onto xs l
      → Placed width o 0 (range_count r) l l' mark (mark_of r)
  placed r xs l' is wide l_is = rw (← is) (record {
    numbers_filled = record { number_is = refl; count_is = wide; content_is = l_is };
    count_is = refl;
    mark_told = record { number_is = refl; value_is = refl };
  })

-- the mark of a whole path is whether it is one, as a number
bool_number : (x : Bool) → from_bool x ≡ cond x 1 0
bool_number true = refl
bool_number false = refl

pub mark_is : (r : Ranges) (x : Bool) (n : ℕ) → n ≡ from_bool x → x ≡ is_full_trim_segments r → n ≡ mark_of r
mark_is r x n n_is x_is = n_is ∙ rw (bool_number x, x_is)

-- two ends and three lengths a range
two_wide : (r : Ranges) → 2 * range_count r ≡ length (range_ends r)
two_wide Nothing = refl
two_wide (One a b) = refl
two_wide (Two a b) = refl

three_wide : (x : Float) (r : Ranges) → 3 * range_count r ≡ length (cut_all x (range_ends r))
three_wide x Nothing = refl
three_wide x (One a b) = refl
three_wide x (Two a b) = refl

module _ (trim : TrimStyle) (l : List Float) (mark : ℕ) where
  module _ (s : Outcome Ranges) (s_is : s ≡ trim_ranges trim) where
    pub ranges_turned_back : (r : Refusal) (n : ℕ) → n ≡ refusal_number r → s ≡ Err r → Placed 2 (ranges_answer trim) n 0 l l mark mark
    unfolding ranges_answer
    ranges_turned_back r n n_is e = rw n_is (unplaced 2 (ranges_answer trim) l mark r (ap (mapped with_ends) (sym e ∙ s_is)))

    pub ranges_told : (r : Ranges) (l' : List Float) (count mark' : ℕ) → l' ≡ onto (range_ends r) l → count ≡ range_count r → mark' ≡ mark_of r
        → s ≡ Ok r → Placed 2 (ranges_answer trim) 0 count l l' mark mark'
    unfolding ranges_answer
    ranges_told r l' count mark' l_is count_is m_is e =
        rw (count_is, m_is) (placed 2 (ranges_answer trim) l mark r (range_ends r) l' (ap (mapped with_ends) (sym e ∙ s_is)) (two_wide r) l_is)

  module _ (codes : List ℕ) (numbers : List Float) (s : Outcome (Float × Ranges)) (s_is : s ≡ trim_lengths trim codes numbers) where
    pub lengths_turned_back : (r : Refusal) (n : ℕ) → n ≡ refusal_number r → s ≡ Err r
        → Placed 3 (lengths_answer trim codes numbers) n 0 l l mark mark
    unfolding lengths_answer
    lengths_turned_back r n n_is e =
        rw n_is (unplaced 3 (lengths_answer trim codes numbers) l mark r (ap (mapped with_cuts) (sym e ∙ s_is)))

    pub lengths_told : (x : Float) (r : Ranges) (l' : List Float) (count mark' : ℕ) → l' ≡ onto (cut_all x (range_ends r)) l
        → count ≡ range_count r → mark' ≡ mark_of r → s ≡ Ok (x, r) → Placed 3 (lengths_answer trim codes numbers) 0 count l l' mark mark'
    unfolding lengths_answer
    lengths_told x r l' count mark' l_is count_is m_is e =
        rw (count_is, m_is)
        (placed 3 (lengths_answer trim codes numbers) l mark r (cut_all x (range_ends r)) l'
        (ap (mapped with_cuts) (sym e ∙ s_is)) (three_wide x r) l_is)

pub ruleset telling = (mark_is, ranges_turned_back, ranges_told, lengths_turned_back, lengths_told)
