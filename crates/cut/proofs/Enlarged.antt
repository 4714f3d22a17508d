-- A path enlarged by a power of two has the same ranges, and its cut lengths are multiplied; one that is not too short stays so. Assumes nothing.
use Rattle.std.specs.Prelude.{Ok, Err}
use mathlib.Core.Path.{◌≡◌, refl, sym, subst, ◌∙◌}
use mathlib.Core.Bool.{Bool, true, false, true≢false, and-eq-true_iff}
use mathlib.Core.List.{List, [], ◌∷◌, map}
use Prim.Native.Nat.{ℕ, ◌+◌, ◌≤◌}
use native.Mathlib.Nat.{le_refl, zero-lt-suc}
use native.Mathlib.Omega.{arith}
use lib.Dec.{T}
use lib.Ieee.{Float, binary32, of_bits, of_fields, odd, le}
use lib.Ieee.Exact.{HasValue}
use lib.Ieee.Scale.{finite}
use lib.Count.{count_trailing_zeros}
use lib.ListN.{length}
use Rattle.ieee.specs.Literal.{zero32, one32}
use Rattle.ieee.specs.Operators.{◌⊖◌, ◌⊗◌}
use Rattle.ieee.specs.Grid.{scale, On, Twin}
use Rattle.ieee.proofs.Grid.{weaken, sub_on}
use Rattle.ieee.proofs.Twins.{zero_twin, le_shrunk, twin_mul, twin_max}
use Rattle.command.specs.declared.PathCommand.{PathCommand}
use Rattle.command.specs.declared.Refusal.{Refusal}
use Rattle.command.specs.declared.Refusal.TheVariants.{TooShort}
use Rattle.command.specs.Commands.{codes_of, numbers_of}
use Rattle.command.specs.Enlarged.{AllOn, Twins}
use Rattle.command.specs.Outcomes.{Outcome, mapped, and_then, list_of, ◌gives◌, checked}
use Rattle.command.proofs.Outcomes.{refused_accepted, checks_relate, checks_hold}
use Rattle.judge.specs.Lists.{judge_list}
use Rattle.judge.proofs.Enlarged.{length_check, judged_first, judged_enlarged}
use Rattle.measure.specs.Length.{path_length}
use Rattle.measure.proofs.Enlarged.{length_twins}
use Rattle.length.specs.Lists.{measure_list}
use Rattle.trim.specs.declared.TrimStyle.{TrimStyle}
use Rattle.trim.specs.declared.Ranges.{Ranges}
use Rattle.trim.specs.Trim.{normalized_trim_segments}
use Rattle.trim.specs.Ranges.{range_ends}
use Rattle.trim.proofs.Grid.{one_on, ranges_on}
use Rattle.cut.specs.Cuts.{part_of, cut_all}
use Rattle.cut.specs.Calls.{is_finite_trim, shortest, cut_measured, trim_checks, trim_lengths}
use Rattle.cut.specs.Answers.{with_cuts, lengths_answer, told_numbers}
use Rattle.cut.specs.Enlarged.{CutsAlike}
use Rattle.cut.proofs.Ways.{checks_finite}

-- ---- lists of numbers, place by place
pub record NumberTwins (k q b : ℕ) (xs xs' : List Float) : Type 0 where
  pub numbers : xs' ≡ map (scale k) xs
  pub grid : AllOn q b xs

none_twins : (k q b : ℕ) → NumberTwins k q b [] []
none_twins k q b = record { numbers = refl; grid = tt }

cons_twins : {k q b : ℕ} {x x' : Float} {xs xs' : List Float} → Twin k q b x x' → NumberTwins k q b xs xs' → NumberTwins k q b (x ∷ xs) (x' ∷ xs')
cons_twins X XS = record { numbers = λ i. X.is i ∷ XS.numbers i; grid = (X.grid, XS.grid) }

-- ---- the cut lengths of a length and of its multiple, at the same ends
less_on : (x y : Float) → On 37 0 x → On 37 0 y → On 37 1 (x ⊖ y)
less_on x y X Y = sub_on binary32 37 0 x y (omega arith) (omega arith) X Y

module _ (k q b : ℕ) (total total' : Float) (Q : q + 37 ≤ 149) (B : b + 1 + k ≤ 127) (L : Twin k q b total total') where
  part_twin : (part : Float) → On 37 1 part → Twin k (q + 37) (b + 1) (part_of total part) (part_of total' part)
  unfolding part_of
  part_twin part P =
      twin_max k (q + 37) (b + 1) (total ⊗ part) (total' ⊗ part) zero32 zero32
      (twin_mul binary32 k q b 37 1 total total' part Q B L P) (zero_twin k (q + 37) (b + 1))

  pub cut_twins : (ends : List Float) → AllOn 37 0 ends → NumberTwins k (q + 37) (b + 1) (cut_all total ends) (cut_all total' ends)
  cut_twins [] E = none_twins k (q + 37) (b + 1)
  cut_twins (start ∷ []) E = none_twins k (q + 37) (b + 1)
  cut_twins (start ∷ end ∷ ends) E =
      cons_twins (part_twin start (weaken 37 0 37 1 start (le_refl 37) (omega arith) E.0))
      (cons_twins (part_twin (end ⊖ start) (less_on end start E.1.0 E.0))
      (cons_twins (part_twin (one32 ⊖ end) (less_on one32 end one_on E.1.0))
      (cut_twins ends E.1.1)))

-- ---- a length that is not too short, multiplied
shortest_value : HasValue shortest false 1 8388608
unfolding of_bits of_fields odd count_trailing_zeros
shortest_value = (refl, refl)

short_twin : (k q b : ℕ) (total total' : Float) → Twin k q b total total' → le total shortest ≡ false → le total' shortest ≡ false
short_twin k q b total total' L h = go (le total' shortest) (le_shrunk k q b total total' shortest 1 8388608 (zero-lt-suc 8388607) shortest_value L)
  where
    go : (t : Bool) → (T t → T (le total shortest)) → t ≡ false
    go false f = refl
    go true f = absurd (subst T h (f tt))

-- ---- the answers
refused_is : {A : Type 0} (q r : Refusal) → ◌≡◌ {A = Outcome A} (Err q) (Err r) → q ≡ r
refused_is q r e = cc

-- one refusal for both
refused_alike : (k : ℕ) (r : Refusal) → CutsAlike k (Err r) (Err r)
refused_alike k r = record { long = λ _. refl; short = λ e q f. sym (refused_is r q f) ∙ refused_is r TooShort e }

-- the answer about a length, by whether it is too short
abbrev cut_or : Bool → Float → Ranges → Outcome (Ranges × List Float)
cut_or short total ranges = mapped with_cuts (checked ((short gives TooShort) ∷ []) (Ok (total, ranges)))

module _ (k : ℕ) (ranges : Ranges) (x x' : Float) (multiplied : cut_all x' (range_ends ranges) ≡ map (scale k) (cut_all x (range_ends ranges))) where
  short_alike : (s s' : Bool) → (s ≡ false → s' ≡ false) → CutsAlike k (cut_or s x ranges) (cut_or s' x' ranges)
  short_alike true true longer = refused_alike k TooShort
  short_alike true false longer = record { long = λ n. absurd (n refl); short = λ e q f. refused_accepted q _ (sym f) }
  short_alike false true longer = absurd (true≢false (longer refl))
  short_alike false false longer = record { long = λ n i. Ok (ranges, multiplied i); short = λ e q f. refused_accepted TooShort _ (sym e) }

-- the ends of the ranges of a trim
abbrev pub trim_ends : TrimStyle → List Float
trim_ends trim = range_ends (normalized_trim_segments trim)

-- a trim with finite numbers has them on the grid of 2 ^ -37
finite_ends : (trim : TrimStyle) → is_finite_trim trim ≡ true → AllOn 37 0 (trim_ends trim)
unfolding is_finite_trim
finite_ends trim e =
    let start = (and-eq-true_iff (finite trim.start) _).0 e in
    let rest = (and-eq-true_iff (finite trim.end) (finite trim.offset_degrees)).0 start.1 in
    ranges_on trim (subst T (sym start.0) tt) (subst T (sym rest.0) tt) (subst T (sym rest.1) tt)

-- commands of which none is refused: only their number counts
abbrev pub JudgedBy : ℕ → List PathCommand → Type 0
JudgedBy n cs = judge_list (codes_of cs) (numbers_of cs) ≡ checked (length_check n) (Ok cs)

module _ (trim : TrimStyle) where
  -- what holds of every two refusals that are the same, and of two paths cut at ends on the grid, holds of the answers about two lists
  answers_relate : (R : Outcome (Ranges × List Float) → Outcome (Ranges × List Float) → Type 0) → ((r : Refusal) → R (Err r) (Err r))
      → (n : ℕ) (cs cs' : List PathCommand) → JudgedBy n cs → JudgedBy n cs'
      → (AllOn 37 0 (trim_ends trim) → R (mapped with_cuts (cut_measured trim (path_length cs))) (mapped with_cuts (cut_measured trim (path_length cs'))))
      → R (lengths_answer trim (codes_of cs) (numbers_of cs)) (lengths_answer trim (codes_of cs') (numbers_of cs'))
  unfolding lengths_answer trim_lengths measure_list
  answers_relate R none n cs cs' first second last =
      checks_relate (λ (o o' : Outcome (Float × Ranges)). R (mapped with_cuts o) (mapped with_cuts o')) none (trim_checks trim) _ _
      (λ pass. rw (first, second)
      (checks_relate (λ (o o' : Outcome (List PathCommand)). R (cut o) (cut o')) none (length_check n) (Ok cs) (Ok cs')
      (λ few. last (finite_ends trim (checks_finite trim pass)))))
    where
      cut : Outcome (List PathCommand) → Outcome (Ranges × List Float)
      cut o = mapped with_cuts (and_then (mapped path_length o) (cut_measured trim))

  -- what holds of no numbers, and of the cut lengths at ends on the grid, holds of the numbers of the answer
  pub cuts_numbers : (P : List Float → Type 0) → P [] → (cs : List PathCommand) → JudgedBy (length cs) cs
      → (AllOn 37 0 (trim_ends trim) → P (cut_all (path_length cs) (trim_ends trim)))
      → P (list_of (mapped told_numbers (lengths_answer trim (codes_of cs) (numbers_of cs))))
  unfolding cut_measured
  cuts_numbers P none cs judged last =
      answers_relate (λ (o o' : Outcome (Ranges × List Float)). P (list_of (mapped told_numbers o))) (λ r. none) (length cs) cs cs judged judged
      (λ on. checks_hold (λ (o : Outcome (Float × Ranges)). P (list_of (mapped told_numbers (mapped with_cuts o)))) (λ r. none)
      ((le (path_length cs) shortest gives TooShort) ∷ []) _ (λ long. last on))

  -- the same refusal or the same ranges, and every cut length multiplied; a path that is too short may no longer be when it is enlarged
  pub cuts_alike : (k q b : ℕ) (cs cs' : List PathCommand) → q + 93 ≤ 149 → b + 56 + k ≤ 127 → b + k ≤ 22 → Twins k q b cs cs'
      → CutsAlike k (lengths_answer trim (codes_of cs) (numbers_of cs)) (lengths_answer trim (codes_of cs') (numbers_of cs'))
  unfolding cut_measured
  cuts_alike k q b cs cs' Q K B C =
      let x = path_length cs in
      let x' = path_length cs' in
      let L = length_twins k q b cs cs' (omega arith) (omega arith) C in
      answers_relate (CutsAlike k) (refused_alike k) (length cs) cs cs' (judged_first C B) (judged_enlarged C B)
      (λ on. short_alike k (normalized_trim_segments trim) x x'
      (cut_twins k (q + 56) (b + 55) x x' (omega arith) (omega arith) L (trim_ends trim) on).numbers
      (le x shortest) (le x' shortest) (short_twin k (q + 56) (b + 55) x x' L))
