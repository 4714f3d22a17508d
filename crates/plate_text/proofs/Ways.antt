-- What each way out of a function of this crate owes, as the code meets it: a premise for each test and for each call's result.
-- Assumes nothing.
use Rattle.command.specs.declared.Size.{Size}
use Rattle.std.specs.Prelude.{Result, Ok, Err}
use mathlib.Core.Path.{◌≡◌, refl, sym, ap, ap₂, ◌∙◌, subst}
use mathlib.Core.Bool.{true}
use mathlib.Core.List.{List, [], ◌∷◌, map}
use Prim.Native.Nat.{ℕ, ◌+◌, ◌*◌, ◌/◌, ◌≤◌, ◌<◌}
use native.Mathlib.Omega.{arith}
use lib.Ieee.{Float, of_bits, binary32}
use lib.ListN.{length, take, drop, length-append}
use lib.Seq.{take-append_seam, length-take-le}
use borrow.Author.Tests.{le-leb}
use Rattle.ieee.specs.Limit.{all_within}
use Rattle.command.specs.declared.PathCommand.{PathCommand}
use Rattle.command.specs.declared.Refusal.{Refusal}
use Rattle.command.specs.Commands.{codes_of, numbers_of, command_limit}
use Rattle.command.specs.Refusals.{refusal_number}
use Rattle.command.specs.Outcomes.{Outcome, number_of, mapped, list_of}
use Rattle.command.specs.Buffers.{onto, in_buffers, fitted, Filled, FilledBoth, codes_told, numbers_told}
use Rattle.command.proofs.Outcomes.{refused_accepted, number_some, answered}
use Rattle.command.proofs.Lists.{codes_length}
use Rattle.path.specs.Path.{path_commands}
use Rattle.path.proofs.Counts.{path_codes, path_numbers}
use Rattle.draw.specs.Paths.{draw_path}
use Rattle.draw.proofs.Sources.{drawn_path}
use Rattle.draw.proofs.Sound.{drawn_path_sound}
use Rattle.judge.specs.Lists.{judge_list, place_of}
use Rattle.judge.proofs.Ways.{judged_read}
use Rattle.judge.proofs.Lists.{list_judged, read_written}
use Rattle.measure.specs.Length.{path_length}
use Rattle.length.specs.Lists.{measure_list}
use Rattle.plate_read.specs.declared.Reading.{Reading}
use Rattle.plate_read.specs.Text.{Content, faulty, given, read_text, reading_of, numbers_given}
use Rattle.plate_read.proofs.Texts.{reading_counts}
use Rattle.plate_print.specs.Lines.{refusal_text, line}
use Rattle.plate_print.proofs.Lines.{list_answer, numbers_there}
use Rattle.plate_text.specs.Plate.{drawn_text, content_text, plate_text, measured_text}

-- ---- print_measured
-- what is measured was accepted
measured_list : (o : Outcome (List PathCommand)) (x : Float) → mapped path_length o ≡ Ok x → o ≡ Ok (list_of o)
measured_list (Err r) x e = refused_accepted r x e
measured_list (Ok cs) x e = refl

pub measured_there : (codes : List ℕ) (numbers : List Float) (m : Outcome Float) → m ≡ measure_list codes numbers → (x : Float) → m ≡ Ok x
    → place_of (length codes) codes ≤ length numbers
unfolding measure_list
measured_there codes numbers m m_is x e =
    let cs = list_of (judge_list codes numbers) in
    let w = read_written codes numbers cs (judged_read codes numbers cs (measured_list (judge_list codes numbers) x (sym m_is ∙ e))).1 in
    let there : place_of (length codes) codes ≡ length numbers = sym (λ i. place_of (length (w.0 i)) (w.0 i)) ∙ numbers_there cs ∙ ap length w.1 in
    omega arith

-- ---- print_drawn
-- a path of at most 256 vertices fits the program's buffers
path_fits : (closed : ℕ) (v : List Float) (count : ℕ) → count ≤ 256 → fitted (in_buffers 258 1538) (draw_path closed v count) ≡ draw_path closed v count
unfolding fitted
path_fits closed v count few = go (draw_path closed v count) refl
  where
    go : (o : Outcome (List PathCommand)) → draw_path closed v count ≡ o → fitted (in_buffers 258 1538) o ≡ o
    go (Err r) e = refl
    go (Ok cs) e =
        let s = drawn_path closed v count cs e in
        let a : length (codes_of cs) ≤ 258 = rw s.2 (omega (arith, path_codes closed v count s.0)) in
        let b : length (numbers_of cs) ≤ 1538 = rw s.2 (omega (arith, path_numbers closed v count s.0)) in
        rw (le-leb (length (codes_of cs)) 258 a, le-leb (length (numbers_of cs)) 1538 b)

-- a refusal is printed by its number
refusal_text_lem : (r : Refusal) (o : Outcome (List PathCommand)) → refusal_number r ≡ number_of o → refusal_text r ≡ drawn_text o
unfolding refusal_text drawn_text
refusal_text_lem r (Err r') e = ap (λ (n : ℕ). line 8 (n ∷ [])) e
refusal_text_lem r (Ok cs) e = let h = number_some r in absurd (omega arith)

-- sound commands, measured and printed
list_length : (cs : List PathCommand) → length cs ≤ 262144 → all_within command_limit (numbers_of cs) ≡ true → measure_list (codes_of cs) (numbers_of cs) ≡ Ok (path_length cs)
unfolding measure_list
list_length cs few within = ap (mapped path_length) (list_judged cs few within)

text_drawn : (cs : List PathCommand) → length cs ≤ 262144 → all_within command_limit (numbers_of cs) ≡ true
    → measured_text (codes_of cs) (numbers_of cs) (measure_list (codes_of cs) (numbers_of cs)) ≡ drawn_text (Ok cs)
unfolding measured_text drawn_text
text_drawn cs few within = ap (measured_text (codes_of cs) (numbers_of cs)) (list_length cs few within) ∙ list_answer cs (path_length cs)

pub room : (n m : ℕ) → n ≤ 258 → 17816 ≤ m → 69 * n + 14 ≤ m
room n m h l = omega arith

module _ (closed : ℕ) (v : List Float) (count : ℕ) (codes codes' : List ℕ) (numbers numbers' : List Float) (d : Outcome Size)
    (filled : FilledBoth (fitted (in_buffers (length codes) (length numbers)) (draw_path closed v count)) (number_of d) (codes_told d) (numbers_told d) codes codes' numbers numbers')
    (few : count ≤ 256) (long_codes : length codes ≡ 258) (long_numbers : length numbers ≡ 1538) where
  abbrev o : Outcome (List PathCommand)
  o = draw_path closed v count

  fits : fitted (in_buffers (length codes) (length numbers)) o ≡ o
  fits = ap₂ (λ (a b : ℕ). fitted (in_buffers a b) o) long_codes long_numbers ∙ path_fits closed v count few

  -- the promise about each buffer, without the check that the drawing passes
  in_codes : Filled (mapped codes_of o) (number_of d) (codes_told d) codes codes'
  in_codes = subst (λ (p : Outcome (List PathCommand)). Filled (mapped codes_of p) (number_of d) (codes_told d) codes codes') fits filled.codes_filled

  in_numbers : Filled (mapped numbers_of o) (number_of d) (numbers_told d) numbers numbers'
  in_numbers = subst (λ (p : Outcome (List PathCommand)). Filled (mapped numbers_of p) (number_of d) (numbers_told d) numbers numbers') fits filled.numbers_filled

  number_is : number_of d ≡ number_of o
  number_is = in_codes.number_is ∙ go o
    where
      go : (p : Outcome (List PathCommand)) → number_of (mapped codes_of p) ≡ number_of p
      go (Err r) = refl
      go (Ok cs) = refl

  pub refusal_drawn : (r : Refusal) → d ≡ Err r → refusal_text r ≡ drawn_text o
  refusal_drawn r e = refusal_text_lem r o (sym (ap number_of e) ∙ number_is)

  module _ (i j : ℕ) (e : d ≡ Ok (record { codes = i; numbers = j })) where
    abbrev cs : List PathCommand
    cs = list_of o

    is_drawn : o ≡ Ok cs
    is_drawn = answered o (sym (ap number_of e) ∙ number_is) []

    splits : (0 < count) × (count ≤ 1024) × (cs ≡ path_commands closed v count)
    splits = drawn_path closed v count cs is_drawn

    codes_written : list_of (mapped codes_of o) ≡ codes_of cs
    codes_written = ap (λ (p : Outcome (List PathCommand)). list_of (mapped codes_of p)) is_drawn

    numbers_written : list_of (mapped numbers_of o) ≡ numbers_of cs
    numbers_written = ap (λ (p : Outcome (List PathCommand)). list_of (mapped numbers_of p)) is_drawn

    codes_count_is : i ≡ length (codes_of cs)
    codes_count_is = sym (ap codes_told e) ∙ in_codes.count_is ∙ ap length codes_written

    numbers_count_is : j ≡ length (numbers_of cs)
    numbers_count_is = sym (ap numbers_told e) ∙ in_numbers.count_is ∙ ap length numbers_written

    codes_content : codes' ≡ onto (codes_of cs) codes
    codes_content = in_codes.content_is ∙ ap (λ (l : List ℕ). onto l codes) codes_written

    numbers_content : numbers' ≡ onto (numbers_of cs) numbers
    numbers_content = in_numbers.content_is ∙ ap (λ (l : List Float). onto l numbers) numbers_written

    codes_few : i ≤ 258
    codes_few = rw (codes_count_is, splits.2) (omega (arith, path_codes closed v count splits.0))

    pub codes_inside : i ≤ length codes'
    codes_inside = rw (codes_count_is, codes_content, length-append (codes_of cs) (drop (length (codes_of cs)) codes)) (omega arith)

    pub numbers_inside : j ≤ length numbers'
    numbers_inside = rw (numbers_count_is, numbers_content, length-append (numbers_of cs) (drop (length (numbers_of cs)) numbers)) (omega arith)

    codes_are : take i codes' ≡ codes_of cs
    codes_are = (λ k. take (codes_count_is k) (codes_content k)) ∙ take-append_seam (codes_of cs) (drop (length (codes_of cs)) codes)

    numbers_are : take j numbers' ≡ numbers_of cs
    numbers_are = (λ k. take (numbers_count_is k) (numbers_content k)) ∙ take-append_seam (numbers_of cs) (drop (length (numbers_of cs)) numbers)

    pub codes_most : length (take i codes') ≤ 258
    codes_most = let a = codes_few in let b = codes_count_is in rw codes_are (omega arith)

    pub measured_drawn : measured_text (take i codes') (take j numbers') (measure_list (take i codes') (take j numbers')) ≡ drawn_text o
    measured_drawn =
        let a = codes_few in
        let b = codes_count_is in
        let c = codes_length cs in
        let small : length cs ≤ 262144 = omega arith in
        (λ k. measured_text (codes_are k) (numbers_are k) (measure_list (codes_are k) (numbers_are k)))
        ∙ text_drawn cs small (drawn_path_sound closed v count cs is_drawn)
        ∙ ap drawn_text (sym is_drawn)

pub ruleset drawing = (refusal_drawn, codes_inside, numbers_inside, length-take-le, codes_most, room, measured_drawn)

-- ---- plate
fault_text : (c : Content) (r : Refusal) → reading_of c ≡ Err r → refusal_text r ≡ content_text c
unfolding reading_of content_text
fault_text (faulty r') r e = let same : r' ≡ r = cc in ap refusal_text (sym same)
fault_text (given flag ps) r e = cc

sound_text : (c : Content) (r : Reading) → reading_of c ≡ Ok r → drawn_text (draw_path r.closed (numbers_given c) r.count) ≡ content_text c
unfolding reading_of content_text numbers_given
sound_text (faulty q) r e = cc
sound_text (given flag ps) r e =
    let here : Reading = record { closed = flag; count = length ps / 6 } in
    let same : ◌≡◌ {A = Result Reading Refusal} (Ok here) (Ok r) = e in
    let r_is : here ≡ r = cc in
    sym (λ i. drawn_text (draw_path (r_is i).closed (map (of_bits binary32) ps) (r_is i).count))

module _ (text : List ℕ) (reading : Result Reading Refusal) (reading_is : reading ≡ reading_of (read_text text)) where
  pub refusal_plate : (r : Refusal) → reading ≡ Err r → refusal_text r ≡ plate_text text
  unfolding plate_text
  refusal_plate r e = fault_text (read_text text) r (sym reading_is ∙ e)

  module _ (r : Reading) (e : reading ≡ Ok r) where
    sizes : (length (numbers_given (read_text text)) ≡ 6 * r.count) × (r.count ≤ 256) × (r.closed ≤ 4294967295)
    sizes = reading_counts text r (sym reading_is ∙ e)

    pub count_few : r.count ≤ 256
    count_few = sizes.1

    pub vertices_fit : 6 * r.count < 18446744073709551616
    vertices_fit = let h = count_few in omega arith

    module _ (vertices vertices' : List Float) (filled : vertices' ≡ onto (numbers_given (read_text text)) vertices) where
      pub vertices_inside : 6 * r.count ≤ length vertices'
      vertices_inside = rw (filled, length-append (numbers_given (read_text text)) (drop (length (numbers_given (read_text text))) vertices), sizes.0) (omega arith)

      vertices_are : take (6 * r.count) vertices' ≡ numbers_given (read_text text)
      vertices_are =
          (λ i. take (sym sizes.0 i) (filled i))
          ∙ take-append_seam (numbers_given (read_text text)) (drop (length (numbers_given (read_text text))) vertices)

      pub drawn_plate : drawn_text (draw_path r.closed (take (6 * r.count) vertices') r.count) ≡ plate_text text
      unfolding plate_text
      drawn_plate =
          ap (λ (w : List Float). drawn_text (draw_path r.closed w r.count)) vertices_are
          ∙ sound_text (read_text text) r (sym reading_is ∙ e)

pub ruleset plates = (refusal_plate, count_few, vertices_fit, vertices_inside, length-take-le, drawn_plate)

-- ---- callers that hand the answer on
pub answer_inside : (t out out' : List ℕ) (n : ℕ) → out' ≡ onto t out → n ≡ length t → n ≤ length out'
answer_inside t out out' n e n_is = rw (e, length-append t (drop (length t) out)) (omega arith)

pub ruleset answers = (answer_inside, length-take-le)
