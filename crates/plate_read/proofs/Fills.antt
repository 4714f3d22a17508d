-- The lines read so far and the numbers written for them, and the text after its first line. Assumes nothing.
use mathlib.Core.Path.{◌≡◌, refl, sym, ap, ◌∙◌}
use mathlib.Core.Bool.{true, cond}
use mathlib.Core.List.{List, [], ◌++◌, map, map-append, append-nil}
use Prim.Native.Nat.{ℕ, suc, ◌+◌, ◌-◌, ◌*◌, ◌≤◌, ◌<◌, min}
use native.Mathlib.Nat.{le_refl}
use native.Mathlib.Omega.{arith}
use lib.Ieee.{Float, of_bits, binary32}
use lib.ListN.{length, get_or, take, drop, length-append, length-drop, length-map}
use denote.Param.Members.{Mut}
use lib.Seq.{sets, length-sets, take_all, take-append_seam, drop-append_seam}
use Rattle.std.proofs.Math.ListN.{get_or-map}
use Rattle.std.proofs.Common.{append_assoc}
use Rattle.std.proofs.lemmas.List.{take_min, drop_min, ext_get_or}
use Rattle.std.specs.Array.{IsMapOf}
use Rattle.std.specs.Fn.{Called}
use Rattle.std.specs.Prelude.{Some, None, Result, Ok, Err}
use Rattle.command.specs.declared.Refusal.{Refusal}
use Rattle.command.specs.declared.Refusal.TheVariants.{TooMany, Unlisted}
use Rattle.command.proofs.Buffers.{sets_append, sets_onto}
use Rattle.plate_read.specs.declared.Reading.{Reading}
use Rattle.plate_read.specs.Text.{field_value, line_form, line_values, Content, faulty, given, before, read_lines, reading_of}
use Rattle.plate_read.specs.Fields.{line_patterns}
pub use Rattle.plate_read.proofs.Lines.{lines_none}
use Rattle.plate_read.proofs.Lines.{form_long, values_length, patterns_form, patterns_bad, lines_many, lines_broken, lines_next}
use Rattle.plate_read.proofs.Texts.{form_prefix, values_prefix}

-- the numbers with these patterns
abbrev pub floats : List ℕ → List Float
floats ps = map (of_bits binary32) ps

-- ---- pieces of 67 bytes
-- a piece of a text, as it is cut off, settles what the text's first line gives
module _ (text line rest : List ℕ) (cut : text ≡ line ++ rest) (size : length line ≡ min 67 (length text)) where
  line_is : line ≡ take 67 text
  line_is =
      sym (take-append_seam line rest) ∙ ap (take (length line)) (sym cut) ∙ ap (λ (k : ℕ). take k text) size ∙ take_min 67 text

  rest_is : rest ≡ drop 67 text
  rest_is =
      sym (drop-append_seam line rest) ∙ ap (drop (length line)) (sym cut) ∙ ap (λ (k : ℕ). drop k text) size ∙ drop_min 67 text

  piece_patterns : line_patterns 6 line ≡ line_patterns 6 text
  unfolding line_patterns
  piece_patterns =
      ap (line_patterns 6) line_is ∙ (λ i. cond (form_prefix 0 6 text i) (Some (values_prefix 0 6 text i)) None)

-- ---- read_lines
-- what a map over an array gave, where each call gave the number with a pattern
pub mapped_is : {F : Type 0} (g : Mut F (ℕ × Unit {0}) Float) (f : F) (xs : List ℕ) (ys : List Float) (n : ℕ)
    → ((p q : F) (x : ℕ) (y : Float) → Called g p (x, tt) y q → y ≡ of_bits binary32 x) → IsMapOf g f xs ys n → length xs ≡ n → ys ≡ floats xs
mapped_is g f xs ys n gives m l =
    let zero : Float = of_bits binary32 0 in
    ext_get_or zero ys (floats xs) (m.long ∙ sym l ∙ sym (length-map xs (of_bits binary32)))
    (λ i h.
    let long = m.long in
    let c = m.at i 0 zero (omega arith) in
    gives c.0 c.1 (get_or xs i 0) (get_or ys i zero) c.2 ∙ sym (get_or-map (of_bits binary32) xs i 0))

abbrev pub reading : ℕ → ℕ → Result Reading Refusal
reading flag count = Ok (record { closed = flag; count = count })

before_before : (ps qs : List ℕ) (c : Content) → before ps (before qs c) ≡ before (ps ++ qs) c
unfolding before
before_before ps qs (faulty r) = refl
before_before ps qs (given flag rs) = ap (given flag) (sym (append_assoc ps qs rs))

-- The patterns before the rest of the lines, which settles the answer, are written to the list.
pub record Filling (flag : ℕ) (lines rest : List ℕ) (l₀ l : List Float) (count : ℕ) : Type 0 where
  pub bound : count ≤ 256
  pub same : length l ≡ length l₀
  pub patterns : List ℕ
  pub six : length patterns ≡ 6 * count
  pub left : read_lines flag 256 lines ≡ before patterns (read_lines flag (256 - count) rest)
  pub written : l ≡ sets l₀ 0 (floats patterns)

module _ (flag : ℕ) (lines : List ℕ) (l₀ : List Float) where
  pub fill_start : Filling flag lines lines l₀ l₀ 0
  unfolding before
  fill_start = record { bound = omega arith; same = refl; patterns = []; six = omega arith; left = go (read_lines flag 256 lines); written = refl }
    where
      go : (c : Content) → c ≡ before [] c
      go (faulty r) = refl
      go (given flag ps) = refl

  module _ (text : List ℕ) (l : List Float) (count : ℕ) (w : Filling flag lines text l₀ l count) where
    module _ (chunk : ℕ) (chunk_is : chunk ≡ 67) (h : 0 < length text) (e : count ≡ 256 → ⊥) (line rest : List ℕ) (cut : text ≡ line ++ rest)
        (long : length line ≡ min chunk (length text)) where
      size : length line ≡ min 67 (length text)
      size = rw chunk_is at long

      one : 256 - count ≡ suc (256 - (count + 1))
      one = let b = w.bound in omega arith

      pub fill_bad : None ≡ line_patterns 6 line → Err Unlisted ≡ reading_of (read_lines flag 256 lines)
      unfolding before reading_of
      fill_bad n =
          let f = patterns_bad 6 text (n ∙ piece_patterns text line rest cut size) in
          ap reading_of (sym (w.left ∙ ap (before w.patterns) (ap (λ (k : ℕ). read_lines flag k text) one ∙ lines_broken flag (256 - (count + 1)) text h f)))

      pub fill_next : (ps : List ℕ) (l' : List Float) → Some ps ≡ line_patterns 6 line → l' ≡ sets l (6 * count) (floats ps) → Filling flag lines rest l₀ l' (count + 1)
      fill_next ps l' p l'_is =
          let g = patterns_form 6 text ps (p ∙ piece_patterns text line rest cut size) in
          let ps_six : length ps ≡ 6 = ap length g.1 ∙ values_length 6 text in
          let long = w.six in
          let long' = length-append w.patterns ps in
          let place : 0 + length (floats w.patterns) ≡ 6 * count = ap (λ (k : ℕ). 0 + k) (length-map w.patterns (of_bits binary32)) ∙ omega arith in
          record {
            bound = let b = w.bound in omega arith;
            same = ap length l'_is ∙ length-sets l (6 * count) (floats ps) ∙ w.same;
            patterns = w.patterns ++ ps;
            six = omega arith;
            left =
                w.left
                ∙ ap (before w.patterns)
                (ap (λ (k : ℕ). read_lines flag k text) one
                ∙ lines_next flag (256 - (count + 1)) text h g.0
                ∙ (λ i. before (sym g.1 i) (read_lines flag (256 - (count + 1)) (sym (rest_is text line rest cut size) i))))
                ∙ before_before w.patterns ps (read_lines flag (256 - (count + 1)) rest);
            written =
                l'_is
                ∙ ap (λ (m : List Float). sets m (6 * count) (floats ps)) w.written
                ∙ ap (λ (k : ℕ). sets (sets l₀ 0 (floats w.patterns)) k (floats ps)) (sym place)
                ∙ sym (sets_append (floats w.patterns) (floats ps) l₀ 0)
                ∙ ap (sets l₀ 0) (sym (map-append (of_bits binary32) w.patterns ps));
          }

-- ---- lines after the last that is read
module _ (flag n : ℕ) (t : List ℕ) where
  pub rest_many : n ≡ 0 → 0 < length t → read_lines flag n t ≡ faulty TooMany
  rest_many e h = ap (λ (k : ℕ). read_lines flag k t) e ∙ lines_many flag 0 t h

pub ruleset fills = (fill_start, lines_none, rest_many, sets_onto, length-map, append-nil)

-- ---- read
-- the first line's value, and the lines after it
module _ (text : List ℕ) where
  pub first_value : get_or (line_values 1 text) 0 0 ≡ field_value (take 11 text)
  unfolding line_values
  first_value = refl

  pub first_inside : line_form 1 text ≡ true → 12 ≤ length text
  first_inside e = form_long 1 text e

  pub lines_are : take (length text - 12) (drop 12 text) ≡ drop 12 text
  lines_are = take_all (length text - 12) (drop 12 text) (rw length-drop (le_refl _))

pub ruleset readings = (first_value, first_inside, lines_are)
