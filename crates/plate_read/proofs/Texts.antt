-- Laws of what a text gives: how many patterns there are, and that the first 17,165 bytes settle it. Assumes nothing.
use mathlib.Core.Path.{◌≡◌, refl, sym, ap, ◌∙◌}
use mathlib.Core.Bool.{Bool, true, false, cond}
use mathlib.Core.List.{List, [], ◌∷◌}
use Prim.Native.Nat.{ℕ, zero, suc, ◌+◌, ◌*◌, ◌/◌, ◌≤◌, zero-le}
use native.Mathlib.Nat.{zero-add}
use native.Mathlib.Omega.{arith}
use lib.Dec.{eqb, eqb-suc-zero}
use lib.Ieee.{of_bits, binary32}
use lib.ListN.{length, take, drop, length-append, length-map}
use lib.Seq.{take-take, take-nil}
use Rattle.std.specs.Prelude.{Result, Ok, Err}
use Rattle.command.specs.declared.Refusal.TheVariants.{TooMany, Unlisted}
use Rattle.command.specs.declared.Refusal.{Refusal}
use Rattle.plate_read.specs.declared.Reading.{Reading}
use Rattle.plate_read.specs.Text.{field_value, line_form, line_values, Content, faulty, given, before, read_lines, read_text, reading_of, numbers_given}
use Rattle.plate_read.proofs.Fields.{field_most}
use Rattle.plate_read.proofs.Lines.{form_field, values_length}

-- ---- how many patterns
-- an answer has this flag, and six patterns for each of its vertices, n at most
abbrev Whole : ℕ → ℕ → Content → Type 0
Whole flag n (faulty r) = Unit {0}
Whole flag n (given f ps) = (f ≡ flag) × (length ps ≤ 6 * n) × (length ps ≡ 6 * (length ps / 6))

whole_none : (flag n : ℕ) → Whole flag n (given flag [])
whole_none flag n = (refl, omega arith, omega arith)

whole_before : (flag n : ℕ) (ps : List ℕ) (c : Content) → length ps ≡ 6 → Whole flag n c → Whole flag (suc n) (before ps c)
unfolding before
whole_before flag n ps (faulty r) e w = tt
whole_before flag n ps (given f qs) e w =
    let l = length-append ps qs in
    let a = w.1 in
    let b = w.2 in
    (w.0, omega arith, omega arith)

lines_whole : (flag n : ℕ) (t : List ℕ) → Whole flag n (read_lines flag n t)
unfolding read_lines
lines_whole flag zero t = go (eqb (length t) 0)
  where
    go : (a : Bool) → Whole flag zero (cond a (given flag []) (faulty TooMany))
    go true = whole_none flag 0
    go false = tt
lines_whole flag (suc n) t = go (eqb (length t) 0) (line_form 6 t) (read_lines flag n (drop 67 t)) (lines_whole flag n (drop 67 t))
  where
    go : (a b : Bool) (c : Content) → Whole flag n c → Whole flag (suc n) (cond a (given flag []) (cond b (before (line_values 6 t) c) (faulty Unlisted)))
    go true b c w = whole_none flag (suc n)
    go false true c w = whole_before flag n (line_values 6 t) c (values_length 6 t) w
    go false false c w = tt

-- an answer of a text has at most 1,536 patterns, six for each vertex that the reading counts, and a flag that is a pattern
abbrev pub Sized : Content → Type 0
Sized (faulty r) = Unit {0}
Sized (given flag ps) = (length ps ≤ 1536) × (length ps ≡ 6 * (length ps / 6)) × (flag ≤ 4294967295)

whole_sized : (flag : ℕ) (c : Content) → flag ≤ 4294967295 → Whole flag 256 c → Sized c
whole_sized flag (faulty r) m w = tt
whole_sized flag (given f ps) m w =
    let e = w.0 in
    let l = w.1 in
    (omega arith, w.2, omega arith)

pub text_sized : (t : List ℕ) → Sized (read_text t)
unfolding read_text
text_sized t = go (line_form 1 t) refl
  where
    flag : ℕ
    flag = field_value (take 11 t)

    go : (b : Bool) → line_form 1 t ≡ b → Sized (cond b (read_lines flag 256 (drop 12 t)) (faulty Unlisted))
    go true e = whole_sized flag (read_lines flag 256 (drop 12 t)) (field_most (take 11 t) (form_field 0 t e)) (lines_whole flag 256 (drop 12 t))
    go false e = tt

numbers_length : (flag : ℕ) (ps : List ℕ) → length (numbers_given (given flag ps)) ≡ length ps
unfolding numbers_given
numbers_length flag ps = length-map ps (of_bits binary32)

-- the same of a reading and of the numbers
pub reading_counts : (t : List ℕ) (r : Reading) → reading_of (read_text t) ≡ Ok r
    → (length (numbers_given (read_text t)) ≡ 6 * r.count) × (r.count ≤ 256) × (r.closed ≤ 4294967295)
reading_counts t r e = go (read_text t) (text_sized t) e
  where
    go : (c : Content) → Sized c → reading_of c ≡ Ok r → (length (numbers_given c) ≡ 6 * r.count) × (r.count ≤ 256) × (r.closed ≤ 4294967295)
    go (faulty q) s e = let same : ◌≡◌ {A = Result Reading Refusal} (Err q) (Ok r) = (unfold reading_of in e) in cc
    go (given f ps) s e =
        let here : Reading = record { closed = f; count = length ps / 6 } in
        let same : ◌≡◌ {A = Result Reading Refusal} (Ok here) (Ok r) = (unfold reading_of in e) in
        let r_is : here ≡ r = cc in
        let flag_is : f ≡ r.closed = ap (λ (x : Reading). x.closed) r_is in
        let count_is : length ps / 6 ≡ r.count = ap (λ (x : Reading). x.count) r_is in
        let few = s.0 in
        let sixes = s.1 in
        let small = s.2 in
        let long = numbers_length f ps in
        (omega arith, omega arith, omega arith)

-- the numbers fit 1,536 places
pub numbers_few : (t : List ℕ) → length (numbers_given (read_text t)) ≤ 1536
numbers_few t = go (read_text t) (text_sized t)
  where
    go : (c : Content) → Sized c → length (numbers_given c) ≤ 1536
    go (faulty r) s = unfold numbers_given in zero-le
    go (given f ps) s =
        let few = s.0 in
        let long = numbers_length f ps in
        omega arith

-- ---- the beginning of a text settles it
drop_take : (k m : ℕ) (t : List ℕ) → drop k (take (k + m) t) ≡ take m (drop k t)
drop_take zero m t = ap (λ (n : ℕ). take n t) (zero-add m)
drop_take (suc k) m [] = ap (drop (suc k)) (take-nil (suc k + m)) ∙ sym (take-nil m)
drop_take (suc k) m (b ∷ t) = let e : suc k + m ≡ suc (k + m) = omega arith in rw e (drop_take k m t)

newline_prefix : (m : ℕ) (t : List ℕ) → line_form 0 (take (suc m) t) ≡ line_form 0 t
unfolding line_form
newline_prefix m [] = refl
newline_prefix m (b ∷ t) = refl

-- a line's fields and its newline
module _ (m : ℕ) where
  field_prefix : (k : ℕ) (t : List ℕ) → take 11 (take (11 + k) t) ≡ take 11 t
  field_prefix k t = take-take 11 (11 + k) t (omega arith)

  pub form_prefix : (n : ℕ) (t : List ℕ) → line_form n (take (11 * n + suc m) t) ≡ line_form n t
  unfolding line_form
  form_prefix zero t = let e : 11 * 0 + suc m ≡ suc m = omega arith in ap (λ (k : ℕ). line_form 0 (take k t)) e ∙ newline_prefix m t
  form_prefix (suc n) t =
      let e : 11 * suc n + suc m ≡ 11 + (11 * n + suc m) = omega arith in
      rw (e, field_prefix (11 * n + suc m) t, drop_take 11 (11 * n + suc m) t, form_prefix n (drop 11 t))

  pub values_prefix : (n : ℕ) (t : List ℕ) → line_values n (take (11 * n + suc m) t) ≡ line_values n t
  unfolding line_values
  values_prefix zero t = refl
  values_prefix (suc n) t =
      let e : 11 * suc n + suc m ≡ 11 + (11 * n + suc m) = omega arith in
      rw (e, field_prefix (11 * n + suc m) t, drop_take 11 (11 * n + suc m) t, values_prefix n (drop 11 t))

empty_prefix : (m : ℕ) (t : List ℕ) → eqb (length (take (suc m) t)) 0 ≡ eqb (length t) 0
empty_prefix m [] = refl
empty_prefix m (b ∷ t) = eqb-suc-zero (length (take m t)) ∙ sym (eqb-suc-zero (length t))

-- 67 bytes for each line that is allowed, and one that shows whether there are more
lines_prefix : (flag n : ℕ) (t : List ℕ) → read_lines flag n (take (67 * n + 1) t) ≡ read_lines flag n t
unfolding read_lines
lines_prefix flag zero t = rw (empty_prefix 0 t)
lines_prefix flag (suc n) t =
    let a : 67 * suc n + 1 ≡ suc (67 * n + 67) = omega arith in
    let b : 67 * suc n + 1 ≡ 11 * 6 + suc (67 * n + 1) = omega arith in
    let d : 67 * suc n + 1 ≡ 67 + (67 * n + 1) = omega arith in
    let long : List ℕ = take (67 * suc n + 1) t in
    let none : eqb (length long) 0 ≡ eqb (length t) 0 = ap (λ (k : ℕ). eqb (length (take k t)) 0) a ∙ empty_prefix (67 * n + 67) t in
    let form : line_form 6 long ≡ line_form 6 t = ap (λ (k : ℕ). line_form 6 (take k t)) b ∙ form_prefix (67 * n + 1) 6 t in
    let values : line_values 6 long ≡ line_values 6 t = ap (λ (k : ℕ). line_values 6 (take k t)) b ∙ values_prefix (67 * n + 1) 6 t in
    let rest : read_lines flag n (drop 67 long) ≡ read_lines flag n (drop 67 t)
    = ap (λ (k : ℕ). read_lines flag n (drop 67 (take k t))) d ∙ ap (read_lines flag n) (drop_take 67 (67 * n + 1) t) ∙ lines_prefix flag n (drop 67 t) in
    λ i. cond (none i) (given flag []) (cond (form i) (before (values i) (rest i)) (faulty Unlisted))

-- 12 + 256 * 67 + 1 bytes: a program may stop reading there
pub read_prefix : (t : List ℕ) → read_text (take 17165 t) ≡ read_text t
unfolding read_text
read_prefix t =
    let form : line_form 1 (take 17165 t) ≡ line_form 1 t = form_prefix 17153 1 t in
    let field : take 11 (take 17165 t) ≡ take 11 t = take-take 11 17165 t (omega arith) in
    let rest : drop 12 (take 17165 t) ≡ take (67 * 256 + 1) (drop 12 t) = drop_take 12 17153 t in
    let lines : read_lines (field_value (take 11 t)) 256 (drop 12 (take 17165 t)) ≡ read_lines (field_value (take 11 t)) 256 (drop 12 t)
    = ap (read_lines (field_value (take 11 t)) 256) rest ∙ lines_prefix (field_value (take 11 t)) 256 (drop 12 t) in
    ap (λ (f : List ℕ). cond (line_form 1 (take 17165 t)) (read_lines (field_value f) 256 (drop 12 (take 17165 t))) (faulty Unlisted)) field
    ∙ (λ i. cond (form i) (lines i) (faulty Unlisted))
