-- What the proofs of the functions cite, in sets: stores one after another, how long the texts are, and one number or command more.
-- Assumes nothing.
use mathlib.Core.Path.{◌≡◌, refl, sym, ap, ◌∙◌}
use mathlib.Core.List.{List, [], ◌∷◌, ◌++◌, map, append-nil}
use Prim.Native.Nat.{ℕ, zero, suc, ◌+◌, ◌-◌, ◌*◌, ◌/◌, ◌≤◌, ◌<◌}
use native.Mathlib.Numerals.{add-one}
use native.Mathlib.Omega.{arith}
use lib.Ieee.{Float, binary32, nan, to_bits}
use lib.ListN.{length, set, get_or, take, drop, length-set, length-append, length-drop, length-map, drop_of_length-le}
use lib.Seq.{sets, drop-cons, set_comm, length-sets, length-take-le, take_all, drop-drop}
use Rattle.std.proofs.Common.{append_assoc}
use Rattle.command.proofs.Buffers.{sets_append, sets_onto}
use Rattle.reader.specs.Read.{size_of_code}
pub use Rattle.reader.proofs.Commands.{size_most}
pub use Rattle.judge.proofs.Ways.{place_next}
use Rattle.judge.specs.Lists.{place_of}
use Rattle.plate_print.specs.Lines.{digit_of, leading_digit, leading, column, columns, numbers_line, list_lines}
use Rattle.plate_print.proofs.Columns.{leading_length, column_length}
use Rattle.plate_print.proofs.Lines.{columns_length, line_length, numbers_line_length, list_most}

-- ---- put_leading
-- a store past a run of stores may come before it
set_before : (vs l : List ℕ) (i j b : ℕ) → i + length vs ≤ j → set (sets l i vs) j b ≡ sets (set l j b) i vs
set_before [] l i j b h = refl
set_before (v ∷ vs) l i j b h =
    let other : i ≡ j → ⊥ = λ e. omega arith in
    set_before vs (set l i v) (suc i) j b (omega arith) ∙ ap (λ (m : List ℕ). sets m (suc i) vs) (set_comm l i j v b other)

leading_split : (left rest : ℕ) → 0 < left → leading left rest ≡ leading (left - 1) (rest / 10) ++ leading_digit rest ∷ []
unfolding leading
leading_split zero rest h = absurd (omega arith)
leading_split (suc left) rest h =
    let less : left ≡ suc left - 1 = omega arith in
    ap (λ (w : ℕ). leading w (rest / 10) ++ leading_digit rest ∷ []) less

-- a run of stores, and one more after it
sets_one : (vs l : List ℕ) (i b : ℕ) → sets l i (vs ++ b ∷ []) ≡ set (sets l i vs) (i + length vs) b
sets_one vs l i b = sets_append vs (b ∷ []) l i

-- the last column stored first, and the columns before it after that
pub leading_step : (out : List ℕ) (at left rest b : ℕ) → 0 < left → b ≡ leading_digit rest
    → sets (set out (at + (left - 1)) b) at (leading (left - 1) (rest / 10)) ≡ sets out at (leading left rest)
leading_step out at left rest b h e =
    let vs = leading (left - 1) (rest / 10) in
    let size : length vs ≡ left - 1 = leading_length (left - 1) (rest / 10) in
    let order : at + length vs ≤ at + (left - 1) = omega arith in
    sym (set_before vs out at (at + (left - 1)) b order)
    ∙ ap (λ (k : ℕ). set (sets out at vs) (at + k) b) (sym size)
    ∙ sym (sets_one vs out at b)
    ∙ ap (λ (d : ℕ). sets out at (vs ++ d ∷ [])) e
    ∙ ap (sets out at) (sym (leading_split left rest h))

pub leading_none : (out : List ℕ) (at left rest : ℕ) → left ≤ 0 → sets out at (leading left rest) ≡ out
leading_none out at left rest h =
    let none : left ≡ 0 = omega arith in
    let blank : leading left rest ≡ [] = ap (λ (k : ℕ). leading k rest) none ∙ unfold leading in refl in
    ap (sets out at) blank

pub ruleset leads = (leading_step, leading_none, length-set)

-- ---- put_column
column_split : (width value : ℕ) → 0 < width → column width value ≡ leading (width - 1) (value / 10) ++ digit_of value ∷ []
unfolding column
column_split zero value h = absurd (omega arith)
column_split (suc width) value h =
    let less : width ≡ suc width - 1 = omega arith in
    ap (λ (w : ℕ). leading w (value / 10) ++ digit_of value ∷ []) less

pub column_step : (out : List ℕ) (at width value : ℕ) → 0 < width
    → set (sets out at (leading (width - 1) (value / 10))) (at + (width - 1)) (digit_of value) ≡ sets out at (column width value)
column_step out at width value h =
    let vs = leading (width - 1) (value / 10) in
    ap (λ (k : ℕ). set (sets out at vs) (at + k) (digit_of value)) (sym (leading_length (width - 1) (value / 10)))
    ∙ sym (sets_one vs out at (digit_of value))
    ∙ ap (sets out at) (sym (column_split width value h))

-- ---- put_column, put_line, put_numbers_line, print_refusal, print_answer
pub ruleset writing = (column_step, column_length, columns_length, line_length, list_most, length-sets, length-append, length-map, append-nil, sets_append, sets_onto)

-- ---- put_columns
pub columns_taken : (numbers : List Float) (i : ℕ) → i ≤ length numbers → length (columns (map (to_bits binary32) (take i numbers))) ≡ 11 * i
columns_taken numbers i h =
    columns_length (map (to_bits binary32) (take i numbers)) ∙ ap (λ (k : ℕ). 11 * k) (length-map (take i numbers) (to_bits binary32) ∙ length-take-le i numbers h)

-- the columns of one number more
columns_suc : (numbers : List Float) (i : ℕ) → i < length numbers
    → columns (map (to_bits binary32) (take (suc i) numbers)) ≡ columns (map (to_bits binary32) (take i numbers)) ++ column 11 (to_bits binary32 (get_or numbers i nan))
unfolding columns
columns_suc [] i h = absurd (omega arith)
columns_suc (x ∷ xs) zero h = append-nil (column 11 (to_bits binary32 x))
columns_suc (x ∷ xs) (suc i) h =
    ap (λ (l : List ℕ). column 11 (to_bits binary32 x) ++ l) (columns_suc xs i (omega arith))
    ∙ sym (append_assoc (column 11 (to_bits binary32 x)) (columns (map (to_bits binary32) (take i xs))) (column 11 (to_bits binary32 (get_or xs i nan))))

pub columns_step : (numbers : List Float) (i : ℕ) → i < length numbers
    → columns (map (to_bits binary32) (take (i + 1) numbers)) ≡ columns (map (to_bits binary32) (take i numbers)) ++ column 11 (to_bits binary32 (get_or numbers i nan))
columns_step numbers i h = rw add-one (columns_suc numbers i h)

pub ruleset columning = (columns_taken, columns_step, column_length, length-sets, length-append, sets_append, take_all)

-- ---- put_commands
-- the numbers of a command are among those of all
pub place_inside : (codes : List ℕ) (i : ℕ) → i < length codes → place_of i codes + size_of_code (get_or codes i 0) ≤ place_of (length codes) codes
unfolding place_of
place_inside [] i h = absurd (omega arith)
place_inside (c ∷ cs) zero h = omega arith
place_inside (c ∷ cs) (suc i) h = let e = place_inside cs i (omega arith) in omega arith

-- the lines of one command more
lines_suc : (codes : List ℕ) (v : List Float) (i : ℕ) → i < length codes
    → list_lines (take (suc i) codes) v ≡ list_lines (take i codes) v ++ numbers_line (get_or codes i 0) (take (size_of_code (get_or codes i 0)) (drop (place_of i codes) v))
unfolding list_lines place_of
lines_suc [] v i h = absurd (omega arith)
lines_suc (c ∷ cs) v zero h = append-nil (numbers_line c (take (size_of_code c) v))
lines_suc (c ∷ cs) v (suc i) h =
    let first : List ℕ = numbers_line c (take (size_of_code c) v) in
    let rest : List Float = drop (size_of_code c) v in
    rw (← drop-drop (place_of i cs) (size_of_code c) v)
    (ap (λ (l : List ℕ). first ++ l) (lines_suc cs rest i (omega arith))
    ∙ sym (append_assoc first (list_lines (take i cs) rest) (numbers_line (get_or cs i 0) (take (size_of_code (get_or cs i 0)) (drop (place_of i cs) rest)))))

pub lines_step : (codes : List ℕ) (v : List Float) (i : ℕ) → i < length codes
    → list_lines (take (i + 1) codes) v ≡ list_lines (take i codes) v ++ numbers_line (get_or codes i 0) (take (size_of_code (get_or codes i 0)) (drop (place_of i codes) v))
lines_step codes v i h = rw add-one (lines_suc codes v i h)

pub lines_taken : (codes : List ℕ) (v : List Float) (i : ℕ) → i ≤ length codes → length (list_lines (take i codes) v) ≤ 69 * i
lines_taken codes v i h = let m = list_most (take i codes) v in let l = length-take-le i codes h in omega arith

pub ruleset commanding = (place_next, place_inside, lines_step, lines_taken, size_most, drop-drop, length-drop, length-take-le, length-sets, length-append, sets_append, take_all)
