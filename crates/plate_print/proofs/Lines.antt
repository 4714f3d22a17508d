-- Laws of the printed lines: how long they are, and that two lists that commands are written to print those commands.
-- Assumes nothing.
use mathlib.Core.Path.{◌≡◌, refl, sym, ap, ◌∙◌}
use mathlib.Core.List.{List, [], ◌∷◌, ◌++◌, map}
use Prim.Native.Nat.{ℕ, zero, suc, ◌+◌, ◌*◌, ◌≤◌, zero-le}
use native.Mathlib.Omega.{arith}
use lib.Ieee.{Float, binary32, to_bits}
use lib.ListN.{length, take, drop, length-append, length-map}
use lib.Seq.{take-append_seam, drop-append_seam}
use Rattle.command.specs.declared.PathCommand.{PathCommand}
use Rattle.command.specs.Commands.{code_of, coordinates_of, codes_of, numbers_of}
use Rattle.reader.specs.Read.{size_of_code}
use Rattle.judge.specs.Lists.{place_of}
use Rattle.reader.proofs.Commands.{size_of, size_most}
use Rattle.plate_print.specs.Lines.{column, columns, line, numbers_line, command_lines, answer_text, list_lines, list_text}
use Rattle.plate_print.proofs.Columns.{column_length}

-- ---- how long

pub columns_length : (ns : List ℕ) → length (columns ns) ≡ 11 * length ns
unfolding columns
columns_length [] = refl
columns_length (n ∷ ns) = length-append (column 11 n) (columns ns) ∙ omega (arith, column_length 11 n, columns_length ns)

pub line_length : (code : ℕ) (ns : List ℕ) → length (line code ns) ≡ 3 + 11 * length ns
unfolding line
line_length code ns =
    length-append (column 2 code ++ columns ns) (10 ∷ [])
    ∙ ap (λ (k : ℕ). k + 1) (length-append (column 2 code) (columns ns))
    ∙ omega (arith, column_length 2 code, columns_length ns)

pub numbers_line_length : (code : ℕ) (v : List Float) → length (numbers_line code v) ≡ 3 + 11 * length v
unfolding numbers_line
numbers_line_length code v = line_length code (map (to_bits binary32) v) ∙ ap (λ (k : ℕ). 3 + 11 * k) (length-map v (to_bits binary32))

take_few : (n : ℕ) (v : List Float) → length (take n v) ≤ n
take_few zero v = zero-le
take_few (suc n) [] = zero-le
take_few (suc n) (x ∷ v) = let i = take_few n v in omega arith

pub list_most : (codes : List ℕ) (v : List Float) → length (list_lines codes v) ≤ 69 * length codes
unfolding list_lines
list_most [] v = zero-le
list_most (c ∷ cs) v =
    rw (length-append (numbers_line c (take (size_of_code c) v)) (list_lines cs (drop (size_of_code c) v)))
    (omega (
      arith,
      numbers_line_length c (take (size_of_code c) v),
      take_few (size_of_code c) v,
      size_most c,
      list_most cs (drop (size_of_code c) v),
    ))

-- ---- commands written as codes and numbers

pub list_commands : (cs : List PathCommand) → list_lines (codes_of cs) (numbers_of cs) ≡ command_lines cs
unfolding list_lines command_lines
list_commands [] = refl
list_commands (c ∷ cs) =
    let v : List Float = coordinates_of c ++ numbers_of cs in
    let front : take (size_of_code (code_of c)) v ≡ coordinates_of c = ap (λ (n : ℕ). take n v) (size_of c) ∙ take-append_seam (coordinates_of c) (numbers_of cs) in
    let back : drop (size_of_code (code_of c)) v ≡ numbers_of cs = ap (λ (n : ℕ). drop n v) (size_of c) ∙ drop-append_seam (coordinates_of c) (numbers_of cs) in
    ap (λ (u : List Float). numbers_line (code_of c) u ++ list_lines (codes_of cs) (drop (size_of_code (code_of c)) v)) front
    ∙ ap (λ (u : List Float). numbers_line (code_of c) (coordinates_of c) ++ list_lines (codes_of cs) u) back
    ∙ ap (λ (l : List ℕ). numbers_line (code_of c) (coordinates_of c) ++ l) (list_commands cs)

-- The caller's laws: what `print_answer` prints of the two lists of commands, and what it asks of their numbers and of the buffer.
pub list_answer : (cs : List PathCommand) (total : Float) → list_text (codes_of cs) (numbers_of cs) total ≡ answer_text cs total
unfolding list_text answer_text
list_answer cs total = ap (λ (l : List ℕ). l ++ numbers_line 9 (total ∷ [])) (list_commands cs)

pub numbers_there : (cs : List PathCommand) → place_of (length (codes_of cs)) (codes_of cs) ≡ length (numbers_of cs)
unfolding place_of
numbers_there [] = refl
numbers_there (c ∷ cs) =
    ap (λ (n : ℕ). n + place_of (length (codes_of cs)) (codes_of cs)) (size_of c)
    ∙ ap (λ (n : ℕ). length (coordinates_of c) + n) (numbers_there cs)
    ∙ sym (length-append (coordinates_of c) (numbers_of cs))
