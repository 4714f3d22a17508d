-- The text that the program `plate` reads: the closed flag in a line of one field, then a line of six fields for each vertex. Definitions only.
use Rattle.std.specs.Prelude.{ℕ, zero, suc, ◌+◌, ◌-◌, ◌*◌, ◌/◌, Bool, true, false, cond, ◌&&◌, List, [], ◌∷◌, ◌++◌, map, eqb, leb, Float, length, get_or, take, drop, Result, Ok, Err}
use Rattle.std.specs.Float.Ieee.{of_bits}
use Rattle.std.specs.Float.{binary32}
use Rattle.command.specs.declared.Refusal.{Refusal}
use Rattle.command.specs.declared.Refusal.TheVariants.{TooMany, Unlisted}
use Rattle.plate_read.specs.declared.Reading.{Reading}

-- ---- a field: blanks, then digits, at most 4,294,967,295, in 11 columns

-- the bytes 48 to 57
unfoldable pub is_digit : ℕ → Bool
is_digit b = leb 48 b && leb b 57

-- every byte is a digit
unfoldable pub all_digits : List ℕ → Bool
all_digits [] = true
all_digits (b ∷ bs) = is_digit b && all_digits bs

-- one digit or more, and nothing else
unfoldable pub is_numeral : List ℕ → Bool
is_numeral [] = false
is_numeral (b ∷ bs) = all_digits (b ∷ bs)

-- the decimal value of digits that follow others of the value v, and of digits alone
unfoldable pub value_after : ℕ → List ℕ → ℕ
value_after v [] = v
value_after v (b ∷ bs) = value_after (v * 10 + (b - 48)) bs

abbrev pub value_of : List ℕ → ℕ
value_of digits = value_after 0 digits

-- a field without the blanks (32) at its start
unfoldable pub unblanked : List ℕ → List ℕ
unblanked [] = []
unblanked (b ∷ bs) = cond (eqb b 32) (unblanked bs) (b ∷ bs)

-- the largest pattern of 32 bits
abbrev pub largest_pattern : ℕ
largest_pattern = 4294967295

-- a field's value, and whether 11 bytes are a field at all
abbrev pub field_value : List ℕ → ℕ
field_value field = value_of (unblanked field)

unfoldable pub is_field : List ℕ → Bool
is_field field = eqb (length field) 11 && (is_numeral (unblanked field) && leb (field_value field) largest_pattern)

-- ---- a line: fields, then a newline (10)

-- n fields and a newline stand at the start of the text
unfoldable pub line_form : ℕ → List ℕ → Bool
line_form zero text = eqb (get_or text 0 0) 10
line_form (suc n) text = is_field (take 11 text) && line_form n (drop 11 text)

-- the values of n fields at the start of the text
unfoldable pub line_values : ℕ → List ℕ → List ℕ
line_values zero text = []
line_values (suc n) text = field_value (take 11 text) ∷ line_values n (drop 11 text)

-- ---- the text

-- what a text gives: the first refusal, or the closed flag and six patterns for each vertex
pub data Content : Type 0 where
  faulty : Refusal → Content
  given : ℕ → List ℕ → Content

-- a line's patterns before those of the rest; a refusal stays
unfoldable pub before : List ℕ → Content → Content
before ps (faulty r) = faulty r
before ps (given flag qs) = given flag (ps ++ qs)

-- the program reads at most 256 vertices
abbrev pub most_vertices : ℕ
most_vertices = 256

-- The vertex lines, n of them at most: a line out of form, or short of its newline, is 4; text after n lines in form is 2.
unfoldable pub read_lines : ℕ → ℕ → List ℕ → Content
read_lines flag zero text = cond (eqb (length text) 0) (given flag []) (faulty TooMany)
read_lines flag (suc n) text =
    cond (eqb (length text) 0) (given flag [])
    (cond (line_form 6 text) (before (line_values 6 text) (read_lines flag n (drop 67 text))) (faulty Unlisted))

-- the closed flag's line of 12 bytes, then the vertex lines of 67 bytes
unfoldable pub read_text : List ℕ → Content
read_text text = cond (line_form 1 text) (read_lines (field_value (take 11 text)) most_vertices (drop 12 text)) (faulty Unlisted)

-- ---- what the call hands back and writes

-- the refusal, or the flag and how many vertices
unfoldable pub reading_of : Content → Result Reading Refusal
reading_of (faulty r) = Err r
reading_of (given flag ps) = Ok (record { closed = flag; count = length ps / 6 })

-- the numbers with these patterns, every NaN's pattern being `nan`; none for a refusal
unfoldable pub numbers_given : Content → List Float
numbers_given (faulty r) = []
numbers_given (given flag ps) = map (of_bits binary32) ps
