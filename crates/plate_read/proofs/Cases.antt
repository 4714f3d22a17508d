-- Closed cases of the definitions, each computed. Assumes nothing.
use mathlib.Core.Path.{◌≡◌, refl}
use mathlib.Core.List.{List, [], ◌∷◌, ◌++◌, map}
use Prim.Native.Nat.{ℕ, zero, suc, ◌-◌}
use lib.ListN.{length, replicate}
use Rattle.command.specs.declared.Refusal.TheVariants.{TooMany, Unlisted}
use Rattle.plate_read.specs.Text.{is_digit, all_digits, is_numeral, value_after, unblanked, is_field, line_form, line_values, faulty, given, before, read_lines, read_text}

-- bytes at the right of 11 columns
abbrev field : List ℕ → List ℕ
field bytes = replicate (11 - length bytes) 32 ++ bytes

abbrev newline : List ℕ
newline = 10 ∷ []

-- 0 and 1, and in binary32 the patterns of 3 and 4
abbrev zero_field : List ℕ
zero_field = field (48 ∷ [])

abbrev one_field : List ℕ
one_field = field (49 ∷ [])

abbrev three_field : List ℕ
three_field = field (49 ∷ 48 ∷ 55 ∷ 55 ∷ 57 ∷ 51 ∷ 54 ∷ 49 ∷ 50 ∷ 56 ∷ [])

abbrev four_field : List ℕ
four_field = field (49 ∷ 48 ∷ 56 ∷ 50 ∷ 49 ∷ 51 ∷ 48 ∷ 52 ∷ 51 ∷ 50 ∷ [])

-- the vertices (0, 0) and (3, 4) without tangents, up to the newline
abbrev origin_fields : List ℕ
origin_fields = zero_field ++ zero_field ++ zero_field ++ zero_field ++ zero_field ++ zero_field

abbrev vertex_fields : List ℕ
vertex_fields = three_field ++ four_field ++ zero_field ++ zero_field ++ zero_field ++ zero_field

-- the second of them, n times
abbrev vertex_lines : ℕ → List ℕ
vertex_lines zero = []
vertex_lines (suc n) = vertex_fields ++ newline ++ vertex_lines n

-- The flag's line: alone, with the largest pattern and with one more; then no digit, a letter, a blank after the digit, a sign,
-- 10 columns, 12 columns, no newline, and no text.
flag_lines : map read_text (
    (one_field ++ newline)
    ∷ (field (52 ∷ 50 ∷ 57 ∷ 52 ∷ 57 ∷ 54 ∷ 55 ∷ 50 ∷ 57 ∷ 53 ∷ []) ++ newline)
    ∷ (field (52 ∷ 50 ∷ 57 ∷ 52 ∷ 57 ∷ 54 ∷ 55 ∷ 50 ∷ 57 ∷ 54 ∷ []) ++ newline)
    ∷ (field [] ++ newline)
    ∷ (field (97 ∷ []) ++ newline)
    ∷ (field (49 ∷ 32 ∷ []) ++ newline)
    ∷ (field (43 ∷ 49 ∷ []) ++ newline)
    ∷ (replicate 9 32 ++ (49 ∷ []) ++ newline)
    ∷ (32 ∷ one_field ++ newline)
    ∷ one_field
    ∷ []
    ∷ [])
    ≡ given 1 []
    ∷ given 4294967295 []
    ∷ faulty Unlisted
    ∷ faulty Unlisted
    ∷ faulty Unlisted
    ∷ faulty Unlisted
    ∷ faulty Unlisted
    ∷ faulty Unlisted
    ∷ faulty Unlisted
    ∷ faulty Unlisted
    ∷ faulty Unlisted
    ∷ []
unfolding read_text read_lines line_form is_field is_numeral all_digits is_digit value_after unblanked
flag_lines = refl

-- Vertex lines after an open flag: document 01's two, the second alone without its newline, one of five fields, and an empty one after a good one.
some_lines : map (λ (lines : List ℕ). read_text (zero_field ++ newline ++ lines)) (
    (origin_fields ++ newline ++ vertex_lines 1)
    ∷ vertex_fields
    ∷ (zero_field ++ zero_field ++ zero_field ++ zero_field ++ zero_field ++ newline)
    ∷ (vertex_lines 1 ++ newline)
    ∷ [])
    ≡ given 0 (0 ∷ 0 ∷ 0 ∷ 0 ∷ 0 ∷ 0 ∷ 1077936128 ∷ 1082130432 ∷ 0 ∷ 0 ∷ 0 ∷ 0 ∷ [])
    ∷ faulty Unlisted
    ∷ faulty Unlisted
    ∷ faulty Unlisted
    ∷ []
unfolding read_text read_lines before line_form line_values is_field is_numeral all_digits is_digit value_after unblanked
some_lines = refl

-- 256 lines and one byte more
many_lines : read_text (zero_field ++ newline ++ vertex_lines 256 ++ newline) ≡ faulty TooMany
unfolding read_text read_lines before line_form line_values is_field is_numeral all_digits is_digit value_after unblanked
many_lines = refl

-- the last of 256 lines out of form counts before that
last_line : read_text (zero_field ++ newline ++ vertex_lines 255 ++ (32 ∷ vertex_lines 1)) ≡ faulty Unlisted
unfolding read_text read_lines before line_form line_values is_field is_numeral all_digits is_digit value_after unblanked
last_line = refl
