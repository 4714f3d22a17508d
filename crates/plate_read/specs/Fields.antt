-- What the functions on a field and on a line hand back. Definitions only.
use Rattle.std.specs.Prelude.{ℕ, cond, ◌&&◌, List, leb, Option, Some, None}
use Rattle.plate_read.specs.Text.{all_digits, value_after, largest_pattern, field_value, is_field, line_form, line_values}

-- the value of digits that follow others of the value v, if they are digits and it is a pattern of 32 bits
unfoldable pub pattern_after : ℕ → List ℕ → Option ℕ
pattern_after v digits = cond (all_digits digits && leb (value_after v digits) largest_pattern) (Some (value_after v digits)) None

-- the value of a field
unfoldable pub field_pattern : List ℕ → Option ℕ
field_pattern field = cond (is_field field) (Some (field_value field)) None

-- the values of n fields that stand with a newline at the start of the text
unfoldable pub line_patterns : ℕ → List ℕ → Option (List ℕ)
line_patterns n text = cond (line_form n text) (Some (line_values n text)) None
