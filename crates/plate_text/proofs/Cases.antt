-- Closed cases of the definition, from text to text, each computed. Assumes nothing.
use mathlib.Core.Path.{◌≡◌, refl}
use lib.Ieee.{add, sub, le, neg, sum, round, units, size, span, climb, odd, of_bits, of_fields, to_bits}
use Rattle.ieee.specs.Limit.{all_within}
use Rattle.ieee.specs.Root.{hypot_of, root_of, isqrt, root}
use Rattle.path.specs.Path.{vertices_of, bezier_segment, bezier_segments, bezier_path, path_commands}
use Rattle.draw.specs.Paths.{draw_path}
use Rattle.curve.specs.Curve.{distance}
use Rattle.measure.specs.Length.{start_pen, added, move_to, arrive, line_to, closing, close, step, steps, length_after, path_length}
use Rattle.plate_read.specs.Text.{is_digit, all_digits, is_numeral, value_after, unblanked, is_field, line_form, line_values, before, read_lines, read_text}
use Rattle.plate_print.specs.Lines.{digit_of, leading_digit, leading, column, columns, line, numbers_line, command_lines, answer_text, refusal_text}
use Rattle.plate_print.proofs.Bytes.{bytes}
use Rattle.plate_text.specs.Plate.{drawn_text, content_text, plate_text}

-- document 01's sample: open (0, 0), (3, 4), zero tangents
sample : plate_text (bytes "          0\n          0          0          0          0          0          0\n 1077936128 1082130432          0          0          0          0\n")
    ≡ bytes " 0          0          0\n 1 1077936128 1082130432\n 9 1084227584\n"
unfolding plate_text content_text drawn_text read_text read_lines before line_form line_values is_field is_numeral all_digits is_digit value_after unblanked draw_path all_within path_commands vertices_of bezier_path bezier_segments bezier_segment path_length length_after steps step start_pen move_to line_to arrive added distance hypot_of root_of isqrt root answer_text command_lines numbers_line line columns column leading leading_digit digit_of bytes le add sub neg sum round units size span climb odd of_bits of_fields to_bits
sample = refl

-- its closed triangle (0, 0), (3, 0), (3, 4), of length 12
triangle : plate_text (bytes "          1\n          0          0          0          0          0          0\n 1077936128          0          0          0          0          0\n 1077936128 1082130432          0          0          0          0\n")
    ≡ bytes " 0          0          0\n 1 1077936128          0\n 1 1077936128 1082130432\n 1          0          0\n 3\n 9 1094713344\n"
unfolding plate_text content_text drawn_text read_text read_lines before line_form line_values is_field is_numeral all_digits is_digit value_after unblanked draw_path all_within path_commands vertices_of bezier_path bezier_segments bezier_segment path_length length_after steps step start_pen move_to line_to arrive added closing close distance hypot_of root_of isqrt root answer_text command_lines numbers_line line columns column leading leading_digit digit_of bytes le add sub neg sum round units size span climb odd of_bits of_fields to_bits
triangle = refl

-- a flag that is not listed: with no vertices that is 1, and before a NaN 4
bare : plate_text (bytes "          7\n") ≡ bytes " 8          1\n"
unfolding plate_text content_text drawn_text read_text read_lines before line_form line_values is_field is_numeral all_digits is_digit value_after unblanked draw_path refusal_text line columns column leading leading_digit digit_of bytes
bare = refl

unlisted : plate_text (bytes "          2\n 4294967295          0          0          0          0          0\n") ≡ bytes " 8          4\n"
unfolding plate_text content_text drawn_text read_text read_lines before line_form line_values is_field is_numeral all_digits is_digit value_after unblanked draw_path refusal_text line columns column leading leading_digit digit_of bytes
unlisted = refl

-- a NaN's pattern is a number that is not finite
nan_pattern : plate_text (bytes "          1\n 4294967295          0          0          0          0          0\n") ≡ bytes " 8          3\n"
unfolding plate_text content_text drawn_text read_text read_lines before line_form line_values is_field is_numeral all_digits is_digit value_after unblanked draw_path all_within le of_bits of_fields refusal_text line columns column leading leading_digit digit_of bytes
nan_pattern = refl
