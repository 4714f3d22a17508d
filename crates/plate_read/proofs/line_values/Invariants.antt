-- The loops of `plate_read::line_values`.
use Rattle.std.proofs.Common.{◌≡◌, ◌-◌, ◌++◌, length, take}
use Rattle.plate_read.specs.Text.{line_form, line_values}
use Rattle.plate_read.proofs.line_values.Given as goal

-- after the fields so far the rest settles whether the line is in form, and its values follow those before
abbrev pub invariant-loop-value : goal.invariant-loop-value
invariant-loop-value g l = record {
  long : length l.value-items ≡ g.row.N;
  form : line_form (g.row.N - l.value-index) l.rest ≡ line_form g.row.N l.text;
  given : line_values g.row.N l.text ≡ take l.value-index l.value-items ++ line_values (g.row.N - l.value-index) l.rest;
}
