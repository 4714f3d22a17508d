-- The loops of `plate_print::Text::put_commands`.
use Rattle.std.proofs.Common.{◌≡◌, take, drop}
use Rattle.judge.specs.Lists.{place_of}
use Rattle.plate_print.specs.Appended.{Appended}
use Rattle.plate_print.specs.Lines.{list_lines}
use Rattle.plate_print.proofs.Text.put_commands.Given as goal

abbrev pub invariant-loop-code : goal.invariant-loop-code
invariant-loop-code l = record {
  left : l.rest ≡ drop (place_of l.code-index l.codes) l.numbers;
  printed : Appended l.initial.self l.self (list_lines (take l.code-index l.codes) l.numbers);
}
