-- Commands written which two numbers or more are to follow. This is a word of the writer's own way: what it promises is said by `path_commands` alone.
-- Definitions only.
use Rattle.std.specs.Prelude.{◌+◌, ◌<◌, ◌≤◌, ◌≡◌, List, ◌++◌, Float, length}
use Rattle.std.proofs.lemmas.List.Edits.{sets}
use Rattle.command.specs.declared.PathCommand.{PathCommand}
use Rattle.command.specs.Commands.{coordinates_of, codes_of, numbers_of}
use Rattle.sheet.specs.declared.Sheet.{Sheet}

-- `Wrote`, but for the two numbers after the commands, which may have changed too: with more numbers stored there, the buffer is as if nothing else had.
pub record Followed (cs : List PathCommand) (sheet sheet' : Sheet) : Type 0 where
  pub same_codes : sheet'.codes.ghost_name ≡ sheet.codes.ghost_name
  pub same_numbers : sheet'.numbers.ghost_name ≡ sheet.numbers.ghost_name
  pub codes_at : sheet'.at.codes ≡ sheet.at.codes + length (codes_of cs)
  pub numbers_at : sheet'.at.numbers ≡ sheet.at.numbers + length (numbers_of cs)
  pub codes_are : sheet'.codes.now ≡ sets sheet.codes.now sheet.at.codes (codes_of cs)
  pub numbers_same : length sheet'.numbers.now ≡ length sheet.numbers.now
  pub numbers_are : (more : List Float) → 2 ≤ length more
      → sets sheet'.numbers.now sheet'.at.numbers more ≡ sets sheet.numbers.now sheet.at.numbers (numbers_of cs ++ more)

-- room for a command and the two numbers
pub record FollowedRoom (c : PathCommand) (sheet : Sheet) : Type 0 where
  pub code_fits : sheet.at.codes < length sheet.codes.now
  pub numbers_fit : sheet.at.numbers + length (coordinates_of c) + 2 ≤ length sheet.numbers.now
