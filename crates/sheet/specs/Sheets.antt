-- Room for commands in the buffers of a sheet, and commands written there. Definitions only.
use Rattle.std.specs.Prelude.{◌+◌, ◌≤◌, ◌≡◌, List, length}
use Rattle.std.proofs.lemmas.List.Edits.{sets}
use Rattle.command.specs.declared.PathCommand.{PathCommand}
use Rattle.command.specs.Commands.{codes_of, numbers_of}
use Rattle.sheet.specs.declared.Sheet.{Sheet}

-- the commands fit from where the buffers are filled
pub record HasRoom (cs : List PathCommand) (sheet : Sheet) : Type 0 where
  pub codes_fit : sheet.at.codes + length (codes_of cs) ≤ length sheet.codes.now
  pub numbers_fit : sheet.at.numbers + length (numbers_of cs) ≤ length sheet.numbers.now

-- The same two buffers, with the codes and numbers of the commands at the places from where they were filled, and no other place changed: they are filled
-- up to there now.
pub record Wrote (cs : List PathCommand) (sheet sheet' : Sheet) : Type 0 where
  pub same_codes : sheet'.codes.ghost_name ≡ sheet.codes.ghost_name
  pub same_numbers : sheet'.numbers.ghost_name ≡ sheet.numbers.ghost_name
  pub codes_at : sheet'.at.codes ≡ sheet.at.codes + length (codes_of cs)
  pub numbers_at : sheet'.at.numbers ≡ sheet.at.numbers + length (numbers_of cs)
  pub codes_are : sheet'.codes.now ≡ sets sheet.codes.now sheet.at.codes (codes_of cs)
  pub numbers_are : sheet'.numbers.now ≡ sets sheet.numbers.now sheet.at.numbers (numbers_of cs)
