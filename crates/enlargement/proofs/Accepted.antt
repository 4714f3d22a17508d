-- What is drawn of a vertex list, of an item row or of a merge is accepted by the calls that read command lists: its codes and numbers are judged sound, and are read as the
-- commands that were drawn. Assumes nothing.
use Rattle.std.specs.Prelude.{Ok}
use mathlib.Core.Path.{◌≡◌}
use mathlib.Core.List.{List}
use Prim.Native.Nat.{ℕ}
use native.Mathlib.Omega.{arith}
use lib.Ieee.{Float}
use Rattle.command.specs.declared.PathCommand.{PathCommand}
use Rattle.command.specs.Commands.{codes_of, numbers_of}
use Rattle.draw.specs.Paths.{draw_path}
use Rattle.draw.specs.Items.{draw_item}
use Rattle.draw.proofs.Sources.{drawn_path_few, drawn_item_few}
use Rattle.draw.proofs.Sound.{drawn_path_sound, drawn_item_sound}
use Rattle.join.specs.Merge.{draw_merge}
use Rattle.join.proofs.Sound.{drawn_merge_sound, drawn_merge_few}
use Rattle.judge.specs.Lists.{judge_list}
use Rattle.judge.proofs.Lists.{list_judged}

pub path_accepted : (closed : ℕ) (v : List Float) (count : ℕ) (cs : List PathCommand) → draw_path closed v count ≡ Ok cs → judge_list (codes_of cs) (numbers_of cs) ≡ Ok cs
path_accepted closed v count cs e = list_judged cs (omega (arith, drawn_path_few closed v count cs e)) (drawn_path_sound closed v count cs e)

pub item_accepted : (row : List ℕ) (items : List Float) (cs : List PathCommand) → draw_item row items ≡ Ok cs → judge_list (codes_of cs) (numbers_of cs) ≡ Ok cs
item_accepted row items cs e = list_judged cs (omega (arith, drawn_item_few row items cs e)) (drawn_item_sound row items cs e)

pub merge_accepted : (rows : List ℕ) (n : ℕ) (items : List Float) (cs : List PathCommand) → draw_merge rows n items ≡ Ok cs → judge_list (codes_of cs) (numbers_of cs) ≡ Ok cs
merge_accepted rows n items cs e = list_judged cs (drawn_merge_few rows n items cs e) (drawn_merge_sound rows n items cs e)
