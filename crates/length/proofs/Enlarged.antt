-- The length of an enlarged command list is the length enlarged, and a refusal is the same. Assumes nothing.
use Rattle.std.specs.Prelude.{Ok}
use mathlib.Core.Path.{◌≡◌, refl, ap}
use mathlib.Core.List.{List}
use Prim.Native.Nat.{ℕ, ◌+◌, ◌≤◌}
use Rattle.ieee.specs.Grid.{scale}
use Rattle.command.specs.declared.PathCommand.{PathCommand}
use Rattle.command.specs.Commands.{codes_of, numbers_of}
use Rattle.command.specs.Outcomes.{Outcome, mapped}
use Rattle.command.specs.Enlarged.{Twins}
use Rattle.measure.specs.Length.{path_length}
use Rattle.measure.proofs.Enlarged.{length_twins}
use Rattle.judge.proofs.Enlarged.{judge_alike}
use Rattle.length.specs.Lists.{measure_list}

pub measured_twins : (k q b : ℕ) (cs cs' : List PathCommand) → q + 56 ≤ 149 → b + 55 + k ≤ 127 → b + k ≤ 22 → Twins k q b cs cs'
    → measure_list (codes_of cs') (numbers_of cs') ≡ mapped (scale k) (measure_list (codes_of cs) (numbers_of cs))
unfolding measure_list
measured_twins k q b cs cs' Q K B C =
    judge_alike C B (mapped path_length) (λ (o : Outcome (List PathCommand)). mapped (scale k) (mapped path_length o)) refl (ap Ok (length_twins k q b cs cs' Q K C).is)
