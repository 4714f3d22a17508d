-- Command lists whose every number is bounded: how they are built, and that a bound of 2 ^ 22 is just the limit of a command list's numbers. Assumes nothing.
use mathlib.Core.Path.{◌≡◌, sym, subst}
use mathlib.Core.Bool.{true}
use mathlib.Core.List.{List, [], ◌∷◌, ◌++◌}
use Prim.Native.Nat.{ℕ, zero, suc, ◌^◌}
use lib.Ieee.{Float}
use lib.ListN.{get_or, take}
use Rattle.ieee.specs.Limit.{all_within, Bounded, AllBounded}
use Rattle.ieee.proofs.Each.{each_append, each_split}
use Rattle.ieee.proofs.Bounds.{all_within→bounded, all_bounded→within}
use Rattle.command.specs.declared.PathCommand.{PathCommand}
use Rattle.command.specs.declared.PathCommand.TheVariants.{Close}
use Rattle.command.specs.Commands.{coordinates_of, numbers_of, command_limit}
use Rattle.command.proofs.Lists.{numbers_append}
use Rattle.command.proofs.Enlarged.{limit_value}

pub bounded_append : (n : ℕ) (cs ds : List PathCommand) → AllBounded n (numbers_of cs) → AllBounded n (numbers_of ds) → AllBounded n (numbers_of (cs ++ ds))
bounded_append n cs ds X Y = subst (λ (xs : List Float). AllBounded n xs) (sym (numbers_append cs ds)) (each_append (Bounded n) (numbers_of cs) (numbers_of ds) X Y)

pub bounded_take : (n i : ℕ) (cs : List PathCommand) → AllBounded n (numbers_of cs) → AllBounded n (numbers_of (take i cs))
bounded_take n zero cs X = tt
bounded_take n (suc i) [] X = tt
bounded_take n (suc i) (c ∷ cs) X =
    let t = each_split (Bounded n) (coordinates_of c) (numbers_of cs) X in
    each_append (Bounded n) (coordinates_of c) (numbers_of (take i cs)) t.0 (bounded_take n i cs t.1)

-- the command at a place; past the list it is a close, which has no numbers
pub bounded_command : (n : ℕ) (cs : List PathCommand) (i : ℕ) → AllBounded n (numbers_of cs) → AllBounded n (coordinates_of (get_or cs i Close))
bounded_command n [] i X = tt
bounded_command n (c ∷ cs) zero X = (each_split (Bounded n) (coordinates_of c) (numbers_of cs) X).0
bounded_command n (c ∷ cs) (suc i) X = bounded_command n cs i (each_split (Bounded n) (coordinates_of c) (numbers_of cs) X).1

-- ---- the limit
pub within→commands : (cs : List PathCommand) → all_within command_limit (numbers_of cs) ≡ true → AllBounded (2 ^ 22) (numbers_of cs)
within→commands cs h = all_within→bounded (2 ^ 22) command_limit (numbers_of cs) limit_value h

pub commands→within : (cs : List PathCommand) → AllBounded (2 ^ 22) (numbers_of cs) → all_within command_limit (numbers_of cs) ≡ true
commands→within cs X = all_bounded→within (2 ^ 22) command_limit (numbers_of cs) limit_value X
