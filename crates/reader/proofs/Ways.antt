-- What each way out of a function of this crate owes, as the code meets it: a premise for each test and for each call's result.
-- Assumes nothing.
use Rattle.std.specs.Prelude.{Ok, Err}
use mathlib.Core.Path.{◌≡◌, sym, ap, ◌∙◌}
use mathlib.Core.Bool.{Bool, true, false}
use mathlib.Core.List.{List}
use Prim.Native.Nat.{ℕ, ◌+◌, ◌-◌, ◌≤◌, ◌<◌}
use native.Mathlib.Omega.{arith}
use lib.Ieee.{Float}
use lib.ListN.{length, take, drop, length-drop, length-take}
use borrow.Author.Tests.{lt-ltb, le-ltb}
use Rattle.ieee.specs.Limit.{all_within}
use Rattle.command.specs.declared.PathCommand.{PathCommand}
use Rattle.command.specs.declared.Refusal.TheVariants.{OutOfRange, Unlisted, OutOfBounds}
use Rattle.command.specs.Commands.{command_limit}
use Rattle.reader.specs.Read.{size_of_code, command_at, command_checks, read_command, read_from}
use Rattle.reader.proofs.Commands.{command_part_lem, read_accepted}

-- ---- read_command
module _ (code : ℕ) (numbers : List Float) (place : ℕ) where
  abbrev v : List Float
  v = drop place numbers

  pub read_unlisted : 4 < code → (Err Unlisted) ≡ read_from code numbers place
  unfolding read_from read_command command_checks
  read_unlisted a = rw (lt-ltb 4 code a)

  module _ (a : code ≤ 4) (n : ℕ) (n_is : n ≡ size_of_code code) where
    pub read_short : length numbers - place < n → (Err OutOfBounds) ≡ read_from code numbers place
    unfolding read_from read_command command_checks
    read_short b =
        let e : length v < size_of_code code = rw (length-drop place numbers, ← n_is) b in
        rw (le-ltb 4 code a, lt-ltb (length v) (size_of_code code) e)

    module _ (inside : place ≤ length numbers) (b : n ≤ length numbers - place) where
      pub end_inside : place + n ≤ length numbers
      end_inside = omega arith

      pub end_fits : length numbers < 18446744073709551616 → place + n < 18446744073709551616
      end_fits few = omega arith

      enough : size_of_code code ≤ length v
      enough = rw (length-drop place numbers, ← n_is) b

      part_is : take (place + n - place) v ≡ take (size_of_code code) v
      part_is = let e : place + n - place ≡ size_of_code code = omega arith in ap (λ (k : ℕ). take k v) e

      pub part_long : size_of_code code ≤ length (take (place + n - place) v)
      part_long = let l = enough in rw (part_is, length-take (size_of_code code) v) (omega arith)

      module _ (t : Bool) (t_is : t ≡ all_within command_limit (take (place + n - place) v)) where
        judged : all_within command_limit (take (size_of_code code) v) ≡ t
        judged = sym (t_is ∙ ap (all_within command_limit) part_is)

        pub read_beyond : t ≡ false → (Err OutOfRange) ≡ read_from code numbers place
        unfolding read_from read_command command_checks
        read_beyond d = rw (le-ltb 4 code a, le-ltb (length v) (size_of_code code) enough, judged, d)

        pub read_whole : t ≡ true → (p : PathCommand) → p ≡ command_at code (take (place + n - place) v) → (Ok (p, place + n)) ≡ read_from code numbers place
        unfolding read_from
        read_whole d p p_is =
            rw (read_accepted code v a enough (judged ∙ d), p_is ∙ ap (command_at code) part_is ∙ command_part_lem code v a enough, n_is)

pub ruleset reading = (read_unlisted, read_short, end_inside, end_fits, part_long, read_beyond, read_whole)
