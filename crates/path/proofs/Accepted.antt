-- The path of a list within the limit of shapes has numbers within the limit of commands. Assumes nothing.
use mathlib.Core.Path.{◌≡◌, refl}
use mathlib.Core.Bool.{true, false}
use mathlib.Core.List.{List}
use Prim.Native.Nat.{ℕ, ◌+◌, ◌*◌, ◌^◌, ◌≤◌}
use lib.Dec.{eqb, lit≤}
use lib.Ieee.{Float, of_bits, binary32}
use lib.Ieee.Exact.{HasValue}
use lib.ListN.{length, take}
use Rattle.ieee.specs.Limit.{all_within, AllBounded}
use Rattle.ieee.proofs.Bounds.{Reach, reach_pow, all_bounded_at, all_within→bounded}
use Rattle.command.specs.Commands.{numbers_of, command_limit}
use Rattle.command.proofs.Bounds.{commands→within}
use Rattle.path.specs.Path.{vertices_of, path_commands}
use Rattle.path.proofs.Sound.{vertices_bounded, bezier_bounded}

module _ (n c : ℕ) (W : n ≤ c) (R : Reach binary32 (n + n) c) where
  pub path_bounded : (closed count : ℕ) (v : List Float) → AllBounded n (take (6 * count) v) → 6 * count ≤ length v → AllBounded c (numbers_of (path_commands closed v count))
  unfolding path_commands
  path_bounded closed count v A h = bezier_bounded n c W R (eqb closed 1) (vertices_of count v) (vertices_bounded n count v (all_bounded_at n (6 * count) v A h))

-- ---- the two limits
limit_value : HasValue (of_bits binary32 0x49800000) false (2 ^ 20) 1
unfolding of_bits
limit_value = (refl, refl)

pub path_sound : (closed count : ℕ) (v : List Float) → all_within (of_bits binary32 0x49800000) (take (6 * count) v) ≡ true → 6 * count ≤ length v
    → all_within command_limit (numbers_of (path_commands closed v count)) ≡ true
path_sound closed count v h l =
    commands→within (path_commands closed v count)
    (path_bounded (2 ^ 20) (2 ^ 22) (lit≤ tt) (reach_pow binary32 (2 ^ 20 + 2 ^ 20) 22 (lit≤ tt) (lit≤ tt)) closed count v (all_within→bounded (2 ^ 20) (of_bits binary32 0x49800000) (take (6 * count) v) limit_value h) l)
