-- What each way out of a function of this crate owes, as the code meets it. Assumes nothing.
use Rattle.std.specs.Prelude.{Ok}
use mathlib.Core.Path.{◌≡◌, sym, ap, ◌∙◌}
use mathlib.Core.Bool.{Bool, true, false, ◌&&◌, and-eq-true_iff}
use mathlib.Core.List.{List}
use Prim.Native.Nat.{ℕ, ◌+◌, ◌*◌, ◌≤◌}
use native.Mathlib.Nat.{zero-add}
use native.Mathlib.Omega.{arith}
use lib.Dec.{leb}
use lib.Seq.{sets}
use borrow.Author.Tests.{le-leb, leb-true}
use lib.ListN.{length}
use lib.Ieee.{Float}
use Rattle.command.specs.declared.PathCommand.{PathCommand}
use Rattle.command.specs.declared.Refusal.TheVariants.{BufferTooSmall}
use Rattle.command.specs.Commands.{codes_of, numbers_of}
use Rattle.command.specs.declared.Size.{Size}
use Rattle.command.specs.Buffers.{fitted, in_buffers, FilledBoth, size_of, pair_of}
use Rattle.command.proofs.Lists.{codes_length}
use Rattle.command.proofs.Buffers.{fitted_accepted, fitted_refused, filled, both_unfilled}
use Rattle.path.specs.Path.{bezier_count, path_commands, Sound}
use Rattle.path.proofs.Paths.{path_commands_length}
use Rattle.shape.specs.declared.Shape.{Shape}
use Rattle.shape.specs.declared.Shape.TheVariants.{Path}
use Rattle.shape.specs.Shape.{shape_commands, Fit}
use Rattle.shape.proofs.Enough.{path_sound, shape_enough}

-- ---- a path
pub path_sized : (closed count : ℕ) (v : List Float) → Sound v count → (n m : ℕ) → n ≡ bezier_count closed count
    → m ≡ length (numbers_of (path_commands closed v count)) → (n, m) ≡ size_of (path_commands closed v count)
path_sized closed count v sound n m n_is m_is =
    rw (codes_length (path_commands closed v count), n_is, m_is, path_commands_length closed v count sound.some)

pub path_fits : (s : Shape) (closed count : ℕ) → s ≡ Path closed count → (v : List Float) → Fit s v → Sound v count
path_fits s closed count is v fit = path_sound closed count v (rw is at fit)

-- ---- is_ample, holds and is_within
pub path_ample : (s : Shape) (v : List Float) (closed count : ℕ) (room : Size) → s ≡ Path closed count → Fit s v → count + 2 ≤ room.codes
    → leb (6 * count + 2) room.numbers ≡ true → in_buffers room.codes room.numbers (shape_commands s v) ≡ true
path_ample s v closed count room is fit a e =
    let most = shape_enough (Path closed count) v (rw is at fit) in
    let b = leb-true (6 * count + 2) room.numbers e in
    rw (
      is,
      le-leb (size_of (shape_commands (Path closed count) v)).0 room.codes (omega arith),
      le-leb (size_of (shape_commands (Path closed count) v)).1 room.numbers (omega arith),
    )

pub fits_by_need : (s : Shape) (v : List Float) (size room : Size) (t : Bool) → t ≡ (leb size.codes room.codes && leb size.numbers room.numbers)
    → pair_of size ≡ size_of (shape_commands s v) → t ≡ in_buffers room.codes room.numbers (shape_commands s v)
fits_by_need s v size room t t_is e = t_is ∙ ap (λ (n : ℕ × ℕ). leb n.0 room.codes && leb n.1 room.numbers) e

-- ---- draw
module _ (cs : List PathCommand) (codes : List ℕ) (numbers : List Float) (t : Bool) (t_is : t ≡ in_buffers (length codes) (length numbers) cs) where
  pub too_small : t ≡ false → FilledBoth (fitted (in_buffers (length codes) (length numbers)) (Ok cs)) 11 0 0 codes codes numbers numbers
  too_small e = rw (fitted_refused (in_buffers (length codes) (length numbers)) cs (sym t_is ∙ e)) (both_unfilled BufferTooSmall codes numbers)

  module _ (e : t ≡ true) where
    inside : (length (codes_of cs) ≤ length codes) × (length (numbers_of cs) ≤ length numbers)
    inside =
        let held = (and-eq-true_iff (leb (length (codes_of cs)) (length codes)) (leb (length (numbers_of cs)) (length numbers))).0 (sym t_is ∙ e) in
        (leb-true (length (codes_of cs)) (length codes) held.0, leb-true (length (numbers_of cs)) (length numbers) held.1)

    pub codes_held : 0 + length (codes_of cs) ≤ length codes
    codes_held = omega (arith, inside.0)

    pub numbers_held : 0 + length (numbers_of cs) ≤ length numbers
    numbers_held = omega (arith, inside.1)

    pub all_written : (n m : ℕ) (codes' : List ℕ) (numbers' : List Float) → n ≡ 0 + length (codes_of cs) → m ≡ 0 + length (numbers_of cs)
        → codes' ≡ sets codes 0 (codes_of cs) → numbers' ≡ sets numbers 0 (numbers_of cs)
        → FilledBoth (fitted (in_buffers (length codes) (length numbers)) (Ok cs)) 0 n m codes codes' numbers numbers'
    all_written n m codes' numbers' i j c d =
        rw (fitted_accepted (in_buffers (length codes) (length numbers)) cs (sym t_is ∙ e))
        (record {
          codes_filled = filled (codes_of cs) codes codes' n inside.0 (i ∙ zero-add _) c;
          numbers_filled = filled (numbers_of cs) numbers numbers' m inside.1 (j ∙ zero-add _) d;
        })
