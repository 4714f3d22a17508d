-- Laws of lists of commands: how many codes and numbers they have, one list after another, and the commands from a place on. Assumes nothing.
use mathlib.Core.Path.{◌≡◌, refl, sym, ap, ◌∙◌}
use mathlib.Core.List.{List, [], ◌∷◌, ◌++◌, append_assoc}
use Prim.Native.Nat.{ℕ, suc, ◌+◌, ◌*◌, ◌≤◌, ◌<◌, zero-le}
use native.Mathlib.Numerals.{add-one}
use native.Mathlib.Omega.{arith}
use lib.Ieee.{Float}
use lib.ListN.{length, get_or, drop, length-append}
use lib.Seq.{drop-cons}
use Rattle.command.specs.declared.PathCommand.{PathCommand}
use Rattle.command.specs.declared.PathCommand.TheVariants.{Move, Line, Cubic, Close, Quad}
use Rattle.command.specs.Commands.{code_of, coordinates_of, codes_of, numbers_of}

-- ---- sizes

coordinates_few : (c : PathCommand) → length (coordinates_of c) ≤ 6
coordinates_few (Move x y) = omega arith
coordinates_few (Line x y) = omega arith
coordinates_few (Cubic ax ay bx by x y) = omega arith
coordinates_few Close = omega arith
coordinates_few (Quad ax ay x y) = omega arith

pub numbers_few : (cs : List PathCommand) → length (numbers_of cs) ≤ 6 * length cs
numbers_few [] = zero-le
numbers_few (c ∷ cs) = rw length-append (omega (arith, coordinates_few c, numbers_few cs))

pub codes_length : (cs : List PathCommand) → length (codes_of cs) ≡ length cs
codes_length [] = refl
codes_length (c ∷ cs) = ap suc (codes_length cs)

-- ---- one list after another
pub codes_append : (cs ds : List PathCommand) → codes_of (cs ++ ds) ≡ codes_of cs ++ codes_of ds
codes_append [] ds = refl
codes_append (c ∷ cs) ds = ap (λ (l : List ℕ). code_of c ∷ l) (codes_append cs ds)

pub numbers_append : (cs ds : List PathCommand) → numbers_of (cs ++ ds) ≡ numbers_of cs ++ numbers_of ds
numbers_append [] ds = refl
numbers_append (c ∷ cs) ds = ap (λ (xs : List Float). coordinates_of c ++ xs) (numbers_append cs ds) ∙ sym (append_assoc (coordinates_of c) (numbers_of cs) (numbers_of ds))

-- ---- a list from a place on

module _ (cs : List PathCommand) where
  -- the command at a place
  abbrev pub at_place : ℕ → PathCommand
  at_place k = get_or cs k Close

  pub rest : (k : ℕ) → k < length cs → drop k cs ≡ at_place k ∷ drop (k + 1) cs
  rest k h = rw (add-one, drop-cons cs k Close)

  pub split : (k : ℕ) → k < length cs → length (numbers_of (drop k cs)) ≡ length (coordinates_of (at_place k)) + length (numbers_of (drop (k + 1) cs))
  split k h = ap (λ (l : List PathCommand). length (numbers_of l)) (rest k h) ∙ length-append (coordinates_of (at_place k)) (numbers_of (drop (k + 1) cs))
