-- A call that has drawn commands has left each of them in its buffers: its code, and after the numbers of those before it its own. Assumes nothing.
use Rattle.std.specs.Prelude.{Ok, Err}
use mathlib.Core.Path.{◌≡◌, refl, ap, ap₂, subst, ◌∙◌}
use mathlib.Core.Bool.{Bool, true, false}
use mathlib.Core.List.{List, [], ◌∷◌, ◌++◌, append_assoc}
use Prim.Native.Nat.{ℕ, zero, suc, ◌+◌, ◌<◌}
use native.Mathlib.Omega.{arith}
use lib.Ieee.{Float}
use lib.ListN.{length, get_or, take, drop}
use lib.Seq.{take-append_seam, drop-append-add}
use Rattle.command.specs.declared.PathCommand.{PathCommand}
use Rattle.command.specs.declared.PathCommand.TheVariants.{Close}
use Rattle.command.specs.Commands.{code_of, coordinates_of, codes_of, numbers_of}
use Rattle.command.specs.Outcomes.{Outcome, number_of, mapped}
use Rattle.command.specs.Buffers.{in_buffers, fitted, FilledBoth}
use Rattle.command.proofs.Outcomes.{number_some}
use Rattle.command.proofs.Buffers.{fitted_accepted, fitted_refused}
use Rattle.reader.specs.Read.{size_of_code}
use Rattle.reader.proofs.Commands.{size_of}
use Rattle.judge.specs.Lists.{place_of}
use Rattle.carried.specs.Segments.{Wrote, written_at}

-- the numbers of a command in front of others, and what stands past them
module _ (c : PathCommand) (v w : List Float) where
  own : take (size_of_code (code_of c)) (coordinates_of c ++ v ++ w) ≡ coordinates_of c
  own = ap₂ take (size_of c) (append_assoc (coordinates_of c) v w) ∙ take-append_seam (coordinates_of c) (v ++ w)

  past : (n : ℕ) → drop (size_of_code (code_of c) + n) (coordinates_of c ++ v ++ w) ≡ drop n (v ++ w)
  past n =
      ap₂ (λ (m : ℕ) (u : List Float). drop (m + n) u) (size_of c) (append_assoc (coordinates_of c) v w)
      ∙ drop-append-add (coordinates_of c) (v ++ w) n

-- a command of a list whose codes and numbers stand at the start of two buffers
command_written : (cs : List PathCommand) (k : ℕ) (xs : List ℕ) (ys : List Float) → k < length cs
    → written_at (codes_of cs ++ xs) (numbers_of cs ++ ys) k ≡ (code_of (get_or cs k Close), coordinates_of (get_or cs k Close))
unfolding place_of
command_written [] k xs ys h = absurd (omega arith)
command_written (c ∷ cs) zero xs ys h = ap (λ (v : List Float). (code_of c, v)) (own c (numbers_of cs) ys)
command_written (c ∷ cs) (suc k) xs ys h =
    let codes : List ℕ = codes_of cs ++ xs in
    ap (λ (v : List Float). (get_or codes k 3, take (size_of_code (get_or codes k 3)) v)) (past c (numbers_of cs) ys (place_of k codes))
    ∙ command_written cs k xs ys (omega arith)

-- an answer with the number 0 has fitted
fitted_zero : {A B : Type 0} (f : A → B) (fits : A → Bool) (a : A) → 0 ≡ number_of (mapped f (fitted fits (Ok a))) → fitted fits (Ok a) ≡ Ok a
fitted_zero f fits a e = go (fits a) refl
  where
    go : (t : Bool) → fits a ≡ t → fitted fits (Ok a) ≡ Ok a
    go true h = fitted_accepted fits a h
    go false h = let z : ◌≡◌ {A = ℕ} 0 11 = e ∙ ap (λ (o : Outcome _). number_of (mapped f o)) (fitted_refused fits a h) in absurd (omega arith)

-- a call that has answered has commands
pub wrote_commands : (o : Outcome (List PathCommand)) (codes : List ℕ) (numbers : List Float) → Wrote o codes numbers
    → (cs : List PathCommand) × (o ≡ Ok cs)
unfolding fitted
wrote_commands (Err r) codes numbers w = absurd (omega (arith, number_some r, w.filled.codes_filled.number_is))
wrote_commands (Ok cs) codes numbers w = (cs, refl)

-- each command of a drawing in the buffers that the call has left
pub drawn_written : (o : Outcome (List PathCommand)) (codes : List ℕ) (numbers : List Float) (cs : List PathCommand) (k : ℕ)
    → Wrote o codes numbers → o ≡ Ok cs → k < length cs → written_at codes numbers k ≡ (code_of (get_or cs k Close), coordinates_of (get_or cs k Close))
drawn_written o codes numbers cs k w e h =
    let fits : List PathCommand → Bool = in_buffers (length w.codes_before) (length w.numbers_before) in
    let Left : Outcome (List PathCommand) → Type 0 = λ p. FilledBoth p 0 w.codes_count w.numbers_count w.codes_before codes w.numbers_before numbers in
    let fitting : Left (fitted fits (Ok cs)) = subst (λ (p : Outcome (List PathCommand)). Left (fitted fits p)) e w.filled in
    let left : Left (Ok cs) = subst Left (fitted_zero codes_of fits cs fitting.codes_filled.number_is) fitting in
    ap₂ (λ (c : List ℕ) (v : List Float). written_at c v k) left.codes_filled.content_is left.numbers_filled.content_is
    ∙ command_written cs k (drop (length (codes_of cs)) w.codes_before) (drop (length (numbers_of cs)) w.numbers_before) h
