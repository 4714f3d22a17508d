-- The first commands of a list as a list by themselves: one command more is read as in the whole list, and of an accepted list they are its first commands.
-- Assumes nothing.
use Rattle.std.specs.Prelude.{Ok, Err}
use mathlib.Core.Path.{◌≡◌, refl, sym, ap, ◌∙◌}
use mathlib.Core.Bool.{Bool, false}
use mathlib.Core.List.{List, [], ◌∷◌}
use Prim.Native.Nat.{ℕ, zero, suc, ◌+◌, ◌≤◌}
use native.Mathlib.Nat.{zero-add, suc-add}
use native.Mathlib.Omega.{arith}
use lib.Ieee.{Float, le}
use lib.ListN.{length, take, drop, length-append, take-append-drop}
use lib.Seq.{take-nil, take-take}
use Rattle.command.specs.declared.PathCommand.{PathCommand}
use Rattle.command.specs.Outcomes.{Outcome, mapped, and_then, value_or}
use Rattle.reader.specs.Read.{size_of_code, read_command}
use Rattle.reader.proofs.Commands.{read_front}
use Rattle.judge.specs.Lists.{in_front, read_list, place_of}
use Rattle.judge.proofs.Ways.{front}
use Rattle.judge.proofs.Lists.{none_read}
use Rattle.measure.specs.declared.Pen.{Pen}
use Rattle.measure.specs.Length.{start_pen, length_after, path_length}
use Rattle.length.proofs.Walks.{length_from, measured_read}
use Rattle.reach.specs.Reach.{first_length, long_enough}

-- ---- the first n commands, read
unfoldable pub first_commands : ℕ → List ℕ → List Float → Outcome (List PathCommand)
first_commands n codes numbers = read_list (take n codes) (take (place_of n codes) numbers)

drop_take : (n m : ℕ) (v : List Float) → drop n (take (n + m) v) ≡ take m (drop n v)
drop_take zero m v = rw zero-add
drop_take (suc n) m [] = rw suc-add (sym (take-nil m))
drop_take (suc n) m (x ∷ v) = rw suc-add (drop_take n m v)

pub first_none : (codes : List ℕ) (v : List Float) → first_commands 0 codes v ≡ Ok []
unfolding first_commands place_of read_list
first_none codes v = refl

pub first_suc : (c : ℕ) (cs : List ℕ) (v : List Float) (n : ℕ)
    → first_commands (suc n) (c ∷ cs) v ≡ and_then (read_command c v) (in_front (first_commands n cs (drop (size_of_code c) v)))
unfolding first_commands place_of read_list
first_suc c cs v n =
    let w : List Float = take (size_of_code c + place_of n cs) v in
    ap (λ (o : Outcome PathCommand). and_then o (in_front (read_list (take n cs) (drop (size_of_code c) w))))
    (read_front c w v (take-take (size_of_code c) (size_of_code c + place_of n cs) v (omega arith)))
    ∙ ap (λ (u : List Float). and_then (read_command c v) (in_front (read_list (take n cs) u))) (drop_take (size_of_code c) (place_of n cs) v)

first_accepted : (codes : List ℕ) (v : List Float) (ps : List PathCommand) → read_list codes v ≡ Ok ps → (n : ℕ)
    → first_commands n codes v ≡ Ok (take n ps)
unfolding first_commands place_of
first_accepted codes v ps e zero = first_none codes v
first_accepted [] v ps e (suc n) = first_none [] v ∙ ap (λ (qs : List PathCommand). Ok (take (suc n) qs)) (sym (none_read v ps e))
first_accepted (c ∷ cs) v ps e (suc n) =
    let f = front c cs v ps e in
    first_suc c cs v n
    ∙ ap (λ (o : Outcome PathCommand). and_then o (in_front (first_commands n cs (drop (size_of_code c) v)))) f.read_is
    ∙ ap (λ (o : Outcome (List PathCommand)). in_front o f.command) (first_accepted cs (drop (size_of_code c) v) f.rest f.rest_is n)
    ∙ unfold in_front in (ap (λ (qs : List PathCommand). Ok (take (suc n) qs)) (sym f.is))

-- ---- the test of the rule, from a pen on
abbrev pub reached : Float → Pen → Outcome (List PathCommand) → Bool
reached least pen o = value_or false (mapped (λ (cs : List PathCommand). le least (length_from pen cs)) o)

unfoldable pub enough_from : Pen → List ℕ → List Float → Float → ℕ → Bool
enough_from pen codes v least n = reached least pen (first_commands n codes v)

few_first : (n : ℕ) (codes : List ℕ) → length codes ≤ 262144 → length (take n codes) ≤ 262144
few_first n codes few = omega (arith, simp length-append at (ap length (take-append-drop n codes)))

module _ (codes : List ℕ) (v : List Float) (least : Float) (few : length codes ≤ 262144) (n : ℕ) where
  -- from the first pen on it is the test of the rule
  pub enough_from_lem : long_enough codes v least n ≡ enough_from start_pen codes v least n
  unfolding long_enough first_length enough_from first_commands path_length length_after
  enough_from_lem =
      ap (λ (o : Outcome Float). value_or false (mapped (le least) o)) (measured_read (take n codes) (take (place_of n codes) v) (few_first n codes few))
      ∙ go (read_list (take n codes) (take (place_of n codes) v))
    where
      go : (o : Outcome (List PathCommand)) → value_or false (mapped (le least) (mapped path_length o)) ≡ reached least start_pen o
      go (Err r) = refl
      go (Ok cs) = refl

  -- and of an accepted list one of its running length
  pub enough_accepted : (ps : List PathCommand) → read_list codes v ≡ Ok ps → long_enough codes v least n ≡ le least (path_length (take n ps))
  unfolding enough_from path_length length_after
  enough_accepted ps e = enough_from_lem ∙ ap (reached least start_pen) (first_accepted codes v ps e n)
