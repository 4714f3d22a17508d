-- Commands that are written as codes and numbers are read back as themselves, and an accepted list is its commands written so.
-- Assumes nothing.
use Rattle.std.specs.Prelude.{Ok}
use mathlib.Core.Path.{◌≡◌, refl, sym, ap, ap₂, ◌∙◌}
use mathlib.Core.Bool.{true, not, ◌&&◌, and-eq-true_iff}
use mathlib.Core.List.{List, [], ◌∷◌, ◌++◌}
use Prim.Native.Nat.{ℕ, ◌≤◌}
use native.Mathlib.Omega.{arith}
use lib.Dec.{eqb}
use lib.Ieee.{Float}
use lib.ListN.{length, take, drop, take-append-drop}
use lib.Seq.{drop-append_seam}
use borrow.Author.Tests.{le-ltb}
use Rattle.ieee.specs.Limit.{all_within}
use Rattle.ieee.proofs.Each.{within_append}
use Rattle.command.specs.declared.PathCommand.{PathCommand}
use Rattle.command.specs.declared.Refusal.TheVariants.{OutOfBounds}
use Rattle.command.specs.Commands.{code_of, coordinates_of, codes_of, numbers_of, command_limit}
use Rattle.command.specs.Outcomes.{Outcome, and_then, list_of, ◌gives◌}
use Rattle.command.proofs.Outcomes.{refused_accepted, checks_passed}
use Rattle.command.proofs.Lists.{codes_length}
use Rattle.reader.specs.Read.{size_of_code}
use Rattle.reader.proofs.Commands.{size_of, command_read, accepted_read, code_at, coordinates_at}
use Rattle.judge.specs.Lists.{in_front, read_list, judge_list}
use Rattle.judge.proofs.Walk.{left_over}
use Rattle.judge.proofs.Ways.{front}

-- one command in front
front_read : (c : PathCommand) (codes : List ℕ) (v : List Float) → all_within command_limit (coordinates_of c) ≡ true
    → read_list (code_of c ∷ codes) (coordinates_of c ++ v) ≡ in_front (read_list codes v) c
unfolding read_list
front_read c codes v h =
    let w : List Float = coordinates_of c ++ v in
    let back : drop (size_of_code (code_of c)) w ≡ v = ap (λ (n : ℕ). drop n w) (size_of c) ∙ drop-append_seam (coordinates_of c) v in
    ap (λ (o : Outcome PathCommand). and_then o (in_front (read_list codes (drop (size_of_code (code_of c)) w)))) (command_read c v h)
    ∙ ap (λ (u : List Float). in_front (read_list codes u) c) back

pub commands_read_lem : (cs : List PathCommand) → all_within command_limit (numbers_of cs) ≡ true → read_list (codes_of cs) (numbers_of cs) ≡ Ok cs
commands_read_lem [] h = unfold read_list in refl
commands_read_lem (c ∷ cs) h =
    let s = (and-eq-true_iff (all_within command_limit (coordinates_of c)) (all_within command_limit (numbers_of cs))).0
    (sym (within_append command_limit (coordinates_of c) (numbers_of cs)) ∙ h) in
    front_read c (codes_of cs) (numbers_of cs) s.0 ∙ ap (λ (o : Outcome (List PathCommand)). in_front o c) (commands_read_lem cs s.1) ∙ unfold in_front in refl

-- commands that are few enough and within the limit are accepted as themselves
pub list_judged : (cs : List PathCommand) → length cs ≤ 262144 → all_within command_limit (numbers_of cs) ≡ true → judge_list (codes_of cs) (numbers_of cs) ≡ Ok cs
unfolding judge_list
list_judged cs few within = rw (codes_length cs, le-ltb 262144 (length cs) few) (commands_read_lem cs within)

-- of no codes no commands are read
pub none_read : (v : List Float) (ps : List PathCommand) → read_list [] v ≡ Ok ps → ps ≡ []
unfolding read_list
none_read v ps e = sym (ap list_of (checks_passed ((not (eqb (length v) 0) gives OutOfBounds) ∷ []) (Ok []) ps e).1)

-- what is read of an accepted list, written again
pub read_written : (codes : List ℕ) (v : List Float) (ps : List PathCommand) → read_list codes v ≡ Ok ps → (codes_of ps ≡ codes) × (numbers_of ps ≡ v)
read_written [] [] ps e = (ap codes_of (none_read [] ps e), ap numbers_of (none_read [] ps e))
read_written [] (x ∷ v) ps e = refused_accepted OutOfBounds ps (sym (left_over (x ∷ v) (λ z. omega arith)) ∙ e)
read_written (c ∷ cs) v ps e =
    let f = front c cs v ps e in
    let a = accepted_read c v f.command f.read_is in
    let rest : List Float = drop (size_of_code c) v in
    let i = read_written cs rest f.rest f.rest_is in (
      ap codes_of f.is ∙ ap (λ (p : PathCommand). code_of p ∷ codes_of f.rest) a.is ∙ ap (λ (n : ℕ). n ∷ codes_of f.rest) (code_at c v a.listed)
          ∙ ap (λ (l : List ℕ). c ∷ l) i.0,
      ap numbers_of f.is
          ∙ ap (λ (p : PathCommand). coordinates_of p ++ numbers_of f.rest) a.is
          ∙ ap (λ (l : List Float). l ++ numbers_of f.rest) (coordinates_at c v a.listed a.inside)
          ∙ ap (λ (l : List Float). take (size_of_code c) v ++ l) i.1
          ∙ take-append-drop (size_of_code c) v,
    )

-- every number of an accepted list is within the limit
pub read_within : (codes : List ℕ) (v : List Float) (ps : List PathCommand) → read_list codes v ≡ Ok ps → all_within command_limit (numbers_of ps) ≡ true
unfolding all_within
read_within [] v ps e = ap (λ (qs : List PathCommand). all_within command_limit (numbers_of qs)) (none_read v ps e)
read_within (c ∷ cs) v ps e =
    let f = front c cs v ps e in
    let a = accepted_read c v f.command f.read_is in
    ap (λ (qs : List PathCommand). all_within command_limit (numbers_of qs)) f.is
    ∙ within_append command_limit (coordinates_of f.command) (numbers_of f.rest)
    ∙ ap₂ ◌&&◌
    (ap (λ (p : PathCommand). all_within command_limit (coordinates_of p)) a.is
    ∙ ap (all_within command_limit) (coordinates_at c v a.listed a.inside)
    ∙ a.within)
    (read_within cs (drop (size_of_code c) v) f.rest f.rest_is)
