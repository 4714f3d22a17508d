-- A command that is written as a code and numbers reads back as itself, and what is read has that code and those numbers. Assumes nothing.
use Rattle.std.specs.Prelude.{Ok, Err}
use mathlib.Core.Path.{◌≡◌, refl, sym, ap, ◌∙◌}
use mathlib.Core.Bool.{Bool, true, false, cond}
use mathlib.Core.List.{List, [], ◌∷◌, ◌++◌, append-nil}
use Prim.Native.Nat.{ℕ, zero, suc, ◌+◌, ◌≤◌}
use native.Mathlib.Nat.{lt_of_not-le, not-le_of_lt}
use native.Mathlib.Omega.{arith}
use lib.Dec.{eqb, ltb}
use lib.Ieee.{Float}
use lib.ListN.{length, take, drop, length-append, length-drop, take-append-drop}
use lib.Seq.{take-append_seam, length-take-le, drop-drop}
use borrow.Author.Tests.{lt-ltb, le-ltb, ltb-true, ltb-false, not-false}
use Rattle.ieee.specs.Limit.{all_within}
use Rattle.command.specs.declared.PathCommand.{PathCommand}
use Rattle.command.specs.declared.PathCommand.TheVariants.{Move, Line, Cubic, Close, Quad}
use Rattle.command.specs.Commands.{code_of, coordinates_of, command_limit}
use Rattle.command.specs.declared.Refusal.{Refusal}
use Rattle.command.specs.Outcomes.{Outcome, mapped, value_or}
use Rattle.command.proofs.Outcomes.{refused_accepted, checks_passed}
use Rattle.reader.specs.Read.{size_of_code, command_at, command_checks, read_command, read_from}

pub size_of : (c : PathCommand) → size_of_code (code_of c) ≡ length (coordinates_of c)
unfolding size_of_code
size_of (Move x y) = refl
size_of (Line x y) = refl
size_of (Cubic ax ay bx by x y) = refl
size_of Close = refl
size_of (Quad ax ay x y) = refl

pub command_of : (c : PathCommand) (v : List Float) → command_at (code_of c) (coordinates_of c ++ v) ≡ c
unfolding command_at
command_of (Move x y) v = refl
command_of (Line x y) v = refl
command_of (Cubic ax ay bx by x y) v = refl
command_of Close v = refl
command_of (Quad ax ay x y) v = refl

listed : (c : PathCommand) → code_of c ≤ 4
listed (Move x y) = omega arith
listed (Line x y) = omega arith
listed (Cubic ax ay bx by x y) = omega arith
listed Close = omega arith
listed (Quad ax ay x y) = omega arith

pub size_most : (c : ℕ) → size_of_code c ≤ 6
unfolding size_of_code
size_most c = go (ltb c 2) (eqb c 2) (eqb c 4)
  where
    go : (a b d : Bool) → cond a 2 (cond b 6 (cond d 4 0)) ≤ 6
    go true b d = omega arith
    go false true d = omega arith
    go false false true = omega arith
    go false false false = omega arith

-- the checks of a command that is read, all passed
pub read_accepted : (c : ℕ) (v : List Float) → c ≤ 4 → size_of_code c ≤ length v → all_within command_limit (take (size_of_code c) v) ≡ true → read_command c v ≡ Ok (command_at c v)
unfolding read_command command_checks
read_accepted c v a b d = rw (le-ltb 4 c a, le-ltb (length v) (size_of_code c) b, d)

-- and the other way round
pub record Accepted (c : ℕ) (v : List Float) (command : PathCommand) : Type 0 where
  pub listed : c ≤ 4
  pub inside : size_of_code c ≤ length v
  pub within : all_within command_limit (take (size_of_code c) v) ≡ true
  pub is : command ≡ command_at c v

pub accepted_read : (c : ℕ) (v : List Float) (command : PathCommand) → read_command c v ≡ Ok command → Accepted c v command
unfolding read_command command_checks
accepted_read c v command e =
    let p = checks_passed (command_checks c v) (Ok (command_at c v)) command e in
    record {
      listed = omega (arith, ltb-false, p.0);
      inside = omega (arith, ltb-false, p.0);
      within = let pass = p.0 in search not-false;
      is = cc;
    }

-- a command in front of other numbers
pub command_read : (c : PathCommand) (v : List Float) → all_within command_limit (coordinates_of c) ≡ true → read_command (code_of c) (coordinates_of c ++ v) ≡ Ok c
command_read c v h =
    let w : List Float = coordinates_of c ++ v in
    let front : take (size_of_code (code_of c)) w ≡ coordinates_of c = ap (λ (n : ℕ). take n w) (size_of c) ∙ take-append_seam (coordinates_of c) v in
    let long : size_of_code (code_of c) ≤ length w = rw (size_of c, length-append (coordinates_of c) v) (omega arith) in
    read_accepted (code_of c) w (listed c) long (ap (all_within command_limit) front ∙ h) ∙ ap Ok (command_of c v)

-- the command read at the start of v has the code c, and its numbers are those of v
pub code_at : (c : ℕ) (v : List Float) → c ≤ 4 → code_of (command_at c v) ≡ c
unfolding command_at
code_at zero v h = refl
code_at (suc zero) v h = refl
code_at (suc (suc zero)) v h = refl
code_at (suc (suc (suc zero))) v h = refl
code_at (suc (suc (suc (suc zero)))) v h = refl
code_at (suc (suc (suc (suc (suc c))))) v h = absurd (omega arith)

pub coordinates_at : (c : ℕ) (v : List Float) → c ≤ 4 → size_of_code c ≤ length v → coordinates_of (command_at c v) ≡ take (size_of_code c) v
unfolding command_at size_of_code
coordinates_at zero [] h l = absurd (omega arith)
coordinates_at zero (x0 ∷ []) h l = absurd (omega arith)
coordinates_at zero (x0 ∷ x1 ∷ v) h l = refl
coordinates_at (suc zero) [] h l = absurd (omega arith)
coordinates_at (suc zero) (x0 ∷ []) h l = absurd (omega arith)
coordinates_at (suc zero) (x0 ∷ x1 ∷ v) h l = refl
coordinates_at (suc (suc zero)) [] h l = absurd (omega arith)
coordinates_at (suc (suc zero)) (x0 ∷ []) h l = absurd (omega arith)
coordinates_at (suc (suc zero)) (x0 ∷ x1 ∷ []) h l = absurd (omega arith)
coordinates_at (suc (suc zero)) (x0 ∷ x1 ∷ x2 ∷ []) h l = absurd (omega arith)
coordinates_at (suc (suc zero)) (x0 ∷ x1 ∷ x2 ∷ x3 ∷ []) h l = absurd (omega arith)
coordinates_at (suc (suc zero)) (x0 ∷ x1 ∷ x2 ∷ x3 ∷ x4 ∷ []) h l = absurd (omega arith)
coordinates_at (suc (suc zero)) (x0 ∷ x1 ∷ x2 ∷ x3 ∷ x4 ∷ x5 ∷ v) h l = refl
coordinates_at (suc (suc (suc zero))) v h l = refl
coordinates_at (suc (suc (suc (suc zero)))) [] h l = absurd (omega arith)
coordinates_at (suc (suc (suc (suc zero)))) (x0 ∷ []) h l = absurd (omega arith)
coordinates_at (suc (suc (suc (suc zero)))) (x0 ∷ x1 ∷ []) h l = absurd (omega arith)
coordinates_at (suc (suc (suc (suc zero)))) (x0 ∷ x1 ∷ x2 ∷ []) h l = absurd (omega arith)
coordinates_at (suc (suc (suc (suc zero)))) (x0 ∷ x1 ∷ x2 ∷ x3 ∷ v) h l = refl
coordinates_at (suc (suc (suc (suc (suc c))))) v h l = absurd (omega arith)

-- it reads no number past its own
pub command_part_lem : (c : ℕ) (v : List Float) → c ≤ 4 → size_of_code c ≤ length v → command_at c (take (size_of_code c) v) ≡ command_at c v
command_part_lem c v h l =
    sym (λ i. command_at (code_at c v h i) (coordinates_at c v h l i))
    ∙ ap (command_at (code_of (command_at c v))) (sym (append-nil (coordinates_of (command_at c v))))
    ∙ command_of (command_at c v) []

-- a list that begins as another one does is as long as that beginning
pub long_alike : {A : Type 0} (n : ℕ) (v w : List A) → take n v ≡ take n w → n ≤ length v → n ≤ length w
long_alike n v w e h = omega (arith, ap length e, length-take-le n v h, simp length-append at (ap length (take-append-drop n w)))

front_by : (c : ℕ) (v w : List Float) → take (size_of_code c) v ≡ take (size_of_code c) w
    → (unlisted short : Bool) → ltb 4 c ≡ unlisted → ltb (length v) (size_of_code c) ≡ short
    → read_command c v ≡ read_command c w
unfolding read_command command_checks
front_by c v w e true short a b = rw a
front_by c v w e false true a b =
    let never : size_of_code c ≤ length w → ⊥ = λ g. not-le_of_lt (ltb-true (length v) (size_of_code c) b) (long_alike (size_of_code c) w v (sym e) g) in
    rw (a, b, lt-ltb (length w) (size_of_code c) (lt_of_not-le never))
front_by c v w e false false a b =
    let l : size_of_code c ≤ length v = ltb-false (length v) (size_of_code c) b in
    let m : size_of_code c ≤ length w = long_alike (size_of_code c) v w e l in
    let h : c ≤ 4 = ltb-false 4 c a in
    let same : command_at c v ≡ command_at c w = sym (command_part_lem c v h l) ∙ ap (command_at c) e ∙ command_part_lem c w h m in
    rw (a, b, le-ltb (length w) (size_of_code c) m, e, same)

-- lists that have the command's own numbers in common have one answer
pub read_front : (c : ℕ) (v w : List Float) → take (size_of_code c) v ≡ take (size_of_code c) w → read_command c v ≡ read_command c w
read_front c v w e = front_by c v w e (ltb 4 c) (ltb (length v) (size_of_code c)) refl refl

-- ---- what reading from a place found
module _ (code : ℕ) (numbers : List Float) (place : ℕ) where
  abbrev after : PathCommand → PathCommand × ℕ
  after c = (c, place + size_of_code code)

  refused_from : (r : Refusal) → Err r ≡ read_from code numbers place → read_command code (drop place numbers) ≡ Err r
  unfolding read_from
  refused_from r e = go (read_command code (drop place numbers)) e
    where
      go : (o : Outcome PathCommand) → Err r ≡ mapped after o → o ≡ Err r
      go (Err q) e = cc
      go (Ok c) e = refused_accepted r (after c) e

  accepted_from : (at : PathCommand × ℕ) → Ok at ≡ read_from code numbers place
      → (read_command code (drop place numbers) ≡ Ok at.0) × (at.1 ≡ place + size_of_code code)
  unfolding read_from
  accepted_from at e = go (read_command code (drop place numbers)) e
    where
      go : (o : Outcome PathCommand) → Ok at ≡ mapped after o → (o ≡ Ok at.0) × (at.1 ≡ place + size_of_code code)
      go (Err q) e = refused_accepted q at (sym e)
      go (Ok c) e =
          let same : at ≡ after c = ap (value_or at) e in
          (sym (ap (λ (x : PathCommand × ℕ). Ok x.0) same), ap (λ (x : PathCommand × ℕ). x.1) same)

  -- a command that is read, with the place after it as a `Read` has them
  pub record Taken (command : PathCommand) (next : ℕ) : Type 0 where
    pub read_is : read_command code (drop place numbers) ≡ Ok command
    pub inside : next ≤ length numbers
    pub rest : drop next numbers ≡ drop (size_of_code code) (drop place numbers)

  module _ (read : Outcome (PathCommand × ℕ)) (is : read ≡ read_from code numbers place) where
    pub read_refused : (r : Refusal) → read ≡ Err r → read_command code (drop place numbers) ≡ Err r
    read_refused r e = refused_from r (sym (e) ∙ is)

    pub read_taken : place ≤ length numbers → (command : PathCommand) (next : ℕ) → read ≡ Ok (command, next) → Taken command next
    read_taken h command next e =
        let on = accepted_from (command, next) (sym (e) ∙ is) in
        let l = (accepted_read code (drop place numbers) command on.0).inside in
        record {
          read_is = on.0;
          inside = rw on.1 (omega (arith, length-drop place numbers));
          rest = rw on.1 (sym (drop-drop (size_of_code code) place numbers));
        }
