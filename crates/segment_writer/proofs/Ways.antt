-- A segment that two numbers or more are to follow is written with no branch on what it is. Assumes nothing.
use mathlib.Core.Path.{◌≡◌, refl, sym, ap, ◌∙◌}
use mathlib.Core.Bool.{Bool, true, false, cond}
use mathlib.Core.List.{List, [], ◌∷◌, ◌++◌, append-nil}
use Prim.Native.Nat.{ℕ, suc, ◌+◌, ◌≤◌, ◌<◌}
use native.Mathlib.Nat.{not-suc-le-zero, le_of_suc-le-suc}
use native.Mathlib.Omega.{arith}
use lib.Ieee.{Float}
use lib.ListN.{length, set}
use lib.Seq.{sets, set-set, set_comm, length-sets}
use Rattle.command.specs.Commands.{code_of, coordinates_of}
use Rattle.command.proofs.Buffers.{sets_append}
use Rattle.path.specs.declared.BezierVertex.{BezierVertex}
use Rattle.path.specs.Path.{out_x, out_y, in_x, in_y, is_line, bezier_segment}
use Rattle.path.proofs.Segment.{line_or_cubic, segment_is, place_after}
use Rattle.sheet.specs.declared.Sheet.{Sheet}
use Rattle.segment_writer.specs.Followed.{Followed}

-- ---- what is stored over
module _ {A : Type 0} where
  -- a store before a run of stores may as well come first
  store_first : (us l : List A) (i j : ℕ) (a : A) → i < j → set (sets l j us) i a ≡ sets (set l i a) j us
  store_first [] l i j a h = refl
  store_first (u ∷ us) l i j a h =
      store_first us (set l j u) i (suc j) a (omega arith)
      ∙ ap (λ (m : List A). sets m (suc j) us) (set_comm l j i u a (λ e. omega arith))

  -- a run of stores over a shorter one leaves nothing of it
  pub stored_over : (us vs l : List A) (i : ℕ) → length us ≤ length vs → sets (sets l i us) i vs ≡ sets l i vs
  stored_over [] vs l i h = refl
  stored_over (u ∷ us) [] l i h = absurd (not-suc-le-zero h)
  stored_over (u ∷ us) (v ∷ vs) l i h =
      ap (λ (m : List A). sets m (suc i) vs) (store_first us (set l i u) i (suc i) v (omega arith) ∙ ap (λ (m : List A). sets m (suc i) us) (set-set l i u v))
      ∙ stored_over us vs (set l i v) (suc i) (le_of_suc-le-suc h)

-- ---- put_followed: t says whether the segment is a line
module _ (a b : BezierVertex) (t : Bool) (t_is : t ≡ is_line a b) where
  pub code_is : (codes : List ℕ) (i code : ℕ) → code ≡ cond t 1 2 → set codes i code ≡ set codes i (code_of (bezier_segment a b))
  code_is codes i code e = rw (segment_is a b t t_is, e) (go t)
    where
      go : (s : Bool) → set codes i (cond s 1 2) ≡ set codes i (code_of (line_or_cubic a b s))
      go true = refl
      go false = refl

  module _ (at end : ℕ) (end_is : end ≡ cond t at (at + 4)) where
    pub end_room : (l l' : List Float) → l' ≡ sets l at (out_x a ∷ out_y a ∷ in_x b ∷ in_y b ∷ [])
        → at + length (coordinates_of (bezier_segment a b)) + 2 ≤ length l → end + 2 ≤ length l'
    end_room l l' e h = rw (e, length-sets l at (out_x a ∷ out_y a ∷ in_x b ∷ in_y b ∷ [])) (omega (arith, place_after a b t at end t_is end_is))

    next_place : (r : ℕ) → r ≡ end + 2 → r ≡ at + length (coordinates_of (bezier_segment a b))
    next_place r e = e ∙ place_after a b t at end t_is end_is

    pub covered : (l l' l'' : List Float) (r : ℕ) → l' ≡ sets l at (out_x a ∷ out_y a ∷ in_x b ∷ in_y b ∷ []) → l'' ≡ sets l' end (b.x ∷ b.y ∷ []) → r ≡ end + 2
        → (more : List Float) → 2 ≤ length more → sets l'' r more ≡ sets l at (coordinates_of (bezier_segment a b) ++ more)
    covered l l' l'' r e f g more h = rw (segment_is a b t t_is, f, g, end_is, e) (go t)
      where
        four : List Float
        four = out_x a ∷ out_y a ∷ in_x b ∷ in_y b ∷ []

        pair : List Float
        pair = b.x ∷ b.y ∷ []

        go : (s : Bool) → sets (sets (sets l at four) (cond s at (at + 4)) pair) (cond s at (at + 4) + 2) more
            ≡ sets l at (coordinates_of (line_or_cubic a b s) ++ more)
        go true = sym (sets_append pair more (sets l at four) at) ∙ stored_over four (pair ++ more) l at (omega arith)
        go false = sym (sets_append four (pair ++ more) l at ∙ sets_append pair more (sets l at four) (at + 4))

    -- the code and the numbers as they are put
    pub followed_is : (p q : Sheet) (code : ℕ) (l' l'' : List Float) (r : ℕ) → code ≡ cond t 1 2 → at ≡ p.at.numbers
        → l' ≡ sets p.numbers.now at (out_x a ∷ out_y a ∷ in_x b ∷ in_y b ∷ []) → l'' ≡ sets l' end (b.x ∷ b.y ∷ []) → r ≡ end + 2
        → q.codes.ghost_name ≡ p.codes.ghost_name → q.numbers.ghost_name ≡ p.numbers.ghost_name
        → q.at.codes ≡ p.at.codes + 1 → q.at.numbers ≡ r → q.codes.now ≡ set p.codes.now p.at.codes code → q.numbers.now ≡ l''
        → Followed (bezier_segment a b ∷ []) p q
    followed_is p q code l' l'' r code_is_ at_is four pair r_is same_codes same_numbers codes_at numbers_at codes_are numbers_are =
        let c = bezier_segment a b in
        let none = append-nil (coordinates_of c) in
        record {
          same_codes = same_codes;
          same_numbers = same_numbers;
          codes_at = codes_at;
          numbers_at = rw none (rw at_is at (numbers_at ∙ next_place r r_is));
          codes_are = codes_are ∙ code_is p.codes.now p.at.codes code code_is_;
          numbers_same = rw (numbers_are, pair, length-sets l' end (b.x ∷ b.y ∷ []), four, length-sets p.numbers.now at _) refl;
          numbers_are = λ more h. rw (numbers_are, numbers_at, none) (rw at_is at (covered p.numbers.now l' l'' r four pair r_is more h));
        }
