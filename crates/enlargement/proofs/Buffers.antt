-- Calls that answer two plates alike fill the caller's buffers alike. Assumes nothing.
use Rattle.std.specs.Prelude.{Ok, Err}
use Prim.Native.Nat.{ℕ}
use mathlib.Core.Path.{◌≡◌, refl, ap, ◌∙◌}
use mathlib.Core.Bool.{Bool, true, false, cond, ◌&&◌}
use mathlib.Core.List.{List, [], ◌∷◌, map}
use lib.Dec.{leb}
use lib.Ieee.{Float}
use lib.ListN.{length, length-map}
use Rattle.ieee.specs.Grid.{scale}
use Rattle.command.specs.declared.PathCommand.{PathCommand}
use Rattle.command.specs.declared.Refusal.TheVariants.{BufferTooSmall}
use Rattle.command.specs.Commands.{numbers_of}
use Rattle.command.specs.Outcomes.{Outcome, mapped}
use Rattle.command.specs.Buffers.{fitted, in_buffer, in_buffers}
use Rattle.command.specs.Enlarged.{enlarged}
use Rattle.command.proofs.Enlarged.{enlarged_codes, enlarged_numbers, enlarged_size}
use Rattle.copies.specs.Calls.{order_answer}
use Rattle.copies.specs.Enlarged.{moved_numbers}
use Rattle.enlargement.specs.Plates.{Plate}
use Rattle.enlargement.specs.Claim.{AnsweredAlike}
use Rattle.enlargement.specs.Buffers.{SameLines, SameList, Holds, FittedAlike, DrawnAlike, ListedAlike, FilledAlike}

-- ---- an answer g a that fits where a does, and is the same as a but for what the enlargement multiplies
module _ {A S : Type 0} (fits : S → A → Bool) (Same : Outcome A → Outcome A → Type 0) (g : A → A) (alike : (s : S) (a : A) → fits s (g a) ≡ fits s a)
    (same : (o : Outcome A) → Same o (mapped g o)) where
  -- the check of the buffers and enlarging do not see each other
  fitted_mapped : (s : S) (o : Outcome A) → fitted (fits s) (mapped g o) ≡ mapped g (fitted (fits s) o)
  unfolding fitted
  fitted_mapped s (Err r) = refl
  fitted_mapped s (Ok a) = ap (λ (t : Bool). cond t (Ok (g a)) (Err BufferTooSmall)) (alike s a) ∙ go (fits s a)
    where
      go : (t : Bool) → cond t (Ok (g a)) (Err BufferTooSmall) ≡ mapped g (cond t (Ok a) (Err BufferTooSmall))
      go true = refl
      go false = refl

  held : (s : S) (o : Outcome A) → Holds (fits s) o → fitted (fits s) o ≡ o
  unfolding fitted
  held s (Err r) h = refl
  held s (Ok a) h = go (fits s a) h
    where
      go : (t : Bool) → (cond {A = Outcome A} t (Ok a) (Err BufferTooSmall) ≡ Err BufferTooSmall → ⊥) → cond t (Ok a) (Err BufferTooSmall) ≡ Ok a
      go true h = refl
      go false h = absurd (h refl)

  fitted_alike : (o o' : Outcome A) → o' ≡ mapped g o → FittedAlike fits Same o o'
  fitted_alike o o' e = record {
    large_enough = λ s s' h h'. rw (held s o h, held s' o' h', e) (same o);
    one_size = λ s. rw (ap (fitted (fits s)) e ∙ fitted_mapped s o) (same (fitted (fits s) o));
  }

-- ---- two buffers
same_lines : (k : ℕ) (o : Outcome (List PathCommand)) → SameLines k o (mapped (map (enlarged k)) o)
same_lines k (Err r) = record {
  codes_same = record { number_same = refl; count_same = refl; list_is = refl };
  numbers_multiplied = record { number_same = refl; count_same = refl; list_is = refl };
}
same_lines k (Ok cs) = record {
  codes_same = record { number_same = refl; count_same = ap length (enlarged_codes k cs); list_is = enlarged_codes k cs };
  numbers_multiplied = record { number_same = refl; count_same = ap length (enlarged_numbers k cs) ∙ length-map (numbers_of cs) (scale k); list_is = enlarged_numbers k cs };
}

size_same : (k : ℕ) (s : ℕ × ℕ) (cs : List PathCommand) → in_buffers s.0 s.1 (map (enlarged k) cs) ≡ in_buffers s.0 s.1 cs
size_same k s cs = ap (λ (n : ℕ × ℕ). leb n.0 s.0 && leb n.1 s.1) (enlarged_size k cs)

drawn_alike : (k : ℕ) (o o' : Outcome (List PathCommand)) → o' ≡ mapped (map (enlarged k)) o → DrawnAlike k o o'
drawn_alike k o o' e = fitted_alike (λ (s : ℕ × ℕ). in_buffers s.0 s.1) (SameLines k) (map (enlarged k)) (size_same k) (same_lines k) o o' e

-- ---- one buffer
module _ {A : Type 0} (f : List A → List A) (none : [] ≡ f []) (long : (xs : List A) → length (f xs) ≡ length xs) where
  same_list : (o : Outcome (List A)) → SameList f o (mapped f o)
  same_list (Err r) = record { number_same = refl; count_same = refl; list_is = none }
  same_list (Ok xs) = record { number_same = refl; count_same = long xs; list_is = refl }

  listed_alike : (o o' : Outcome (List A)) → o' ≡ mapped f o → ListedAlike f o o'
  listed_alike o o' e = fitted_alike in_buffer (SameList f) f (λ s xs. ap (λ (n : ℕ). leb n s) (long xs)) same_list o o' e

moved_long : (k : ℕ) (xs : List Float) → length (moved_numbers k xs) ≡ length xs
moved_long k [] = refl
moved_long k (a ∷ []) = refl
moved_long k (a ∷ b ∷ []) = refl
moved_long k (a ∷ b ∷ c ∷ []) = refl
moved_long k (a ∷ b ∷ c ∷ d ∷ []) = refl
moved_long k (a ∷ b ∷ c ∷ d ∷ e ∷ []) = refl
moved_long k (a ∷ b ∷ c ∷ d ∷ e ∷ f ∷ rest) = refl

same_mapped : {A : Type 0} (o : Outcome A) → o ≡ mapped (λ (a : A). a) o
same_mapped (Err r) = refl
same_mapped (Ok a) = refl

-- ---- all of them
pub filled_alike : (k : ℕ) (p p' : Plate) → AnsweredAlike k p p' → FilledAlike k p p'
filled_alike k p p' A = record {
  path_drawn = drawn_alike k _ _ A.path_drawn;
  item_drawn = drawn_alike k _ _ A.item_drawn;
  merge_drawn = drawn_alike k _ _ A.merge_drawn;
  copy_order = listed_alike (λ (order : List ℕ). order) refl (λ xs. refl) _ _ (A.copy_order ∙ same_mapped (order_answer p.repeater));
  copy_transform = listed_alike (moved_numbers k) refl (moved_long k) _ _ A.copy_transform;
}
