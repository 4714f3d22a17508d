-- What it is that the calls fill the caller's buffers alike for a plate and the same plate enlarged: the claim with the last check, 11, in it.
-- Definitions only. Trays are large enough, in document 01's words, if neither plate gets 11; then the number, the codes and both counts are the same,
-- and the numbers are multiplied.
-- Where both plates are given buffers of one size, nothing is asked of it: 11 is the same too.
use Rattle.std.specs.Prelude.{ℕ, ◌≡◌, Bool, List, map, length, Err}
use Rattle.ieee.specs.Grid.{scale}
use Rattle.command.specs.declared.PathCommand.{PathCommand}
use Rattle.command.specs.declared.Refusal.TheVariants.{BufferTooSmall}
use Rattle.command.specs.Commands.{codes_of, numbers_of}
use Rattle.command.specs.Outcomes.{Outcome, number_of, mapped, list_of}
use Rattle.command.specs.Buffers.{fitted, in_buffer, in_buffers}
use Rattle.draw.specs.Paths.{draw_path}
use Rattle.draw.specs.Items.{draw_item}
use Rattle.join.specs.Merge.{draw_merge}
use Rattle.copies.specs.Calls.{order_answer, transform_answer}
use Rattle.copies.specs.Enlarged.{moved_numbers}
use Rattle.enlargement.specs.Plates.{Plate}

-- in one buffer: the number that is handed back and the count are the same, and what is written is f of what is written for the smaller plate
pub record SameList {A : Type 0} (f : List A → List A) (o o' : Outcome (List A)) : Type 0 where
  pub number_same : number_of o' ≡ number_of o
  pub count_same : length (list_of o') ≡ length (list_of o)
  pub list_is : list_of o' ≡ f (list_of o)

-- in two, of codes and of numbers: the codes are the same, and the numbers are multiplied
pub record SameLines (k : ℕ) (o o' : Outcome (List PathCommand)) : Type 0 where
  pub codes_same : SameList (λ (codes : List ℕ). codes) (mapped codes_of o) (mapped codes_of o')
  pub numbers_multiplied : SameList (map (scale k)) (mapped numbers_of o) (mapped numbers_of o')

-- buffers that an answer has to fit are not too small
abbrev pub Holds : {A : Type 0} → (A → Bool) → Outcome A → Type 0
Holds fits o = fitted fits o ≡ Err BufferTooSmall → ⊥

-- two outcomes that are to fit buffers of sizes S are alike
pub record FittedAlike {A S : Type 0} (fits : S → A → Bool) (Same : Outcome A → Outcome A → Type 0) (o o' : Outcome A) : Type 0 where
  pub large_enough : (s s' : S) → Holds (fits s) o → Holds (fits s') o' → Same (fitted (fits s) o) (fitted (fits s') o')
  pub one_size : (s : S) → Same (fitted (fits s) o) (fitted (fits s) o')

-- what is drawn, into two buffers
abbrev pub DrawnAlike : ℕ → Outcome (List PathCommand) → Outcome (List PathCommand) → Type 0
DrawnAlike k o o' = FittedAlike (λ (s : ℕ × ℕ). in_buffers s.0 s.1) (SameLines k) o o'

-- a list, into one
abbrev pub ListedAlike : {A : Type 0} → (List A → List A) → Outcome (List A) → Outcome (List A) → Type 0
ListedAlike f o o' = FittedAlike in_buffer (SameList f) o o'

-- ---- the calls that fill buffers of the caller's size
pub record FilledAlike (k : ℕ) (p p' : Plate) : Type 0 where
  pub path_drawn : DrawnAlike k (draw_path p.lent.closed p.vertices p.lent.count) (draw_path p'.lent.closed p'.vertices p'.lent.count)
  pub item_drawn : DrawnAlike k (draw_item p.lent.row p.items) (draw_item p'.lent.row p'.items)
  pub merge_drawn : DrawnAlike k (draw_merge p.lent.rows p.lent.row_count p.items) (draw_merge p'.lent.rows p'.lent.row_count p'.items)
  pub copy_order : ListedAlike (λ (order : List ℕ). order) (order_answer p.repeater) (order_answer p'.repeater)
  pub copy_transform : ListedAlike (moved_numbers k) (transform_answer p.repeater p.lent.copy) (transform_answer p'.repeater p'.lent.copy)
