-- The third demand of the mission, whole: every call answers a plate on the grid and the same plate enlarged by 2, 4, 8, 16, 32 or 64 alike.
-- What later requests brought that a drawing passes through is claimed too: ellipses, needs, and whether a length is reached.
-- `AnsweredAlike` has a field for each call:
--
--   drawing                     the same refusal, or the same codes and every coordinate multiplied
--   needs                       the same refusal, or the same codes and numbers: of a list, of a row, of a merge
--   merge decision              the same: a refusal, or which rows are joined
--   merge                       as drawing
--   length                      the same refusal, or the length multiplied
--   long enough                 the same refusal, or the same reply after as many commands; the length asked for is multiplied too.
--                               Only of a length so large that its multiple is infinite nothing is said.
--   one command's numbers       the same refusal, place and count; the numbers multiplied
--   ranges                      the same
--   cut lengths                 the same refusal, or the same ranges and every cut length multiplied.
--                               Where the smaller path is too short, the larger is too short or accepted.
--   copy order                  the same, of a repeater without rotation, as for the copy transform
--   copy transform              the same refusal, or the same a, b, c, d and opacity, and the shift e, f multiplied
--
-- 'Multiplied' is `scale k`: the float whose value is exactly 2 ^ k times as large, a zero keeping its sign (crates/ieee/specs/Grid.antt); `products`
-- says that it is the f32 product. What is asked of the plates is `PlateOnGrid` and `Enlarged` (specs/Plates.antt). The answers stand here without the
-- last check, 11, which asks the size of the caller's buffers; `FilledAlike` (specs/Buffers.antt) says the same of what the calls put into them. Each
-- exported function promises (crates/jengafir) that what it hands back is what these definitions say, so the claim is one about the definitions of the
-- second demand. The proof is proofs/Claim.antt and proofs/Alike.antt, and proofs/Example.antt is a plate that meets the conditions. Definitions only.
use Rattle.std.specs.Prelude.{ℕ, ◌≤◌, ◌≡◌, List, [], ◌∷◌, ◌++◌, map, Float, take, drop}
use Rattle.ieee.specs.Grid.{scale}
use Rattle.command.specs.Commands.{numbers_of}
use Rattle.command.specs.Outcomes.{Outcome, mapped, list_of}
use Rattle.command.specs.Buffers.{need_of}
use Rattle.command.specs.Enlarged.{enlarged_drawing}
use Rattle.draw.specs.Paths.{draw_path}
use Rattle.draw.specs.Items.{draw_item}
use Rattle.merge.specs.Decision.{decision}
use Rattle.join.specs.Merge.{draw_merge}
use Rattle.judge.specs.Lists.{find_command, command_fault, command_part}
use Rattle.length.specs.Lists.{measure_list}
use Rattle.reach.specs.Reach.{length_reaches}
use Rattle.cut.specs.Answers.{ranges_answer, lengths_answer, told_numbers}
use Rattle.cut.specs.Enlarged.{CutsAlike}
use Rattle.copies.specs.Calls.{order_answer, transform_answer}
use Rattle.copies.specs.Enlarged.{moved_answer}
use Rattle.enlargement.specs.Plates.{Plate, PlateOnGrid, LengthAsked, times, Enlarged}
use Rattle.enlargement.specs.Buffers.{FilledAlike}

-- ---- the numbers that enlarging multiplies: all coordinates, the length, the numbers of the command, the cut lengths, and the copy's e and f
abbrev pub length_numbers : Outcome Float → List Float
length_numbers o = list_of (mapped (λ (x : Float). x ∷ []) o)

abbrev pub shift_numbers : Outcome (List Float) → List Float
shift_numbers o = take 2 (drop 4 (list_of o))

abbrev pub multiplied_numbers : Plate → List Float
multiplied_numbers p =
    numbers_of (list_of (draw_path p.lent.closed p.vertices p.lent.count))
    ++ (numbers_of (list_of (draw_item p.lent.row p.items))
    ++ (numbers_of (list_of (draw_merge p.lent.rows p.lent.row_count p.items))
    ++ (length_numbers (measure_list p.lent.codes p.numbers)
    ++ (command_part p.lent.codes p.numbers p.lent.command
    ++ (list_of (mapped told_numbers (lengths_answer p.lent.trim p.lent.codes p.numbers))
    ++ shift_numbers (transform_answer p.repeater p.lent.copy))))))

-- ---- every call's answers about p and p', and that 'multiplied' is the f32 product
pub record AnsweredAlike (k : ℕ) (p p' : Plate) : Type 0 where
  pub path_drawn : draw_path p'.lent.closed p'.vertices p'.lent.count ≡ enlarged_drawing k (draw_path p.lent.closed p.vertices p.lent.count)
  pub item_drawn : draw_item p'.lent.row p'.items ≡ enlarged_drawing k (draw_item p.lent.row p.items)
  pub path_need : need_of (draw_path p'.lent.closed p'.vertices p'.lent.count) ≡ need_of (draw_path p.lent.closed p.vertices p.lent.count)
  pub item_need : need_of (draw_item p'.lent.row p'.items) ≡ need_of (draw_item p.lent.row p.items)
  pub merge_decision : decision p'.lent.rows p'.lent.row_count ≡ decision p.lent.rows p.lent.row_count
  pub merge_drawn : draw_merge p'.lent.rows p'.lent.row_count p'.items ≡ enlarged_drawing k (draw_merge p.lent.rows p.lent.row_count p.items)
  pub merge_need : need_of (draw_merge p'.lent.rows p'.lent.row_count p'.items) ≡ need_of (draw_merge p.lent.rows p.lent.row_count p.items)
  pub length_measured : measure_list p'.lent.codes p'.numbers ≡ mapped (scale k) (measure_list p.lent.codes p.numbers)
  pub length_reached : LengthAsked p p'
      → length_reaches p'.lent.codes p'.numbers p'.least ≡ length_reaches p.lent.codes p.numbers p.least
  pub command_found : find_command p'.lent.codes p'.numbers p'.lent.command ≡ find_command p.lent.codes p.numbers p.lent.command
  pub command_fault : command_fault p'.lent.codes p'.numbers p'.lent.command ≡ command_fault p.lent.codes p.numbers p.lent.command
  pub command_numbers : command_part p'.lent.codes p'.numbers p'.lent.command ≡ map (scale k) (command_part p.lent.codes p.numbers p.lent.command)
  pub ranges : ranges_answer p'.lent.trim ≡ ranges_answer p.lent.trim
  pub cut_lengths : CutsAlike k (lengths_answer p.lent.trim p.lent.codes p.numbers) (lengths_answer p'.lent.trim p'.lent.codes p'.numbers)
  pub copy_order : order_answer p'.repeater ≡ order_answer p.repeater
  pub copy_transform : transform_answer p'.repeater p'.lent.copy ≡ moved_answer k (transform_answer p.repeater p.lent.copy)
  pub products : map (times k) (multiplied_numbers p) ≡ map (scale k) (multiplied_numbers p)

-- the claim: for each exponent up to 6, that is for the factors 2, 4, 8, 16, 32 and 64, and for 1
abbrev pub EnlargedAlike : Type 0
EnlargedAlike = (k : ℕ) → k ≤ 6 → (p p' : Plate) → PlateOnGrid p → Enlarged k p p' → AnsweredAlike k p p' × FilledAlike k p p'
