-- Every call answers a plate on the grid and the same plate enlarged alike. Each law that is cited stands in the crate of the call. Assumes nothing.
use mathlib.Core.Path.{◌≡◌, refl, sym, ap, ap₂, subst, ◌∙◌}
use mathlib.Core.Bool.{Bool, true, false}
use mathlib.Core.List.{List, map}
use Prim.Native.Nat.{ℕ, ◌+◌, ◌≤◌}
use native.Mathlib.Omega.{arith}
use lib.Dec.{T, lit≤}
use lib.Ieee.{Float, binary32}
use lib.Ieee.Scale.{finite}
use Rattle.ieee.specs.Grid.{scale}
use Rattle.ieee.proofs.Grid.{mul_pow_finite}
use Rattle.command.specs.declared.PathCommand.{PathCommand}
use Rattle.command.specs.Commands.{codes_of, numbers_of}
use Rattle.command.specs.Outcomes.{Outcome, mapped}
use Rattle.command.specs.Enlarged.{Twins, enlarged, enlarged_drawing}
use Rattle.command.proofs.Enlarged.{enlarged_codes, enlarged_numbers, enlarged_need}
use Rattle.item.specs.Rows.{item_row}
use Rattle.draw.specs.Paths.{draw_path}
use Rattle.draw.specs.Items.{draw_item}
use Rattle.merge.specs.Decision.{decision}
use Rattle.join.specs.Merge.{draw_merge}
use Rattle.judge.specs.Lists.{find_command, command_fault, command_part}
use Rattle.judge.proofs.Enlarged.{found_twins, fault_twins, part_twins}
use Rattle.length.specs.Lists.{measure_list}
use Rattle.length.proofs.Enlarged.{measured_twins}
use Rattle.reach.specs.Reach.{is_length, length_reaches}
use Rattle.reach.proofs.Enlarged.{asked_scale, infinite_unasked, unasked_twins, reach_twins}
use Rattle.trim.specs.declared.Ranges.{Ranges}
use Rattle.cut.specs.Answers.{ranges_answer, lengths_answer}
use Rattle.cut.specs.Enlarged.{CutsAlike}
use Rattle.cut.proofs.Enlarged.{cuts_alike}
use Rattle.repeater.specs.declared.RepeaterStyle.{RepeaterStyle}
use Rattle.repeater.proofs.Enlarged.{RepeaterTwin}
use Rattle.copies.proofs.Enlarged.{order_same, copy_twins}
use Rattle.enlargement.specs.Plates.{Lent, Plate, OfVertices, OfRow, OfMerge, PlateOnGrid, LengthAsked}
use Rattle.enlargement.specs.Plates.{times, enlarged_repeater, Enlarged}
use Rattle.enlargement.specs.Claim.{AnsweredAlike, multiplied_numbers}
use Rattle.enlargement.proofs.Numbers.{multiplied_twins, path_alike, row_alike, merge_alike, products, made_small, repeater_twin, all_small}

-- ---- the claim

module _ (k : ℕ) (K : k ≤ 6) (p p' : Plate) (G : PlateOnGrid p) (E : Enlarged k p p') where
  -- the command list as commands, and multiplied
  abbrev cs : List PathCommand
  cs = G.commands

  abbrev cs' : List PathCommand
  cs' = map (enlarged k) cs

  lists : Twins k 35 16 cs cs'
  lists = record { commands = refl; grid = (made_small cs G.made).grid }

  codes_first : p.lent.codes ≡ codes_of cs
  codes_first = G.codes_are

  codes_enlarged : p'.lent.codes ≡ codes_of cs'
  codes_enlarged = ap (λ (l : Lent). l.codes) E.lent ∙ G.codes_are ∙ sym (enlarged_codes k cs)

  numbers_enlarged : p'.numbers ≡ numbers_of cs'
  numbers_enlarged = E.numbers ∙ ap (map (times k)) G.numbers_are ∙ products k 35 16 (numbers_of cs) (lit≤ tt) (omega arith) (made_small cs G.made) ∙ sym (enlarged_numbers k cs)

  -- the length that is asked for: multiplied, or in both plates none
  least_enlarged : LengthAsked p p' → finite p'.least ≡ true → p'.least ≡ scale k p.least
  least_enlarged A e =
      E.least
      ∙ mul_pow_finite binary32 k p.least (subst T (sym A.single) tt) (λ t. subst (λ (x : Float). T (finite x)) E.least (subst T (sym e) tt))

  unasked_enlarged : LengthAsked p p' → is_length p.least ≡ false → is_length p'.least ≡ false
  unasked_enlarged A e = go (finite p'.least) refl
    where
      go : (b : Bool) → finite p'.least ≡ b → is_length p'.least ≡ false
      go true f = ap is_length (least_enlarged A f) ∙ asked_scale k p.least ∙ e
      go false f = infinite_unasked p'.least f

  length_reached : LengthAsked p p' → length_reaches (codes_of cs') (numbers_of cs') p'.least ≡ length_reaches (codes_of cs) (numbers_of cs) p.least
  length_reached A = go (is_length p.least) refl
    where
      go : (b : Bool) → is_length p.least ≡ b → length_reaches (codes_of cs') (numbers_of cs') p'.least ≡ length_reaches (codes_of cs) (numbers_of cs) p.least
      go true e =
          ap (length_reaches (codes_of cs') (numbers_of cs')) (least_enlarged A (A.multiple e))
          ∙ reach_twins lists (lit≤ tt) (omega arith) (omega arith) p.least
      go false e = unasked_twins lists p.least p'.least e (unasked_enlarged A e)

  -- the repeater
  repeaters : RepeaterTwin k p.repeater p'.repeater
  repeaters = rw E.repeater (repeater_twin k K p G)

  rotation_same : p'.repeater.rotation ≡ p.repeater.rotation
  unfolding enlarged_repeater
  rotation_same = ap (λ (r : RepeaterStyle). r.rotation) E.repeater

  mode_same : p'.repeater.mode ≡ p.repeater.mode
  unfolding enlarged_repeater
  mode_same = ap (λ (r : RepeaterStyle). r.mode) E.repeater

  -- what is drawn
  path_drawn : draw_path p'.lent.closed p'.vertices p'.lent.count ≡ enlarged_drawing k (draw_path p.lent.closed p.vertices p.lent.count)
  path_drawn =
      rw E.lent
      (path_alike k K p.lent.closed p.lent.count p.vertices p'.vertices
      (multiplied_twins k K (OfVertices p.lent.count) p.vertices p'.vertices G.vertices E.vertices)).outcome

  item_drawn : draw_item p'.lent.row p'.items ≡ enlarged_drawing k (draw_item p.lent.row p.items)
  item_drawn =
      rw E.lent
      (row_alike k K p.lent.row p.items p'.items
      (multiplied_twins k K (OfRow (item_row p.lent.row 0)) p.items p'.items G.row E.row)).outcome

  merge_drawn : draw_merge p'.lent.rows p'.lent.row_count p'.items ≡ enlarged_drawing k (draw_merge p.lent.rows p.lent.row_count p.items)
  merge_drawn =
      rw E.lent
      (merge_alike k K p.lent.rows p.lent.row_count p.items p'.items
      (multiplied_twins k K (OfMerge p.lent.rows p.lent.row_count) p.items p'.items G.rows E.rows)).outcome

  pub answered : AnsweredAlike k p p'
  answered = record {
    path_drawn = path_drawn;
    item_drawn = item_drawn;
    path_need =
        enlarged_need k (draw_path p.lent.closed p.vertices p.lent.count) (draw_path p'.lent.closed p'.vertices p'.lent.count) path_drawn;
    item_need = enlarged_need k (draw_item p.lent.row p.items) (draw_item p'.lent.row p'.items) item_drawn;
    merge_decision = ap (λ (l : Lent). decision l.rows l.row_count) E.lent;
    merge_drawn = merge_drawn;
    merge_need =
        enlarged_need k (draw_merge p.lent.rows p.lent.row_count p.items) (draw_merge p'.lent.rows p'.lent.row_count p'.items) merge_drawn;
    length_measured =
        ap₂ measure_list codes_enlarged numbers_enlarged ∙ measured_twins k 35 16 cs cs' (lit≤ tt) (omega arith) small lists ∙ ap (mapped (scale k)) (sym (ap₂ measure_list codes_first G.numbers_are));
    length_reached = λ A.
        (λ i. length_reaches (codes_enlarged i) (numbers_enlarged i) p'.least) ∙ length_reached A
        ∙ sym (λ i. length_reaches (codes_first i) (G.numbers_are i) p.least);
    command_found =
        (λ i. find_command (codes_enlarged i) (numbers_enlarged i) (E.lent i).command) ∙ found_twins lists small p.lent.command
        ∙ sym (λ i. find_command (codes_first i) (G.numbers_are i) p.lent.command);
    command_fault =
        (λ i. command_fault (codes_enlarged i) (numbers_enlarged i) (E.lent i).command) ∙ fault_twins lists small p.lent.command
        ∙ sym (λ i. command_fault (codes_first i) (G.numbers_are i) p.lent.command);
    command_numbers =
        (λ i. command_part (codes_enlarged i) (numbers_enlarged i) (E.lent i).command) ∙ part_twins lists small p.lent.command
        ∙ sym (λ i. map (scale k) (command_part (codes_first i) (G.numbers_are i) p.lent.command));
    ranges = ap (λ (l : Lent). ranges_answer l.trim) E.lent;
    cut_lengths =
        subst (λ (a : Outcome (Ranges × List Float)). CutsAlike k a (lengths_answer p'.lent.trim p'.lent.codes p'.numbers))
        (sym (λ i. lengths_answer p.lent.trim (codes_first i) (G.numbers_are i)))
        (subst (λ (a : Outcome (Ranges × List Float)). CutsAlike k (lengths_answer p.lent.trim (codes_of cs) (numbers_of cs)) a)
        (sym (λ i. lengths_answer (E.lent i).trim (codes_enlarged i) (numbers_enlarged i)))
        (cuts_alike p.lent.trim k 35 16 cs cs' (lit≤ tt) (omega arith) small lists));
    copy_order = order_same K p.repeater p'.repeater repeaters rotation_same mode_same;
    copy_transform = rw E.lent (copy_twins K p.repeater p'.repeater repeaters rotation_same p.lent.copy);
    products = products k 128 72 (multiplied_numbers p) (lit≤ tt) (omega arith) (all_small p G);
  }
    where
      small : 16 + k ≤ 22
      small = omega arith
