-- What is drawn of numbers on the grid is an f32 on a finer grid and is multiplied with them, and so is what is measured and cut of it, and a copy's shift. Assumes nothing.
use Rattle.std.specs.Prelude.{Ok, Err}
use Prim.Native.Nat.{ℕ, zero, suc, ◌+◌, ◌≤◌, ◌<◌}
use native.Mathlib.Omega.{arith}
use borrow.Author.Tests.{ltb-true, not-false}
use mathlib.Core.Path.{◌≡◌, refl, sym, ap₂, subst, ◌∙◌}
use mathlib.Core.Bool.{not}
use mathlib.Core.List.{List, [], ◌∷◌, map, ◌++◌}
use lib.Dec.{T, lit≤, ltb}
use lib.Ieee.{Float, nan, binary32}
use lib.ListN.{length, get_or, length-map, get_or-map, take, drop}
use Rattle.ieee.specs.Grid.{scale, On, Twin}
use Rattle.ieee.specs.Single.{Single, AllSingle}
use Rattle.ieee.proofs.Grid.{mul_pow}
use Rattle.ieee.proofs.Each.{each_append}
use Rattle.command.specs.declared.PathCommand.{PathCommand}
use Rattle.command.specs.declared.Refusal.{Refusal}
use Rattle.command.specs.declared.Refusal.TheVariants.{NoSuchCopy, NotFinite}
use Rattle.command.specs.Commands.{codes_of, numbers_of}
use Rattle.command.specs.Outcomes.{Outcome, mapped, list_of, ◌gives◌, checked, AllPass}
use Rattle.command.specs.Enlarged.{AllOn, Twins, DrawingTwin, enlarged}
use Rattle.command.proofs.Outcomes.{checks_hold}
use Rattle.command.proofs.Enlarged.{all_weaken}
use Rattle.item.specs.Rows.{item_row}
use Rattle.draw.specs.Paths.{draw_path}
use Rattle.draw.specs.Items.{draw_item}
use Rattle.draw.proofs.Single.{path_drawn_single, item_drawn_single}
use Rattle.draw.proofs.Enlarged.{path_outcome, item_outcome}
use Rattle.join.specs.Merge.{draw_merge}
use Rattle.join.proofs.Single.{merge_drawn_single}
use Rattle.join.proofs.Enlarged.{merge_outcome}
use Rattle.reader.specs.Read.{size_of_code}
use Rattle.judge.specs.Lists.{command_part, place_of, judge_list, judge_command}
use Rattle.judge.proofs.Enlarged.{length_check, judged_first}
use Rattle.measure.specs.Length.{path_length}
use Rattle.measure.proofs.Single.{length_single}
use Rattle.measure.proofs.Enlarged.{length_twins}
use Rattle.length.specs.Lists.{measure_list}
use Rattle.trim.specs.declared.TrimStyle.{TrimStyle}
use Rattle.cut.specs.Answers.{lengths_answer, told_numbers}
use Rattle.cut.proofs.Single.{cuts_single}
use Rattle.cut.proofs.Enlarged.{trim_ends, cut_twins, cuts_numbers}
use Rattle.repeater.specs.declared.RepeaterStyle.{RepeaterStyle}
use Rattle.repeater.specs.Repeater.{copy_count, copy_transform, copy_opacity}
use Rattle.repeater.proofs.Single.{copy_single}
use Rattle.repeater.proofs.Enlarged.{RepeaterTwin}
use Rattle.repeater.proofs.Moved.{copy_moved}
use Rattle.copies.specs.Calls.{repeater_checks, copy_numbers, all_finite, copy_answer, transform_answer}
use Rattle.copies.proofs.Ways.{offset_within, count_few}
use Rattle.enlargement.specs.Plates.{Plate, OfVertices, OfRow, OfMerge, OnGrid, GridAt, Made, of_nothing, of_vertices, of_row, of_merge}
use Rattle.enlargement.specs.Plates.{PlateOnGrid, times, enlarged_repeater, MultipliedAt}
use Rattle.enlargement.specs.Claim.{length_numbers, shift_numbers, multiplied_numbers}

-- ---- numbers

grid_single : {x : Float} → OnGrid x → Single x
grid_single X = subst T (sym X.single) tt

-- the product of IEEE 754 is the exact multiple
product : (k q b : ℕ) (x : Float) → q ≤ 149 → b + k ≤ 127 → Single x → On q b x → times k x ≡ scale k x
product k q b x Q B f X = mul_pow binary32 k q b x Q B f X

pub grid_twin : (k : ℕ) → k ≤ 6 → (x x' : Float) → OnGrid x → x' ≡ times k x → Twin k 10 13 x x'
grid_twin k K x x' X e = record { grid = X.grid; is = e ∙ product k 10 13 x (lit≤ tt) (omega arith) (grid_single X) X.grid }

-- two lists of one length, twins at these places
pub record TwinsAt (k : ℕ) (read : ℕ → Type 0) (v v' : List Float) : Type 0 where
  pub long : length v' ≡ length v
  pub twins : (i : ℕ) → read i → i < length v → Twin k 10 13 (get_or v i nan) (get_or v' i nan)

pub multiplied_twins : (k : ℕ) → k ≤ 6 → (read : ℕ → Type 0) (v v' : List Float) → GridAt read v → MultipliedAt k read v v' → TwinsAt k read v v'
multiplied_twins k K read v v' grid m = record { long = m.same_length; twins = λ i r h. grid_twin k K (get_or v i nan) (get_or v' i nan) (grid i r h) (m.multiplied i r h) }

pub scaled_twins : (k : ℕ) (read : ℕ → Type 0) (v : List Float) → GridAt read v → TwinsAt k read v (map (scale k) v)
scaled_twins k read v grid = record { long = length-map v (scale k); twins = λ i r h. record { grid = (grid i r h).grid; is = get_or-map (scale k) v i nan } }

-- ---- drawings

module _ (k : ℕ) (K : k ≤ 6) where
  pub path_alike : (closed count : ℕ) (v v' : List Float) → TwinsAt k (OfVertices count) v v' → DrawingTwin k 35 16 (draw_path closed v count) (draw_path closed v' count)
  path_alike closed count v v' t = path_outcome k K closed count v v' t.long t.twins

  pub row_alike : (row : List ℕ) (items items' : List Float) → TwinsAt k (OfRow (item_row row 0)) items items' → DrawingTwin k 35 16 (draw_item row items) (draw_item row items')
  row_alike row items items' t = item_outcome k K row items items' t.long (λ i h g. t.twins i (record { from = h; to = g }))

  pub merge_alike : (rows : List ℕ) (n : ℕ) (items items' : List Float) → TwinsAt k (OfMerge rows n) items items' → DrawingTwin k 35 16 (draw_merge rows n items) (draw_merge rows n items')
  merge_alike rows n items items' t =
      merge_outcome k K rows n items items' t.long (λ row j i h g. t.twins i (record { row = row; is_joined = j; is_its = record { from = h; to = g } }))

-- ---- f32 on a grid
pub record Small (q b : ℕ) (xs : List Float) : Type 0 where
  pub single : AllSingle xs
  pub grid : AllOn q b xs

pub none_small : (q b : ℕ) → Small q b []
none_small q b = record { single = tt; grid = tt }

pub small_weaken : (q b q' b' : ℕ) (xs : List Float) → q ≤ q' → b ≤ b' → Small q b xs → Small q' b' xs
small_weaken q b q' b' xs Q B X = record { single = X.single; grid = all_weaken q b q' b' xs Q B X.grid }

pub small_append : {q b : ℕ} {xs ys : List Float} → Small q b xs → Small q b ys → Small q b (xs ++ ys)
small_append {q} {b} {xs} {ys} X Y = record { single = each_append Single xs ys X.single Y.single; grid = each_append (On q b) xs ys X.grid Y.grid }

small_drop : {q b : ℕ} (n : ℕ) (xs : List Float) → Small q b xs → Small q b (drop n xs)
small_drop zero xs X = X
small_drop (suc n) [] X = none_small _ _
small_drop (suc n) (x ∷ xs) X = small_drop n xs (record { single = X.single.1; grid = X.grid.1 })

small_take : {q b : ℕ} (n : ℕ) (xs : List Float) → Small q b xs → Small q b (take n xs)
small_take zero xs X = none_small _ _
small_take (suc n) [] X = none_small _ _
small_take (suc n) (x ∷ xs) X =
    let more = small_take n xs (record { single = X.single.1; grid = X.grid.1 }) in
    record { single = (X.single.0, more.single); grid = (X.grid.0, more.grid) }

-- their products are the exact multiples
pub products : (k q b : ℕ) (xs : List Float) → q ≤ 149 → b + k ≤ 127 → Small q b xs → map (times k) xs ≡ map (scale k) xs
products k q b [] Q B X = refl
products k q b (x ∷ xs) Q B X =
    ap₂ ◌∷◌ (product k q b x Q B X.single.0 X.grid.0) (products k q b xs Q B (record { single = X.single.1; grid = X.grid.1 }))

-- ---- what is drawn
pub path_small : (closed count : ℕ) (v : List Float) → GridAt (OfVertices count) v → Small 35 16 (numbers_of (list_of (draw_path closed v count)))
path_small closed count v G = record {
  single = path_drawn_single closed count v (λ i h l. grid_single (G i h l));
  grid = (path_alike 1 (lit≤ tt) closed count v (map (scale 1) v) (scaled_twins 1 (OfVertices count) v G)).grid;
}

pub row_small : (row : List ℕ) (items : List Float) → GridAt (OfRow (item_row row 0)) items → Small 35 16 (numbers_of (list_of (draw_item row items)))
row_small row items G = record {
  single = item_drawn_single row items (λ i h g l. grid_single (G i (record { from = h; to = g }) l));
  grid = (row_alike 1 (lit≤ tt) row items (map (scale 1) items) (scaled_twins 1 (OfRow (item_row row 0)) items G)).grid;
}

pub merge_small : (rows : List ℕ) (n : ℕ) (items : List Float) → GridAt (OfMerge rows n) items → Small 35 16 (numbers_of (list_of (draw_merge rows n items)))
merge_small rows n items G = record {
  single = merge_drawn_single rows n items (λ row j i h g l. grid_single (G i (record { row = row; is_joined = j; is_its = record { from = h; to = g } }) l));
  grid = (merge_alike 1 (lit≤ tt) rows n items (map (scale 1) items) (scaled_twins 1 (OfMerge rows n) items G)).grid;
}

accepted_small : (o : Outcome (List PathCommand)) (cs : List PathCommand) → Small 35 16 (numbers_of (list_of o)) → o ≡ Ok cs → Small 35 16 (numbers_of cs)
accepted_small o cs X e = subst (λ (p : Outcome (List PathCommand)). Small 35 16 (numbers_of (list_of p))) e X

pub made_small : (cs : List PathCommand) → Made cs → Small 35 16 (numbers_of cs)
made_small cs of_nothing = none_small 35 16
made_small cs (of_vertices closed count v ds G e) = accepted_small (draw_path closed v count) ds (path_small closed count v G) e
made_small cs (of_row row items ds G e) = accepted_small (draw_item row items) ds (row_small row items G) e
made_small cs (of_merge rows n items ds G e) = accepted_small (draw_merge rows n items) ds (merge_small rows n items G) e

-- ---- what is asked of a command list
module _ (cs : List PathCommand) (M : Small 35 16 (numbers_of cs)) where
  same : Twins 1 35 16 cs (map (enlarged 1) cs)
  same = record { commands = refl; grid = M.grid }

  judged_is : judge_list (codes_of cs) (numbers_of cs) ≡ checked (length_check (length cs)) (Ok cs)
  judged_is = judged_first same (lit≤ tt)

  length_on : On 91 71 (path_length cs)
  length_on = (length_twins 1 35 16 cs (map (enlarged 1) cs) (lit≤ tt) (lit≤ tt) same).grid

  pub length_small : Small 91 71 (length_numbers (measure_list (codes_of cs) (numbers_of cs)))
  unfolding measure_list
  length_small =
      rw judged_is
      (checks_hold (λ (o : Outcome (List PathCommand)). Small 91 71 (length_numbers (mapped path_length o))) (λ r. none_small 91 71) (length_check (length cs)) (Ok cs)
      (λ pass. record { single = (length_single cs, tt); grid = (length_on, tt) }))

  pub part_small : (j : ℕ) → Small 35 16 (command_part (codes_of cs) (numbers_of cs) j)
  unfolding command_part
  part_small j = go (judge_command (codes_of cs) (numbers_of cs) j)
    where
      part : List Float
      part = take (size_of_code (get_or (codes_of cs) j 3)) (drop (place_of j (codes_of cs)) (numbers_of cs))

      go : (o : Outcome (List PathCommand)) → Small 35 16 (list_of (mapped (λ (ps : List PathCommand). part) o))
      go (Err r) = none_small 35 16
      go (Ok ds) = small_take (size_of_code (get_or (codes_of cs) j 3)) (drop (place_of j (codes_of cs)) (numbers_of cs)) (small_drop (place_of j (codes_of cs)) (numbers_of cs) M)

  pub cuts_small : (trim : TrimStyle) → Small 128 72 (list_of (mapped told_numbers (lengths_answer trim (codes_of cs) (numbers_of cs))))
  cuts_small trim =
      cuts_numbers trim (Small 128 72) (none_small 128 72) cs (judged_first same (lit≤ tt)) (λ on. record {
        single = cuts_single (path_length cs) (trim_ends trim);
        grid =
            (cut_twins 1 91 71 (path_length cs) (path_length (map (enlarged 1) cs)) (lit≤ tt) (lit≤ tt)
            (length_twins 1 35 16 cs (map (enlarged 1) cs) (lit≤ tt) (lit≤ tt) same) (trim_ends trim) on).grid;
      })

-- ---- a repeater
pub repeater_twin : (k : ℕ) → k ≤ 6 → (p : Plate) → PlateOnGrid p → RepeaterTwin k p.repeater (enlarged_repeater k p.repeater)
unfolding enlarged_repeater
repeater_twin k K p G = record {
  copies_same = refl;
  offset_same = refl;
  start_same = refl;
  end_same = refl;
  wide_scale = G.scale_x;
  high_scale = G.scale_y;
  wide_scale' = G.scale_x;
  high_scale' = G.scale_y;
  still = G.no_rotation;
  still' = G.no_rotation;
  x_twin = grid_twin k K _ _ G.position_x refl;
  y_twin = grid_twin k K _ _ G.position_y refl;
  ax_twin = grid_twin k K _ _ G.anchor_x refl;
  ay_twin = grid_twin k K _ _ G.anchor_y refl;
}

pub shift_small : (p : Plate) → PlateOnGrid p → (copy : ℕ) → Small 56 43 (shift_numbers (transform_answer p.repeater copy))
unfolding transform_answer copy_answer copy_numbers
shift_small p G copy =
    checks_hold SmallShift none (repeater_checks r) (copy_answer r copy)
    (λ pass.
    checks_hold SmallShift none ((not (ltb copy (copy_count r)) gives NoSuchCopy) ∷ (not (all_finite numbers) gives NotFinite) ∷ []) (Ok numbers)
    (λ found. shift pass (ltb-true copy (copy_count r) (not-false (ltb copy (copy_count r)) found.0))))
  where
    r : RepeaterStyle
    r = p.repeater

    numbers : List Float
    numbers = copy_numbers (copy_transform r copy) (copy_opacity r copy)

    SmallShift : Outcome (List Float) → Type 0
    SmallShift o = Small 56 43 (shift_numbers o)

    none : (refusal : Refusal) → SmallShift (Err refusal)
    none refusal = none_small 56 43

    shift : AllPass (repeater_checks r) → copy < copy_count r → Small 56 43 ((copy_transform r copy).e ∷ (copy_transform r copy).f ∷ [])
    shift pass h =
        let few = count_few r pass in
        let near : copy ≤ 4096 = omega arith in
        let M = copy_moved 1 (lit≤ tt) r (enlarged_repeater 1 r) (repeater_twin 1 (lit≤ tt) p G) (offset_within r pass) copy near in
        let S = copy_single r copy in
        record { single = (S.0, (S.1, tt)); grid = (M.e_twin.grid, (M.f_twin.grid, tt)) }

-- ---- all of them
pub all_small : (p : Plate) → PlateOnGrid p → Small 128 72 (multiplied_numbers p)
all_small p G =
    small_append (fine (path_small p.lent.closed p.lent.count p.vertices G.vertices))
    (small_append (fine (row_small p.lent.row p.items G.row))
    (small_append (fine (merge_small p.lent.rows p.lent.row_count p.items G.rows))
    (small_append (small_weaken 91 71 128 72 _ (lit≤ tt) (lit≤ tt) (at (λ codes numbers. Small 91 71 (length_numbers (measure_list codes numbers))) (length_small cs M)))
    (small_append (fine (at (λ codes numbers. Small 35 16 (command_part codes numbers p.lent.command)) (part_small cs M p.lent.command)))
    (small_append (at (λ codes numbers. Small 128 72 (list_of (mapped told_numbers (lengths_answer p.lent.trim codes numbers)))) (cuts_small cs M p.lent.trim))
    (small_weaken 56 43 128 72 _ (lit≤ tt) (lit≤ tt) (shift_small p G p.lent.copy)))))))
  where
    cs : List PathCommand
    cs = G.commands

    M : Small 35 16 (numbers_of G.commands)
    M = made_small G.commands G.made

    fine : {xs : List Float} → Small 35 16 xs → Small 128 72 xs
    fine {xs} X = small_weaken 35 16 128 72 xs (lit≤ tt) (lit≤ tt) X

    at : (P : List ℕ → List Float → Type 0) → P (codes_of G.commands) (numbers_of G.commands) → P p.lent.codes p.numbers
    at P x = subst (λ (codes : List ℕ). P codes p.numbers) (sym G.codes_are) (subst (λ (numbers : List Float). P (codes_of G.commands) numbers) (sym G.numbers_are) x)
