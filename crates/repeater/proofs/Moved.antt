-- The matrix of each copy of a repeater and of its multiple: translations, of which the second's shift is the multiple of the first's, however many steps
-- they take. Assumes nothing.
use mathlib.Core.Path.{◌≡◌, refl, sym, ap, ◌∙◌, subst}
use mathlib.Core.Bool.{Bool, true, false, cond}
use Prim.Native.Nat.{ℕ, zero, suc, ◌*◌, ◌^◌, ◌≤◌}
use native.Mathlib.Omega.{arith}
use lib.Dec.{lit≤, lit<}
use lib.IntN.{pos}
use lib.Ieee.{Float, binary32, round}
use lib.Ieee.{lt, of_int, of_bits}
use lib.Ieee.Exact.{HasValue}
use lib.Ieee.Fits.{sub-fits}
use Rattle.ieee.specs.Literal.{zero32, one32, epsilon32}
use Rattle.ieee.specs.Operators.{◌⊕◌, ◌⊖◌}
use Rattle.ieee.specs.Sign.{abs}
use Rattle.ieee.specs.Limit.{within, Bounded}
use Rattle.ieee.specs.Grid.{On}
use Rattle.ieee.proofs.Grid.{weaken}
use Rattle.ieee.proofs.Twins.{zero_twin}
use Rattle.ieee.proofs.Bounds.{within→bounded, bounded_weaken, add_bounded, round_bounded, reach_whole}
use Rattle.count.specs.Count.{count_down, count_up}
use Rattle.matrix.specs.declared.Matrix.{Matrix}
use Rattle.repeater.proofs.Part.{part_bounded}
use Rattle.repeater.specs.declared.RepeaterStyle.{RepeaterStyle}
use Rattle.matrix.specs.Matrix.{identity, concat}
use Rattle.repeater.specs.Repeater.{most_offset, copy_count, opacity_of, copy_opacity}
use Rattle.repeater.specs.Repeater.{steps, iteration_transform, copy_transform}
use Rattle.repeater.proofs.Enlarged.{RepeaterTwin, Moved, moved, along, one_weight, zero_weight, concat_is, absorb, pair_twin, step_moved, part_on}

-- ---- a copy
within_on : (x : Float) → Bounded 8192 x → lt epsilon32 (abs x ⊖ of_int binary32 (pos (count_down (abs x)))) ≡ true → On 46 0 (abs x ⊖ of_int binary32 (pos (count_down (abs x))))
within_on x X h =
    let y = of_int binary32 (pos (count_down (abs x))) in
    part_on (abs x ⊖ y) (sub-fits binary32 (abs x) y) (part_bounded x (bounded_weaken 8192 (2 ^ 20) x (lit≤ tt) X)) h

whole_on : On 46 0 one32
whole_on = weaken 0 0 46 0 one32 (lit≤ tt) (lit≤ tt) one_weight

identity_moved : (k : ℕ) → Moved k 56 43 identity identity
identity_moved k = record { shape = refl; shape' = refl; e_twin = zero_twin k 56 43; f_twin = zero_twin k 56 43 }

moved_choice : {k q b : ℕ} {m m' n n' : Matrix} (t : Bool) → (t ≡ true → Moved k q b m m') → Moved k q b n n' → Moved k q b (cond t m n) (cond t m' n')
moved_choice true M N = M refl
moved_choice false M N = N

most_value : HasValue most_offset false 4096 1
unfolding of_bits
most_value = (refl, refl)

-- at most 8,192 steps
iteration_bounded : (offset : Float) (copy : ℕ) → within most_offset offset ≡ true → copy ≤ 4096 → Bounded 8192 (offset ⊕ of_int binary32 (pos copy))
unfolding of_int
iteration_bounded offset copy h l =
    let most : copy ≤ 4096 * 1 = omega arith in
    add_bounded binary32 4096 4096 8192 offset (round binary32 false copy 1) (reach_whole binary32 8192 (lit< tt)) (within→bounded 4096 most_offset offset most_value h)
    (round_bounded binary32 false copy 1 4096 4096 (lit< tt) most (reach_whole binary32 4096 (lit< tt)))

module _ {k : ℕ} (K : k ≤ 6) where
  concat_moved : {m m' n n' : Matrix} → Moved k 56 43 m m' → Moved k 56 17 n n' → Moved k 56 43 (concat m n) (concat m' n')
  concat_moved {m} {m'} {n} {n'} M N =
      moved (along one32 zero32 n.e n.f m.e) (along one32 zero32 n'.e n'.f m'.e) (along zero32 one32 n.e n.f m.f) (along zero32 one32 n'.e n'.f m'.f)
      ((λ i. concat (M.shape i) (N.shape i)) ∙ concat_is m.e m.f n.e n.f)
      ((λ i. concat (M.shape' i) (N.shape' i)) ∙ concat_is m'.e m'.f n'.e n'.f)
      (absorb K (pair_twin K one_weight zero_weight (omega arith) N.e_twin N.f_twin) M.e_twin)
      (absorb K (pair_twin K zero_weight one_weight (omega arith) N.e_twin N.f_twin) M.f_twin)

  steps_moved : {s s' : Matrix} (n : ℕ) → Moved k 56 17 s s' → Moved k 56 43 (steps n s) (steps n s')
  unfolding steps
  steps_moved zero S = identity_moved k
  steps_moved (suc n) S = concat_moved (steps_moved n S) S

  module _ {r r' : RepeaterStyle} (R : RepeaterTwin k r r') where
    iteration_moved : (x : Float) → Bounded 8192 x → Moved k 56 43 (iteration_transform r x) (iteration_transform r' x)
    unfolding iteration_transform
    iteration_moved x X =
        let inverse = lt x zero32 in
        let n = count_down (abs x) in
        let part = abs x ⊖ of_int binary32 (pos n) in
        let whole = steps_moved n (step_moved K R one32 inverse whole_on) in
        moved_choice (within epsilon32 x) (λ e. identity_moved k) (moved_choice (lt epsilon32 part) (λ e. concat_moved whole (step_moved K R part inverse (within_on x X e))) whole)

-- The matrices of a copy are translations, and the second's shift is the multiple of the first's.
pub copy_moved : (k : ℕ) → k ≤ 6 → (r r' : RepeaterStyle) → RepeaterTwin k r r' → within most_offset r.offset ≡ true → (copy : ℕ) → copy ≤ 4096
    → Moved k 56 43 (copy_transform r copy) (copy_transform r' copy)
unfolding copy_transform
copy_moved k K r r' R h copy l =
    subst (λ (z : Float). Moved k 56 43 (iteration_transform r (r.offset ⊕ of_int binary32 (pos copy))) (iteration_transform r' (z ⊕ of_int binary32 (pos copy)))) (sym R.offset_same)
    (iteration_moved K R (r.offset ⊕ of_int binary32 (pos copy)) (iteration_bounded r.offset copy h l))

pub count_same : (k : ℕ) (r r' : RepeaterStyle) → RepeaterTwin k r r' → copy_count r' ≡ copy_count r
unfolding copy_count
count_same k r r' R = ap count_up R.copies_same

pub opacity_same : (k : ℕ) (r r' : RepeaterStyle) → RepeaterTwin k r r' → (copy : ℕ) → copy_opacity r' copy ≡ copy_opacity r copy
unfolding copy_opacity
opacity_same k r r' R copy = λ i. opacity_of (R.start_same i) (R.end_same i) (count_same k r r' R i) copy
