-- A repeater that scales by 100 per cent, with its position and its anchor on the grid of 1 / 1024, enlarged by a power of two:
-- every refusal and the order of the copies are the same, and of the seven numbers of a copy e and f are multiplied. Assumes nothing.
use Rattle.std.specs.Prelude.{Ok}
use mathlib.Core.Path.{◌≡◌, refl, sym, ap, ◌∙◌}
use mathlib.Core.Bool.{true, false, not, ◌&&◌, ◌||◌}
use mathlib.Core.List.{List, [], ◌∷◌}
use Prim.Native.Nat.{ℕ, ◌+◌, ◌^◌, ◌≤◌, ◌<◌}
use native.Mathlib.Nat.{le_refl}
use native.Mathlib.Omega.{arith}
use lib.Dec.{ltb, lit≤, lit<}
use lib.Ieee.{Float, lt, of_bits}
use lib.Ieee.Bits.{is_true}
use lib.Ieee.Exact.{HasValue}
use lib.Ieee.Scale.{finite}
use borrow.Author.Tests.{ltb-true, not-false}
use Rattle.ieee.specs.Sign.{abs}
use Rattle.ieee.specs.Limit.{within, all_within}
use Rattle.ieee.specs.Grid.{scale, On, Twin}
use Rattle.ieee.proofs.Bounds.{on_bounded, bounded_finite}
use Rattle.ieee.proofs.Grid.{weaken, scale_on}
use Rattle.ieee.proofs.Limits as Limits
use Rattle.command.specs.declared.Refusal.TheVariants.{TooMany, OutOfRange, NoSuchCopy, NotFinite}
use Rattle.command.specs.Outcomes.{Outcome, Check, ◌gives◌, checked, AllPass}
use Rattle.command.proofs.Outcomes.{checks_relate}
use Rattle.matrix.specs.declared.Matrix.{Matrix}
use Rattle.repeater.specs.declared.RepeaterStyle.{RepeaterStyle}
use Rattle.repeater.specs.Repeater.{most_copies, most_offset, copy_count, copy_transform, copy_opacity}
use Rattle.repeater.proofs.Enlarged.{RepeaterTwin, Moved}
use Rattle.repeater.proofs.Moved.{copy_moved, count_same, opacity_same}
use Rattle.copies.specs.Enlarged.{moved_numbers, moved_answer}
use Rattle.copies.specs.Order.{order_of, copy_order}
use Rattle.copies.specs.Calls.{repeater_numbers, repeater_limit, has_too_many, repeater_checks}
use Rattle.copies.specs.Calls.{order_answer, copy_numbers, all_finite, copy_answer, transform_answer}
use Rattle.copies.proofs.Ways.{finite_only, offset_within, count_few}

limit_value : HasValue repeater_limit false (2 ^ 20) 1
unfolding of_bits
limit_value = (refl, refl)

-- a number of the grid and its multiple are within the limit
grid_within : (b : ℕ) (x : Float) → b ≤ 20 → On 10 b x → within repeater_limit x ≡ true
grid_within b x B X =
    is_true (within repeater_limit x)
    (Limits.within 10 20 x repeater_limit (2 ^ 20) 1 (weaken 10 b 10 20 x (le_refl 10) B X) (lit< tt) limit_value (lit≤ tt))

-- an answer behind checks is moved, and a refusal stays
checks_moved : (k : ℕ) (cs : List Check) (o o' : Outcome (List Float)) → (AllPass cs → o' ≡ moved_answer k o) → checked cs o' ≡ moved_answer k (checked cs o)
checks_moved k cs o o' last = checks_relate (λ (x y : Outcome (List Float)). x ≡ moved_answer k y) (λ r. refl) cs o' o last

module _ {k : ℕ} (K : k ≤ 6) where
  within_same : {x x' : Float} → Twin k 10 13 x x' → within repeater_limit x' ≡ within repeater_limit x
  within_same {x} {x'} X =
      let small : 13 + k ≤ 20 = omega arith in
      ap (within repeater_limit) X.is ∙ grid_within (13 + k) (scale k x) small (scale_on k 10 13 x X.grid) ∙ sym (grid_within 13 x (lit≤ tt) X.grid)

  finite_same : {q b : ℕ} {x x' : Float} → Twin k q b x x' → finite x' ≡ finite x
  finite_same {q} {b} {x} {x'} X =
      ap finite X.is
      ∙ is_true (finite (scale k x)) (bounded_finite (2 ^ (b + k)) (scale k x) (on_bounded q (b + k) (scale k x) (scale_on k q b x X.grid)))
      ∙ sym (is_true (finite x) (bounded_finite (2 ^ b) x (on_bounded q b x X.grid)))

  module _ {q b : ℕ} {m m' : Matrix} (M : Moved k q b m m') (o o' : Float) (O : o' ≡ o) where
    a_same : m'.a ≡ m.a
    a_same = ap (λ (z : Matrix). z.a) M.shape' ∙ sym (ap (λ (z : Matrix). z.a) M.shape)

    b_same : m'.b ≡ m.b
    b_same = ap (λ (z : Matrix). z.b) M.shape' ∙ sym (ap (λ (z : Matrix). z.b) M.shape)

    c_same : m'.c ≡ m.c
    c_same = ap (λ (z : Matrix). z.c) M.shape' ∙ sym (ap (λ (z : Matrix). z.c) M.shape)

    d_same : m'.d ≡ m.d
    d_same = ap (λ (z : Matrix). z.d) M.shape' ∙ sym (ap (λ (z : Matrix). z.d) M.shape)

    numbers_moved : copy_numbers m' o' ≡ moved_numbers k (copy_numbers m o)
    unfolding copy_numbers
    numbers_moved = λ i. a_same i ∷ b_same i ∷ c_same i ∷ d_same i ∷ M.e_twin.is i ∷ M.f_twin.is i ∷ O i ∷ []

    finite_moved : all_finite (copy_numbers m' o') ≡ all_finite (copy_numbers m o)
    unfolding copy_numbers
    finite_moved =
        λ i. finite (a_same i) && (finite (b_same i) && (finite (c_same i) && (finite (d_same i)
        && (finite_same M.e_twin i && (finite_same M.f_twin i && (finite (O i) && true))))))

    only_moved : finite_only (copy_numbers m' o') ≡ moved_answer k (finite_only (copy_numbers m o))
    only_moved =
        (λ i. checked ((not (finite_moved i) gives NotFinite) ∷ []) (Ok (numbers_moved i)))
        ∙ checks_moved k ((not (all_finite (copy_numbers m o)) gives NotFinite) ∷ []) (Ok (copy_numbers m o)) _ (λ pass. refl)

  module _ (r r' : RepeaterStyle) (R : RepeaterTwin k r r') (turn_same : r'.rotation ≡ r.rotation) where
    numbers_alike : all_within repeater_limit (repeater_numbers r') ≡ all_within repeater_limit (repeater_numbers r)
    unfolding all_within
    numbers_alike =
        λ i. within repeater_limit (R.copies_same i) && (within repeater_limit (R.offset_same i)
        && (within_same R.ax_twin i && (within_same R.ay_twin i && (within_same R.x_twin i && (within_same R.y_twin i
        && (within repeater_limit ((R.wide_scale' ∙ sym R.wide_scale) i) && (within repeater_limit ((R.high_scale' ∙ sym R.high_scale) i)
        && (within repeater_limit (turn_same i) && (within repeater_limit (R.start_same i) && (within repeater_limit (R.end_same i) && true))))))))))

    -- each check finds the same
    checks_same : repeater_checks r' ≡ repeater_checks r
    unfolding repeater_checks has_too_many
    checks_same =
        λ i. ((lt most_copies (R.copies_same i) || lt most_offset (abs (R.offset_same i))) gives TooMany)
        ∷ (not (numbers_alike i) gives OutOfRange) ∷ []

    pub order_same : r'.mode ≡ r.mode → order_answer r' ≡ order_answer r
    unfolding order_answer copy_order
    order_same e = λ i. checked (checks_same i) (Ok (order_of (e i) (count_same k r r' R i)))

    module _ (copy : ℕ) where
      copy_alike : AllPass (repeater_checks r) → copy_answer r' copy ≡ moved_answer k (copy_answer r copy)
      unfolding copy_answer
      copy_alike pass =
          let numbers' = copy_numbers (copy_transform r' copy) (copy_opacity r' copy) in
          ap (λ (n : ℕ). checked ((not (ltb copy n) gives NoSuchCopy) ∷ []) (finite_only numbers')) (count_same k r r' R)
          ∙ checks_moved k ((not (ltb copy (copy_count r)) gives NoSuchCopy) ∷ []) _ _ (λ found.
          let there : copy < copy_count r = ltb-true copy (copy_count r) (not-false _ found.0) in
          let few : copy_count r ≤ 4096 = count_few r pass in
          let h : copy ≤ 4096 = omega arith in
          only_moved (copy_moved k K r r' R (offset_within r pass) copy h) (copy_opacity r copy) (copy_opacity r' copy) (opacity_same k r r' R copy))

      -- the answer is the same refusal, or the same numbers with e and f multiplied
      pub copy_twins : transform_answer r' copy ≡ moved_answer k (transform_answer r copy)
      unfolding transform_answer
      copy_twins =
          ap (λ (cs : List Check). checked cs (copy_answer r' copy)) checks_same
          ∙ checks_moved k (repeater_checks r) (copy_answer r copy) (copy_answer r' copy) copy_alike
