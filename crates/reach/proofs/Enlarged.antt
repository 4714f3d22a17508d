-- A command list whose numbers are on a grid, asked for a length, and the same list enlarged by a power of two, asked for that length multiplied: one answer.
-- Assumes nothing.
use Rattle.std.specs.Prelude.{Ok}
use mathlib.Core.Path.{◌≡◌, refl, sym, ap, ap₂, subst, ◌∙◌}
use mathlib.Core.Bool.{false, ◌&&◌}
use mathlib.Core.List.{List}
use mathlib.Core.Option.{Option, none, some}
use Prim.Native.Nat.{ℕ, zero, suc, ◌+◌, ◌≤◌}
use native.Mathlib.Omega.{arith}
use lib.Dec.{T}
use lib.Ieee.{Float, nan, inf, fin, le}
use lib.Ieee.Scale.{finite}
use lib.ListN.{length, take}
use Rattle.ieee.specs.Grid.{scale}
use Rattle.ieee.specs.Literal.{zero32}
use Rattle.ieee.proofs.Comparison.{le_scale}
use Rattle.ieee.proofs.Monotone.{zero_is}
use Rattle.command.specs.declared.PathCommand.{PathCommand}
use Rattle.command.specs.Commands.{codes_of, numbers_of}
use Rattle.command.specs.Outcomes.{mapped}
use Rattle.command.specs.Enlarged.{Twins}
use Rattle.command.proofs.Enlarged.{twins_codes, twins_grid}
use Rattle.judge.specs.Lists.{read_list}
use Rattle.judge.proofs.Enlarged.{grid_read}
use Rattle.measure.specs.Length.{path_length}
use Rattle.measure.proofs.Enlarged.{running_twins}
use Rattle.reach.specs.Reach.{long_enough, fewest, yes_or_no, is_length, length_reaches}
use Rattle.reach.proofs.Rule.{ruled, reach_alike}
use Rattle.length.proofs.Walks.{measured_read}
use Rattle.reach.proofs.Prefix.{enough_accepted}

-- ---- the length that is asked for
finite_scale : (k : ℕ) (x : Float) → finite (scale k x) ≡ finite x
finite_scale k nan = refl
finite_scale k (inf s) = refl
finite_scale k (fin s zero e) = refl
finite_scale k (fin s (suc m) e) = refl

pub asked_scale : (k : ℕ) (least : Float) → is_length (scale k least) ≡ is_length least
unfolding is_length
asked_scale k least =
    ap₂ ◌&&◌ (finite_scale k least) (ap (λ (z : Float). le z (scale k least)) (zero_is ∙ sym (ap (scale k) zero_is)) ∙ le_scale k zero32 least)

-- what is infinite is no length
pub infinite_unasked : (least : Float) → finite least ≡ false → is_length least ≡ false
unfolding is_length
infinite_unasked least e = rw e

-- ---- both lists
module _ {k q b : ℕ} {cs cs' : List PathCommand} (t : Twins k q b cs cs') where
  many_same : length (codes_of cs') ≡ length (codes_of cs)
  many_same = ap length (twins_codes t)

  -- asked for what is no length, they are refused alike
  pub unasked_twins : (least least' : Float) → is_length least ≡ false → is_length least' ≡ false
      → length_reaches (codes_of cs') (numbers_of cs') least' ≡ length_reaches (codes_of cs) (numbers_of cs) least
  unasked_twins least least' e e' =
      reach_alike (codes_of cs) (codes_of cs') (numbers_of cs) (numbers_of cs') least least' many_same (e' ∙ sym e)
      (λ few right. absurd (subst T (sym right ∙ e) tt))

  module _ (Q : q + 56 ≤ 149) (K : b + 55 + k ≤ 127) (B : b + k ≤ 22) (least : Float) where
    read_first : read_list (codes_of cs) (numbers_of cs) ≡ Ok cs
    read_first = grid_read q b cs (omega arith) t.grid

    read_enlarged : read_list (codes_of cs') (numbers_of cs') ≡ Ok cs'
    read_enlarged = grid_read q (b + k) cs' B (twins_grid t)

    module _ (few : length (codes_of cs) ≤ 262144) where
      few' : length (codes_of cs') ≤ 262144
      few' = let m = many_same in omega arith

      enough_same : (n : ℕ) → long_enough (codes_of cs') (numbers_of cs') (scale k least) n ≡ long_enough (codes_of cs) (numbers_of cs) least n
      unfolding path_length
      enough_same n =
          enough_accepted (codes_of cs') (numbers_of cs') (scale k least) few' n cs' read_enlarged
          ∙ ap (le (scale k least)) (running_twins k q b cs cs' Q K t n).length_twin.is
          ∙ le_scale k least (path_length (take n cs))
          ∙ sym (enough_accepted (codes_of cs) (numbers_of cs) least few n cs read_first)

      -- the reply does not hang on how long the whole list is
      reply_same : (o : Option ℕ) (all : ℕ) (x y : Float) → yes_or_no o all (Ok x) ≡ yes_or_no o all (Ok y)
      unfolding yes_or_no
      reply_same none all x y = refl
      reply_same (some n) all x y = refl

      ruled_same : ruled (codes_of cs') (numbers_of cs') (scale k least) ≡ ruled (codes_of cs) (numbers_of cs) least
      ruled_same =
          let found : Option ℕ = fewest (long_enough (codes_of cs) (numbers_of cs) least) (length (codes_of cs)) in
          (λ i. yes_or_no (fewest (λ (n : ℕ). enough_same n i) (many_same i)) (many_same i)
          ((measured_read (codes_of cs') (numbers_of cs') few' ∙ ap (mapped path_length) read_enlarged) i))
          ∙ reply_same found (length (codes_of cs)) (path_length cs') (path_length cs)
          ∙ sym (ap (yes_or_no found (length (codes_of cs))) (measured_read (codes_of cs) (numbers_of cs) few ∙ ap (mapped path_length) read_first))

    pub reach_twins : length_reaches (codes_of cs') (numbers_of cs') (scale k least) ≡ length_reaches (codes_of cs) (numbers_of cs) least
    reach_twins =
        reach_alike (codes_of cs) (codes_of cs') (numbers_of cs) (numbers_of cs') least (scale k least) many_same (asked_scale k least)
        (λ few right. ruled_same few)
