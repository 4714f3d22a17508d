-- Sums on a grid whose bound is no power of two: at most c units of 2 ^ -q, for a c that the format holds exactly. Assumes nothing.
use mathlib.Core.Path.{◌≡◌, refl, sym, subst}
use Prim.Native.Nat.{ℕ, ◌+◌, ◌-◌, ◌^◌, ◌≤◌}
use native.Mathlib.Nat.{le_trans, le_of_eq}
use native.Mathlib.Omega.{arith}
use mathlib.Core.Bool.{Bool, true, false, not, cond, ◌&&◌, beq}
use lib.Dec.{ltb}
use lib.Pow.{pow_pos}
use lib.Ieee.{Float, Format, prec, emax, low, round, sum, add, neg}
use lib.Ieee.Exact.{HasValue}
use Rattle.ieee.specs.Cut.{cut}
use Rattle.ieee.specs.Grid.{On}
use Rattle.ieee.proofs.Cut.{cut_mono}
use Rattle.ieee.proofs.Value.{neg_val}
use Rattle.ieee.proofs.Round.{prec_pos, round_cut, below_top}
use Rattle.ieee.proofs.Operations.{add_at}

-- x is a whole multiple of 2 ^ -q, at most c of them
pub record Counted (q c : ℕ) (x : Float) : Type 0 where
  pub sign : Bool
  pub count : ℕ
  pub value : HasValue x sign count (2 ^ q)
  pub bound : count ≤ c

pub counted : {q b : ℕ} {x : Float} → On q b x → Counted q (2 ^ (b + q)) x
counted X = record { sign = X.sign; count = X.count; value = X.value; bound = X.bound }

pub counted_neg : {q c : ℕ} {x : Float} → Counted q c x → Counted q c (neg x)
counted_neg {q} {c} {x} X = record { sign = not X.sign; count = X.count; value = neg_val x X.sign X.count (2 ^ q) X.value; bound = X.bound }

-- at most n units, where n is a number that the format holds
module _ (f : Format) (q b : ℕ) (Q : q ≤ low f) (B : b ≤ emax f) (n : ℕ) (N : n ≤ 2 ^ (b + q)) (exact : cut (prec f) n ≡ n) where
  counted_round : (s : Bool) (m : ℕ) → m ≤ n → Counted q n (round f s m (2 ^ q))
  counted_round s m l =
      let h : cut (prec f) m ≤ n = le_trans (cut_mono (prec f) m n (prec_pos f) l) (le_of_eq exact) in
      record {
        sign = s;
        count = cut (prec f) m;
        value = round_cut f s m (2 ^ q) q m (pow_pos q) Q refl (below_top f q b (cut (prec f) m) B (le_trans h N));
        bound = h;
      }

  counted_sum : (s : Bool) (c : ℕ) (t : Bool) (d : ℕ) → c + d ≤ n → Counted q n (sum f s c t d (2 ^ q))
  unfolding sum
  counted_sum s c t d h = go (beq s t) (ltb c d)
    where
      go : (x y : Bool) → Counted q n (cond x (round f s (c + d) (2 ^ q)) (cond y (round f t (d - c) (2 ^ q)) (round f (s && ltb d c) (c - d) (2 ^ q))))
      go true y = counted_round s (c + d) h
      go false true = counted_round t (d - c) (omega arith)
      go false false = counted_round (s && ltb d c) (c - d) (omega arith)

  pub counted_add : (c d : ℕ) (x y : Float) → c + d ≤ n → Counted q c x → Counted q d y → Counted q n (add f x y)
  counted_add c d x y h X Y =
      subst (λ (z : Float). Counted q n z) (sym (add_at f x y X.sign Y.sign X.count Y.count (2 ^ q) (pow_pos q) X.value Y.value))
      (counted_sum X.sign X.count Y.sign Y.count (both X.count Y.count X.bound Y.bound))
    where
      both : (i j : ℕ) → i ≤ c → j ≤ d → i + j ≤ n
      both i j I J = omega arith
