-- `fewest` is a minimum: the least number for which a test holds, and none exactly if it holds for none. Assumes nothing.
use mathlib.Core.Path.{◌≡◌, refl, subst}
use mathlib.Core.Bool.{Bool, true, false, cond}
use mathlib.Core.Option.{Option, none, some}
use Prim.Native.Nat.{ℕ, zero, suc, ◌≤◌, ◌<◌, zero-le}
use native.Mathlib.Omega.{arith}
use Rattle.reach.specs.Reach.{one_more, fewest}
use Rattle.reach.specs.Stops.{Least, FewestIsLeast}

-- the test from 1 on
abbrev next : (ℕ → Bool) → ℕ → Bool
next test n = test (suc n)

-- ---- a least number, one command later
least_first : (test : ℕ → Bool) → test 0 ≡ true → Least test 0
least_first test e = record { holds = e; none_before = λ m h. absurd (omega arith) }

least_later : (test : ℕ → Bool) (n : ℕ) → test 0 ≡ false → Least (next test) n → Least test (suc n)
least_later test n e L = record { holds = L.holds; none_before = before }
  where
    before : (m : ℕ) → m < suc n → test m ≡ false
    before zero h = e
    before (suc m) h = L.none_before m (omega arith)

least_back : (test : ℕ → Bool) (n : ℕ) → Least test (suc n) → Least (next test) n
least_back test n L = record { holds = L.holds; none_before = λ m h. L.none_before (suc m) (omega arith) }

-- ---- what is found is the least
fewest_some : (test : ℕ → Bool) (last n : ℕ) → fewest test last ≡ some n → Least test n × (n ≤ last)
unfolding fewest one_more
fewest_some test zero n e = go (test 0) refl e
  where
    go : (b : Bool) → test 0 ≡ b → cond b (some 0) none ≡ some n → Least test n × (n ≤ 0)
    go true t f = let z : 0 ≡ n = cc in subst (λ (m : ℕ). Least test m × (m ≤ 0)) z (least_first test t, zero-le)
    go false t f = let z : ◌≡◌ {A = ℕ} 0 1 = cc in absurd (omega arith)
fewest_some test (suc last) n e = go (test 0) refl (fewest (next test) last) (λ m f. fewest_some (next test) last m f) e
  where
    go : (b : Bool) → test 0 ≡ b → (o : Option ℕ) → ((m : ℕ) → o ≡ some m → Least (next test) m × (m ≤ last)) → cond b (some 0) (one_more o) ≡ some n
        → Least test n × (n ≤ suc last)
    go true t o I f = let z : 0 ≡ n = cc in subst (λ (m : ℕ). Least test m × (m ≤ suc last)) z (least_first test t, zero-le)
    go false t none I f = let z : ◌≡◌ {A = ℕ} 0 1 = cc in absurd (omega arith)
    go false t (some m) I f =
        let z : suc m ≡ n = cc in
        let L = I m refl in
        subst (λ (k : ℕ). Least test k × (k ≤ suc last)) z (least_later test m t L.0, omega arith)

-- ---- the least is found
pub fewest_least : (test : ℕ → Bool) (last n : ℕ) → Least test n → n ≤ last → fewest test last ≡ some n
unfolding fewest one_more
fewest_least test zero zero L h = rw L.holds
fewest_least test zero (suc n) L h = absurd (omega arith)
fewest_least test (suc last) zero L h = rw L.holds
fewest_least test (suc last) (suc n) L h = rw (L.none_before 0 (omega arith), fewest_least (next test) last n (least_back test n L) (omega arith))

-- ---- none is found where the test holds for none, and only there
pub fewest_none : (test : ℕ → Bool) (last : ℕ) → ((n : ℕ) → n ≤ last → test n ≡ false) → fewest test last ≡ none
unfolding fewest one_more
fewest_none test zero h = rw (h 0 zero-le)
fewest_none test (suc last) h = rw (h 0 zero-le, fewest_none (next test) last (λ n l. h (suc n) (omega arith)))

none_fewest : (test : ℕ → Bool) (last : ℕ) → fewest test last ≡ none → (n : ℕ) → n ≤ last → test n ≡ false
unfolding fewest one_more
none_fewest test zero e n h = go (test 0) refl e n h
  where
    go : (b : Bool) → test 0 ≡ b → cond {A = Option ℕ} b (some 0) none ≡ none → (n : ℕ) → n ≤ 0 → test n ≡ false
    go true t f n h = let z : ◌≡◌ {A = ℕ} 0 1 = cc in absurd (omega arith)
    go false t f zero h = t
    go false t f (suc n) h = absurd (omega arith)
none_fewest test (suc last) e n h = go (test 0) refl (fewest (next test) last) (λ f. none_fewest (next test) last f) e n h
  where
    go : (b : Bool) → test 0 ≡ b → (o : Option ℕ) → (o ≡ none → (n : ℕ) → n ≤ last → next test n ≡ false) → cond {A = Option ℕ} b (some 0) (one_more o) ≡ none
        → (n : ℕ) → n ≤ suc last → test n ≡ false
    go true t o I f n h = let z : ◌≡◌ {A = ℕ} 0 1 = cc in absurd (omega arith)
    go false t none I f zero h = t
    go false t none I f (suc n) h = I refl n (omega arith)
    go false t (some m) I f n h = let z : ◌≡◌ {A = ℕ} 0 1 = cc in absurd (omega arith)

pub fewest_is_least : FewestIsLeast
fewest_is_least test last = (λ n. (fewest_some test last n, λ L. fewest_least test last n L.0 L.1), (none_fewest test last, fewest_none test last))
