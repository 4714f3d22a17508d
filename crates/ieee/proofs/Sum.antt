-- `sum` sees only the values of its fractions, and rounds their total once. Assumes nothing.
use mathlib.Core.Path.{◌≡◌, refl, sym, ap, ◌∙◌}
use Prim.Native.Nat.{ℕ, ◌+◌, ◌-◌, ◌*◌, ◌≤◌, ◌<◌}
use native.Mathlib.Nat.{add-mul}
use native.Mathlib.Omega.{arith}
use mathlib.Core.Bool.{Bool, true, false, not, ◌&&◌, beq, cond}
use lib.Dec.{T, ltb, ltb→lt, nltb→le}
use lib.Ieee.{Float, Format, round, sum}
use lib.Ieee.Scale.{round_same}
use Rattle.ieee.proofs.Digits.{sub_mul}
use Rattle.ieee.proofs.Tests.{ltb_mul}
use Rattle.ieee.proofs.Signed.{P, N, P-mul, N-mul}

-- ---- a / c and b / c are a' / c' and b' / c'
module _ (a b c a' b' c' : ℕ) (p : a * c' ≡ a' * c) (q : b * c' ≡ b' * c) where
  plus_same : (a + b) * c' ≡ (a' + b') * c
  plus_same = add-mul a b c' ∙ (λ i. p i + q i) ∙ sym (add-mul a' b' c)

  minus_same : (a - b) * c' ≡ (a' - b') * c
  minus_same = sym (sub_mul a b c') ∙ (λ i. p i - q i) ∙ sub_mul a' b' c

  ltb_same : 0 < c → 0 < c' → ltb a b ≡ ltb a' b'
  ltb_same C C' = sym (ltb_mul a b c' C') ∙ (λ i. ltb (p i) (q i)) ∙ ltb_mul a' b' c C

pub sum_same : (f : Format) (s t : Bool) (a b c a' b' c' : ℕ) → 0 < c → 0 < c' → a * c' ≡ a' * c → b * c' ≡ b' * c → sum f s a t b c ≡ sum f s a' t b' c'
unfolding sum
sum_same f s t a b c a' b' c' C C' p q =
    (λ i. cond (beq s t) (round_same f s (a + b) c (a' + b') c' C C' (plus_same a b c a' b' c' p q) i)
    (cond (ltb_same a b c a' b' c' p q C C' i)
    (round_same f t (b - a) c (b' - a') c' C C' (minus_same b a c b' a' c' q p) i)
    (round f (s && ltb_same b a c b' a' c' q p C C' i) (a - b) c)))
    ∙ ap (λ (x : Float). cond (beq s t) (round f s (a' + b') c') (cond (ltb a' b') (round f t (b' - a') c') x)) (round_same f (s && ltb b' a') (a - b) c (a' - b') c' C C' (minus_same a b c a' b' c' p q))

-- two of one sign
pub sum_alike : (f : Format) (s : Bool) (a b c : ℕ) → sum f s a s b c ≡ round f s (a + b) c
unfolding sum
sum_alike f true a b c = refl
sum_alike f false a b c = refl

-- ---- ±a / c + ±b / c, rounded once. Which total is rounded does not turn on the format
pub record SumOf (s : Bool) (a : ℕ) (t : Bool) (b c : ℕ) : Type 0 where
  pub sign : Bool
  pub size : ℕ
  pub is : (f : Format) → sum f s a t b c ≡ round f sign size c
  pub total : P sign size + (N s a + N t b) ≡ N sign size + (P s a + P t b)

unfoldable pub sum_of : (s : Bool) (a : ℕ) (t : Bool) (b c : ℕ) → SumOf s a t b c
unfolding sum
sum_of false a false b c = record { sign = false; size = a + b; is = λ f. refl; total = omega arith }
sum_of true a true b c = record { sign = true; size = a + b; is = λ f. refl; total = omega arith }
sum_of false a true b c = pick (ltb a b) refl (ltb→lt a b) (nltb→le a b)
  where
    pick : (x : Bool) → ltb a b ≡ x → (T x → a < b) → (T (not x) → b ≤ a) → SumOf false a true b c
    pick true e h k = let l = h tt in record { sign = true; size = b - a; is = λ f. ap (λ (x : Bool). cond x (round f true (b - a) c) (round f false (a - b) c)) e; total = omega arith }
    pick false e h k = let l = k tt in record { sign = false; size = a - b; is = λ f. ap (λ (x : Bool). cond x (round f true (b - a) c) (round f false (a - b) c)) e; total = omega arith }
sum_of true a false b c = pick (ltb a b) (ltb b a) refl refl (ltb→lt a b) (nltb→le a b) (nltb→le b a)
  where
    pick : (x y : Bool) → ltb a b ≡ x → ltb b a ≡ y → (T x → a < b) → (T (not x) → b ≤ a) → (T (not y) → a ≤ b) → SumOf true a false b c
    pick true y e g h k l = let m = h tt in record { sign = false; size = b - a; is = λ f. ap (λ (x : Bool). cond x (round f false (b - a) c) (round f (ltb b a) (a - b) c)) e; total = omega arith }
    pick false true e g h k l = let m = k tt in record { sign = true; size = a - b; is = λ f i. cond (e i) (round f false (b - a) c) (round f (g i) (a - b) c); total = omega arith }
    pick false false e g h k l = let m = k tt in let n = l tt in record { sign = false; size = a - b; is = λ f i. cond (e i) (round f false (b - a) c) (round f (g i) (a - b) c); total = omega arith }

-- a total, each part of it times K
pub total_mul : (r : Bool) (x : ℕ) (s : Bool) (a : ℕ) (t : Bool) (b K : ℕ) → P r x + (N s a + N t b) ≡ N r x + (P s a + P t b)
    → P r (x * K) + (N s (a * K) + N t (b * K)) ≡ N r (x * K) + (P s (a * K) + P t (b * K))
total_mul r x s a t b K h = simp (P-mul, N-mul) (omega (arith, ap (λ (z : ℕ). z * K) h))
