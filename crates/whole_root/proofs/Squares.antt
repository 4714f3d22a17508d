-- The sum of the squares of a * 2 ^ i and b * 2 ^ j: its root from the whole part of 4 times the sum in units of 4 ^ i, and where b * 2 ^ j is too small to count. Assumes nothing.
use mathlib.Core.Path.{◌≡◌, sym, ap, ◌∙◌, subst}
use mathlib.Core.Bool.{false}
use Prim.Native.Nat.{ℕ, ◌+◌, ◌-◌, ◌*◌, ◌/◌, ◌%◌, ◌^◌, ◌≤◌, ◌<◌}
use native.Mathlib.Nat.{le_of_lt, mul_comm, mul_assoc, mul-pos, mul-le-mul, mul-le-mul_right, mul-lt-mul_of_pos_right, zero-mul, div-add-mod', mod-lt, pow-le-pow_right}
use native.Mathlib.Omega.{arith}
use lib.Pow.{pow-add}
use lib.Ieee.{binary32, units}
use Rattle.ieee.specs.Root.{isqrt, root_of}
use Rattle.ieee.proofs.Digits.{grow, square_pow, four_pos}
use Rattle.whole_root.specs.Steps.{halved}
use Rattle.whole_root.proofs.Halved.{halved_even, root_of_is, from_whole}

none : (a c : ℕ) → a ≡ 0 → a * c ≡ 0
none a c e = ap (λ (x : ℕ). x * c) e ∙ zero-mul c

module _ (a b i j g : ℕ) (gap : j + g ≡ i) where
  abbrev sum : ℕ
  sum = a * 2 ^ i * (a * 2 ^ i) + b * 2 ^ j * (b * 2 ^ j)

  -- 4 ^ i is 4 ^ g times 4 ^ j
  scale : 4 ^ i ≡ 4 ^ g * 4 ^ j
  scale = ap (λ (x : ℕ). 4 ^ x) (sym gap) ∙ pow-add 4 j g ∙ mul_comm (4 ^ j) (4 ^ g)

  -- t is the whole part of 4 times the sum in units of 4 ^ i, and rest units of 4 ^ j are left
  module _ (t rest : ℕ) (whole : t ≡ 4 * (a * a) + 4 * (b * b) / 4 ^ g) (left : rest ≡ 4 * (b * b) % 4 ^ g) where
    sum_is : 4 * sum ≡ t * 4 ^ i + rest * 4 ^ j
    sum_is =
        let S = 4 * (b * b) in
        let x : S / 4 ^ g * 4 ^ i ≡ S / 4 ^ g * 4 ^ g * 4 ^ j = ap (λ (z : ℕ). S / 4 ^ g * z) scale ∙ sym (mul_assoc (S / 4 ^ g) (4 ^ g) (4 ^ j)) in
        let y : (S / 4 ^ g * 4 ^ g + S % 4 ^ g) * 4 ^ j ≡ S * 4 ^ j = ap (λ (z : ℕ). z * 4 ^ j) (div-add-mod' S (4 ^ g)) in
        let z : 4 * sum ≡ (4 * (a * a) + S / 4 ^ g) * 4 ^ i + S % 4 ^ g * 4 ^ j = omega (arith, square_pow a i, square_pow b j) in
        z ∙ (λ k. sym whole k * 4 ^ i + sym left k * 4 ^ j)

    rest_lt : rest * 4 ^ j < 4 ^ i
    rest_lt = subst (λ (x : ℕ). x * 4 ^ j < 4 ^ i) (sym left) (subst (λ (x : ℕ). 4 * (b * b) % 4 ^ g * 4 ^ j < x) (sym scale) (mul-lt-mul_of_pos_right (mod-lt (4 * (b * b)) (four_pos g)) (four_pos j)))

    -- the root drops as many digits as the larger number
    pub near_same : t < 2 ^ 50 → (0 < i → 2 ^ 23 ≤ a) → root_of binary32 sum ≡ units binary32 false (halved (isqrt t) (rest + (t - isqrt t * isqrt t))) i
    near_same l h =
        from_whole sum i t (rest * 4 ^ j) rest sum_is rest_lt
        (none rest (4 ^ j)) (λ (z : 0 < rest). mul-pos z (four_pos j)) l
        (λ (p : 0 < i). let m : 2 ^ 23 * 2 ^ 23 ≤ a * a = mul-le-mul (h p) (h p) in omega arith)

    -- it drops one digit more
    pub near_next : 2 ^ 50 ≤ t → t < 2 ^ 52 → root_of binary32 sum ≡ units binary32 false (halved (isqrt (t / 4)) (rest + t % 4 + (t / 4 - isqrt (t / 4) * isqrt (t / 4)))) (i + 1)
    near_next l u =
        let D = 4 ^ i in
        let E = rest * 4 ^ j in
        let s : 4 ^ (i + 1) ≡ D * 4 = pow-add 4 i 1 in
        let q : t * D ≡ (t / 4 * 4 + t % 4) * D = ap (λ (x : ℕ). x * D) (sym (div-add-mod' t 4)) in
        let r : t % 4 * D ≤ 3 * D = mul-le-mul_right D (omega arith) in
        from_whole sum (i + 1) (t / 4) (t % 4 * D + E) (rest + t % 4)
        (subst (λ (x : ℕ). 4 * sum ≡ t / 4 * x + (t % 4 * D + E)) (sym s) (omega (arith, sum_is)))
        (subst (λ (x : ℕ). t % 4 * D + E < x) (sym s) (omega (arith, rest_lt)))
        (λ (z : rest + t % 4 ≡ 0). omega (arith, none rest (4 ^ j) (omega arith), none (t % 4) D (omega arith)))
        (λ (z : 0 < rest + t % 4). omega (arith, grow rest (4 ^ j) (four_pos j), grow (t % 4) D (four_pos i)))
        (omega arith) (λ (p : 0 < i + 1). omega arith)

-- b * 2 ^ j is too small to count
pub far : (a b i j g : ℕ) → j + g ≡ i → 13 ≤ g → 2 ^ 23 ≤ a → a < 2 ^ 24 → b < 2 ^ 24 → root_of binary32 (a * 2 ^ i * (a * 2 ^ i) + b * 2 ^ j * (b * 2 ^ j)) ≡ units binary32 false a i
far a b i j g e hg ha ua hb =
    let n = a * 2 ^ i * (a * 2 ^ i) + b * 2 ^ j * (b * 2 ^ j) in
    let D = 4 ^ i in
    let x : b * b ≤ 2 ^ 24 * 2 ^ 24 = mul-le-mul (le_of_lt hb) (le_of_lt hb) in
    let y : 2 ^ 23 * 2 ^ 26 ≤ a * 4 ^ g = mul-le-mul ha (pow-le-pow_right (omega arith) hg) in
    let z : b * b * 4 ^ j < a * 4 ^ g * 4 ^ j = mul-lt-mul_of_pos_right (omega arith) (four_pos j) in
    let w : a * 4 ^ g * 4 ^ j ≡ a * D = mul_assoc a (4 ^ g) (4 ^ j) ∙ ap (λ (x : ℕ). a * x) (sym (scale a b i j g e)) in
    root_of_is n i (2 * a) (4 * n - 2 * a * (2 * a) * D)
    (record {
      low = omega (arith, square_pow a i);
      high = omega (arith, square_pow a i, square_pow b j);
      all = λ (p : 4 * n - 2 * a * (2 * a) * D ≡ 0). omega (arith, square_pow a i);
      more = λ (p : 0 < 4 * n - 2 * a * (2 * a) * D). omega arith;
    })
    (omega arith) (λ (p : 0 < i). omega arith)
    ∙ ap (λ (q : ℕ). units binary32 false q i) (halved_even a (4 * n - 2 * a * (2 * a) * D))
