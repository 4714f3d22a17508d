-- Laws of lines: their fields one by one, their newline, and what the vertex lines come to. Assumes nothing.
use mathlib.Core.Path.{◌≡◌, refl, sym, ap, ◌∙◌}
use mathlib.Core.Bool.{Bool, true, false, cond, true≢false, and-eq-true_iff}
use mathlib.Core.List.{List, [], ◌∷◌, ◌++◌, append-nil}
use Prim.Native.Nat.{ℕ, zero, suc, ◌+◌, ◌-◌, ◌*◌, ◌≤◌, ◌<◌}
use native.Mathlib.Numerals.{add-one}
use native.Mathlib.Omega.{arith}
use lib.Dec.{eqb}
use lib.ListN.{length, get_or, take, drop, set, length-drop, length-set}
use lib.Seq.{take_all, take-suc-set}
use borrow.Author.Tests.{eq-eqb, ne_eqb}
use Rattle.std.proofs.Common.{append_assoc}
pub use Rattle.std.proofs.lemmas.List.{length-replicate}
use Rattle.std.specs.Prelude.{Some, None}
use Rattle.command.specs.declared.Refusal.TheVariants.{TooMany, Unlisted}
use Rattle.plate_read.specs.Text.{field_value, is_field, line_form, line_values, faulty, given, before, read_lines}
use Rattle.plate_read.specs.Fields.{line_patterns}

-- ---- a line
-- bytes that are too few for a field are none
pub few_bytes : (t : List ℕ) → length t < 11 → is_field (take 11 t) ≡ false
unfolding is_field
few_bytes t h =
    let l : length t ≤ 11 = omega arith in
    let e : length t ≡ 11 → ⊥ = λ z. omega arith in
    rw (take_all 11 t l, ne_eqb (length t) 11 e)

module _ (n : ℕ) (t : List ℕ) where
  form_next : is_field (take 11 t) ≡ true → line_form (suc n) t ≡ line_form n (drop 11 t)
  unfolding line_form
  form_next e = rw e

  form_broken : is_field (take 11 t) ≡ false → line_form (suc n) t ≡ false
  unfolding line_form
  form_broken e = rw e

  pub form_field : line_form (suc n) t ≡ true → is_field (take 11 t) ≡ true
  unfolding line_form
  form_field e = ((and-eq-true_iff (is_field (take 11 t)) (line_form n (drop 11 t))).0 e).0

  pub form_rest : line_form (suc n) t ≡ true → line_form n (drop 11 t) ≡ true
  unfolding line_form
  form_rest e = ((and-eq-true_iff (is_field (take 11 t)) (line_form n (drop 11 t))).0 e).1

pub form_newline : (t : List ℕ) → line_form 0 t ≡ eqb (get_or t 0 0) 10
unfolding line_form
form_newline t = refl

-- a line in form has 11 bytes for each field and its newline
pub form_long : (n : ℕ) (t : List ℕ) → line_form n t ≡ true → 11 * n + 1 ≤ length t
form_long zero [] e = absurd (true≢false (sym e ∙ form_newline []))
form_long zero (b ∷ t) e = omega arith
form_long (suc n) t e =
    let i = form_long n (drop 11 t) (form_rest n t e) in
    let l = length-drop 11 t in
    omega arith

pub values_length : (n : ℕ) (t : List ℕ) → length (line_values n t) ≡ n
unfolding line_values
values_length zero t = refl
values_length (suc n) t = ap suc (values_length n (drop 11 t))

-- ---- line_values
-- what a line with values is, and one with none
pub patterns_form : (n : ℕ) (t ps : List ℕ) → Some ps ≡ line_patterns n t → (line_form n t ≡ true) × (ps ≡ line_values n t)
unfolding line_patterns
patterns_form n t ps h = go (line_form n t) h
  where
    go : (a : Bool) → Some ps ≡ cond a (Some (line_values n t)) None → (a ≡ true) × (ps ≡ line_values n t)
    go true h = (refl, cc)
    go false h = cc

pub patterns_bad : (n : ℕ) (t : List ℕ) → None ≡ line_patterns n t → line_form n t ≡ false
unfolding line_patterns
patterns_bad n t h = go (line_form n t) h
  where
    go : (a : Bool) → None ≡ cond a (Some (line_values n t)) None → a ≡ false
    go true h = cc
    go false h = refl

-- a field that is there, and one that is not
module _ (n k : ℕ) (rest : List ℕ) (h : k < n) where
  one : n - k ≡ suc (n - (k + 1))
  one = omega arith

  pub form_broken_at : is_field (take 11 rest) ≡ false → line_form (n - k) rest ≡ false
  form_broken_at e = ap (λ (m : ℕ). line_form m rest) one ∙ form_broken (n - (k + 1)) rest e

  pub form_next_at : is_field (take 11 rest) ≡ true → line_form (n - k) rest ≡ line_form (n - (k + 1)) (drop 11 rest)
  form_next_at e = ap (λ (m : ℕ). line_form m rest) one ∙ form_next (n - (k + 1)) rest e

  pub values_next_at : (values : List ℕ) → length values ≡ n
      → take k values ++ line_values (n - k) rest ≡ take (k + 1) (set values k (field_value (take 11 rest))) ++ line_values (n - (k + 1)) (drop 11 rest)
  unfolding line_values
  values_next_at values l =
      let room : k < length values = omega arith in
      ap (λ (m : ℕ). take k values ++ line_values m rest) one
      ∙ sym (append_assoc (take k values) (field_value (take 11 rest) ∷ []) (line_values (n - (k + 1)) (drop 11 rest)))
      ∙ ap (λ (l : List ℕ). l ++ line_values (n - (k + 1)) (drop 11 rest)) (sym (rw add-one (take-suc-set values k (field_value (take 11 rest)) room)))

-- the newline after the last one
module _ (n k : ℕ) (rest : List ℕ) (h : n ≤ k) where
  none : n - k ≡ 0
  none = omega arith

  pub form_end : line_form (n - k) rest ≡ eqb (get_or rest 0 0) 10
  form_end = ap (λ (m : ℕ). line_form m rest) none ∙ form_newline rest

  pub values_end : (values : List ℕ) → length values ≡ n → take k values ++ line_values (n - k) rest ≡ values
  unfolding line_values
  values_end values l = ap (λ (m : ℕ). take k values ++ line_values m rest) none ∙ append-nil (take k values) ∙ take_all k values (omega arith)

pub ruleset lines = (few_bytes, form_broken_at, form_next_at, values_next_at, form_end, values_end, length-set, length-replicate)

-- ---- the vertex lines
module _ (flag n : ℕ) (t : List ℕ) where
  pub lines_none : length t ≡ 0 → read_lines flag n t ≡ given flag []
  unfolding read_lines
  lines_none e = go n
    where
      go : (n : ℕ) → read_lines flag n t ≡ given flag []
      go zero = rw (eq-eqb (length t) 0 e)
      go (suc n) = rw (eq-eqb (length t) 0 e)

  module _ (h : 0 < length t) where
    apart : length t ≡ 0 → ⊥
    apart z = omega arith

    pub lines_many : read_lines flag zero t ≡ faulty TooMany
    unfolding read_lines
    lines_many = rw (ne_eqb (length t) 0 apart)

    pub lines_broken : line_form 6 t ≡ false → read_lines flag (suc n) t ≡ faulty Unlisted
    unfolding read_lines
    lines_broken e = rw (ne_eqb (length t) 0 apart, e)

    pub lines_next : line_form 6 t ≡ true → read_lines flag (suc n) t ≡ before (line_values 6 t) (read_lines flag n (drop 67 t))
    unfolding read_lines
    lines_next e = rw (ne_eqb (length t) 0 apart, e)
