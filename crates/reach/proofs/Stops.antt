-- The laws that specs/Stops.antt states. Assumes nothing.
use Rattle.std.specs.Prelude.{Ok, Err}
use mathlib.Core.Path.{◌≡◌, refl, sym, ap, ◌∙◌, subst}
use mathlib.Core.Bool.{Bool, true, false}
use mathlib.Core.List.{List, [], ◌∷◌}
use mathlib.Core.Option.{Option, none, some}
use Prim.Native.Nat.{ℕ, zero, suc, ◌+◌, ◌≤◌, zero-le}
use native.Mathlib.Nat.{le_refl}
use native.Mathlib.Omega.{arith}
use lib.Dec.{T, ltb}
use lib.Ieee.{Float, le}
use lib.Ieee.Bits.{is_true}
use lib.ListN.{length, take}
use lib.Seq.{take_all, take-take}
use borrow.Author.Tests.{ltb-true, ltb-false, not-false}
use Rattle.ieee.specs.Literal.{zero32}
use Rattle.ieee.proofs.Order as Order
use Rattle.command.specs.declared.PathCommand.{PathCommand}
use Rattle.command.specs.declared.Refusal.TheVariants.{TooMany}
use Rattle.command.specs.Outcomes.{Outcome, mapped, value_or}
use Rattle.command.proofs.Outcomes.{refused_accepted, checks_passed}
use Rattle.command.proofs.Lists.{codes_length}
use Rattle.reader.specs.Read.{size_of_code}
use Rattle.reader.proofs.Commands.{long_alike}
use Rattle.judge.specs.Lists.{read_list, judge_list, place_of}
use Rattle.judge.proofs.Ways.{judged_read}
use Rattle.judge.proofs.Lists.{read_within, read_written}
use Rattle.measure.specs.Length.{start_pen, steps, path_length}
use Rattle.measure.proofs.Rising.{length_rise}
use Rattle.length.specs.Lists.{measure_list}
use Rattle.length.proofs.Ways.{length_many}
use Rattle.reach.specs.Reach.{first_length, long_enough, fewest, yes_or_no, is_length, reach_checks, length_reaches, commands_read}
use Rattle.reach.specs.Stops.{Least, YesAfterFewest, NoAfterAll, ZeroAfterNone, RepliesAsMeasured, UnseenPast, RefusedAsMeasured}
use Rattle.reach.proofs.Rule.{ruled, reach_is, reach_many, reach_passed}
use Rattle.reach.proofs.Prefix.{first_none, reached, enough_from, enough_from_lem, enough_accepted}
use Rattle.reach.proofs.Fewest.{fewest_least, fewest_is_least}

-- ---- what is said of a reply
abbrev said : Outcome (Bool × ℕ) → Outcome Bool
said o = mapped (λ (reply : Bool × ℕ). reply.0) o

-- a yes and a no are two things
yes_is_no : {A : Type 0} (n m : ℕ) → ◌≡◌ {A = Outcome (Bool × ℕ)} (Ok (true, n)) (Ok (false, m)) → A
yes_is_no n m e = absurd (subst T (ap (λ (o : Outcome (Bool × ℕ)). value_or true (said o)) e) tt)

-- as many commands
as_many : (b d : Bool) (n m : ℕ) → ◌≡◌ {A = Outcome (Bool × ℕ)} (Ok (b, n)) (Ok (d, m)) → n ≡ m
as_many b d n m e = ap (λ (o : Outcome (Bool × ℕ)). value_or 0 (mapped commands_read o)) e

-- ---- 'the fewest'
module _ (codes : List ℕ) (numbers : List Float) (least : Float) where
  abbrev test : ℕ → Bool
  test = long_enough codes numbers least

  -- the checks are passed where there is a reply
  replied : (reply : Bool × ℕ) → length_reaches codes numbers least ≡ Ok reply → (is_length least ≡ true) × (ruled codes numbers least ≡ Ok reply)
  replied reply e =
      let p = checks_passed (reach_checks codes least) (ruled codes numbers least) reply (sym (reach_is codes numbers least) ∙ e) in
      (let pass = p.0 in search not-false, p.1)

  yes_ruled : (n : ℕ) → Least test n → n ≤ length codes → ruled codes numbers least ≡ Ok (true, n)
  unfolding yes_or_no
  yes_ruled n L h = ap (λ (o : Option ℕ). yes_or_no o (length codes) (measure_list codes numbers)) (fewest_least test (length codes) n L h)

  ruled_yes : (n : ℕ) → ruled codes numbers least ≡ Ok (true, n) → Least test n × (n ≤ length codes)
  unfolding yes_or_no
  ruled_yes n e = go (fewest test (length codes)) refl (measure_list codes numbers) e
    where
      go : (o : Option ℕ) → fewest test (length codes) ≡ o → (measured : Outcome Float) → yes_or_no o (length codes) measured ≡ Ok (true, n)
          → Least test n × (n ≤ length codes)
      go (some m) f measured g = ((fewest_is_least test (length codes)).0 n).0 (f ∙ ap some (as_many true true m n g))
      go none f (Err r) g = refused_accepted r (true, n) g
      go none f (Ok x) g = yes_is_no n _ (sym g)

pub yes_after_fewest : YesAfterFewest
yes_after_fewest codes numbers least n few right = (
  λ e. ruled_yes codes numbers least n (replied codes numbers least (true, n) e).1,
  λ L. reach_passed codes numbers least few right ∙ yes_ruled codes numbers least n L.0 L.1,
)

-- ---- 'or all of them'
pub no_after_all : NoAfterAll
unfolding yes_or_no
no_after_all codes numbers least n e =
    go (fewest (long_enough codes numbers least) (length codes)) (measure_list codes numbers) (replied codes numbers least (false, n) e).1
  where
    go : (o : Option ℕ) (measured : Outcome Float) → yes_or_no o (length codes) measured ≡ Ok (false, n) → n ≡ length codes
    go (some m) measured g = yes_is_no m n g
    go none (Err r) g = refused_accepted r (false, n) g
    go none (Ok x) g = sym (as_many false false (length codes) n g)

-- ---- 'L = 0 is yes after none'
none_long : (codes : List ℕ) (numbers : List Float) (least : Float) → length codes ≤ 262144 → long_enough codes numbers least 0 ≡ le least zero32
unfolding enough_from steps start_pen
none_long codes numbers least few =
    enough_from_lem codes numbers least few 0
    ∙ ap (reached least start_pen) (first_none codes numbers)

pub zero_after_none : ZeroAfterNone
zero_after_none codes numbers least few right e =
    reach_passed codes numbers least few right
    ∙ yes_ruled codes numbers least 0 (record { holds = none_long codes numbers least few ∙ e; none_before = λ m h. absurd (omega arith) }) zero-le

-- ---- 'the reply that comparing its full length gives'
module _ (codes : List ℕ) (numbers : List Float) (least : Float) (few : length codes ≤ 262144) (ps : List PathCommand)
    (e : read_list codes numbers ≡ Ok ps) where
  -- after all commands
  all_read : path_length (take (length codes) ps) ≡ path_length ps
  all_read =
      let same : length codes ≡ length ps = ap length (sym (read_written codes numbers ps e).0) ∙ codes_length ps in
      ap path_length (take_all (length codes) ps (omega arith))

  enough_all : test codes numbers least (length codes) ≡ le least (path_length ps)
  enough_all = enough_accepted codes numbers least few (length codes) ps e ∙ ap (le least) all_read

  -- what is not reached in the end is not reached before
  short_before : le least (path_length ps) ≡ false → (n : ℕ) → n ≤ length codes → test codes numbers least n ≡ false
  short_before f n h = enough_accepted codes numbers least few n ps e ∙ go (le least (path_length (take n ps))) refl
    where
      go : (b : Bool) → le least (path_length (take n ps)) ≡ b → b ≡ false
      go false g = refl
      go true g =
          sym (is_true (le least (path_length ps))
          (subst (λ (x : Float). T (le least x)) all_read
          (Order.le_trans least (path_length (take n ps)) (path_length (take (length codes) ps)) (subst T (sym g) tt)
          (length_rise ps (read_within codes numbers ps e) n (length codes) h))))
          ∙ f

  as_measured : (x : Float)
      → said (yes_or_no (fewest (test codes numbers least) (length codes)) (length codes) (Ok x)) ≡ Ok (le least (path_length ps))
  unfolding yes_or_no
  as_measured x = go (le least (path_length ps)) refl (fewest (test codes numbers least) (length codes)) refl
    where
      go : (b : Bool) → le least (path_length ps) ≡ b → (o : Option ℕ) → fewest (test codes numbers least) (length codes) ≡ o
          → said (yes_or_no o (length codes) (Ok x)) ≡ Ok b
      go true f (some n) g = refl
      go true f none g =
          let never = (fewest_is_least (test codes numbers least) (length codes)).1.0 g (length codes) (le_refl (length codes)) in
          ap Ok (sym never ∙ enough_all ∙ f)
      go false f none g = refl
      go false f (some n) g =
          let L = ((fewest_is_least (test codes numbers least) (length codes)).0 n).0 g in
          ap Ok (sym L.0.holds ∙ short_before f n L.1)

pub replies_as_measured : RepliesAsMeasured
unfolding measure_list
replies_as_measured codes numbers least x right e = go (judge_list codes numbers) refl e
  where
    go : (o : Outcome (List PathCommand)) → judge_list codes numbers ≡ o → mapped path_length o ≡ Ok x
        → said (length_reaches codes numbers least) ≡ Ok (le least x)
    go (Err r) p f = refused_accepted r x f
    go (Ok ps) p f =
        let j = judged_read codes numbers ps p in
        let is : path_length ps ≡ x = cc in
        ap said (reach_passed codes numbers least j.0 right ∙ ap (yes_or_no (fewest (long_enough codes numbers least) (length codes)) (length codes)) e)
        ∙ as_measured codes numbers least j.0 ps j.1 x
        ∙ ap (λ (y : Float). Ok (le least y)) is

-- ---- 'what lies past the stopping place goes unseen'
place_front : (m : ℕ) (codes : List ℕ) → place_of m (take m codes) ≡ place_of m codes
unfolding place_of
place_front zero codes = refl
place_front (suc m) [] = refl
place_front (suc m) (c ∷ cs) = ap (λ (n : ℕ). size_of_code c + n) (place_front m cs)

place_rise : (m n : ℕ) (codes : List ℕ) → m ≤ n → place_of m codes ≤ place_of n codes
unfolding place_of
place_rise zero n codes h = zero-le
place_rise (suc m) zero codes h = absurd (omega arith)
place_rise (suc m) (suc n) [] h = zero-le
place_rise (suc m) (suc n) (c ∷ cs) h = let l = place_rise m n cs (omega arith) in omega arith

take_alike : {A : Type 0} (m n : ℕ) (v w : List A) → m ≤ n → take n v ≡ take n w → take m v ≡ take m w
take_alike m n v w h e = sym (take-take m n v h) ∙ ap (take m) e ∙ take-take m n w h

module _ (codes codes' : List ℕ) (numbers numbers' : List Float) (least : Float) (n : ℕ)
    (codes_alike : take n codes' ≡ take n codes) (numbers_alike : take (place_of n codes) numbers' ≡ take (place_of n codes) numbers) where
  first_alike : (m : ℕ) → m ≤ n → first_length m codes' numbers' ≡ first_length m codes numbers
  unfolding first_length
  first_alike m h =
      let begin = take_alike m n codes' codes h codes_alike in
      let place : place_of m codes' ≡ place_of m codes = sym (place_front m codes') ∙ ap (place_of m) begin ∙ place_front m codes in
      (λ i. measure_list (begin i) (take (place i) numbers'))
      ∙ ap (measure_list (take m codes)) (take_alike (place_of m codes) (place_of n codes) numbers' numbers (place_rise m n codes h) numbers_alike)

  enough_alike : (m : ℕ) → m ≤ n → long_enough codes' numbers' least m ≡ long_enough codes numbers least m
  unfolding long_enough
  enough_alike m h = ap (λ (o : Outcome Float). value_or false (mapped (le least) o)) (first_alike m h)

  least_alike : Least (long_enough codes numbers least) n → Least (long_enough codes' numbers' least) n
  least_alike L = record { holds = enough_alike n (le_refl n) ∙ L.holds; none_before = λ m h. enough_alike m (omega arith) ∙ L.none_before m h }

pub unseen_past : UnseenPast
unseen_past codes codes' numbers numbers' least n e few codes_alike numbers_alike =
    let r = replied codes numbers least (true, n) e in
    let y = ruled_yes codes numbers least n r.1 in
    reach_passed codes' numbers' least few r.0
    ∙ yes_ruled codes' numbers' least n (least_alike codes codes' numbers numbers' least n codes_alike numbers_alike y.0)
    (long_alike n codes codes' (sym codes_alike) y.1)

-- ---- 'other faults are refused as the length refuses them'
pub refused_as_measured : RefusedAsMeasured
unfolding yes_or_no
refused_as_measured codes numbers least r right e = go (ltb 262144 (length codes)) refl
  where
    faulty : (o : Option ℕ) (measured : Outcome Float) → yes_or_no o (length codes) measured ≡ Err r → measured ≡ Err r
    faulty (some n) measured g = refused_accepted r (true, n) (sym g)
    faulty none (Err s) g = let same : s ≡ r = cc in ap Err same
    faulty none (Ok x) g = refused_accepted r _ (sym g)

    go : (b : Bool) → ltb 262144 (length codes) ≡ b → measure_list codes numbers ≡ Err r
    go true f =
        let many = ltb-true 262144 (length codes) f in
        let same : TooMany ≡ r = cc (reach_many codes numbers least many) in
        sym (length_many codes numbers many) ∙ ap Err same
    go false f =
        faulty (fewest (long_enough codes numbers least) (length codes)) (measure_list codes numbers)
        (sym (reach_passed codes numbers least (ltb-false 262144 (length codes) f) right) ∙ e)
