-- Where the reading stops, and what the reply hangs on: document 02's sentences beside the definition, as laws. Definitions only.
use Rattle.std.specs.Prelude.{ℕ, ◌≤◌, ◌<◌, ◌≡◌, Bool, true, false, List, ◌↔◌, Float, length, take, Ok, Err}
use Rattle.std.proofs.Math.Option.{none, some}
use Rattle.std.specs.Float.Ieee.{le}
use Rattle.ieee.specs.Literal.{zero32}
use Rattle.command.specs.declared.Refusal.{Refusal}
use Rattle.command.specs.Outcomes.{mapped}
use Rattle.judge.specs.Lists.{most_commands, place_of}
use Rattle.length.specs.Lists.{measure_list}
use Rattle.reach.specs.Reach.{long_enough, fewest, is_length, length_reaches}

-- the test holds for n, and for no smaller number
pub record Least (test : ℕ → Bool) (n : ℕ) : Type 0 where
  pub holds : test n ≡ true
  pub none_before : (m : ℕ) → m < n → test m ≡ false

-- `fewest` gives n exactly if n is the least number for which the test holds and is at most `last`, and none exactly if the test holds for none of these
abbrev pub FewestIsLeast : Type 0
FewestIsLeast =
    (test : ℕ → Bool) (last : ℕ)
    → ((n : ℕ) → fewest test last ≡ some n ↔ (Least test n × (n ≤ last))) × (fewest test last ≡ none ↔ ((n : ℕ) → n ≤ last → test n ≡ false))

-- 'report how many commands were read: the fewest whose length is at least L'
abbrev pub YesAfterFewest : Type 0
YesAfterFewest =
    (codes : List ℕ) (numbers : List Float) (least : Float) (n : ℕ) → length codes ≤ most_commands → is_length least ≡ true
    → length_reaches codes numbers least ≡ Ok (true, n) ↔ (Least (long_enough codes numbers least) n × (n ≤ length codes))

-- 'or all of them when the reply is no'
abbrev pub NoAfterAll : Type 0
NoAfterAll = (codes : List ℕ) (numbers : List Float) (least : Float) (n : ℕ) → length_reaches codes numbers least ≡ Ok (false, n) → n ≡ length codes

-- 'L = 0 is yes after none', whatever the list holds; -0 too
abbrev pub ZeroAfterNone : Type 0
ZeroAfterNone =
    (codes : List ℕ) (numbers : List Float) (least : Float) → length codes ≤ most_commands → is_length least ≡ true → le least zero32 ≡ true
    → length_reaches codes numbers least ≡ Ok (true, 0)

-- 'A list that the length accepts gets the reply that comparing its full length gives'
abbrev pub RepliesAsMeasured : Type 0
RepliesAsMeasured =
    (codes : List ℕ) (numbers : List Float) (least x : Float) → is_length least ≡ true → measure_list codes numbers ≡ Ok x
    → mapped (λ (reply : Bool × ℕ). reply.0) (length_reaches codes numbers least) ≡ Ok (le least x)

-- 'After a yes, what lies past the stopping place goes unseen, numbers left over too': any list that begins alike and is not too long
abbrev pub UnseenPast : Type 0
UnseenPast =
    (codes codes' : List ℕ) (numbers numbers' : List Float) (least : Float) (n : ℕ) → length_reaches codes numbers least ≡ Ok (true, n)
    → length codes' ≤ most_commands → take n codes' ≡ take n codes → take (place_of n codes) numbers' ≡ take (place_of n codes) numbers
    → length_reaches codes' numbers' least ≡ Ok (true, n)

-- 'other faults are refused as the length refuses them'
abbrev pub RefusedAsMeasured : Type 0
RefusedAsMeasured =
    (codes : List ℕ) (numbers : List Float) (least : Float) (r : Refusal) → is_length least ≡ true
    → length_reaches codes numbers least ≡ Err r → measure_list codes numbers ≡ Err r
