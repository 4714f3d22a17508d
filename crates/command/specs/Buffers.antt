-- What a call that fills buffers promises of its result and of each buffer, the last check before it does, and what a drawing needs. Definitions only.
use Rattle.std.specs.Prelude.{ℕ, ◌≤◌, ◌≡◌, Bool, cond, ◌&&◌, List, ◌++◌, leb, Float, length, drop, Ok, Err}
use Rattle.command.specs.declared.PathCommand.{PathCommand}
use Rattle.command.specs.declared.Size.{Size}
use Rattle.command.specs.declared.Refusal.TheVariants.{BufferTooSmall}
use Rattle.command.specs.Commands.{codes_of, numbers_of}
use Rattle.command.specs.Outcomes.{Outcome, number_of, mapped, value_or, list_of}

-- a buffer with its beginning replaced: places past it keep their content
abbrev pub onto {ℓ} : {A : Type ℓ} → List A → List A → List A
onto answer buffer = answer ++ drop (length answer) buffer

-- The last check: an answer that does not fit the buffers is refused.
unfoldable pub fitted : {A : Type 0} → (A → Bool) → Outcome A → Outcome A
fitted fits (Err r) = Err r
fitted fits (Ok a) = cond (fits a) (Ok a) (Err BufferTooSmall)

-- a list fits a buffer of this length
abbrev pub in_buffer : {A : Type 0} → ℕ → List A → Bool
in_buffer n xs = leb (length xs) n

-- how many codes and numbers commands have
abbrev pub size_of : List PathCommand → ℕ × ℕ
size_of cs = (length (codes_of cs), length (numbers_of cs))

-- the codes and numbers that a `Size` is
abbrev pub pair_of : Size → ℕ × ℕ
pair_of size = (size.codes, size.numbers)

-- how many codes and how many numbers are told: none for a refusal
abbrev pub codes_told : Outcome Size → ℕ
codes_told o = value_or 0 (mapped (λ (size : Size). size.codes) o)

abbrev pub numbers_told : Outcome Size → ℕ
numbers_told o = value_or 0 (mapped (λ (size : Size). size.numbers) o)

-- a need is within a room: no more codes, and no more numbers
abbrev pub Within : ℕ × ℕ → ℕ × ℕ → Type 0
Within need room = (need.0 ≤ room.0) × (need.1 ≤ room.1)

-- the need of a drawing, which is the tray estimate of document 02, U2: 'exactly the codes and numbers that the drawing writes', or why it is refused
abbrev pub need_of : Outcome (List PathCommand) → Outcome (ℕ × ℕ)
need_of o = mapped size_of o

-- commands fit two buffers of these lengths
abbrev pub in_buffers : ℕ → ℕ → List PathCommand → Bool
in_buffers codes numbers cs = leb (size_of cs).0 codes && leb (size_of cs).1 numbers

-- The promise about a buffer: the number is the outcome's, the count is that of its list, and the list is the beginning of the buffer; all else in it is
-- as it was.
pub record Filled {A : Type 0} (o : Outcome (List A)) (number count : ℕ) (buffer buffer' : List A) : Type 0 where
  pub number_is : number ≡ number_of o
  pub count_is : count ≡ length (list_of o)
  pub content_is : buffer' ≡ onto (list_of o) buffer

-- The promise of a function whose answer is put in a buffer if it fits, and which gives how much that is.
abbrev pub FilledWith : {A : Type 0} → Outcome (List A) → Outcome ℕ → List A → List A → Type 0
FilledWith o result buffer buffer' = Filled (fitted (in_buffer (length buffer)) o) (number_of result) (value_or 0 result) buffer buffer'

-- The promise of a call that draws: one buffer is filled with the codes and one with the numbers.
pub record FilledBoth (o : Outcome (List PathCommand)) (number codes_count numbers_count : ℕ) (codes codes' : List ℕ) (numbers numbers' : List Float)
    : Type 0 where
  pub codes_filled : Filled (mapped codes_of o) number codes_count codes codes'
  pub numbers_filled : Filled (mapped numbers_of o) number numbers_count numbers numbers'

-- The promise of a function that draws into both if what is drawn fits them, and gives its size.
abbrev pub DrawnInto : Outcome (List PathCommand) → Outcome Size → List ℕ → List ℕ → List Float → List Float → Type 0
DrawnInto o result codes codes' numbers numbers' =
    FilledBoth (fitted (in_buffers (length codes) (length numbers)) o) (number_of result) (codes_told result) (numbers_told result) codes codes' numbers numbers'
