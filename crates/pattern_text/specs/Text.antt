-- The lines of a text, and that each is answered. Definitions only.
use Rattle.std.specs.Prelude.{ℕ, ◌+◌, ◌-◌, ◌%◌, min, ◌≡◌, ◌==◌, ◌&&◌, nat_eq, nat_le, cond}
use Rattle.std.specs.Prelude.{List, [], ◌∷◌, length, take, drop, Option, None, Some, Result, Ok}
use Rattle.std.specs.List.{position, starts_with, FoldsTo}
use Rattle.std.specs.Option.{unwrap_or}
use Rattle.std.specs.Int.{div_ceil}
use Rattle.std.specs.Borrow.{Bor}
use Rattle.pattern_text.specs.declared.Call.{Call}
use Rattle.pattern_text.specs.declared.Form.{Form}
use Rattle.pattern_text.specs.declared.Form.TheVariants.{ByLength, MayNeed, AtBlank}

-- the first place of a byte: 10 is a newline, 32 a blank
abbrev pub place_of : ℕ → List ℕ → Option ℕ
place_of byte text = position (λ b. b == byte) text

-- a text's first line, without its end, and what follows that
abbrev pub FirstLine : List ℕ → List ℕ → List ℕ → Type 0
FirstLine text line rest = (n : ℕ) × (place_of 10 text ≡ Some n) × (line ≡ take n text) × (rest ≡ drop (n + 1) text)

-- These lines end in the text, in this order and each without its end, and no other does: what follows the last end is no line.
abbrev pub Lines : List (List ℕ) → List ℕ → Type 0
Lines [] text = place_of 10 text ≡ None
Lines (line ∷ lines) text = (rest : List ℕ) × FirstLine text line rest × Lines lines rest

-- ---- what a line says: a word, and then numbers of nine bytes each, of which the last may be short

-- where the word stands: five bytes on, past `need-`, in a line of so many of which the first is an n (110)
abbrev pub word_place : List ℕ → ℕ
word_place line = cond (starts_with nat_eq line (110 ∷ []) && nat_le 5 (length line)) 5 0

-- where the numbers begin
abbrev pub numbers_place : Form → List ℕ → ℕ
numbers_place ByLength line = length line % 9
numbers_place MayNeed line = word_place line + (length line - word_place line) % 9
numbers_place AtBlank line = unwrap_or (place_of 32 line) (length line)

-- how many there are
abbrev pub numbers_given : Form → List ℕ → ℕ
numbers_given form line = div_ceil (length line - numbers_place form line) 9

-- A call of the line by rt goes well, and takes what answers from the state f to g. It is told how many numbers are in the line, and has as
-- many patterns, or as many as there is room for.
abbrev pub GoesWell :
    {F R E : Type 0} → (F → Bor R → Call → Result (Unit {0}) E → F → Type 0) → R → Form → ℕ → F → List ℕ → F → Type 0
GoesWell {R = R} step rt form room f line g =
    (at : Bor R) × (call : Call) × (at.now ≡ rt) × (call.line.now ≡ line) × (call.given ≡ numbers_given form line)
    × (length call.patterns.now ≡ min call.given room) × step f at call (Ok tt) g

-- Each line that ends in the text is answered once, in their order. Answering one takes what answers from one state to the next.
abbrev pub Answered : {F : Type 0} → (F → List ℕ → F → Type 0) → F → List ℕ → F → Type 0
Answered answers f text g = (lines : List (List ℕ)) × Lines lines text × FoldsTo answers f lines g
