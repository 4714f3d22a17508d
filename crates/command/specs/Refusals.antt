-- The number of each refusal, with the word that document 01's table has for it. Definitions only.
use Rattle.std.specs.Prelude.{ℕ}
use Rattle.command.specs.declared.Refusal.{Refusal}
use Rattle.command.specs.declared.Refusal.TheVariants.{Empty, TooMany, OutOfRange, Unlisted, Unsupported, BrokenNesting, NotMergeable, TooShort, NoSuchCopy, NotFinite, BufferTooSmall, OutOfBounds}

-- bare, crowded, off the bench, unknown mark, held back, broken nest, won't join, too short, no such copy, burst, small tray, lost place
abbrev pub refusal_number : Refusal → ℕ
refusal_number Empty = 1
refusal_number TooMany = 2
refusal_number OutOfRange = 3
refusal_number Unlisted = 4
refusal_number Unsupported = 5
refusal_number BrokenNesting = 6
refusal_number NotMergeable = 7
refusal_number TooShort = 8
refusal_number NoSuchCopy = 9
refusal_number NotFinite = 10
refusal_number BufferTooSmall = 11
refusal_number OutOfBounds = 12
