-- A text that grows in a buffer of bytes. Definitions only.
use Rattle.std.specs.Prelude.{◌≡◌, ℕ, ◌+◌, ◌≤◌, List, length}
use Rattle.std.proofs.lemmas.List.Edits.{sets}
use Rattle.plate_print.specs.declared.Text.{Text}

-- bytes are put down in the same buffer from the place on, and the place is the one after them
pub record Appended (old new : Text) (bytes : List ℕ) : Type 0 where
  pub buffer : new.out.ghost_name ≡ old.out.ghost_name
  pub stored : new.out.now ≡ sets old.out.now old.at bytes
  pub place : new.at ≡ old.at + length bytes

-- so many bytes more fit the buffer
abbrev pub HasRoom : Text → ℕ → Type 0
HasRoom text n = text.at + n ≤ length text.out.now
