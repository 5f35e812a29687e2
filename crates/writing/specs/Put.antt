-- What it means that bytes are put into a lent buffer. Definitions alone.
use Rattle.std.specs.Prelude.{ℕ, ◌+◌, ◌≤◌, ◌≡◌, List, length}
use Rattle.std.proofs.lemmas.List.Edits.{sets}
use Rattle.writing.specs.declared.Draft.{Draft}

-- where the next byte goes there is room for the bytes
abbrev pub HasRoom : Draft → List ℕ → Type 0
HasRoom sheet bytes = sheet.at + length bytes ≤ length sheet.buffer.now

-- the bytes stand there, the rest stays, the place is the one after them, and the buffer is still the same
pub record Puts (before : Draft) (bytes : List ℕ) (after : Draft) : Type 0 where
  pub next : after.at ≡ before.at + length bytes
  pub holds : after.buffer.now ≡ sets before.buffer.now before.at bytes
  pub same_buffer : after.buffer.ghost_name ≡ before.buffer.ghost_name
