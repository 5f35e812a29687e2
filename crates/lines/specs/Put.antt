-- What it means that bytes are put into a lent text. Definitions alone.
use Rattle.std.specs.Prelude.{ℕ, ◌+◌, ◌≤◌, ◌≡◌, List, length}
use Rattle.std.proofs.lemmas.List.Edits.{sets}
use Rattle.lines.specs.declared.Page.{Page}

-- there is room for the bytes from the place `at` on
abbrev pub Room : List ℕ → ℕ → List ℕ → Type 0
Room text at bytes = at + length bytes ≤ length text

-- the bytes stand in the text from `at` on, the rest stays, and `place` is the place after them
pub record Put (before : List ℕ) (at : ℕ) (bytes : List ℕ) (place : ℕ) (after : List ℕ) : Type 0 where
  pub next : place ≡ at + length bytes
  pub holds : after ≡ sets before at bytes

-- the same of a page: where the next byte goes there is room for the bytes
abbrev pub HasRoom : Page → List ℕ → Type 0
HasRoom page bytes = Room page.text.now page.at bytes

-- the bytes are put there, and the page is still one of the same text
pub record Puts (before : Page) (bytes : List ℕ) (after : Page) : Type 0 where
  pub put : Put before.text.now before.at bytes after.at after.text.now
  pub same_text : after.text.ghost_name ≡ before.text.ghost_name
