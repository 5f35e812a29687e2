-- From what `parse` gives to the answers of the calls on it. Assumes nothing.
use Prim.Native.Nat.{ℕ, ◌-◌, ◌*◌}
use mathlib.Core.Path.{◌≡◌}
use mathlib.Core.List.{List}
use lib.ListN.{length}
use borrow.Author.Tests.{eq-eqb, ne_eqb}
use Rattle.rules.specs.Outcome.{refuse, and_then}
use Rattle.rules.specs.Calls.{Read, Allowed, reading, read_answer, read_call, allowance_answer, allowance_call}
use Rattle.sheet.specs.Answers.{Parsed, ParsedFrom}
use Rattle.sheet.proofs.SheetLaws.{sheet_accepted, sheet_refused}

module _ {s : List ℕ} {r : Parsed} (h : ParsedFrom s r) where
  pub read_refused : (table : List ℕ) → (r.number ≡ 0 → ⊥) → ◌≡◌ {A = Read} (record { number = r.number; boxes = 0; links = 0; table = table }) (read_call s table)
  unfolding read_call reading read_answer and_then
  read_refused table f = rw (sheet_refused h f).1

  pub read_no_room : (table : List ℕ) → r.number ≡ 0 → (length table ≡ 16 → ⊥) → ◌≡◌ {A = Read} (record { number = 12; boxes = 0; links = 0; table = table }) (read_call s table)
  unfolding read_call reading read_answer and_then refuse
  read_no_room table z f = rw (sheet_accepted h z, ne_eqb (length table) 16 f)

  pub read_done : (table : List ℕ) → r.number ≡ 0 → length table ≡ 16
      → ◌≡◌ {A = Read} (record { number = 0; boxes = r.boxes; links = r.links; table = r.table }) (read_call s table)
  unfolding read_call reading read_answer and_then refuse
  read_done table z l = rw (sheet_accepted h z, eq-eqb (length table) 16 l)

  pub allowance_refused : (r.number ≡ 0 → ⊥) → ◌≡◌ {A = Allowed} (record { number = r.number; identities = 0 }) (allowance_call s)
  unfolding allowance_call allowance_answer
  allowance_refused f = rw (sheet_refused h f).1

  pub allowance_done : r.number ≡ 0 → ◌≡◌ {A = Allowed} (record { number = 0; identities = 2 * r.links * (2 * r.boxes - 1) }) (allowance_call s)
  unfolding allowance_call allowance_answer
  allowance_done z = rw (sheet_accepted h z)
