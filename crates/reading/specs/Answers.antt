-- A call's answer, with what it leaves in the lent words, as the rules have it: 0 and what was asked for; or the refusal's number, and zeros. Definitions
-- alone.
use Rattle.std.specs.Prelude.{ℕ, List, Result, Ok, Err}
use Rattle.rules.specs.Calls.{Read, Allowed}
use Rattle.refusals.specs.declared.Refusal.{Refusal}
use Rattle.refusals.specs.Numbers.{number}
use Rattle.reading.specs.declared.Reading.{Reading}

abbrev pub read_of : Result Reading Refusal → List ℕ → Read
read_of (Ok r) table = record { number = 0; boxes = r.boxes; links = r.links; table = table }
read_of (Err e) table = record { number = number e; boxes = 0; links = 0; table = table }

abbrev pub allowed_of : Result ℕ Refusal → Allowed
allowed_of (Ok n) = record { number = 0; identities = n }
allowed_of (Err e) = record { number = number e; identities = 0 }
