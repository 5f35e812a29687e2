-- The answer of this crate's call as the outcome of the rules. A definition alone.
use Rattle.std.specs.Prelude.{ℕ, List, Result, Ok, Err}
use Rattle.rules.specs.Calls.{Written}
use Rattle.refusals.specs.declared.Refusal.{Refusal}
use Rattle.refusals.specs.Numbers.{number}

-- the answer, with what it leaves in the lent buffer, as the rules have it: 0 and the bytes written; or the refusal's number, and 0
abbrev pub written_of : Result ℕ Refusal → List ℕ → Written
written_of (Ok size) buffer = record { number = 0; size = size; buffer = buffer }
written_of (Err e) buffer = record { number = number e; size = 0; buffer = buffer }
