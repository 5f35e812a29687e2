-- The answers of the hub's calls as the rules have them. A definition alone.
use Rattle.std.specs.Prelude.{ℕ, false, List, Result, Ok, Err}
use Rattle.rules.specs.Calls.{Ran}
use Rattle.refusals.specs.declared.Refusal.{Refusal}
use Rattle.refusals.specs.Numbers.{number}
use Rattle.hub.specs.declared.Answer.{Answer}

-- the answer with the board that it leaves: 0, the counts and whether none is under way; or the refusal's number, and zeros
abbrev pub answer_of : Result Answer Refusal → List ℕ → Ran
answer_of (Ok r) board = record { number = 0; sent = r.sent; moved = r.moved; under_way = r.under_way; finished = r.finished; board = board }
answer_of (Err e) board = record { number = number e; sent = 0; moved = 0; under_way = 0; finished = false; board = board }
