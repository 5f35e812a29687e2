-- The answers of the calls as C has them, and what each says as the rules have it. Definitions alone.
use Rattle.std.specs.Prelude.{ℕ, ◌≡◌, false, List, Result, Ok, Err}
use Rattle.rules.specs.Calls.{Read, Allowed as AllowedAnswer, Written as WrittenAnswer, Ran as RanAnswer}
use Rattle.refusals.specs.declared.Refusal.{Refusal}
use Rattle.refusals.specs.Numbers.{number}
use Rattle.reading.specs.declared.Reading.{Reading as Found}
use Rattle.hub.specs.declared.Answer.{Answer}
use Rattle.derowlas_c.specs.declared.answers.Reading.{Reading}
use Rattle.derowlas_c.specs.declared.answers.Written.{Written}
use Rattle.derowlas_c.specs.declared.answers.Allowed.{Allowed}
use Rattle.derowlas_c.specs.declared.answers.Ran.{Ran}
use Rattle.derowlas_c.specs.declared.answers.Drained.{Drained}

-- ---- what C is answered: 0 and what was asked for; or the refusal's number, and zeros

abbrev pub reading_for : Result Found Refusal → Reading
reading_for (Ok r) = record { number = 0; boxes = r.boxes; links = r.links }
reading_for (Err e) = record { number = number e; boxes = 0; links = 0 }

abbrev pub written_for : Result ℕ Refusal → Written
written_for (Ok n) = record { number = 0; length = n }
written_for (Err e) = record { number = number e; length = 0 }

abbrev pub allowed_for : Result ℕ Refusal → Allowed
allowed_for (Ok n) = record { number = 0; identities = n }
allowed_for (Err e) = record { number = number e; identities = 0 }

abbrev pub ran_for : Result Answer Refusal → Ran
ran_for (Ok r) = record { number = 0; sent = r.sent; moved = r.moved; under_way = r.under_way }
ran_for (Err e) = record { number = number e; sent = 0; moved = 0; under_way = 0 }

abbrev pub drained_for : Result Answer Refusal → Drained
drained_for (Ok r) = record { number = 0; sent = r.sent; moved = r.moved; under_way = r.under_way; finished = r.finished }
drained_for (Err e) = record { number = number e; sent = 0; moved = 0; under_way = 0; finished = false }

-- ---- the same with what the call leaves in the lent words, as the rules have it

abbrev pub read_of : Reading → List ℕ → Read
read_of r table = record { number = r.number; boxes = r.boxes; links = r.links; table = table }

abbrev pub written_of : Written → List ℕ → WrittenAnswer
written_of r buffer = record { number = r.number; size = r.length; buffer = buffer }

abbrev pub allowed_of : Allowed → AllowedAnswer
allowed_of r = record { number = r.number; identities = r.identities }

abbrev pub drained_of : Drained → List ℕ → RanAnswer
drained_of r board = record { number = r.number; sent = r.sent; moved = r.moved; under_way = r.under_way; finished = r.finished; board = board }

-- a run's answer has no `finished`: every other field, and the board that it leaves
pub record Answers (r : Ran) (board : List ℕ) (a : RanAnswer) : Type 0 where
  pub number_is : r.number ≡ a.number
  pub sent_is : r.sent ≡ a.sent
  pub moved_is : r.moved ≡ a.moved
  pub under_way_is : r.under_way ≡ a.under_way
  pub board_is : board ≡ a.board
