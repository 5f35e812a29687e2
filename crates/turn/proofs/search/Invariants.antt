-- `turn::search` meets its contract: the senders that were passed have nothing under way, and neither has this one to the receivers passed.
-- Assumes nothing.
use Rattle.std.proofs.Common.{◌≡◌, ℕ, ◌<◌, false, None}
use Rattle.rules.specs.Sets.{mem, word}
use Rattle.tables.specs.Tables.{busy_of}
use Rattle.turn.proofs.Laws.{Idle}
use Rattle.turn.proofs.search.Given as goal

abbrev pub invariant-loop-b : goal.invariant-loop-b
invariant-loop-b l = record {
  none : l.p ≡ None;
  sender : l.a < 16;
  to_is : l.to ≡ word (busy_of l.store.words) l.a;
  idle : Idle (busy_of l.store.words) l.a;
  passed : (t : ℕ) → t < l.b → mem t l.to ≡ false;
}

abbrev pub invariant-search : goal.invariant-search
invariant-search l = record { none : l.p ≡ None; idle : Idle (busy_of l.store.words) l.a }
