-- `mail::gather` meets its contract: at each turn all that a round takes from the links that remain is still to be taken. Assumes nothing.
use Rattle.std.proofs.Common.{◌≡◌}
use Rattle.mail.specs.Gather.{gather_to}
use Rattle.mail.specs.Gathered.{got_of}
use Rattle.mail.proofs.gather.Given as goal

abbrev pub invariant-loop-j : goal.invariant-loop-j
invariant-loop-j l = gather_to l.b l.j-iterator.rest 16 (got_of l.store.words l.all) ≡ gather_to l.b l.links 16 (got_of l.initial.store.words l.initial.all)
