-- `mail::clear_all` meets its contract: at each turn the queues of the links that remain are still to be emptied. Assumes nothing.
use Rattle.std.proofs.Common.{◌≡◌}
use Rattle.mail.specs.Gather.{clear_to}
use Rattle.mail.proofs.clear_all.Given as goal

abbrev pub invariant-loop-j : goal.invariant-loop-j
invariant-loop-j l = clear_to l.b l.j-iterator.rest 16 l.store.words ≡ clear_to l.b l.links 16 l.initial.store.words
