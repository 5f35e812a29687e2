-- `sends::post_all` meets its contract: at each turn all that goes to the links that remain is still to be posted. Assumes nothing.
use Rattle.std.proofs.Common.{◌≡◌}
use Rattle.boxes.specs.Departure.{shown_departure}
use Rattle.mail.specs.Letter.{posted}
use Rattle.turn.specs.Turn.{post_to}
use Rattle.sends.proofs.post_all.Given as goal

abbrev pub invariant-loop-j : goal.invariant-loop-j
invariant-loop-j l = post_to (shown_departure l.out) l.j-iterator.rest 16 (posted l.store.words l.c) ≡ post_to (shown_departure l.out) l.links 16 (posted l.initial.store.words l.initial.c)
