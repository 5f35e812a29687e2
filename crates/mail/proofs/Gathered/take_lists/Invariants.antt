-- `mail::Gathered::take_lists` meets its contract: at each turn the lists still at the head come to those that stood there at first. Assumes nothing.
use Rattle.std.proofs.Common.{◌≡◌}
use Rattle.wires.specs.Wires.{sixteen, queued}
use Rattle.mail.specs.Gather.{take_lists}
use Rattle.mail.specs.Gathered.{got_of}
use Rattle.mail.proofs.Gathered.take_lists.Given as goal

abbrev pub invariant-loop-origin : goal.invariant-loop-origin
invariant-loop-origin l =
    take_lists (queued sixteen l.store.words l.wire.index) l.wire.index (got_of l.store.words l.self) ≡ take_lists (queued sixteen l.initial.store.words l.wire.index) l.wire.index (got_of l.initial.store.words l.initial.self)

abbrev pub decreases-loop-origin : goal.decreases-loop-origin
decreases-loop-origin l = queued sixteen l.store.words l.wire.index
