-- `boxes::take_sets` meets its contract: while links remain, the tables, what is known and what was gained are as Taking says. Assumes nothing.
use Rattle.boxes.specs.Record.{shown}
use Rattle.boxes.specs.Taking.{Mid}
use Rattle.boxes.proofs.take_sets.Given as goal

abbrev pub invariant-loop-j : goal.invariant-loop-j
invariant-loop-j l = Mid l.links l.heads (shown l.initial.r) l.j-iterator.rest l.known l.gained (shown l.r)
