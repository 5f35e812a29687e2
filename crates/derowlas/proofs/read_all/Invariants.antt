-- `derowlas::read_all` meets its contract. The loop's invariant: the last bytes of what is held and what is left to read stay. Assumes nothing.
use Rattle.tail.specs.Last.{shown}
use Rattle.derowlas.specs.Reading.{SameLast}
use Rattle.derowlas.proofs.read_all.Given as goal

abbrev pub invariant-loop : goal.invariant-loop
invariant-loop g l = SameLast (shown l.initial.tail) (g.R.Read.remaining l.initial.from) (shown l.tail) (g.R.Read.remaining l.from)
