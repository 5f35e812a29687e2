-- `turn::next_pair` meets its contract. Assumes nothing.
use Rattle.std.proofs.Common.{[]}
use Rattle.turn.proofs.Laws.{pair_listed}
use Rattle.turn.proofs.next_pair.Goals as goal

pub returns-in-Some : goal.returns-in-Some
returns-in-Some c = let at = c.in-Some.ensures.lookup.3 in pair_listed c.args.list.now _ _ _ at.0 (at.1 [])
