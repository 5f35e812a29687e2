-- `turns::run_own` meets its contract: the run of the list's pairs from the first turn. Assumes nothing.
use Rattle.turns.proofs.Laws.{own_is}
use Rattle.turns.proofs.run_own.Goals as goal

pub returns : goal.returns
returns c = own_is c.args.list.now c.args.links _ _ _ _ c.as_chunks.ensures.front c.as_chunks.ensures.front_len c.first.ensures c.run_from.ensures
