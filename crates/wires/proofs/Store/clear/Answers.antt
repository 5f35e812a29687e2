-- `wires::Store::clear` meets its contract: the words it leaves are those of the law of emptied queues. Assumes nothing.
use Rattle.wires.specs.Wires.{sixteen, cleared}
use Rattle.wires.proofs.Laws.{clear_law, sixteen_proper}
use Rattle.wires.proofs.Store.clear.Goals as goal

pub returns : goal.returns
unfolding cleared
returns c =
    rw (c.base.ensures, c.base-2.ensures, c.count-head.ensures, c.count-queued.ensures)
    (clear_law sixteen sixteen_proper _ _ c.args.self.now.size c.args.wire.within)
