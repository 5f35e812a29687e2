-- `wires::Store::first_word` meets its contract. Assumes nothing.
use Rattle.wires.specs.Wires.{sixteen, front}
use Rattle.wires.proofs.Laws.{first_law, sixteen_proper}
use Rattle.wires.proofs.Store.first_word.Goals as goal

pub returns : goal.returns
unfolding front
returns c = rw (c.base.ensures, c.count-head.ensures) (first_law sixteen sixteen_proper _ _ c.args.self.now.size c.args.wire.within)
