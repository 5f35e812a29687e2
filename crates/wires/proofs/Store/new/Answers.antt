-- `wires::Store::new` meets its contract. Assumes nothing.
use Rattle.wires.specs.Wires.{sixteen, none}
use Rattle.wires.proofs.Laws.{none_law, sixteen_proper}
use Rattle.wires.proofs.Store.new.Goals as goal

pub returns : goal.returns
unfolding none
returns c = none_law sixteen sixteen_proper
