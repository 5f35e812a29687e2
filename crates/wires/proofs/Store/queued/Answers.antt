-- `wires::Store::queued` meets its contract. Assumes nothing.
use mathlib.Core.Path.{sym, ◌∙◌}
use Rattle.wires.specs.Wires.{sixteen}
use Rattle.wires.proofs.Laws.{queue_length}
use Rattle.wires.proofs.Store.queued.Goals as goal

pub returns : goal.returns
returns c = record { answer = c.count.ensures; list = c.count.ensures ∙ sym (queue_length sixteen _ _) }
