-- `wires::Store::under_way` meets its contract. Assumes nothing.
use mathlib.Core.Path.{sym, ◌∙◌}
use Rattle.wires.specs.Wires.{sixteen}
use Rattle.wires.proofs.Laws.{way_length}
use Rattle.wires.proofs.Store.under_way.Goals as goal

pub returns : goal.returns
returns c = record { answer = c.count.ensures; list = c.count.ensures ∙ sym (way_length sixteen _ _) }
