-- `tables::lay` meets its contract: after b turns the first b entries are laid. Assumes nothing.
use mathlib.Core.Path.{◌≡◌}
use Rattle.wires.specs.Wires.{sixteen, none}
use Rattle.tables.specs.Tables.{lay_to}
use Rattle.tables.proofs.lay.Given as goal

abbrev pub invariant-loop-b : goal.invariant-loop-b
invariant-loop-b l = l.store.words ≡ lay_to l.set-items l.b (none sixteen)
