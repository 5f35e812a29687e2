-- `tables::Table::set` meets its contract. Assumes nothing.
use mathlib.Core.Path.{refl}
use Rattle.tables.specs.Tables.{with_entry}
use Rattle.tables.proofs.Laws.{put_waits, table_low}
use Rattle.tables.proofs.Table.set.Goals as goal

pub returns : goal.returns
unfolding with_entry
returns c = rw (c.at.ensures, c.from.ensures) (record { words = refl; wires = λ i. put_waits _ _ _ i (table_low _ _ c.requires) })
