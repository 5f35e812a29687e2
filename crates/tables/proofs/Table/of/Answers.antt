-- `tables::Table::of` meets its contract. Assumes nothing.
use mathlib.Core.Path.{sym}
use Rattle.tables.specs.Tables.{entry_of}
use Rattle.tables.proofs.Laws.{entries_at}
use Rattle.tables.proofs.Table.of.Goals as goal

pub returns : goal.returns
unfolding entry_of
returns c = rw c.at.ensures (sym (entries_at _ _ 16 _ c.requires))
