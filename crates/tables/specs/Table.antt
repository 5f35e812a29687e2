-- The code's name of a table, and which of the three it is. Definitions alone.
use Rattle.std.specs.Prelude.{ℕ, ◌+◌, List}
use Rattle.tables.specs.Tables.{with_entry, entries}
use Rattle.tables.specs.declared.Table.{Table}
use Rattle.tables.specs.declared.Table.TheVariants.{Links, Heard, Busy}

-- its first word in the store
abbrev pub begins : Table → ℕ
begins Links = 0
begins Heard = 16
begins Busy = 32

-- `links_of`, `heard_of` or `busy_of`
abbrev pub table_of : Table → List ℕ → List ℕ
table_of t s = entries s (begins t) 16

-- the entry of box b is x: `with_heard` or `with_busy`, and the same of the link table
abbrev pub with_table : Table → List ℕ → ℕ → ℕ → List ℕ
with_table t s b x = with_entry s (begins t + b) x
