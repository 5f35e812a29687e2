-- `Draft::put_links` meets its contract. The loop's invariant: the rows passed are stored. Assumes nothing.
use Rattle.std.proofs.Common.{◌≡◌, ◌≤◌}
use Rattle.sets.specs.Stores.{Stored}
use Rattle.writing.specs.Writing.{row_bytes}
use Rattle.writing.proofs.Draft.put_links.Given as goal

abbrev pub invariant-loop-i : goal.invariant-loop-i
invariant-loop-i l = record {
  within : l.i ≤ 16;
  stored : Stored (row_bytes 16 l.t) l.initial.self.at l.i l.self.at l.initial.self.buffer.now l.self.buffer.now;
  same_buffer : l.self.buffer.ghost_name ≡ l.initial.self.buffer.ghost_name;
}
