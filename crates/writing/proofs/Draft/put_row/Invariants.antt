-- `Draft::put_row` meets its contract. The loop's invariant: the pairs passed are stored. Assumes nothing.
use Rattle.std.proofs.Common.{◌≡◌, ◌≤◌}
use Rattle.sets.specs.Stores.{Stored}
use Rattle.writing.specs.Writing.{pair_of}
use Rattle.writing.proofs.Draft.put_row.Given as goal

abbrev pub invariant-loop-j : goal.invariant-loop-j
invariant-loop-j l = record {
  within : l.j ≤ 16;
  stored : Stored (pair_of l.t l.i) l.initial.self.at l.j l.self.at l.initial.self.buffer.now l.self.buffer.now;
  same_buffer : l.self.buffer.ghost_name ≡ l.initial.self.buffer.ghost_name;
}
