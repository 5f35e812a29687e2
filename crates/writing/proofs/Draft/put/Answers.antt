-- `Draft::put` meets its contract: a part of the buffer is what was copied into it. Assumes nothing.
use Rattle.std.proofs.Common.{arith, rules}
use Rattle.writing.proofs.PutLaws.{part_is}
use Rattle.writing.proofs.Draft.put.Goals as goal

pub returns : goal.returns
returns c = record {
  next = search rules;
  holds = part_is _ _ _ _ _ c.requires c.copy_from_slice.ensures.after (omega arith);
  same_buffer = search rules;
}
