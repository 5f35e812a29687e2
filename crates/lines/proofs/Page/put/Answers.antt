-- `Page::put` meets its contract: a part of the text is what was copied into it. Assumes nothing.
use Rattle.std.proofs.Common.{arith, rules}
use Rattle.lines.proofs.PutLaws.{put_part}
use Rattle.lines.proofs.Page.put.Goals as goal

pub returns : goal.returns
returns c =
    record { put = put_part _ _ _ _ _ c.requires c.copy_from_slice.ensures.after (omega arith); same_text = search rules }
