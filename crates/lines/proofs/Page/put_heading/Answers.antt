-- `Page::put_heading` meets its contract: three parts, one after the other. Assumes nothing.
use Rattle.std.proofs.Common.{arith, rules}
use Rattle.lines.proofs.LineLaws.{heading_length}
use Rattle.lines.specs.Lines.{field, links_word, moved_word, heading}
use Rattle.lines.proofs.PutLaws.{put_both, put_left}
use Rattle.lines.proofs.Page.put_heading.Goals as goal

pub put_named-requires-2 : goal.put_named-requires-2
put_named-requires-2 c = let a = c.args in put_left c.put_named.ensures.put _ (omega (arith, heading_length a.boxes a.links a.moved))

pub put_named-requires-3 : goal.put_named-requires-3
put_named-requires-3 c =
    let a = c.args in
    put_left c.put_named-2.ensures.put _ (put_left c.put_named.ensures.put _ (omega (arith, heading_length a.boxes a.links a.moved)))

pub returns : goal.returns
unfolding heading
returns c =
    let a = c.args in
    let two = put_both c.put_named.ensures.put links_word (field a.links 32) c.put_named-2.ensures.put in
    record { put = put_both two moved_word (field a.moved 10) c.put_named-3.ensures.put; same_text = search rules }
