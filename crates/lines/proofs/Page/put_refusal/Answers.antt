-- `Page::put_refusal` meets its contract: two parts, one after the other. Assumes nothing.
use Rattle.std.proofs.Common.{length, ap, ◌∙◌, arith, rules}
use Rattle.lines.specs.Words.{word_line}
use Rattle.lines.specs.Lines.{refusal}
use Rattle.lines.proofs.PutLaws.{put_then, put_left}
use Rattle.lines.proofs.LineLaws.{refusal_length}
use Rattle.lines.proofs.Page.put_refusal.Goals as goal

pub put-requires : goal.put-requires
put-requires c =
    let e = c.line.ensures ∙ ap word_line c.word_of.ensures in
    put_left c.put_named.ensures.put _ (omega (arith, refusal_length c.args.number, ap length e))

pub returns : goal.returns
unfolding refusal
returns c =
    record { put = put_then c.put_named.ensures.put (rw (c.line.ensures ∙ ap word_line c.word_of.ensures) at c.put.ensures.put); same_text = search rules }
