-- `Page::put_named` meets its contract: two parts, one after the other. Assumes nothing.
use Rattle.std.proofs.Common.{length, length-append, arith, rules}
use Rattle.lines.specs.Lines.{field}
use Rattle.lines.proofs.PutLaws.{put_then, put_left}
use Rattle.lines.proofs.Page.put_named.Goals as goal

pub put_field-requires : goal.put_field-requires
put_field-requires c =
    let a = c.args in
    put_left c.put.ensures.put (length (field a.n a.end)) (omega (arith, length-append a.word.now (field a.n a.end)))

pub returns : goal.returns
returns c =
    record { put = put_then c.put.ensures.put c.put_field.ensures.put; same_text = search rules }
