-- `Page::put_line` meets its contract: four numbers, one after the other. Assumes nothing.
use Rattle.std.proofs.Common.{arith, rules}
use Rattle.lines.proofs.LineLaws.{line_length}
use Rattle.lines.specs.Lines.{line}
use Rattle.lines.proofs.PutLaws.{put_then, put_left}
use Rattle.lines.proofs.Page.put_line.Goals as goal

pub put_field-requires-2 : goal.put_field-requires-2
put_field-requires-2 c = let a = c.args in put_left c.put_field.ensures.put _ (omega (arith, line_length a.i a.j a.hops a.from))

pub put_field-requires-3 : goal.put_field-requires-3
put_field-requires-3 c =
    let a = c.args in
    put_left c.put_field-2.ensures.put _ (put_left c.put_field.ensures.put _ (omega (arith, line_length a.i a.j a.hops a.from)))

pub put_field-requires-4 : goal.put_field-requires-4
put_field-requires-4 c =
    let a = c.args in
    put_left c.put_field-3.ensures.put _
    (put_left c.put_field-2.ensures.put _ (put_left c.put_field.ensures.put _ (omega (arith, line_length a.i a.j a.hops a.from))))

pub returns : goal.returns
unfolding line
returns c =
    record { put = put_then (put_then (put_then c.put_field.ensures.put c.put_field-2.ensures.put) c.put_field-3.ensures.put) c.put_field-4.ensures.put; same_text = search rules }
