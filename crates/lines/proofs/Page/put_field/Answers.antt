-- `Page::put_field` meets its contract: the digits of `io::decimal`, and a byte after them. Assumes nothing.
use Rattle.std.proofs.Common.{◌≡◌, take, arith, rules}
use Rattle.lines.specs.Lines.{decimal, field}
use Rattle.lines.proofs.PutLaws.{put_then, put_length}
use Rattle.lines.proofs.NumberLaws.{digits_are, digits_count}
use Rattle.lines.proofs.Page.put_field.Goals as goal

pub put-requires : goal.put-requires
put-requires c =
    let d = c.decimal-k in
    let e : take d.result d.new.out ≡ decimal c.args.n = digits_are _ _ d.new.out (omega arith) d.ensures.len d.ensures.digits in
    omega (arith, digits_count _ _ c.args.end d.new.out (omega arith) e)

pub put-requires-2 : goal.put-requires-2
put-requires-2 c =
    let d = c.decimal-k in
    let e : take d.result d.new.out ≡ decimal c.args.n = digits_are _ _ d.new.out (omega arith) d.ensures.len d.ensures.digits in
    omega (arith, digits_count _ _ c.args.end d.new.out (omega arith) e, c.put.ensures.put.next, put_length c.put.ensures.put)

pub returns : goal.returns
unfolding field
returns c =
    let d = c.decimal-k in
    let e : take d.result d.new.out ≡ decimal c.args.n = digits_are _ _ d.new.out (omega arith) d.ensures.len d.ensures.digits in
    record { put = rw e at (put_then c.put.ensures.put c.put-2.ensures.put); same_text = search rules }
