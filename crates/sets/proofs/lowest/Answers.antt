-- `lowest`: the zeros below the lowest digit are the boxes below the lowest.
use Rattle.std.proofs.Common.{rules, ◌<◌, ◌^◌}
use Rattle.sets.specs.Loops.{trailing_least, lowest_lt}
use Rattle.sets.proofs.lowest.Goals as goal

pub returns : goal.returns
returns c =
    let small : c.args.s < 2 ^ 16 = search rules in
    let is = trailing_least 16 c.args.s in
    (c.if-s-eq0.false, (is, lowest_lt 16 small c.if-s-eq0.false is))
