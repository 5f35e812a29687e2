-- `Members::next` meets its contract: a set is less without its lowest box. Assumes nothing.
use Rattle.std.proofs.Common.{rules, ◌<◌, ◌^◌}
use Rattle.sets.specs.Loops.{rest_less}
use Rattle.sets.proofs.MembersIterator.next.Goals as goal

pub returns-clause-goes : goal.returns-clause-goes
returns-clause-goes c =
    let small : c.args.self.now.rest < 2 ^ 16 = search rules in
    let is = c.in_ok-j.ensures in
    let less = rest_less 16 small is.0 is.1.0 c.only.ensures c.minus-self.ensures in
    search rules
