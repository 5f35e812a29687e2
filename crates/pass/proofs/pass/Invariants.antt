-- `pass::pass` meets its contract: at each turn what is still to pass comes to what was to pass at first. Assumes nothing.
use Rattle.std.proofs.Common.{◌≡◌, length}
use Rattle.turn.specs.Code.{flat}
use Rattle.pass.specs.Code.{carried_with}
use Rattle.pass.specs.Pass.{pass_all}
use Rattle.pass.proofs.pass.Given as goal

abbrev pub invariant-loop-c : goal.invariant-loop-c
invariant-loop-c l =
    let list = flat l.list in
    let n = length l.list in
    pass_all list (carried_with l.store.words l.c n) ≡ pass_all list (carried_with l.initial.store.words l.initial.c n)

abbrev pub decreases-loop-c : goal.decreases-loop-c
decreases-loop-c l = l.c.left
