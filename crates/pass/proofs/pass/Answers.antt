-- `pass::pass` meets its contract: at each turn what is still to pass comes to what was to pass at first. Assumes nothing.
use Rattle.std.proofs.Common.{ℕ, List, sym, ap, ◌∙◌, length, arith, rules}
use Rattle.turn.specs.Code.{flat}
use Rattle.turn.specs.Turn.{Put}
use Rattle.pass.specs.Code.{carried_with}
use Rattle.pass.specs.Pass.{pass_all}
use Rattle.pass.proofs.Laws.{pass_less, pass_over, pass_stops, pass_next}
use Rattle.pass.proofs.pass.Goals as goal

pub loop-c-smaller : goal.loop-c-smaller
loop-c-smaller c =
    let l = c.loop-c in
    let list = c.args.list.now in
    omega (arith, ap (λ (z : Put). z.turn.left) c.in-Some.ensures.1, pass_less (flat list) (carried_with l.store.words l.c (length list)) c.loop-c-test.true)

pub loop-c-preserved : goal.loop-c-preserved
loop-c-preserved c =
    let l = c.loop-c in
    let list = c.args.list.now in
    let one = c.in-Some.ensures in
    ap (pass_all (flat list)) one.1 ∙ sym (pass_next (flat list) (carried_with l.store.words l.c (length list)) c.loop-c-test.true one.0) ∙ l.invariant

pub returns-in-None : goal.returns-in-None
returns-in-None c =
    let l = c.loop-c in
    let list = c.args.list.now in
    let none = c.in-None.ensures in
    none.1 ∙ sym (pass_stops l.c.left (flat list) (carried_with l.store.words l.c (length list)) none.0) ∙ l.invariant

pub returns : goal.returns
returns c = sym (pass_over _ _ _ (omega arith)) ∙ c.loop-c.invariant
