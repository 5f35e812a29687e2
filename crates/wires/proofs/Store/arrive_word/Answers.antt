-- `wires::Store::arrive_word` meets its contract: the words it leaves are those of the law of arrivals. Assumes nothing.
use borrow.Author.Tests.{eq-eqb, ne_eqb}
use mathlib.Core.Logic.{◌≢◌}
use mathlib.Core.Path.{◌≡◌, sym, ◌∙◌}
use Rattle.wires.specs.Wires.{sixteen, under_way, oldest}
use Rattle.wires.proofs.Laws.{arrive_yes, arrive_no, sixteen_proper}
use Rattle.wires.proofs.Store.arrive_word.Goals as goal

pub returns-then-way-eq0 : goal.returns-then-way-eq0
unfolding oldest
returns-then-way-eq0 c =
    let none : under_way sixteen c.args.self.now.words c.args.wire.index ≡ 0 = sym c.count-way.ensures ∙ c.if-way-eq0.true in
    rw (eq-eqb _ _ none) at (arrive_no sixteen sixteen_proper _ _ c.args.self.now.size c.args.wire.within none)

pub returns : goal.returns
unfolding oldest
returns c =
    let some : under_way sixteen c.args.self.now.words c.args.wire.index ≢ 0 = λ e. c.if-way-eq0.false (c.count-way.ensures ∙ e) in
    rw (c.base.ensures, c.base-2.ensures, c.base-3.ensures, c.count-head.ensures, c.count-queued.ensures, c.count-way.ensures)
    (rw (ne_eqb _ _ some) at (arrive_yes sixteen sixteen_proper _ _ c.args.self.now.size c.args.wire.within some))
