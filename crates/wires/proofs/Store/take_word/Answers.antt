-- `wires::Store::take_word` meets its contract: the words it leaves are those of the law of messages taken. Assumes nothing.
use borrow.Author.Tests.{eq-eqb, ne_eqb}
use mathlib.Core.Logic.{◌≢◌}
use mathlib.Core.Path.{◌≡◌, sym, ◌∙◌}
use Rattle.wires.specs.Wires.{sixteen, queued, taken_word, front}
use Rattle.wires.proofs.Laws.{take_yes, take_no, sixteen_proper}
use Rattle.wires.proofs.Store.take_word.Goals as goal

pub returns-then-queued-eq0 : goal.returns-then-queued-eq0
unfolding taken_word
returns-then-queued-eq0 c =
    let none : queued sixteen c.args.self.now.words c.args.wire.index ≡ 0 = sym c.count-queued.ensures ∙ c.if-queued-eq0.true in
    rw (eq-eqb _ _ none) at (take_no sixteen sixteen_proper _ _ c.args.self.now.size c.args.wire.within none)

pub returns : goal.returns
unfolding taken_word front
returns c =
    let some : queued sixteen c.args.self.now.words c.args.wire.index ≢ 0 = λ e. c.if-queued-eq0.false (c.count-queued.ensures ∙ e) in
    simp (c.base.ensures, c.base-2.ensures, c.base-3.ensures, c.count-head.ensures, c.count-queued.ensures)
    (rw (ne_eqb _ _ some) at (take_yes sixteen sixteen_proper _ _ c.args.self.now.size c.args.wire.within some))
