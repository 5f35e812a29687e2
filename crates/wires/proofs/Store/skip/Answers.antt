-- `wires::Store::skip` meets its contract: the words it leaves are those of the law of messages dropped. Assumes nothing.
use mathlib.Core.Path.{sym, ◌∙◌}
use Rattle.wires.specs.Wires.{sixteen}
use Rattle.wires.proofs.Laws.{skip_yes, skip_empty, skip_queued, sixteen_proper}
use Rattle.wires.proofs.Store.skip.Goals as goal
use Rattle.wires.proofs.Store.skip.Goals.{else-queued-eq0-via-then-queued-eq0+else-way-ne0, else-queued-eq0-via-else-queued-eq0}

pub returns-then-way-ne0 : goal.returns-then-way-ne0
returns-then-way-ne0 c =
    rw (c.base.ensures, c.base-then-way-ne0.ensures, c.count-head.ensures, c.count-way.ensures)
    (skip_yes sixteen sixteen_proper _ _ c.args.self.now.size c.args.wire.within (sym c.count-queued.ensures ∙ c.if-queued-eq0.true) (λ e. c.if-way-ne0.true (c.count-way.ensures ∙ e)))

pub returns-else-queued-eq0 : goal.returns-else-queued-eq0
returns-else-queued-eq0 c =
    elim c.else-queued-eq0.branch [
      | else-queued-eq0-via-then-queued-eq0+else-way-ne0 w ↦
          skip_empty sixteen sixteen_proper _ _ c.args.self.now.size c.args.wire.within (sym c.count-queued.ensures ∙ w.if-queued-eq0.true) (sym c.count-way.ensures ∙ w.if-way-ne0.false)
      | else-queued-eq0-via-else-queued-eq0 w ↦
          skip_queued sixteen sixteen_proper _ _ c.args.self.now.size c.args.wire.within (λ e. w.if-queued-eq0.false (c.count-queued.ensures ∙ e))
    ]
