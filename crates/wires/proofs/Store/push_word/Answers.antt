-- `wires::Store::push_word` meets its contract: the words it leaves are those of the law of pushes. Assumes nothing.
use Rattle.wires.specs.Wires.{sixteen}
use Rattle.wires.proofs.Laws.{push_yes, push_no, sixteen_proper}
use Rattle.wires.proofs.Store.push_word.Goals as goal

pub returns-then-queued-way-lt-ROOM : goal.returns-then-queued-way-lt-ROOM
returns-then-queued-way-lt-ROOM c =
    rw (c.base.ensures, c.base-then-queued-way-lt-ROOM.ensures, c.count-head.ensures, c.count-queued.ensures, c.count-way.ensures)
    (push_yes sixteen sixteen_proper _ _ c.args.self.now.size c.args.wire.within _ (rw (c.count-queued.ensures, c.count-way.ensures) at c.if-queued-way-lt-ROOM.true))

pub returns : goal.returns
returns c =
    push_no sixteen sixteen_proper _ _ c.args.self.now.size c.args.wire.within _ (rw (c.count-queued.ensures, c.count-way.ensures) at c.if-queued-way-lt-ROOM.false)
