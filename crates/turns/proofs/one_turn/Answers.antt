-- `turns::one_turn` meets its contract: what is taken, the receiver's step and what goes out after it come to one turn and those that pass after it.
-- Assumes nothing.
use Rattle.std.proofs.Common.{length}
use Rattle.boxes.specs.Record.{shown_row}
use Rattle.boxes.specs.Arrival.{shown_arrival}
use Rattle.boxes.specs.Departure.{shown_departure}
use Rattle.turn.specs.Code.{flat}
use Rattle.turns.proofs.PassLaws.{on_is}
use Rattle.turns.proofs.one_turn.Goals as goal

pub returns : goal.returns
returns c =
    let list = c.args.list.now in
    on_is (flat list) (length list) (shown_row c.args.row.now) _ c.args.store.now.words c.take-h.new.store.words _ c.args.c.now c.go_on.new.c (shown_arrival c.take-h.result) (shown_departure c.deliver_at-o.result)
    c.take-h.ensures.0 c.take-h.ensures.1.0 c.deliver_at-o.ensures.0 c.deliver_at-o.ensures.1 c.go_on.ensures
