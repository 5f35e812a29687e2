-- `turn::take` meets its contract. Assumes nothing.
use Rattle.std.proofs.Common.{refl, ap, arith}
use Rattle.boxes.specs.Arrival.{shown_arrival}
use Rattle.turn.specs.Turn.{Took}
use Rattle.turn.specs.Parts.{receiver_of}
use Rattle.turn.specs.Code.{flat, turn_with}
use Rattle.turn.proofs.Laws.{take_delivers}
use Rattle.turn.proofs.take.Goals as goal

pub returns : goal.returns
unfolding receiver_of
returns c =
    let x = c.args in
    let oldest = c.take_oldest.ensures in
    let e = take_delivers (flat x.list.now) x.store.now.words c.take_oldest.new.store.words (turn_with x.c.now _ x.store.now.words) _ _ (shown_arrival c.take_oldest.result) c.in-Some.ensures refl c.if-p.false c.receiver-r-2.ensures oldest.0 in
    (ap (λ (k : Took). k.arrival) e, (ap (λ (k : Took). k.store) e, omega (arith, oldest.1)))
