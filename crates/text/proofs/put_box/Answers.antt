-- `text::put_box` meets its contract. The loop's invariant: the lines for the origins passed are put. Assumes nothing.
use Rattle.std.proofs.Common.{refl, ◌∙◌, arith}
use Rattle.sets.specs.Stores.{stored_none, stored_room, stored_next}
use Rattle.text.proofs.put_box.Goals as goal

pub loop-j-init : goal.loop-j-init
loop-j-init c = record { within = omega arith; stored = stored_none _ _ _; same_text = refl }

pub put_route-requires : goal.put_route-requires
put_route-requires c =
    let p = c.requires in
    let l = c.loop-j-test.true in
    (p.0, (omega arith, stored_room _ _ _ _ _ _ c.loop-j.invariant.stored _ l p.1.1))

pub loop-j-preserved : goal.loop-j-preserved
loop-j-preserved c =
    let s = c.put_route.ensures in
    record {
      within = omega arith;
      stored = stored_next _ _ _ _ _ _ c.loop-j.invariant.stored _ _ s.put.next s.put.holds;
      same_text = s.same_text ∙ c.loop-j.invariant.same_text;
    }
