-- `Draft::put_row` meets its contract. The loop's invariant: the pairs passed are stored. Assumes nothing.
use Rattle.std.proofs.Common.{refl, ◌∙◌, arith}
use Rattle.sets.specs.Stores.{stored_none, stored_room, stored_next}
use Rattle.writing.proofs.Draft.put_row.Goals as goal

pub loop-j-init : goal.loop-j-init
loop-j-init c = record { within = omega arith; stored = stored_none _ _ _; same_buffer = refl }

pub put_link-requires : goal.put_link-requires
put_link-requires c =
    let p = c.requires in
    let l = c.loop-j-test.true in
    (stored_room _ _ _ _ _ _ c.loop-j.invariant.stored _ l p.0, p.1, l)

pub loop-j-preserved : goal.loop-j-preserved
loop-j-preserved c =
    let s = c.put_link.ensures in
    let m = c.loop-j.invariant in
    record { within = omega arith; stored = stored_next _ _ _ _ _ _ m.stored _ _ s.next s.holds; same_buffer = s.same_buffer ∙ m.same_buffer }
