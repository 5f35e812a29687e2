-- `Draft::put_links` meets its contract. The loop's invariant: the rows passed are stored. Assumes nothing.
use Rattle.std.proofs.Common.{refl, ◌∙◌, arith}
use Rattle.rules.specs.Sheet.{link_bytes}
use Rattle.sets.specs.Stores.{stored_none, stored_room, stored_next}
use Rattle.writing.proofs.Draft.put_links.Goals as goal

pub loop-i-init : goal.loop-i-init
loop-i-init c = record { within = omega arith; stored = stored_none _ _ _; same_buffer = refl }

pub put_row-requires : goal.put_row-requires
unfolding link_bytes
put_row-requires c =
    let l = c.loop-i-test.true in
    (stored_room _ _ _ _ _ _ c.loop-i.invariant.stored _ l c.requires, l)

pub loop-i-preserved : goal.loop-i-preserved
loop-i-preserved c =
    let s = c.put_row.ensures in
    let m = c.loop-i.invariant in
    record { within = omega arith; stored = stored_next _ _ _ _ _ _ m.stored _ _ s.next s.holds; same_buffer = s.same_buffer ∙ m.same_buffer }
