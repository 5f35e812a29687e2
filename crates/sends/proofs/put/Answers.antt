-- `sends::put` meets its contract: each part of what is carried on is what the turn's definition has there. Assumes nothing.
use Rattle.std.proofs.Common.{◌≡◌, ◌&&◌, ◌||◌}
use Rattle.boxes.specs.Departure.{shown_departure}
use Rattle.sends.proofs.Laws.{put_store, put_turn}
use Rattle.sends.proofs.put.Goals as goal
use Rattle.sends.proofs.put.Goals.{then-o, else-o}

pub returns : goal.returns
returns c =
    let x = c.args in
    let o = shown_departure x.o in
    let ended : c.if-o.ended ≡ o.stops && (o.wakes || o.round) = elim c.if-o.branch [
      | then-o w ↦ rw (w.ended-is, w.if-o.true) w.sends-ended.ensures
      | else-o w ↦ rw (w.ended-is, w.if-o.false)
    ] in
    let turn = put_turn x.store.now.words _ _ _ o x.c.now x.pairs c.post_all.new.c _ _ _ c.of-links.ensures (rw c.of.ensures at c.less_busy-to.ensures) ended c.clear_ended.ensures c.post_all.ensures c.keep_tables.ensures c.after.new.self c.mark.new.self c.after.ensures c.mark.ensures in
    let store = put_store x.store.now.words _ _ _ o x.c.now x.pairs c.post_all.new.c _ _ _ c.of-links.ensures (rw c.of.ensures at c.less_busy-to.ensures) ended c.clear_ended.ensures c.post_all.ensures c.keep_tables.ensures in
    (turn, store)
