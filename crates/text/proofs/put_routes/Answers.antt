-- `text::put_routes` meets its contract. The loop's invariant: the lines of the boxes passed are put. Assumes nothing.
use Rattle.std.proofs.Common.{◌≡◌, refl, ◌∙◌, arith}
use Rattle.sets.specs.Stores.{stored_none, stored_room, stored_next}
use Rattle.lines.proofs.PutLaws.{put_stored}
use Rattle.text.specs.Text.{routes}
use Rattle.text.proofs.put_routes.Goals as goal

pub loop-i-init : goal.loop-i-init
loop-i-init c = record { within = omega arith; stored = stored_none _ _ _; same_text = refl }

pub put_box-requires : goal.put_box-requires
unfolding routes
put_box-requires c =
    let p = c.requires in
    let l = c.loop-i-test.true in
    (omega arith, (p.0, stored_room _ _ _ _ _ _ c.loop-i.invariant.stored _ l p.1))

pub loop-i-preserved : goal.loop-i-preserved
loop-i-preserved c =
    let s = c.put_box.ensures in
    record {
      within = omega arith;
      stored = stored_next _ _ _ _ _ _ c.loop-i.invariant.stored _ _ s.put.next s.put.holds;
      same_text = s.same_text ∙ c.loop-i.invariant.same_text;
    }

pub returns : goal.returns
unfolding routes
returns c =
    let e : c.loop-i.i ≡ c.args.boxes = omega arith in
    record { put = put_stored (rw e at c.loop-i.invariant.stored); same_text = c.loop-i.invariant.same_text }
