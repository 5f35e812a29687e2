-- `put_board` meets its contract. The loop's invariant: the blocks of the boxes passed are stored. Assumes nothing.
use native.Mathlib.Omega.{arith}
use mathlib.Core.Path.{◌≡◌}
use mathlib.Core.Path.{sym, ap, ◌∙◌}
use lib.ListN.{length, get_or}
use lib.Seq.{sets}
use Prim.Native.Nat.{◌*◌}
use Rattle.std.proofs.Common.{get_or-take}
use Rattle.std.proofs.lemmas.List.{get_or-map}
use Rattle.rules.specs.Hub.{block}
use Rattle.sets.specs.Stores.{stored_none, stored_next, stored_front}
use Rattle.boxes.specs.Record.{Record, shown, shown_row, box_of, blank}
use Rattle.board.proofs.Laws.{put_sets}
use Rattle.board.proofs.put_board.Goals as goal

pub loop-i-init : goal.loop-i-init
loop-i-init c = stored_none _ _ _

pub loop-i-preserved : goal.loop-i-preserved
loop-i-preserved c =
    let a = c.loop-i in
    let x = c.args in
    let row = shown_row x.row.now in
    let is : c.put_block.new.words ≡ block (box_of (get_or row a.i blank)) = c.put_block.ensures ∙ ap (λ (r : Record). block (box_of r)) (ap shown (get_or-take x.boxes x.row.now a.i _ (omega arith)) ∙ sym (get_or-map shown x.row.now a.i _ blank (omega arith))) in
    stored_next _ _ _ _ _ _ a.invariant _ _ (omega (arith, ap length is)) (put_sets _ (66 * a.i) a.board c.put_block.new.words (omega arith) (omega arith) ∙ ap (sets a.board (66 * a.i)) is)

pub returns : goal.returns
returns c =
    let e : c.loop-i.i ≡ c.args.boxes = omega arith in
    stored_front _ _ _ _ _ (rw e at c.loop-i.invariant) c.requires.1
