-- `put_block` meets its contract: two words and four tables, each after the one before. Assumes nothing.
use Rattle.std.proofs.Common.{◌≡◌, refl, length, rules}
use Rattle.boxes.specs.Record.{shown, box_of}
use Rattle.board.proofs.Laws.{block_put}
use Rattle.board.proofs.put_block.Goals as goal

pub returns : goal.returns
unfolding box_of
returns c =
    let x = box_of (shown c.args.r.now) in
    let n : length x.nodes ≡ 16 = search rules in
    let i : length x.in_spt ≡ 16 = search rules in
    let o : length x.not_spt ≡ 16 = search rules in
    let l : length x.neighbors ≡ 16 = search rules in
    block_put 16 x n i o l c.args.words.now _ _ _ _ _ c.requires refl c.copy_from_slice.ensures.after c.copy_from_slice-2.ensures.after c.copy_from_slice-3.ensures.after c.copy_from_slice-4.ensures.after
