-- `hub::do_all` meets its contract. Assumes nothing.
use Rattle.hub.proofs.HubLaws.{board_short, own_full, own_less, own_done}
use Rattle.hub.proofs.do_all.Goals as goal

pub returns-then-board-sheet : goal.returns-then-board-sheet
returns-then-board-sheet c =
    let s = c.args.sheet.now in
    board_short s.table c.requires.1.1.0 c.args.list.now c.requires.1.1.1 c.args.budget s.boxes c.requires.0 c.args.board.now c.if-board-sheet.true

pub returns-then-last : goal.returns-then-last
returns-then-last c =
    let s = c.args.sheet.now in
    own_full s.table c.requires.1.1.0 c.args.list.now c.requires.1.1.1 c.args.budget _ c.run_own-ran.ensures s.boxes c.requires.0 c.args.board.now c.if-board-sheet.false c.if-last.true

pub overflow_sub-under_way : goal.overflow_sub-under_way
overflow_sub-under_way c = own_less c.args.sheet.now.table c.requires.1.1.0 c.args.list.now c.requires.1.1.1 c.args.budget _ c.run_own-ran.ensures

pub returns : goal.returns
returns c =
    let s = c.args.sheet.now in
    own_done s.table c.requires.1.1.0 c.args.list.now c.requires.1.1.1 c.args.budget _ c.run_own-ran.ensures s.boxes c.requires.0 c.args.board.now c.if-board-sheet.false _ c.if-last.false c.put_board.ensures
