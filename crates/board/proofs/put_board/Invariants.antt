-- `put_board` meets its contract. The loop's invariant: the blocks of the boxes passed are stored. Assumes nothing.
use Prim.Native.Nat.{◌*◌}
use lib.ListN.{get_or}
use Rattle.rules.specs.Hub.{block}
use Rattle.sets.specs.Stores.{Stored}
use Rattle.boxes.specs.Record.{shown_row, box_of, blank}
use Rattle.board.proofs.put_board.Given as goal

abbrev pub invariant-loop-i : goal.invariant-loop-i
invariant-loop-i l = Stored (λ k. block (box_of (get_or (shown_row l.fn.row) k blank))) 0 l.i (66 * l.i) l.initial.board l.board
