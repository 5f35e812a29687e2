-- `turns::run_turns`: the state has at most t turns left, and the whole run is what at most t turns make of the row, the store and the state now. Assumes nothing.
use Rattle.std.proofs.Common.{◌≡◌, ℕ, ◌≤◌, length}
use Rattle.boxes.specs.Record.{shown_row}
use Rattle.turn.specs.Code.{flat}
use Rattle.turns.specs.Turns.{turns_def}
use Rattle.turns.specs.Parts.{going_with}
use Rattle.turns.proofs.run_turns.Given as goal

abbrev pub invariant-loop-c : goal.invariant-loop-c
invariant-loop-c l =
    let list = flat l.list in
    let n = length l.list in
    (t : ℕ) × ((l.c.left ≤ t) × (turns_def t list (going_with (shown_row l.row) l.store.words l.c n) ≡ turns_def l.initial.c.left list (going_with (shown_row l.initial.row) l.initial.store.words l.initial.c n)))

abbrev pub decreases-loop-c : goal.decreases-loop-c
decreases-loop-c l = l.c.left
