-- Names for the contracts of the functions that do turns. Definitions alone.
use Rattle.std.specs.Prelude.{ℕ, List}
use Rattle.boxes.specs.Record.{Record, shown_row}
use Rattle.turn.specs.declared.Carried.{Carried}
use Rattle.turn.specs.Turn.{Turn}
use Rattle.turn.specs.Code.{turn_with}
use Rattle.pass.specs.Pass.{kept, pass_all}
use Rattle.turns.specs.declared.Ran.{Ran as Left}
use Rattle.turns.specs.Turns.{Going, turn_def}

-- the row, the store and the state between two turns
abbrev pub going : List Record → List ℕ → Turn → Going
going row s c = record { row = row; store = s; turn = c }

-- the same of what code carries by value, where the list has so many pairs: the tables stand in the store
abbrev pub going_with : List Record → List ℕ → Carried → ℕ → Going
going_with row s c pairs = going row s (turn_with c pairs s)

-- what a run leaves: the row, as it shows, and the last turn's state
pub record Ran : Type 0 where
  pub row : List Record
  pub turn : Carried

abbrev pub shown_ran : Left → Ran
shown_ran r = record { row = shown_row r.row; turn = r.turn }

abbrev pub ran : List Record → Carried → Ran
ran row c = record { row = row; turn = c }

-- the same of what is carried between turns
abbrev pub ran_of : Going → Ran
ran_of g =
    let c = g.turn in
    record { row = g.row; turn = record { left = c.left; at = c.at; sent = c.sent; moved = c.moved; full = c.full; awake = c.awake; stopped = c.stopped } }

-- ---- a turn, and those after it that touch no record

abbrev pub pass_going : List ℕ → Going → Going
pass_going list g = let q = pass_all list (kept g.store g.turn) in going g.row q.store q.turn

abbrev pub on_def : List ℕ → Going → Going
on_def list g = pass_going list (turn_def list g)
