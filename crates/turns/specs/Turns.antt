-- Turns of a run as code does them, the row of records, the store and the state in hand: one turn, turns while some are left, and the whole from a sleeping hub.
-- Written with the parts of a turn and a box's step. Definitions alone; that turns come to the rules' run and drain is in Shows.
use Rattle.std.specs.Prelude.{ℕ, zero, suc, ◌+◌, ◌/◌, false, cond, List, eqb, length, get_or, set, replicate}
use Rattle.rules.specs.Box.{asleep}
use Rattle.tables.specs.Tables.{laid}
use Rattle.boxes.specs.Record.{Record, record_of, blank}
use Rattle.boxes.specs.Step.{step_def}
use Rattle.turn.specs.Turn.{Turn, Carried, turn_of, took_def, put_def}

-- ---- turns

pub record Going : Type 0 where
  pub row : List Record
  pub store : List ℕ
  pub turn : Turn

unfoldable pub turn_def : List ℕ → Going → Going
turn_def list g =
    let k = took_def list g.store g.turn in
    let b = k.arrival.own in
    let q = step_def (get_or g.row b blank) k.arrival in
    let p = put_def k.store q.out g.turn in
    record { row = set g.row b q.«record»; store = p.store; turn = p.turn }

-- at most n turns, while some are left
unfoldable pub turns_def : ℕ → List ℕ → Going → Going
turns_def zero list g = g
turns_def (suc n) list g = cond (eqb g.turn.left 0) g (turns_def n list (turn_def list g))

-- ---- the whole: from a sleeping hub, the pairs of the list, then at most budget deliveries

unfoldable pub first_turn : ℕ → ℕ → Carried
first_turn pairs budget = record {
  left = pairs + budget;
  at = 0;
  pairs = pairs;
  sent = 0;
  moved = 0;
  full = false;
  awake = 0;
  stopped = 0;
}

abbrev pub asleep_row : List Record
asleep_row = replicate 16 (record_of (asleep 16))

unfoldable pub own_def : List ℕ → List ℕ → ℕ → Going
own_def list links budget =
    let pairs = length list / 2 in
    turns_def (pairs + budget) list (record { row = asleep_row; store = laid links; turn = turn_of (first_turn pairs budget) (laid links) })
