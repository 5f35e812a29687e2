-- What one delivery, or one start, makes of a box, and what goes out. Document 01, "The steps of a box": written with the definitions of the rules,
-- at 16 boxes. Two numbers are cut so that no call has a condition: a box's own number below 16, and HOP at the largest a record holds;
-- Laws says that neither cut is met. Definitions alone.
use Rattle.std.specs.Prelude.{ℕ, suc, ◌%◌, min, Bool, cond, List, eqb, set, replicate}
use Rattle.rules.specs.Sets.{without, word, words, for_each}
use Rattle.rules.specs.Box.{Box, started, take_sets, before, stops}
use Rattle.boxes.specs.Arrival.{Arrival}
use Rattle.boxes.specs.Departure.{Departure, shown_departure}
use Rattle.boxes.specs.declared.Stepped.{Stepped as Made}
use Rattle.boxes.specs.Record.{Record, box_of, record_of, shown}

-- the box's record, and what goes out
pub record Stepped : Type 0 where
  pub «record» : Record
  pub out : Departure

abbrev pub shown_step : Made → Stepped
shown_step s = record { «record» = shown s.«record»; out = shown_departure s.out }

-- "A sleeping receiver starts first."
unfoldable pub woken : Record → Arrival → Box
woken r a = cond a.wakes (started 16 (a.own % 16) a.links) (box_of r)

-- the sets at the heads are taken
abbrev pub taken : Arrival → Box → Box
taken a b = take_sets 16 a.links (word a.heads) b

-- "Add 1 to HOP. Stop if Nodes(HOP-1) is now empty."
unfoldable pub hopped : Box → Box
hopped b = record {
  state = cond (stops b) 2 1;
  hop = min (suc b.hop) 65535;
  nodes = b.nodes;
  in_spt = b.in_spt;
  not_spt = b.not_spt;
  neighbors = b.neighbors;
}

-- the sets of a table, each taken out of s
unfoldable pub without_each : ℕ → List ℕ → List ℕ
without_each s t = words 16 (λ j. without s (word t j))

-- "NOTSPT = Nodes(HOP+1) without In_SPT(J)", by J
unfoldable pub sets_of : Box → List ℕ
sets_of b = without_each (word b.nodes (suc b.hop)) b.in_spt

-- the K "in Nodes(HOP-1) without Not_SPT(J)", by J
unfoldable pub origins_of : Box → List ℕ
origins_of b = without_each (before b.hop b.nodes) b.not_spt

-- the listed entries of the table t become those of lists
unfoldable pub save_all : List ℕ → ℕ → List ℕ → List ℕ
save_all t listed lists = for_each listed (λ k u. set u k (word lists k)) 16 t

abbrev pub no_sets : List ℕ
no_sets = replicate 16 0

abbrev pub is_stopped : Box → Bool
is_stopped b = eqb b.state 2

-- the box after its start and its round: a box that is not stopped saves the lists
unfoldable pub saved : Arrival → Box → Box
saved a b = record {
  state = b.state;
  hop = b.hop;
  nodes = b.nodes;
  in_spt = b.in_spt;
  not_spt = b.not_spt;
  neighbors = cond (is_stopped b) b.neighbors (save_all b.neighbors a.listed a.lists);
}

unfoldable pub settled : Arrival → List ℕ → List ℕ → Box → Stepped
settled a sets origins b = record {
  «record» = record_of (saved a b);
  out = record {
    own = a.own;
    «from» = a.«from»;
    moved = a.moved;
    heard = a.heard;
    wakes = a.wakes;
    round = a.round;
    stops = is_stopped b;
    sets = sets;
    origins = origins;
    neighbors = b.neighbors;
  };
}

unfoldable pub rounded : Arrival → Box → Stepped
rounded a b = settled a (sets_of b) (origins_of b) (hopped b)

unfoldable pub worked : Arrival → Box → Stepped
worked a b = cond a.round (rounded a (taken a b)) (settled a no_sets no_sets b)

unfoldable pub step_def : Record → Arrival → Stepped
step_def r a = worked a (woken r a)
