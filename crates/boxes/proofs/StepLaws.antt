-- A step's parts as the code has them, one after the other, come to the step. Assumes nothing.
use mathlib.Core.Path.{◌≡◌, sym, ap, ◌∙◌}
use mathlib.Core.Bool.{Bool, true, false}
use mathlib.Core.List.{List}
use Prim.Native.Nat.{ℕ, ◌%◌}
use Rattle.rules.specs.Sets.{word}
use Rattle.rules.specs.Box.{started, take_sets}
use Rattle.sets.specs.Loops.{for_each_empty}
use Rattle.boxes.specs.Arrival.{Arrival}
use Rattle.boxes.specs.Record.{Record, box_of, record_of, box_record, record_box}
use Rattle.boxes.specs.Step.{Stepped, woken, taken, hopped, sets_of, origins_of, save_all, no_sets, is_stopped, saved, settled, rounded, step_def}
use Rattle.boxes.specs.Laws.{woken_yes, woken_no, step_round, step_still}

module _ (r : Record) (a : Arrival) where
  pub woken_started : (q : Record) → a.wakes ≡ true → q ≡ record_of (started 16 (a.own % 16) a.links) → q ≡ record_of (woken r a)
  woken_started q w e = e ∙ ap record_of (sym (woken_yes r a w))

  pub woken_same : (q : Record) → a.wakes ≡ false → q ≡ r → q ≡ record_of (woken r a)
  woken_same q w e = e ∙ sym (record_box r) ∙ ap record_of (sym (woken_no r a w))

  module _ (b : Record) (eb : b ≡ record_of (woken r a)) where
    woken_box : box_of b ≡ woken r a
    woken_box = ap box_of eb ∙ box_record (woken r a)

    pub round_done : (t q : Record) (heads sets origins : List ℕ) → a.round ≡ true → a.heads ≡ heads → t ≡ record_of (take_sets 16 a.links (word heads) (box_of b)) → sets ≡ sets_of (box_of t) → origins ≡ origins_of (box_of t)
        → q ≡ record_of (hopped (box_of t)) → settled a sets origins (box_of q) ≡ step_def r a
    unfolding rounded
    round_done t q heads sets origins y eh et es eo eq =
        let box : box_of t ≡ taken a (woken r a) = ap box_of et ∙ box_record (take_sets 16 a.links (word heads) (box_of b)) ∙ ap (λ (t : List ℕ). take_sets 16 a.links (word t) (box_of b)) (sym eh) ∙ ap (taken a) woken_box in
        let next : box_of q ≡ hopped (taken a (woken r a)) = ap box_of eq ∙ box_record (hopped (box_of t)) ∙ ap hopped box in
        rw (next, es, eo, box) (sym (step_round r a y))

    pub round_none : (q : Record) (sets origins : List ℕ) → a.round ≡ false → q ≡ b → sets ≡ no_sets → origins ≡ no_sets → settled a sets origins (box_of q) ≡ step_def r a
    round_none q sets origins n eq es eo =
        let box : box_of q ≡ woken r a = ap box_of eq ∙ woken_box in
        rw (box, es, eo) (sym (step_still r a n))

-- a box that has stopped saves none
pub save_none : (t lists : List ℕ) → save_all t 0 lists ≡ t
unfolding save_all
save_none t lists = for_each_empty _ 16 t

-- what the code makes of it
abbrev pub made : Arrival → Bool → Record → Bool → List ℕ → List ℕ → List ℕ → Stepped
made a round q stops known sets origins = record {
  «record» = record { state = q.state; hop = q.hop; nodes = q.nodes; in_spt = q.in_spt; not_spt = q.not_spt; neighbors = known };
  out = record {
    own = a.own;
    «from» = a.«from»;
    moved = a.moved;
    heard = a.heard;
    wakes = a.wakes;
    round = round;
    stops = stops;
    sets = sets;
    origins = origins;
    neighbors = q.neighbors;
  };
}

module _ (a : Arrival) (q : Record) (known sets origins : List ℕ) (round stops : Bool) (y : round ≡ a.round) (told : stops ≡ is_stopped (box_of q)) where
  pub end_saves : stops ≡ false → known ≡ save_all q.neighbors a.listed a.lists → made a round q stops known sets origins ≡ settled a sets origins (box_of q)
  unfolding record_of box_of saved settled
  end_saves n e = rw (y, told, sym told ∙ n, e)

  pub end_stopped : stops ≡ true → known ≡ q.neighbors → made a round q stops known sets origins ≡ settled a sets origins (box_of q)
  unfolding record_of box_of saved settled
  end_stopped s e = rw (y, told, sym told ∙ s, e)
