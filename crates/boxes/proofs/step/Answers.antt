-- `boxes::step` meets its contract: the box after its start, after its round, and with its lists. Assumes nothing.
use Rattle.std.proofs.Common.{ap, refl, sym, ◌≡◌, ◌∙◌}
use Rattle.boxes.specs.Record.{box_of, record_of, shown}
use Rattle.std.specs.Option.{is_some}
use Rattle.boxes.specs.Arrival.{heads_of, shown_arrival}
use Rattle.boxes.specs.Departure.{sets_sent, origins_sent}
use Rattle.boxes.specs.Step.{woken, settled, step_def}
use Rattle.boxes.proofs.StepLaws.{woken_started, woken_same, round_done, round_none, end_saves, end_stopped, save_none}
use Rattle.boxes.proofs.step.Goals as goal
use Rattle.boxes.proofs.step.Goals.{then-a, else-a, in-Some, in_default, then-stops, else-stops}

pub returns : goal.returns
returns c =
    let r = shown c.args.r in
    let a = shown_arrival c.args.a in
    let woke : shown c.if-a.q ≡ record_of (woken r a) = elim c.if-a.branch [
      | then-a w ↦ woken_started r a _ w.if-a.true (ap shown w.q-is ∙ w.started-q.ensures)
      | else-a w ↦ woken_same r a _ w.if-a.false (ap shown w.q-is)
    ] in
    let done : is_some c.match-a.round ≡ a.round = elim c.match-a.branch [
      | in-Some w ↦ ap is_some w.round-is ∙ sym (ap is_some w.in-Some.is)
      | in_default w ↦ ap is_some w.round-is ∙ sym (ap is_some w.in_default.is)
    ] in
    let worked : settled a (sets_sent c.match-a.round) (origins_sent c.match-a.round) (box_of (shown c.match-a.q)) ≡ step_def r a = elim c.match-a.branch [
      | in-Some w ↦ round_done r a _ woke _ _ _ _ _ (ap is_some w.in-Some.is) (ap heads_of w.in-Some.is) w.take_sets.ensures (ap sets_sent w.round-is ∙ w.sets_of-sets.ensures) (ap origins_sent w.round-is ∙ w.origins_of-origins.ensures) (ap shown w.q-is ∙ w.next_hop.ensures)
      | in_default w ↦ round_none r a _ woke _ _ _ (ap is_some w.in_default.is) (ap shown w.q-is) (ap sets_sent w.round-is) (ap origins_sent w.round-is)
    ] in
    elim c.if-stops.branch [
      | then-stops w ↦ end_stopped a (shown c.match-a.q) _ _ _ _ _ done c.has_stopped-stops.ensures w.if-stops.true (c.save_all.ensures ∙ rw w.listed-is (save_none _ _)) ∙ worked
      | else-stops w ↦ end_saves a (shown c.match-a.q) _ _ _ _ _ done c.has_stopped-stops.ensures w.if-stops.false (c.save_all.ensures ∙ rw w.listed-is refl) ∙ worked
    ]
