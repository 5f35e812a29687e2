-- `text::put_routes` meets its contract. The loop's invariant: the lines of the boxes passed are put. Assumes nothing.
use Rattle.std.proofs.Common.{◌≡◌, ◌≤◌, ◌-◌}
use Rattle.rules.specs.Sets.{each}
use Rattle.sets.specs.Stores.{Stored}
use Rattle.text.specs.Text.{route}
use Rattle.text.proofs.put_routes.Given as goal

abbrev pub invariant-loop-i : goal.invariant-loop-i
invariant-loop-i l = record {
  within : l.i ≤ l.boxes;
  stored : Stored (λ i. each l.boxes (route l.board i)) l.initial.page.at l.i l.page.at l.initial.page.text.now l.page.text.now;
  same_text : l.page.text.ghost_name ≡ l.initial.page.text.ghost_name;
}

abbrev pub decreases-loop-i : goal.decreases-loop-i
decreases-loop-i l = l.boxes - l.i
