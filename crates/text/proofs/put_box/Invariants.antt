-- `text::put_box` meets its contract. The loop's invariant: the lines for the origins passed are put. Assumes nothing.
use Rattle.std.proofs.Common.{◌≡◌, ◌≤◌, ◌-◌}
use Rattle.sets.specs.Stores.{Stored}
use Rattle.text.specs.Text.{route}
use Rattle.text.proofs.put_box.Given as goal

abbrev pub invariant-loop-j : goal.invariant-loop-j
invariant-loop-j l = record {
  within : l.j ≤ l.boxes;
  stored : Stored (route l.board l.i) l.initial.page.at l.j l.page.at l.initial.page.text.now l.page.text.now;
  same_text : l.page.text.ghost_name ≡ l.initial.page.text.ghost_name;
}

abbrev pub decreases-loop-j : goal.decreases-loop-j
decreases-loop-j l = l.boxes - l.j
