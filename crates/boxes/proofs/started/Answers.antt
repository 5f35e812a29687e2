-- `boxes::started` meets its contract. Assumes nothing.
use mathlib.Core.Path.{ap}
use Rattle.rules.specs.Box.{started}
use Rattle.boxes.specs.Record.{Record, record_of}
use Rattle.boxes.proofs.started.Goals as goal

pub returns : goal.returns
unfolding record_of started
returns c =
    let e = c.asleep-r.ensures in
    rw (c.from.ensures, c.state_with.ensures, c.only.ensures, ap (λ (r : Record). r.hop) e, ap (λ (r : Record). r.nodes) e, ap (λ (r : Record). r.in_spt) e, ap (λ (r : Record). r.not_spt) e, ap (λ (r : Record). r.neighbors) e)
