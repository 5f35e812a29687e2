-- `boxes::next_hop` meets its contract: HOP stays where it is the largest that a record holds. Assumes nothing.
use native.Mathlib.Omega.{arith}
use Prim.Native.Nat.{suc, min}
use mathlib.Core.Path.{◌≡◌}
use Rattle.rules.specs.Box.{stops}
use Rattle.boxes.specs.Record.{box_of, record_of}
use Rattle.boxes.specs.Step.{hopped}
use Rattle.boxes.proofs.next_hop.Goals as goal

pub returns : goal.returns
unfolding record_of box_of hopped stops
returns c =
    let e : c.saturating_add-r.result ≡ min (suc c.args.r.now.hop) 65535 = omega (arith, c.saturating_add-r.ensures) in
    rw (c.from-r.ensures, c.state_with.ensures, c.entry.ensures, e)
