-- A box has acted, and there was room for all that it sent: the hub is the one with all of that on the wires. In a file of its own, so that an edit of
-- what there is room for is refused by that statement alone. Assumes nothing.
use Rattle.std.specs.Prelude.{ℕ, ◌+◌, ◌≤◌, ◌<◌, ◌≡◌, List}
use Rattle.rules.specs.Sets.{word}
use Rattle.rules.specs.Box.{Msg, Desk}
use Rattle.rules.specs.Hub.{Hub, settle}
use Rattle.rules.specs.Rest.{Table}
use Rattle.sets.specs.Mem.{mem_past}
use Rattle.order.specs.Invariant.{Others, Held, spoken}
use Rattle.order.proofs.Work.{Done}
use Rattle.order.specs.Send.{settled, settle_is}
use Rattle.order.proofs.Settle.{room_left, settled_held}

module _ (w : ℕ) (t : List ℕ) (s : Table w t) (g : Hub) (j : ℕ) (d : Desk) (rest : ℕ → List Msg) (hj : j < w) (O : Others w t j g)
    (D : Done w t j (λ k. spoken (g.boxes k)) (λ k. (g.wires k j).taken) rest (g.boxes j) d) where
  pub settle_settled : (room : ℕ) → w + 1 ≤ room → settle w room j d g ≡ settled w j d g
  settle_settled room hr =
      settle_is w room j d g (λ b l. (D.mute b (mem_past w (word t j) (s.small j) b l)).0) (room_left w t s g j d rest hj O D room hr)

  pub settle_held : (room : ℕ) → w + 1 ≤ room → Held w t j rest (settle w room j d g)
  settle_held room hr = rw (settle_settled room hr) (settled_held w t s g j d rest hj O D)
