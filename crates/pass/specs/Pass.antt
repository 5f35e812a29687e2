-- Turns that touch no record: the message is dropped by a stopped box, waits behind others, or is a set that completes no round; or there is nothing to do.
-- They pass one after the other with no box's step among them. That each is a turn is in the proofs of crate turns. Definitions alone.
use Rattle.std.specs.Prelude.{ℕ, zero, suc, ◌^◌, Bool, true, false, not, cond, List, eqb, set}
use Rattle.std.specs.Int.Bits.{bit_or}
use Rattle.rules.specs.Sets.{word}
use Rattle.wires.specs.Wires.{sixteen, queued, under_way, arrived, front, skipped}
use Rattle.wires.specs.Words.{is_list}
use Rattle.mail.specs.Gather.{wire_of}
use Rattle.tables.specs.Tables.{with_heard, with_busy}
use Rattle.turn.specs.Turn.{Turn, Carried, Pair, turn_of, less_of, next_pair, Put}
use Rattle.turn.specs.Parts.{Receiver, receiver_of, left_after, at_after, moved_after}

-- ---- a look at a pair: the store after it, and what it shows

-- whether the record stays as it is, whether a message was moved, and the links whose queue then holds one
pub record Glance : Type 0 where
  pub quiet : Bool
  pub moved : Bool
  pub heard : ℕ

pub record Glanced : Type 0 where
  pub store : List ℕ
  pub glance : Glance

abbrev pub glanced : List ℕ → Glance → Glanced
glanced s k = record { store = s; glance = k }

abbrev pub seen_as : Bool → Bool → ℕ → Glance
seen_as quiet moved heard = record { quiet = quiet; moved = moved; heard = heard }

-- the record would be touched: nothing is done
abbrev pub not_quiet : Receiver → List ℕ → Glanced
not_quiet r s = glanced s (seen_as false false r.heard)

-- behind an empty queue, the box awake: a set that completes no round only waits
unfoldable pub glance_first : Receiver → ℕ → List ℕ → Glanced
glance_first r a s =
    let i = wire_of a r.own in
    let heard = bit_or r.heard (2 ^ a) in
    cond (is_list (front sixteen s i))
    (not_quiet r s)
    (cond (eqb heard r.links) (not_quiet r s) (glanced (arrived sixteen s i) (seen_as true true heard)))

-- the oldest message from a
unfoldable pub glance_to : Receiver → ℕ → List ℕ → Glanced
glance_to r a s =
    let i = wire_of a r.own in
    cond (eqb (under_way sixteen s i) 0)
    (glanced s (seen_as true false r.heard))
    (cond r.stopped
    (glanced (skipped sixteen s i) (seen_as true true r.heard))
    (cond r.sleeps
    (not_quiet r s)
    (cond (eqb (queued sixteen s i) 0)
    (glance_first r a s)
    (glanced (arrived sixteen s i) (seen_as true true r.heard)))))

-- a box that has started starts no more; where the search finds no wire, the run is over
unfoldable pub glance_pair : Pair → Receiver → List ℕ → Glanced
glance_pair p r s =
    cond p.some
    (cond (eqb p.«from» r.own) (glanced s (seen_as (not r.sleeps) false r.heard)) (glance_to r p.«from» s))
    (not_quiet r s)

-- ---- such turns, one after the other

-- the store and the state
abbrev pub kept : List ℕ → Turn → Put
kept s c = record { store = s; turn = c }

-- the same, what code carries by value beside the store that has its tables
abbrev pub carried_on : List ℕ → Carried → Put
carried_on s c = kept s (turn_of c s)

unfoldable pub glance_at : List ℕ → Put → Glanced
glance_at list q = let p = next_pair list q.turn in glance_pair p (receiver_of q.turn p.to) q.store

-- the receivers that the sender still has messages under way to; s is the store after the look
abbrev pub to_after : Turn → Pair → Glance → List ℕ → ℕ
to_after c p k s = less_of s k.moved p.«from» p.to (word c.busy p.«from»)

unfoldable pub quiet_turn : Turn → Pair → Glance → List ℕ → Turn
quiet_turn c p k s = record {
  left = left_after c.left c.at c.pairs k.moved;
  at = at_after c.at c.pairs;
  pairs = c.pairs;
  sent = c.sent;
  moved = moved_after c.moved k.moved;
  full = c.full;
  awake = c.awake;
  stopped = c.stopped;
  links = c.links;
  heard = set c.heard p.to k.heard;
  busy = set c.busy p.«from» (to_after c p k s);
}

-- the tables in the store
unfoldable pub quiet_store : Turn → Pair → Glance → List ℕ → List ℕ
quiet_store c p k s = with_busy (with_heard s p.to k.heard) p.«from» (to_after c p k s)

unfoldable pub pass_one : List ℕ → Put → Put
pass_one list q =
    let c = q.turn in
    let p = next_pair list c in
    let k = glance_at list q in
    kept (quiet_store c p k.glance k.store) (quiet_turn c p k.glance k.store)

-- at most n of them, while turns are left
unfoldable pub pass_to : ℕ → List ℕ → Put → Put
pass_to zero list q = q
pass_to (suc n) list q = cond (eqb q.turn.left 0) q (cond (glance_at list q).glance.quiet (pass_to n list (pass_one list q)) q)

abbrev pub pass_all : List ℕ → Put → Put
pass_all list q = pass_to q.turn.left list q
