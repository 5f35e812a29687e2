-- What the code's own types say in the words of the definitions: a list's pairs, the pair that is served, the receiver, and what is carried by value.
-- Definitions alone.
use Rattle.std.specs.Prelude.{ℕ, ◌^◌, cond, Bool, true, false, List, [], ◌∷◌, Option, Some, None}
use Rattle.std.specs.Int.Bits.{bit_or}
use Rattle.rules.specs.Sets.{word, without}
use Rattle.turn.specs.declared.Carried.{Carried as CarriedCode}
use Rattle.turn.specs.declared.ends.Pair.{Pair as PairCode}
use Rattle.turn.specs.declared.ends.Receiver.{Receiver as ReceiverCode}
use Rattle.boxes.specs.declared.State.{State}
use Rattle.boxes.specs.declared.State.TheVariants.{Asleep, Awake, Stopped}
use Rattle.turn.specs.Turn.{Carried, Pair, Turn, turn_of}
use Rattle.turn.specs.Parts.{Receiver, left_after, at_after, moved_after}

-- the bytes of a list of pairs
unfoldable pub flat : List (List ℕ) → List ℕ
flat [] = []
flat (p ∷ ps) = word p 0 ∷ (word p 1 ∷ flat ps)

abbrev pub found : Option PairCode → Pair
found (Some p) = record { some = true; «from» = p.«from»; to = p.to }
found None = record { some = false; «from» = 0; to = 0 }

abbrev pub is_asleep : State → Bool
is_asleep Asleep = true
is_asleep Awake = false
is_asleep Stopped = false

abbrev pub is_stopped : State → Bool
is_stopped Asleep = false
is_stopped Awake = false
is_stopped Stopped = true

abbrev pub words_of : ReceiverCode → Receiver
words_of r = record { own = r.own; links = r.links; heard = r.heard; sleeps = is_asleep r.state; stopped = is_stopped r.state }

-- ---- what is carried by value

-- where the list has so many pairs
abbrev pub counted : CarriedCode → ℕ → Carried
counted c pairs = record { left = c.left; at = c.at; pairs = pairs; sent = c.sent; moved = c.moved; awake = c.awake; stopped = c.stopped; full = c.full }

abbrev pub turn_with : CarriedCode → ℕ → List ℕ → Turn
turn_with c pairs s = turn_of (counted c pairs) s

abbrev pub first_carried : ℕ → CarriedCode
first_carried left = record { left = left; at = 0; sent = 0; moved = 0; awake = 0; stopped = 0; full = false }

-- after a turn, but for what its step sends and who wakes or stops
abbrev pub gone_on : CarriedCode → ℕ → Bool → CarriedCode
gone_on c pairs moved = record c { left = left_after c.left c.at pairs moved; at = at_after c.at pairs; moved = moved_after c.moved moved }

-- who wakes or stops
abbrev pub marked : CarriedCode → ℕ → Bool → Bool → CarriedCode
marked c b ended woke = record c {
  awake = cond ended (without c.awake (2 ^ b)) (cond woke (bit_or c.awake (2 ^ b)) c.awake);
  stopped = cond ended (bit_or c.stopped (2 ^ b)) c.stopped;
}
