-- The parts of a turn as code does it, on either side of the box's step: the next pair, what it brings to the receiver, what its step sends, and what is carried
-- to the next turn. Written with the definitions of the store and of the mail. Definitions alone; the turn that they make up, and turns, are in crate turns.
use Rattle.std.specs.Prelude.{ℕ, ◌+◌, ◌-◌, ◌*◌, ◌%◌, ◌^◌, Bool, true, false, not, ◌&&◌, ◌||◌, cond, List, eqb, ltb, set, replicate}
use Rattle.std.specs.Int.Bits.{bit_or}
use Rattle.rules.specs.Sets.{mem, without, word, least, any, for_each}
use Rattle.wires.specs.Wires.{sixteen, queued, under_way, arrived, oldest, skipped, taken}
use Rattle.wires.specs.Words.{is_list, origin_of, set_of}
use Rattle.boxes.specs.Arrival.{Arrival}
use Rattle.boxes.specs.Departure.{Departure}
use Rattle.mail.specs.Post.{Posted}
use Rattle.mail.specs.Letter.{Letter, post_link}
use Rattle.mail.specs.Gather.{Got, got_nothing, wire_of, gather_to, clear_to}
use Rattle.tables.specs.Tables.{links_of, heard_of, busy_of, with_heard, with_busy}

-- ---- what a run carries from turn to turn: numbers, and by box its link set, the links whose queue holds a message, and to which boxes it has messages under way

pub record Turn : Type 0 where
  pub left : ℕ
  pub at : ℕ
  pub pairs : ℕ
  pub sent : ℕ
  pub moved : ℕ
  pub full : Bool
  pub awake : ℕ
  pub stopped : ℕ
  pub links : List ℕ
  pub heard : List ℕ
  pub busy : List ℕ

-- the numbers, which code carries by value, with how many pairs the list has (Code)
pub record Carried : Type 0 where
  pub left : ℕ
  pub at : ℕ
  pub pairs : ℕ
  pub sent : ℕ
  pub moved : ℕ
  pub awake : ℕ
  pub stopped : ℕ
  pub full : Bool

-- the tables stand in the store
abbrev pub turn_of : Carried → List ℕ → Turn
turn_of c s = record {
  left = c.left;
  at = c.at;
  pairs = c.pairs;
  sent = c.sent;
  moved = c.moved;
  full = c.full;
  awake = c.awake;
  stopped = c.stopped;
  links = links_of s;
  heard = heard_of s;
  busy = busy_of s;
}

-- ---- the next pair: of the list, while it lasts; then the first wire that holds a message

-- a start where both ends are one box; some: there is one
pub record Pair : Type 0 where
  pub some : Bool
  pub «from» : ℕ
  pub to : ℕ

unfoldable pub searched : List ℕ → Pair
searched busy =
    let a = least 16 (λ a. any 16 (λ b. mem b (word busy a))) in
    let some = ltb a 16 in
    record { some = some; «from» = cond some a 0; to = cond some (least 16 (λ b. mem b (word busy a))) 0 }

abbrev pub pair_of : List ℕ → ℕ → ℕ → List ℕ → Pair
pair_of list at pairs busy =
    cond (ltb at pairs)
    (record { some = true; «from» = word list (at * 2) % 16; to = word list (at * 2 + 1) % 16 })
    (searched busy)

unfoldable pub next_pair : List ℕ → Turn → Pair
next_pair list c = pair_of list c.at c.pairs c.busy

-- ---- what it brings to the receiver

unfoldable pub sleeps : Turn → ℕ → Bool
sleeps c b = not (mem b c.awake) && not (mem b c.stopped)

-- from a to b: nothing for the record but, maybe, that the box wakes
unfoldable pub quiet : Turn → ℕ → ℕ → Bool → Bool → ℕ → Arrival
quiet c a b moved wakes heard = record {
  own = b;
  «from» = a;
  links = word c.links b;
  moved = moved;
  wakes = wakes;
  round = false;
  heads = replicate 16 0;
  listed = 0;
  lists = replicate 16 0;
  heard = heard;
}

-- the store and what was taken from it
pub record Took : Type 0 where
  pub store : List ℕ
  pub arrival : Arrival

abbrev pub heard_at : Turn → ℕ → ℕ
heard_at c b = word c.heard b

-- a list at the head of an empty queue is taken at once
unfoldable pub one_list : Turn → ℕ → ℕ → ℕ → Arrival
one_list c a b x = record {
  own = b;
  «from» = a;
  links = word c.links b;
  moved = true;
  wakes = sleeps c b;
  round = false;
  heads = replicate 16 0;
  listed = 2 ^ origin_of x;
  lists = set (replicate 16 0) (origin_of x) (set_of x);
  heard = heard_at c b;
}

unfoldable pub round_of : Turn → ℕ → ℕ → Got → Arrival
round_of c a b g = record {
  own = b;
  «from» = a;
  links = word c.links b;
  moved = true;
  wakes = sleeps c b;
  round = true;
  heads = g.heads;
  listed = g.listed;
  lists = g.lists;
  heard = g.heard;
}

unfoldable pub took_round : Turn → ℕ → ℕ → List ℕ → Took
took_round c a b s = let g = gather_to b (word c.links b) 16 (got_nothing s) in record { store = g.store; arrival = round_of c a b g }

-- the word x has joined the queue of the wire from a to b, which was empty; s is the store after that
unfoldable pub took_first : Turn → ℕ → ℕ → ℕ → List ℕ → Took
took_first c a b x s =
    let heard = bit_or (heard_at c b) (2 ^ a) in
    cond (is_list x)
    (record { store = taken sixteen s (wire_of a b); arrival = one_list c a b x })
    (cond (eqb heard (word c.links b))
    (took_round c a b s)
    (record { store = s; arrival = quiet c a b true (sleeps c b) heard }))

-- the oldest message from a to b is delivered
unfoldable pub delivered : Turn → ℕ → ℕ → List ℕ → Took
delivered c a b s =
    let i = wire_of a b in
    cond (eqb (under_way sixteen s i) 0)
    (record { store = s; arrival = quiet c a b false false (heard_at c b) })
    (cond (mem b c.stopped)
    (record { store = skipped sixteen s i; arrival = quiet c a b true false (heard_at c b) })
    (cond (eqb (queued sixteen s i) 0)
    (took_first c a b (oldest sixteen s i) (arrived sixteen s i))
    (record { store = arrived sixteen s i; arrival = quiet c a b true false (heard_at c b) })))

-- box a starts, if it sleeps
unfoldable pub begun : Turn → ℕ → List ℕ → Took
begun c a s = record { store = s; arrival = quiet c a a false (sleeps c a) (heard_at c a) }

unfoldable pub took_pair : Turn → Pair → List ℕ → Took
took_pair c p s =
    cond p.some
    (cond (eqb p.«from» p.to) (begun c p.to s) (delivered c p.«from» p.to s))
    (record { store = s; arrival = quiet c 0 0 false false (heard_at c 0) })

unfoldable pub took_def : List ℕ → List ℕ → Turn → Took
took_def list s c = took_pair c (next_pair list c) s

-- ---- what the step sends, and what is carried on: crate sends

abbrev pub letter : Departure → ℕ → Letter
letter o j = record { wakes = o.wakes; own = 2 ^ (o.own % 16); round = o.round; origins = word o.origins j; «set» = word o.sets j }

-- to the links below n, ascending
unfoldable pub post_to : Departure → ℕ → ℕ → Posted → Posted
post_to o links n p = for_each links (λ j. post_link (wire_of (o.own % 16) j) (letter o j) o.neighbors) n p

-- of one sender, the receivers that it has messages under way to
abbrev pub less_of : List ℕ → Bool → ℕ → ℕ → ℕ → ℕ
less_of s moved a b to = cond (moved && eqb (under_way sixteen s (wire_of a b)) 0) (without to (2 ^ b)) to

unfoldable pub less_busy : List ℕ → Departure → List ℕ → List ℕ
less_busy s o busy =
    let a = o.«from» % 16 in
    let b = o.own % 16 in
    cond (o.moved && eqb (under_way sixteen s (wire_of a b)) 0) (set busy a (without (word busy a) (2 ^ b))) busy

unfoldable pub more_busy : Departure → ℕ → List ℕ → List ℕ
more_busy o links busy = let b = o.own % 16 in cond (o.wakes || o.round) (set busy b (bit_or (word busy b) links)) busy

-- the box has stopped in this turn: at its start, for want of links, or in its round
unfoldable pub ends : Departure → Bool
ends o = o.stops && (o.wakes || o.round)

pub record Put : Type 0 where
  pub store : List ℕ
  pub turn : Turn

unfoldable pub next_turn : Turn → Departure → List ℕ → Posted → Turn
next_turn c o s p =
    let b = o.own % 16 in
    let listed = ltb c.at c.pairs in
    record {
      left = cond (listed || o.moved) (c.left - 1) 0;
      at = cond listed (c.at + 1) c.at;
      pairs = c.pairs;
      sent = p.sent;
      moved = cond o.moved ((c.moved + 1) % 4294967296) c.moved;
      full = p.full;
      awake = cond (ends o) (without c.awake (2 ^ b)) (cond o.wakes (bit_or c.awake (2 ^ b)) c.awake);
      stopped = cond (ends o) (bit_or c.stopped (2 ^ b)) c.stopped;
      links = c.links;
      heard = set c.heard b (cond (ends o) 0 o.heard);
      busy = more_busy o (word c.links b) (less_busy s o c.busy);
    }

-- the tables in the store s, once the receiver has heard what it has: the sender has messages under way to those in `to`, and a box that sends has to its links
unfoldable pub kept_tables : Departure → ℕ → ℕ → List ℕ → List ℕ
kept_tables o links to s =
    let b = o.own % 16 in
    let u = with_busy (with_heard s b (cond (ends o) 0 o.heard)) (o.«from» % 16) to in
    cond (o.wakes || o.round) (with_busy u b (bit_or (word (busy_of u) b) links)) u

-- s is the store as the step found it
unfoldable pub put_def : List ℕ → Departure → Turn → Put
put_def s o c =
    let b = o.own % 16 in
    let links = word c.links b in
    let cleared = cond (ends o) (clear_to b links 16 s) s in
    let p = post_to o links 16 (record { store = cleared; sent = c.sent; full = c.full }) in
    let a = o.«from» % 16 in
    record { store = kept_tables o links (less_of s o.moved a b (word c.busy a)) p.store; turn = next_turn c o s p }
