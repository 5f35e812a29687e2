-- Parts of a turn under names of their own, for the contracts of the functions that do them. What a pair brings is said of the receiver's own words alone,
-- so that no function there is handed the whole state; that this comes to the turn's definitions is in the crate's proofs. Definitions alone.
use Rattle.std.specs.Prelude.{ℕ, ◌+◌, ◌-◌, ◌%◌, ◌^◌, ◌≡◌, Bool, true, false, not, ◌&&◌, ◌||◌, cond, List, eqb, ltb, set, replicate}
use Rattle.std.specs.Int.Bits.{bit_or}
use Rattle.rules.specs.Sets.{mem, word}
use Rattle.wires.specs.Wires.{sixteen, queued, under_way, arrived, oldest, skipped, taken}
use Rattle.wires.specs.Words.{is_list, origin_of, set_of}
use Rattle.tables.specs.Tables.{links_of, heard_of, busy_of}
use Rattle.boxes.specs.Arrival.{Arrival}
use Rattle.boxes.specs.Departure.{Departure}
use Rattle.mail.specs.Gather.{Got, got_nothing, wire_of, gather_to}
use Rattle.turn.specs.Turn.{Turn, Took, more_busy, ends, kept_tables}

-- the store, and what code has taken from it
abbrev pub took : List ℕ → Arrival → Took
took s h = record { store = s; arrival = h }

-- ---- what a pair brings, as `quiet` to `delivered` have it

-- the receiver's number and link set, the links whose queue holds a message, whether it sleeps, whether it has stopped
pub record Receiver : Type 0 where
  pub own : ℕ
  pub links : ℕ
  pub heard : ℕ
  pub sleeps : Bool
  pub stopped : Bool

abbrev pub receiver_from : ℕ → ℕ → ℕ → ℕ → ℕ → Receiver
receiver_from b links heard awake stopped = record { own = b; links = links; heard = heard; sleeps = not (mem b awake) && not (mem b stopped); stopped = mem b stopped }

unfoldable pub receiver_of : Turn → ℕ → Receiver
receiver_of c b = receiver_from b (word c.links b) (word c.heard b) c.awake c.stopped

unfoldable pub quiet_to : Receiver → ℕ → Bool → Bool → ℕ → Arrival
quiet_to r a moved wakes heard = record {
  own = r.own;
  «from» = a;
  links = r.links;
  moved = moved;
  wakes = wakes;
  round = false;
  heads = replicate 16 0;
  listed = 0;
  lists = replicate 16 0;
  heard = heard;
}

unfoldable pub one_list_to : Receiver → ℕ → ℕ → Arrival
one_list_to r a x = record {
  own = r.own;
  «from» = a;
  links = r.links;
  moved = true;
  wakes = r.sleeps;
  round = false;
  heads = replicate 16 0;
  listed = 2 ^ origin_of x;
  lists = set (replicate 16 0) (origin_of x) (set_of x);
  heard = r.heard;
}

abbrev pub gathered : Receiver → ℕ → Got → Arrival
gathered r a g = record {
  own = r.own;
  «from» = a;
  links = r.links;
  moved = true;
  wakes = r.sleeps;
  round = true;
  heads = g.heads;
  listed = g.listed;
  lists = g.lists;
  heard = g.heard;
}

unfoldable pub round_to : Receiver → ℕ → List ℕ → Took
round_to r a s = let g = gather_to r.own r.links 16 (got_nothing s) in took g.store (gathered r a g)

unfoldable pub first_to : Receiver → ℕ → ℕ → List ℕ → Took
first_to r a x s =
    let heard = bit_or r.heard (2 ^ a) in
    cond (is_list x)
    (took (taken sixteen s (wire_of a r.own)) (one_list_to r a x))
    (cond (eqb heard r.links) (round_to r a s) (took s (quiet_to r a true r.sleeps heard)))

unfoldable pub delivered_to : Receiver → ℕ → List ℕ → Took
delivered_to r a s =
    let i = wire_of a r.own in
    cond (eqb (under_way sixteen s i) 0)
    (took s (quiet_to r a false false r.heard))
    (cond r.stopped
    (took (skipped sixteen s i) (quiet_to r a true false r.heard))
    (cond (eqb (queued sixteen s i) 0)
    (first_to r a (oldest sixteen s i) (arrived sixteen s i))
    (took (arrived sixteen s i) (quiet_to r a true false r.heard))))

-- ---- what is carried on, as `next_turn` has it: crate sends

-- the tables of the store s', which were those of s
pub record Kept (o : Departure) (links to : ℕ) (s s' : List ℕ) : Type 0 where
  pub words : s' ≡ kept_tables o links to s
  pub same : links_of s' ≡ links_of s
  pub heard : heard_of s' ≡ set (heard_of s) (o.own % 16) (cond (ends o) 0 o.heard)
  pub busy : busy_of s' ≡ more_busy o links (set (busy_of s) (o.«from» % 16) to)

-- how many turns may still come: one less, and none once the list is over and nothing was moved
abbrev pub left_after : ℕ → ℕ → ℕ → Bool → ℕ
left_after left at pairs moved = cond (ltb at pairs || moved) (left - 1) 0

abbrev pub at_after : ℕ → ℕ → ℕ
at_after at pairs = cond (ltb at pairs) (at + 1) at

abbrev pub moved_after : ℕ → Bool → ℕ
moved_after n moved = cond moved ((n + 1) % 4294967296) n
