-- The waiting messages of all wires, as one flat run of words. Document 01, "What the hub covers" (a wire is first in first out), "The steps of a box"
-- (queues) and refusal 13 (room). A wire and its receiving queue share one ring of words: the queue is the older part, what is under way the younger.
-- A delivery then moves the boundary between the two, and no message is copied. Definitions alone; the laws are in proofs/Laws.
use Rattle.std.specs.Prelude.{ℕ, zero, suc, ◌+◌, ◌-◌, ◌*◌, ◌%◌, ◌≤◌, ◌<◌, ◌≡◌, ◌≢◌, Bool, true, false, cond, List, [], ◌∷◌, ◌++◌, eqb, ltb, length, set, replicate}
use Rattle.rules.specs.Sets.{word}
use Rattle.rules.specs.Calls.{boxes_most, room_of_wire}

-- How many words stand before the wires', how many wires there are, how many words a ring has, and how many messages may wait on a wire and its queue together.
pub record Sizes : Type 0 where
  pub front : ℕ
  pub wires : ℕ
  pub ring : ℕ
  pub room : ℕ

-- The wire from a to b of at most 16 boxes has the number 16 a + b. A ring of 32 words takes 20 messages, and its places are found without a division.
-- The words before the wires' are for three tables of 16.
abbrev pub sixteen : Sizes
sixteen = record { front = 3 * boxes_most; wires = boxes_most * boxes_most; ring = 32; room = room_of_wire }

-- A wire numbers its places in a ring by 0 to ring - 1, and no count comes to a whole turn of the ring.
pub record Proper (z : Sizes) : Type 0 where
  pub some : 0 < z.ring
  pub less : z.room < z.ring

-- ---- where a wire's words stand: its ring, then the place of its oldest message, the number in the queue, the number under way, and one word unused

abbrev pub stride : Sizes → ℕ
stride z = z.ring + 4

abbrev pub store_size : Sizes → ℕ
store_size z = z.front + z.wires * stride z

abbrev pub place : Sizes → ℕ → ℕ → ℕ
place z i p = i * stride z + z.front + p

abbrev pub slot : Sizes → ℕ → ℕ → ℕ
slot z i p = place z i (p % z.ring)

abbrev pub head_at : Sizes → ℕ → ℕ
head_at z i = place z i z.ring

abbrev pub queued_at : Sizes → ℕ → ℕ
queued_at z i = place z i (z.ring + 1)

abbrev pub way_at : Sizes → ℕ → ℕ
way_at z i = place z i (z.ring + 2)

-- Read so that each is a place of the ring, whatever the words are.
abbrev pub head : Sizes → List ℕ → ℕ → ℕ
head z s i = word s (head_at z i) % z.ring

abbrev pub queued : Sizes → List ℕ → ℕ → ℕ
queued z s i = word s (queued_at z i) % z.ring

abbrev pub under_way : Sizes → List ℕ → ℕ → ℕ
under_way z s i = word s (way_at z i) % z.ring

-- ---- what the words say

-- the receiver's queue, and what is under way; oldest first
pub record Waiting : Type 0 where
  pub queue : List ℕ
  pub way : List ℕ

-- n words of the ring of wire i, from place h on
unfoldable pub ring_at : Sizes → List ℕ → ℕ → ℕ → ℕ → List ℕ
ring_at z s i h zero = []
ring_at z s i h (suc n) = word s (slot z i h) ∷ ring_at z s i (h + 1) n

unfoldable pub waiting : Sizes → List ℕ → ℕ → Waiting
waiting z s i = record {
  queue = ring_at z s i (head z s i) (queued z s i);
  way = ring_at z s i (head z s i + queued z s i) (under_way z s i);
}

-- The store has its size, and nowhere wait more messages than there is room for.
pub record Formed (z : Sizes) (s : List ℕ) : Type 0 where
  pub size : length s ≡ store_size z
  pub room : (k : ℕ) → length (waiting z s k).queue + length (waiting z s k).way ≤ z.room

unfoldable pub none : Sizes → List ℕ
none z = replicate (store_size z) 0

-- ---- what each call leaves of the words

unfoldable pub has_room : Sizes → List ℕ → ℕ → Bool
has_room z s i = ltb (queued z s i + under_way z s i) z.room

-- a word joins the wire's end
unfoldable pub pushed : Sizes → List ℕ → ℕ → ℕ → List ℕ
pushed z s i x =
    cond (has_room z s i)
    (set (set s (slot z i (head z s i + queued z s i + under_way z s i)) x) (way_at z i) (under_way z s i + 1))
    s

-- the oldest under way moves into the queue
unfoldable pub arrived : Sizes → List ℕ → ℕ → List ℕ
arrived z s i =
    cond (eqb (under_way z s i) 0)
    s
    (set (set s (queued_at z i) (queued z s i + 1)) (way_at z i) (under_way z s i - 1))

unfoldable pub oldest : Sizes → List ℕ → ℕ → ℕ
oldest z s i = cond (eqb (under_way z s i) 0) 0 (word s (slot z i (head z s i + queued z s i)))

-- the oldest under way is dropped, behind an empty queue
unfoldable pub skipped : Sizes → List ℕ → ℕ → List ℕ
skipped z s i =
    cond (eqb (queued z s i) 0)
    (cond (eqb (under_way z s i) 0)
    s
    (set (set s (head_at z i) ((head z s i + 1) % z.ring)) (way_at z i) (under_way z s i - 1)))
    s

-- the head of the queue
unfoldable pub front : Sizes → List ℕ → ℕ → ℕ
front z s i = word s (place z i (head z s i))

-- the head is taken off the queue
unfoldable pub taken : Sizes → List ℕ → ℕ → List ℕ
taken z s i =
    cond (eqb (queued z s i) 0)
    s
    (set (set s (head_at z i) ((head z s i + 1) % z.ring)) (queued_at z i) (queued z s i - 1))

unfoldable pub taken_word : Sizes → List ℕ → ℕ → ℕ
taken_word z s i = cond (eqb (queued z s i) 0) 0 (front z s i)

-- the queue is emptied, the wire stays
unfoldable pub cleared : Sizes → List ℕ → ℕ → List ℕ
cleared z s i = set (set s (head_at z i) ((head z s i + queued z s i) % z.ring)) (queued_at z i) 0

-- ---- what each call promises: the words exactly, and what that is in lists

-- "Keeping waiting messages by receiver alone, not by wire" is the trap: every other wire is as it was.
abbrev pub Others : Sizes → List ℕ → ℕ → List ℕ → Type 0
Others z s i s' = (k : ℕ) → k ≢ i → waiting z s' k ≡ waiting z s k

abbrev pub join_way : Waiting → ℕ → Waiting
join_way w x = record { queue = w.queue; way = w.way ++ (x ∷ []) }

pub record Pushed (z : Sizes) (s : List ℕ) (i x : ℕ) (s' : List ℕ) (ok : Bool) : Type 0 where
  pub words : s' ≡ pushed z s i x
  pub answer : ok ≡ has_room z s i
  pub room : ok ≡ ltb (length (waiting z s i).queue + length (waiting z s i).way) z.room
  pub joined : ok ≡ true → waiting z s' i ≡ join_way (waiting z s i) x
  pub refused : ok ≡ false → s' ≡ s
  pub others : Others z s i s'
  pub formed : Formed z s → Formed z s'

pub record Arrived (z : Sizes) (s : List ℕ) (i : ℕ) (s' : List ℕ) (r : ℕ) : Type 0 where
  pub words : s' ≡ arrived z s i
  pub answer : r ≡ oldest z s i
  pub oldest_of : (x : ℕ) (q : List ℕ) → (waiting z s i).way ≡ x ∷ q → r ≡ x
  pub delivered : Formed z s → (x : ℕ) (q : List ℕ) → (waiting z s i).way ≡ x ∷ q
      → waiting z s' i ≡ record { queue = (waiting z s i).queue ++ (x ∷ []); way = q }
  pub none_under_way : (waiting z s i).way ≡ [] → s' ≡ s
  pub others : Others z s i s'
  pub formed : Formed z s → Formed z s'

pub record Skipped (z : Sizes) (s : List ℕ) (i : ℕ) (s' : List ℕ) : Type 0 where
  pub words : s' ≡ skipped z s i
  pub dropped : (waiting z s i).queue ≡ [] → (x : ℕ) (q : List ℕ) → (waiting z s i).way ≡ x ∷ q → waiting z s' i ≡ record { queue = []; way = q }
  pub none_under_way : (waiting z s i).way ≡ [] → s' ≡ s
  pub others : Others z s i s'
  pub formed : Formed z s → Formed z s'

-- a count, in the store's words and in lists
pub record Counted (n : ℕ) (l : List ℕ) (r : ℕ) : Type 0 where
  pub answer : r ≡ n
  pub list : r ≡ length l

pub record First (z : Sizes) (s : List ℕ) (i r : ℕ) : Type 0 where
  pub answer : r ≡ front z s i
  pub head_of : (x : ℕ) (q : List ℕ) → (waiting z s i).queue ≡ x ∷ q → r ≡ x

pub record Taken (z : Sizes) (s : List ℕ) (i : ℕ) (s' : List ℕ) (r : ℕ) : Type 0 where
  pub words : s' ≡ taken z s i
  pub answer : r ≡ taken_word z s i
  pub head_of : (x : ℕ) (q : List ℕ) → (waiting z s i).queue ≡ x ∷ q → r ≡ x
  pub off : (x : ℕ) (q : List ℕ) → (waiting z s i).queue ≡ x ∷ q → waiting z s' i ≡ record { queue = q; way = (waiting z s i).way }
  pub none_queued : (waiting z s i).queue ≡ [] → s' ≡ s
  pub others : Others z s i s'
  pub formed : Formed z s → Formed z s'

pub record Cleared (z : Sizes) (s : List ℕ) (i : ℕ) (s' : List ℕ) : Type 0 where
  pub words : s' ≡ cleared z s i
  pub emptied : waiting z s' i ≡ record { queue = []; way = (waiting z s i).way }
  pub others : Others z s i s'
  pub formed : Formed z s → Formed z s'

pub record Empty (z : Sizes) (s : List ℕ) : Type 0 where
  pub words : s ≡ none z
  pub nothing : (k : ℕ) → waiting z s k ≡ record { queue = []; way = [] }
  pub formed : Formed z s
