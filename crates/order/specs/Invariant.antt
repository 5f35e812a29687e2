-- The invariant: what holds of every box and every wire between two pairs of a list, whatever the order. Definitions alone.
-- w is the number of boxes, t the link table. Of the wire from i to j, `past` is what j has used, `queue` its queue, `rest` what is under way; n i says
-- how many NOTSPT i has sent on each of its links. All that was ever sent from i to j is then `wire w t i j (n i)`: a function of the sender's HOP alone.
use Rattle.std.specs.Prelude.{ℕ, zero, suc, ◌+◌, ◌≤◌, ◌<◌, ◌≡◌, true, false, cond, List, [], ◌++◌, ◌≢◌, eqb, length}
use Rattle.rules.specs.Sets.{mem, word, sum}
use Rattle.rules.specs.Box.{Msg, Box, asleep, behind}
use Rattle.rules.specs.Hub.{Hub, no_wire, under_way}
use Rattle.rules.specs.Rest.{hops, layer, farthest}
use Rattle.order.specs.Rounds.{in_cut, heard_to}
use Rattle.order.specs.Messages.{sets, Says}
use Rattle.order.specs.Wire.{wire}

-- how many NOTSPT a box has sent on each link: none asleep, HOP + 1 after
unfoldable pub spoken : Box → ℕ
spoken b = elim b.state [ zero ↦ 0 | suc s ↦ suc b.hop ]

-- HOP at rest: "HOP is e + 2, or 0 for a box without links"
abbrev pub rest_hop : ℕ → List ℕ → ℕ → ℕ
rest_hop w t i = cond (eqb (word t i) 0) 0 (farthest w t i + 2)

module _ (w : ℕ) (t : List ℕ) where
  -- the tables of box i, cut at its HOP
  pub record Tables (i : ℕ) (b : Box) : Type 0 where
    -- each table has w words
    pub nodes_size : length b.nodes ≡ w
    pub in_size : length b.in_spt ≡ w
    pub not_size : length b.not_spt ≡ w
    pub list_size : length b.neighbors ≡ w
    -- Nodes(d) holds the boxes at d hops, up to HOP, and nothing after
    pub old : (d : ℕ) → d ≤ b.hop → word b.nodes d ≡ layer w t i d
    pub new : (d : ℕ) → b.hop < d → word b.nodes d ≡ 0
    -- In_SPT(j) holds what i takes from j, up to HOP hops away
    pub ins : (j : ℕ) → j < w → word b.in_spt j ≡ in_cut w t i j b.hop
    -- Not_SPT(j) holds what j has said in the rounds before HOP, and nothing where j is no neighbour
    pub heard : (j : ℕ) → mem j (word t i) ≡ true → word b.not_spt j ≡ heard_to w t i j b.hop
    pub deaf : (j : ℕ) → mem j (word t i) ≡ false → word b.not_spt j ≡ 0
    -- its own list is known, and no list of a box that is not of its group
    pub own : word b.neighbors i ≡ word t i
    pub only : (k : ℕ) → k < w → ¬ (hops w t i k < w) → word b.neighbors k ≡ 0

  -- the wire from i to an awake j: of what was sent, HOP sets and the lists before them were used, and those lists are saved; then the queue, then the wire
  pub record Flow (i j n : ℕ) (past queue rest : List Msg) (b : Box) : Type 0 where
    pub all : wire w t i j n ≡ past ++ (queue ++ rest)
    pub num : sets past ≡ b.hop
    pub kept : (k : ℕ) → Says k past → word b.neighbors k ≡ word t k

  -- the wire from i to a stopped j: HOP sets were used, the rest was dropped or is under way
  pub record Spent (i j n : ℕ) (past rest : List Msg) (b : Box) : Type 0 where
    pub dropped : List Msg
    pub all : wire w t i j n ≡ past ++ (dropped ++ rest)
    pub num : sets past ≡ b.hop

  -- a box at work: all that holds of it while it is awake, but that it waits
  pub record Half (j : ℕ) (n : ℕ → ℕ) (past queue rest : ℕ → List Msg) (b : Box) : Type 0 where
    pub state : b.state ≡ 1
    pub tables : Tables j b
    -- its last round is number e + 1
    pub early : b.hop ≤ suc (farthest w t j)
    pub linked : word t j ≢ 0
    pub flows : (i : ℕ) → mem i (word t j) ≡ true → Flow i j (n i) (past i) (queue i) (rest i) b
    pub mute : (i : ℕ) → mem i (word t j) ≡ false → queue i ≡ []

  -- an awake box between two deliveries: no list stands at the head of a queue, and the queue of some link is empty
  pub record Awake (j : ℕ) (n : ℕ → ℕ) (past queue rest : ℕ → List Msg) (b : Box) : Type 0 where
    pub half : Half j n past queue rest b
    pub calm : (i : ℕ) → behind (queue i) ≡ queue i
    pub waits : (i : ℕ) × (mem i (word t j) ≡ true) × (queue i ≡ [])

  pub record Stopped (j : ℕ) (n : ℕ → ℕ) (past queue rest : ℕ → List Msg) (b : Box) : Type 0 where
    pub state : b.state ≡ 2
    pub tables : Tables j b
    pub last : b.hop ≡ rest_hop w t j
    -- "A stopping box empties its queues"
    pub empty : (i : ℕ) → queue i ≡ []
    -- every list of the group is saved
    pub full : (k : ℕ) → k < w → hops w t j k < w → word b.neighbors k ≡ word t k
    pub spent : (i : ℕ) → mem i (word t j) ≡ true → Spent i j (n i) (past i) (rest i) b

  -- a sleeping box has used and queued nothing: all that its neighbours sent is under way
  pub record Sleeps (j : ℕ) (n : ℕ → ℕ) (past queue rest : ℕ → List Msg) (b : Box) : Type 0 where
    pub blank : b ≡ asleep w
    pub used : (i : ℕ) → mem i (word t j) ≡ true → past i ≡ []
    pub empty : (i : ℕ) → queue i ≡ []
    pub all : (i : ℕ) → mem i (word t j) ≡ true → wire w t i j (n i) ≡ rest i

  pub data Seat (j : ℕ) (n : ℕ → ℕ) (past queue rest : ℕ → List Msg) (b : Box) : Type 0 where
    sleeps : Sleeps j n past queue rest b → Seat j n past queue rest b
    wakes : Awake j n past queue rest b → Seat j n past queue rest b
    rests : Stopped j n past queue rest b → Seat j n past queue rest b

  -- box j of a hub, with `rest i` in place of what is under way from i to j
  abbrev pub SeatOf : Hub → ℕ → (ℕ → List Msg) → Type 0
  SeatOf h j rest = Seat j (λ i. spoken (h.boxes i)) (λ i. (h.wires i j).taken) (λ i. (h.wires i j).queue) rest (h.boxes j)

  -- what is under way to box j
  abbrev pub ways : Hub → ℕ → ℕ → List Msg
  ways h j i = (h.wires i j).way

  -- all but box j is as it should be
  pub record Others (j : ℕ) (h : Hub) : Type 0 where
    pub seats : (i : ℕ) → i < w → i ≢ j → SeatOf h i (ways h i)
    -- nothing was ever on a wire that is no link
    pub quiet : (i k : ℕ) → mem k (word t i) ≡ false → h.wires i k ≡ no_wire
    -- all that was sent on a wire is the wire's list, up to the sender's HOP
    pub log : (i k : ℕ) → mem k (word t i) ≡ true → (h.wires i k).log ≡ wire w t i k (spoken (h.boxes i))

  -- the same of all boxes, where box j is seen with `rest i` in place of what is under way from i to j
  pub record Held (j : ℕ) (rest : ℕ → List Msg) (h : Hub) : Type 0 where
    pub others : Others j h
    pub seat : SeatOf h j rest

  -- the hub: every box is as it should be
  pub record Good (h : Hub) : Type 0 where
    pub seats : (j : ℕ) → j < w → SeatOf h j (ways h j)
    pub quiet : (i k : ℕ) → mem k (word t i) ≡ false → h.wires i k ≡ no_wire
    pub log : (i k : ℕ) → mem k (word t i) ≡ true → (h.wires i k).log ≡ wire w t i k (spoken (h.boxes i))

-- the length of all logs
abbrev pub logged : ℕ → Hub → ℕ
logged w h = sum w (λ a. sum w (λ b. length (h.wires a b).log))

-- the counts
pub record Counted (w : ℕ) (h : Hub) : Type 0 where
  -- "sent = moved + under way always"
  pub way : h.sent ≡ h.moved + under_way w h
  -- "sent is the total length of its wire lists"
  pub all : h.sent ≡ logged w h
  -- no message was one too many for its wire and queue
  pub room : h.full ≡ false

-- what holds at every moment
pub record Sound (w : ℕ) (t : List ℕ) (h : Hub) : Type 0 where
  pub good : Good w t h
  pub counted : Counted w h
