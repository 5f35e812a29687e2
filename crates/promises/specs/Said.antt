-- The words of the demands over the calls: what a reader of Demands has to know beside the rules. Definitions alone.
-- A sheet and a list are bytes, a start set and a budget are numbers, a board is lent words; Calls of the rules says what comes out.
-- Of the crate order a reader needs `Names`, `asks`, `starts_of`, `tally`, `handed`, `SetsOnly` (Terms); of the crate sheet_laws `N`, `P` and the sheet's lines (Conditions)
-- and `Joins` (Said); of the crate calls `Untouched` (Refused).
use Rattle.std.specs.Prelude.{ℕ, suc, ◌+◌, ◌*◌, ◌%◌, ◌^◌, ◌≤◌, ◌<◌, ◌≡◌, true, List, ◌↔◌, eqb, length, take, drop, replicate}
use Rattle.rules.specs.Sets.{mem, word}
use Rattle.rules.specs.Hub.{Hub, sleeping, run, drain, start_all, under_way, board_of}
use Rattle.rules.specs.Calls.{Ran, read_call, run_call, drain_call, longest_list}
use Rattle.rules.specs.Rest.{Table, Walk, Least}
use Rattle.order.specs.Terms.{Reached, Names, starts_of}
use Rattle.sheet_laws.specs.Conditions.{N}

-- ---- the two calls that lend a board: one statement serves both

-- the run of a list, and the drain of a start set with a budget
pub data Call : Type 0 where
  listed : List ℕ → Call
  drained : ℕ → ℕ → Call

abbrev pub answer : List ℕ → Call → List ℕ → Ran
answer sheet (listed list) board = run_call sheet list board
answer sheet (drained starts budget) board = drain_call sheet starts budget board

-- the lent board after the call
abbrev pub after : List ℕ → Call → List ℕ → List ℕ
after sheet call board = (answer sheet call board).board

-- the set of the boxes that the call itself starts: the pairs (a, a) of the list, or the start set
abbrev pub starting : Call → ℕ
starting (listed list) = starts_of 16 list
starting (drained starts budget) = starts

-- ---- what stands behind an answer

-- the link table of the sheet: what a read fills in. `N` is the sheet's number of boxes, a byte of its trailer.
unfoldable pub table_of : List ℕ → List ℕ
table_of sheet = (read_call sheet (replicate 16 0)).table

-- the hub that the call comes to, with its history: which the promises about messages speak of
abbrev pub hub_of : List ℕ → Call → Hub
hub_of sheet (listed list) = run 16 20 (table_of sheet) list (sleeping 16)
hub_of sheet (drained starts budget) = drain 16 20 (table_of sheet) budget (start_all 16 20 (table_of sheet) starts (sleeping 16))

-- what was checked of a list, or of a start set: a set of boxes below n is a number below 2^n
abbrev pub Checked : ℕ → List ℕ → Call → Type 0
Checked n t (listed list) = (length list % 2 ≡ 0) × (length list ≤ longest_list) × Names n t list
Checked n t (drained starts budget) = starts < 2 ^ n

-- an accepted answer: what was checked, and that the answer is that of the hub
pub record Opened (sheet : List ℕ) (call : Call) (lent : List ℕ) : Type 0 where
  pub some_box : 1 ≤ N sheet
  pub few_boxes : N sheet ≤ 16
  pub table : Table 16 (table_of sheet)
  pub below : (i : ℕ) → word (table_of sheet) i < 2 ^ N sheet
  pub checked : Checked (N sheet) (table_of sheet) call
  pub long : 66 * N sheet ≤ length lent
  pub reached : Reached 16 20 (table_of sheet) (hub_of sheet call)
  pub sent : (answer sheet call lent).sent ≡ (hub_of sheet call).sent
  pub moved : (answer sheet call lent).moved ≡ (hub_of sheet call).moved
  pub way : (answer sheet call lent).under_way ≡ under_way 16 (hub_of sheet call)
  pub finished : (answer sheet call lent).finished ≡ eqb (under_way 16 (hub_of sheet call)) 0
  pub board : (answer sheet call lent).board ≡ board_of 16 (N sheet) (hub_of sheet call) lent

-- ---- the board: "66 for each box: state .., HOP, then Nodes(0..15), In_SPT(0..15), Not_SPT(0..15), Neighbors(0..15)"

abbrev pub block_at : ℕ → List ℕ → List ℕ
block_at i board = take 66 (drop (66 * i) board)

abbrev pub state_at : ℕ → List ℕ → ℕ
state_at i board = word board (66 * i)

abbrev pub hop_at : ℕ → List ℕ → ℕ
hop_at i board = word board (66 * i + 1)

abbrev pub nodes_at : ℕ → ℕ → List ℕ → ℕ
nodes_at i d board = word board (66 * i + (2 + d))

abbrev pub in_at : ℕ → ℕ → List ℕ → ℕ
in_at i j board = word board (66 * i + (18 + j))

abbrev pub not_at : ℕ → ℕ → List ℕ → ℕ
not_at i j board = word board (66 * i + (34 + j))

abbrev pub list_at : ℕ → ℕ → List ℕ → ℕ
list_at i k board = word board (66 * i + (50 + k))

-- ---- groups and routes, in walks alone

-- links lead from i to k: k is of the group of i
abbrev pub Leads : List ℕ → ℕ → ℕ → Type 0
Leads t i k = (n : ℕ) × Walk t n i k

-- box i is of a group in which a box of the set x is started
abbrev pub InStarted : List ℕ → ℕ → ℕ → Type 0
InStarted t x i = (k : ℕ) × (mem k x ≡ true) × Leads t k i

-- x and y start boxes of the same groups
abbrev pub SameGroups : List ℕ → ℕ → ℕ → Type 0
SameGroups sheet x y = (i : ℕ) → i < N sheet → InStarted (table_of sheet) x i ↔ InStarted (table_of sheet) y i

-- "J is the lowest-numbered neighbour one hop nearer to K": i takes k from j
pub record Takes (t : List ℕ) (i k j : ℕ) : Type 0 where
  pub linked : mem j (word t i) ≡ true
  pub hops : ℕ
  pub near : Least t hops j k
  pub far : Least t (suc hops) i k
  pub lowest : (l : ℕ) → l < j → mem l (word t i) ≡ true → Least t hops l k → ⊥

-- "whose farthest group member is e hops away"
pub record Farthest (t : List ℕ) (i e : ℕ) : Type 0 where
  pub there : (k : ℕ) × Least t e i k
  pub most : (d k : ℕ) → Least t d i k → d ≤ e
