-- The demands over the calls: for every sheet, list, start set, budget and lent board, what follows from the answer of a run or a drain. Each statement
-- stands under the sentence of document 01 that it puts. The words are those of Said and Conditions, and of the rules. Assumes nothing.
use Rattle.std.specs.Prelude.{ℕ, suc, ◌+◌, ◌*◌, ◌≤◌, ◌<◌, ◌≡◌, refl, List, ◌++◌, ◌⊎◌, ◌≢◌, ◌↔◌, length, drop, replicate}
use Rattle.std.proofs.Common.{sym, ap, ◌∙◌, inl, inr, ⊎_elim, arith}
use Rattle.std.proofs.Math.Bool.{true, false}
use Rattle.std.proofs.Math.Dec.{eqb}
use borrow.Author.Tests.{eqb-true, eq-eqb, ne_eqb}
use Rattle.rules.specs.Sets.{mem, word, sum}
use Rattle.rules.specs.Box.{Msg}
use Rattle.rules.specs.Hub.{Hub, no_wire, block, under_way}
use Rattle.rules.specs.Calls.{Ran, run_call, drain_call}
use Rattle.rules.specs.Rest.{Least, together, farthest, at_rest, wire_list, wire_count, sent_at_rest, enough}
use Rattle.sets.specs.Mem.{in_lt}
use Rattle.sets.specs.Loops.{by_bool}
use Rattle.calls.specs.Refused.{Untouched}
use Rattle.order.specs.Terms.{starts_of, handed, SetsOnly, Final}
use Rattle.order.proofs.Groups.{together_walk}
use Rattle.order.proofs.Promises
use Rattle.sheet_laws.specs.Conditions.{None, N, P, Linked, sheet_lines}
use Rattle.sheet_laws.specs.Said.{Joins, Counted}
use Rattle.promises.specs.Said.{Call, listed, drained, answer, starting, table_of, hub_of, Opened, block_at, state_at, hop_at, nodes_at, in_at, not_at, list_at, Leads, InStarted, SameGroups, Takes, Farthest}
use Rattle.promises.specs.Conditions.{first_of, second_of, ask_lines, call_lines, Cond13}
use Rattle.promises.proofs.Opens.{opened, refused_call}
use Rattle.promises.proofs.Refusals as Tests
use Rattle.promises.proofs.Blocks.{block_asleep, board_past, board_length}
use Rattle.promises.proofs.Routes.{takes_other, walk_below, rest_farthest, leads_least, nodes_least, lists_group, lists_others, in_takes, one_taken, not_takes}
use Rattle.promises.proofs.Most.{enough_16}
use Rattle.promises.proofs.Shown
use Rattle.promises.proofs.Starts

-- ---- "Numbers given when the hub refuses"

module _ (sheet : List ℕ) (call : Call) (lent : List ℕ) where
  -- the answer, the lent board after it, the sheet's table, the hub behind the answer
  abbrev ran : Ran
  ran = answer sheet call lent

  abbrev board : List ℕ
  board = ran.board

  abbrev t : List ℕ
  t = table_of sheet

  abbrev hub : Hub
  hub = hub_of sheet call

  -- "Given exactly when": 0 exactly where no line of the table applies, a number exactly where its line is the first that does
  pub number : Counted ran.number (call_lines sheet call lent)
  number = Tests.call_number sheet call lent

  -- 13: "a message would be the 21st waiting on one wire and its receiving queue together". It never is, so 13 is never given
  pub never_the_21st : None (sheet_lines 16 sheet) → None (ask_lines sheet call) → Cond13 sheet call → ⊥
  never_the_21st = Tests.never_21 sheet call

  pub never_13 : ran.number ≢ 13
  never_13 = Tests.never_13 sheet call lent

  -- "A refusal returns its number, zero counts, not finished, and touches no lent board"
  pub refused : ran.number ≢ 0 → Untouched lent ran
  refused = refused_call sheet call lent

  -- ---- "Acceptance answers 0"

  module _ (ok : ran.number ≡ 0) where
    -- the sheet, the list or start set and the board were checked, and the answer is that of the hub that the rules come to
    pub behind : Opened sheet call lent
    behind = opened sheet call lent ok

    -- the table that the promises speak of has exactly the sheet's links
    pub links : (i j : ℕ) → Linked t i j ↔ ((k : ℕ) × (k < P sheet) × Joins sheet k i j)
    links i j = Tests.call_links sheet call lent ok i j

    -- "It makes two wires, one each way": E, which `enough` multiplies, is 2P
    pub wires : wire_count 16 t ≡ 2 * P sheet
    wires = Tests.call_wires sheet call lent ok

    -- ---- demand 2: the tables are right

    -- "state (0 asleep, 1 awake, 2 stopped)"
    pub states : (i : ℕ) → i < N sheet → (state_at i board ≡ 0) ⊎ ((state_at i board ≡ 1) ⊎ (state_at i board ≡ 2))
    states i h =
        rw (Shown.state_hub sheet call lent behind i h)
        (Promises.states 16 t behind.table 20 Shown.wide hub behind.reached i (Shown.low sheet call lent behind i h))

    -- "HOP .. The largest is 17."
    pub hop_most : (i : ℕ) → i < N sheet → hop_at i board ≤ 17
    hop_most i h =
        rw (Shown.hop_hub sheet call lent behind i h)
        (Promises.hop_small 16 t behind.table 20 Shown.wide hub behind.reached i (Shown.low sheet call lent behind i h))

    -- "A sleeping box's block is all zero."
    pub asleep_block : (i : ℕ) → i < N sheet → state_at i board ≡ 0 → block_at i board ≡ replicate 66 0
    asleep_block i h e = Shown.block_hub sheet call lent behind i h ∙ ap block (Shown.asleep_hub sheet call lent behind i h e) ∙ block_asleep

    -- "The tables at rest", the whole block of a stopped box: the sheet alone fixes it
    pub stopped_block : (i : ℕ) → i < N sheet → state_at i board ≡ 2 → block_at i board ≡ block (at_rest 16 t i)
    stopped_block i h e = Shown.block_hub sheet call lent behind i h ∙ ap block (Shown.stopped_hub sheet call lent behind i h e)

    -- "Words past 66N stay."
    pub words_past : drop (66 * N sheet) board ≡ drop (66 * N sheet) lent
    words_past = rw behind.board (board_past (N sheet) hub lent (Shown.sizes sheet call lent behind))

    pub same_length : length board ≡ length lent
    same_length = rw behind.board (board_length (N sheet) hub lent (Shown.sizes sheet call lent behind) behind.long)

    -- "For a stopped box I whose farthest group member is e hops away", word by word
    module _ (i : ℕ) (h : i < N sheet) (stopped : state_at i board ≡ 2) where
      block_rest : block_at i board ≡ block (at_rest 16 t i)
      block_rest = stopped_block i h stopped

      hi : i < 16
      hi = Shown.low sheet call lent behind i h

      -- "HOP is e + 2, or 0 for a box without links."
      pub hop_rest : word t i ≢ 0 → (e : ℕ) × Farthest t i e × (hop_at i board ≡ e + 2)
      unfolding at_rest
      hop_rest z =
          let f : eqb (word t i) 0 ≡ false = ne_eqb (word t i) 0 z in
          (farthest 16 t i, rest_farthest 16 t behind.table i hi, Shown.rest_hop_lem board t i block_rest ∙ rw f)

      pub hop_alone : word t i ≡ 0 → hop_at i board ≡ 0
      unfolding at_rest
      hop_alone z =
          let f : eqb (word t i) 0 ≡ true = eq-eqb (word t i) 0 z in
          Shown.rest_hop_lem board t i block_rest ∙ rw f

      -- "Nodes(d) is the set of boxes at d hops, the least number of links on any walk."
      pub nodes : (d k : ℕ) → d < 16 → (mem k (nodes_at i d board) ≡ true) ↔ Least t d i k
      nodes d k hd =
          rw (Shown.rest_nodes board t i block_rest d hd) (nodes_least 16 t behind.table i d k hi hd)

      -- the box knows exactly the boxes that links lead to
      pub group : (k : ℕ) → Leads t i k ↔ ((d : ℕ) × (d < 16) × (mem k (nodes_at i d board) ≡ true))
      group k = (
        λ u. let (d, hd, l) = leads_least 16 t behind.table i k hi u in (d, hd, (nodes d k hd).1 l),
        λ x. let (d, hd, m) = x in (d, ((nodes d k hd).0 m).walk),
      )

      -- "Neighbors(K) is K's link set, for the group; zero for all others."
      pub lists : (k : ℕ) → Leads t i k → list_at i k board ≡ word t k
      lists k u =
          Shown.rest_lists board t i block_rest k (walk_below t 16 behind.table.small u.0 i k hi u.1)
          ∙ lists_group 16 t behind.table i k hi u

      pub lists_else : (k : ℕ) → k < 16 → (Leads t i k → ⊥) → list_at i k board ≡ 0
      lists_else k hk z =
          Shown.rest_lists board t i block_rest k hk ∙ lists_others 16 t behind.table i k hi hk z

      -- "In_SPT(J): the origins K, other than I, for which J is the lowest-numbered neighbour one hop nearer to K."
      pub ins : (j k : ℕ) → j < 16 → (mem k (in_at i j board) ≡ true) ↔ Takes t i k j
      ins j k hj =
          rw (Shown.rest_ins board t i block_rest j hj) (in_takes 16 t behind.table i j k hi hj)

      -- "Nodes(16) and beyond are always empty": an origin that a link comes in for is in one of the sixteen sets
      pub nodes_all : (j k : ℕ) → j < 16 → mem k (in_at i j board) ≡ true → (d : ℕ) × (d < 16) × (mem k (nodes_at i d board) ≡ true)
      nodes_all j k hj m = let x = (ins j k hj).0 m in (group k).0 (suc x.hops, x.far.walk)

      -- so exactly one link comes in for each origin, and none for the box itself
      pub one_in : (k : ℕ) → i ≢ k → Leads t i k
          → (j : ℕ) × (j < 16) × (mem k (in_at i j board) ≡ true) × ((l : ℕ) → l < 16 → mem k (in_at i l board) ≡ true → l ≡ j)
      one_in k z u =
          let (j, x, f) = one_taken 16 t behind.table i k hi z u in
          let hj : j < 16 = in_lt 16 (word t i) j (behind.table.small i) x.linked in
          (j, hj, (ins j k hj).1 x, λ l hl m. f l ((ins l k hl).0 m))

      pub not_itself : (j : ℕ) → j < 16 → mem i (in_at i j board) ≡ true → ⊥
      not_itself j hj m = takes_other t i i j ((ins j i hj).0 m) refl

      -- "Not_SPT(J): the group without those K that J takes from I."
      pub nots : (j k : ℕ) → Linked t i j
          → (mem k (not_at i j board) ≡ true) ↔ (Leads t i k × (Takes t j k i → ⊥))
      nots j k v =
          rw (Shown.rest_nots board t i block_rest j (in_lt 16 (word t i) j (behind.table.small i) v))
          (not_takes 16 t behind.table i j k hi v)

      -- "Both sets are zero for a J that is no neighbour."
      pub no_neighbour : (j : ℕ) → j < 16 → (Linked t i j → ⊥) → (in_at i j board ≡ 0) × (not_at i j board ≡ 0)
      no_neighbour j hj z =
          let (x, y) = Promises.no_neighbour 16 t behind.table i hi j hj (by_bool (mem j (word t i)) (λ e. absurd (z e)) (λ e. e)) in (
            Shown.rest_ins board t i block_rest j hj ∙ x,
            Shown.rest_nots board t i block_rest j hj ∙ y,
          )

    -- the same by the far end's own tables, once that has stopped too: what is not in its In_SPT for this link
    pub nots_far : (i j k : ℕ) → i < N sheet → j < N sheet → state_at i board ≡ 2 → state_at j board ≡ 2 → Linked t i j
        → (mem k (not_at i j board) ≡ true) ↔ (Leads t i k × (mem k (in_at j i board) ≡ true → ⊥))
    nots_far i j k hi hj si sj v =
        let there = nots i hi si j k v in
        let far = ins j hj sj i k (Shown.low sheet call lent behind i hi) in (
          λ m. ((there.0 m).0, λ x. (there.0 m).1 (far.0 x)),
          λ u. there.1 (u.0, λ x. u.1 (far.1 x)),
        )

    -- ---- demand 3: order doesn't matter. The end: "none is under way"

    -- "finished, that is, none is under way"
    pub finished : (ran.finished ≡ true) ↔ (ran.under_way ≡ 0)
    finished = (
      λ e. behind.way ∙ eqb-true (under_way 16 hub) 0 (sym behind.finished ∙ e),
      λ e. behind.finished ∙ eq-eqb (under_way 16 hub) 0 (sym behind.way ∙ e),
    )

    module _ (none : ran.under_way ≡ 0) where
      end : Final 16 t (starting call) hub
      end = Shown.final sheet call lent behind (sym behind.way ∙ none)

      -- every box of a group in which a box was started has stopped, with its tables at rest; all others sleep
      pub end_stopped : (i : ℕ) → i < N sheet → InStarted t (starting call) i → block_at i board ≡ block (at_rest 16 t i)
      end_stopped i h u =
          Shown.block_hub sheet call lent behind i h
          ∙ ap block (end.stopped i (Shown.low sheet call lent behind i h) ((Shown.started_is sheet call lent behind i).1 u))

      pub end_asleep : (i : ℕ) → i < N sheet → (InStarted t (starting call) i → ⊥) → block_at i board ≡ replicate 66 0
      end_asleep i h z =
          Shown.block_hub sheet call lent behind i h
          ∙ ap block (end.sleep i (Shown.low sheet call lent behind i h) (Shown.not_started sheet call lent behind i z)) ∙ block_asleep

      pub either : (i : ℕ) → InStarted t (starting call) i ⊎ (InStarted t (starting call) i → ⊥)
      either i = Shown.started_or_not sheet call lent behind i

      -- "When none is under way, sent is, over started groups, the sum over wires of (e of the sender + 3) plus n(n-1) for each group of n boxes."
      pub end_sent : ran.sent ≡ sent_at_rest 16 t (starting call)
      end_sent = behind.sent ∙ end.sent

      pub end_moved : ran.moved ≡ sent_at_rest 16 t (starting call)
      end_moved = behind.moved ∙ end.moved

    -- ---- the counts, at every moment

    -- "sent = moved + under way always."
    pub counts : ran.sent ≡ ran.moved + ran.under_way
    counts =
        rw (behind.sent, behind.moved, behind.way)
        (Promises.counts 16 t behind.table 20 Shown.wide hub behind.reached)

    -- "sent is the total length of its wire lists and under way what is left on the wires"
    pub sent_logs : ran.sent ≡ sum 16 (λ a. sum 16 (λ b. length (hub.wires a b).log))
    sent_logs = behind.sent ∙ Promises.sent_lists 16 t behind.table 20 Shown.wide hub behind.reached

    pub way_left : ran.under_way ≡ sum 16 (λ a. sum 16 (λ b. length (hub.wires a b).way))
    unfolding under_way
    way_left = behind.way

    -- ---- the messages, at every moment: of the hub behind the answer

    -- what was sent on a wire is the beginning of the list that the sheet fixes for it, and all of it once the sender has stopped
    pub wire_begins : (a b : ℕ) → Linked t a b → (rest : List Msg) × (wire_list 16 t a b ≡ (hub.wires a b).log ++ rest)
    wire_begins a b v = Promises.wire_begins 16 t behind.table 20 Shown.wide hub behind.reached a b v

    pub wire_whole : (a b : ℕ) → Linked t a b → a < N sheet → state_at a board ≡ 2
        → (hub.wires a b).log ≡ wire_list 16 t a b
    wire_whole a b v h e =
        Promises.wire_whole 16 t behind.table 20 Shown.wide hub behind.reached a b v (sym (Shown.state_hub sheet call lent behind a h) ∙ e)

    -- "first in first out": a receiver that has not stopped has used what was sent first, then comes its queue, then the wire
    pub wire_order : (a b : ℕ) → Linked t a b → b < N sheet → state_at b board ≢ 2
        → (hub.wires a b).log
        ≡ (hub.wires a b).taken ++ ((hub.wires a b).queue ++ (hub.wires a b).way)
    wire_order a b v h z =
        Promises.wire_order 16 t behind.table 20 Shown.wide hub behind.reached a b v
        (λ e. z (Shown.state_hub sheet call lent behind b h ∙ e))

    -- "A stopping box empties its queues. A message delivered to a stopped box is taken and dropped." No list is dropped
    pub wire_dropped : (a b : ℕ) → Linked t a b → b < N sheet → state_at b board ≡ 2
        → (dropped : List Msg) × ((hub.wires a b).log
        ≡ (hub.wires a b).taken ++ (dropped ++ (hub.wires a b).way)) × SetsOnly dropped
    wire_dropped a b v h e =
        Promises.wire_dropped 16 t behind.table 20 Shown.wide hub behind.reached a b v
        (sym (Shown.state_hub sheet call lent behind b h) ∙ e)

    -- nor will one be: none is under way to it
    pub wire_late : (a b : ℕ) → Linked t a b → b < N sheet → state_at b board ≡ 2
        → SetsOnly (hub.wires a b).way
    wire_late a b v h e =
        Promises.wire_late 16 t behind.table 20 Shown.wide hub behind.reached a b v
        (sym (Shown.state_hub sheet call lent behind b h) ∙ e)

    -- "It makes two wires": where there is no link there is nothing
    pub no_wire_lem : (a b : ℕ) → (Linked t a b → ⊥) → hub.wires a b ≡ no_wire
    no_wire_lem a b z =
        Promises.no_wire_lem 16 t behind.table 20 Shown.wide hub behind.reached a b
        (by_bool (mem b (word t a)) (λ e. absurd (z e)) (λ e. e))

    -- each box has used the list of every other member of its group at most once, exactly once when it has stopped, and never any other list
    pub lists_once : (j k : ℕ) → handed 16 hub j k ≤ 1
    lists_once j k = Promises.lists_once 16 t behind.table 20 Shown.wide hub behind.reached j k

    pub lists_all : (j k : ℕ) → j < N sheet → state_at j board ≡ 2 → j ≢ k → Leads t j k → handed 16 hub j k ≡ 1
    lists_all j k h e z u =
        let hj : j < 16 = Shown.low sheet call lent behind j h in
        Promises.lists_all 16 t behind.table 20 Shown.wide hub behind.reached j k hj
        (walk_below t 16 behind.table.small u.0 j k hj u.1)
        (sym (Shown.state_hub sheet call lent behind j h) ∙ e) z ((together_walk 16 t behind.table j k hj).1 u)

    pub lists_others_never : (j k : ℕ) → j < N sheet → (j ≡ k) ⊎ (Leads t j k → ⊥) → handed 16 hub j k ≡ 0
    lists_others_never j k h z =
        let hj : j < 16 = Shown.low sheet call lent behind j h in
        Promises.lists_else 16 t behind.table 20 Shown.wide hub behind.reached j k
        (⊎_elim (λ e. inl e) (λ f. inr (by_bool (together 16 t j k) (λ e. absurd (f ((together_walk 16 t behind.table j k hj).0 e))) (λ e. e))) z)

-- ---- "a = b starts box a": the set of the boxes that a list starts

pub list_starts : (list : List ℕ) (k : ℕ) → k < 16
    → (mem k (starting (listed list)) ≡ true) ↔ ((i : ℕ) × (2 * i + 1 < length list) × (first_of list i ≡ k) × (second_of list i ≡ k))
list_starts = Starts.list_starts

-- ---- the order of the deliveries leaves no trace: two calls, each a list or a drain, that start boxes of the same groups and leave none under way
-- give the same answer altogether

pub order_leaves_no_trace : (sheet : List ℕ) (c d : Call) (lent : List ℕ) → (answer sheet c lent).number ≡ 0 → (answer sheet d lent).number ≡ 0
    → (answer sheet c lent).under_way ≡ 0 → (answer sheet d lent).under_way ≡ 0 → SameGroups sheet (starting c) (starting d)
    → answer sheet c lent ≡ answer sheet d lent
order_leaves_no_trace sheet c d lent p q u v e =
    Shown.same_answer sheet c d lent (opened sheet c lent p) (opened sheet d lent q) p q u v e

-- two lists
pub lists_alike : (sheet l m lent : List ℕ) → (run_call sheet l lent).number ≡ 0 → (run_call sheet m lent).number ≡ 0
    → (run_call sheet l lent).under_way ≡ 0 → (run_call sheet m lent).under_way ≡ 0 → SameGroups sheet (starts_of 16 l) (starts_of 16 m)
    → run_call sheet l lent ≡ run_call sheet m lent
lists_alike sheet l m lent = order_leaves_no_trace sheet (listed l) (listed m) lent

-- ---- the drain

module _ (sheet : List ℕ) (starts budget : ℕ) (lent : List ℕ) (ok : (drain_call sheet starts budget lent).number ≡ 0) where
  -- "It ends when none is under way or when the messages moved reach the budget"
  pub drain_within : (drain_call sheet starts budget lent).moved ≤ budget
  drain_within = Shown.drain_most sheet starts budget lent (opened sheet (drained starts budget) lent ok)

  pub drain_ends : ((drain_call sheet starts budget lent).finished ≡ true) ⊎ ((drain_call sheet starts budget lent).moved ≡ budget)
  drain_ends =
      ⊎_elim (λ e. inl ((finished sheet (drained starts budget) lent ok).1 e)) (λ e. inr e)
      (Shown.drain_stops sheet starts budget lent (opened sheet (drained starts budget) lent ok))

  -- "A budget of E(N+2) + N(N-1) always finishes"
  pub drain_finishes : enough 16 (table_of sheet) (N sheet) ≤ budget → (drain_call sheet starts budget lent).finished ≡ true
  drain_finishes l =
      (finished sheet (drained starts budget) lent ok).1 (Shown.drain_done sheet starts budget lent (opened sheet (drained starts budget) lent ok) l)

  -- "4,560 suffices for every sheet"
  pub drain_4560 : 4560 ≤ budget → (drain_call sheet starts budget lent).finished ≡ true
  drain_4560 l =
      let o = opened sheet (drained starts budget) lent ok in
      drain_finishes (omega (arith, enough_16 (table_of sheet) o.table (N sheet) o.few_boxes))

  -- "Budget 0 only starts."
  pub drain_starts : budget ≡ 0 → (drain_call sheet starts budget lent).moved ≡ 0
  drain_starts e = omega (arith, Shown.drain_most sheet starts budget lent (opened sheet (drained starts budget) lent ok))

-- two budgets that finish give the same answer
pub budgets_alike : (sheet : List ℕ) (starts b c : ℕ) (lent : List ℕ) → (drain_call sheet starts b lent).number ≡ 0
    → (drain_call sheet starts b lent).finished ≡ true → (drain_call sheet starts c lent).finished ≡ true
    → drain_call sheet starts b lent ≡ drain_call sheet starts c lent
budgets_alike sheet starts b c lent p u v =
    let q = Tests.any_budget sheet starts b c lent p in
    order_leaves_no_trace sheet (drained starts b) (drained starts c) lent p q
    ((finished sheet (drained starts b) lent p).0 u) ((finished sheet (drained starts c) lent q).0 v) (λ i h. ((λ x. x), λ x. x))
