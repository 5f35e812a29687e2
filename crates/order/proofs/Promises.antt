-- Demands 2 and 3: what is promised of every hub that starts and deliveries lead to, by a list, by the drain or one by one, in any order.
-- For any number of boxes w, any link table of w boxes and any room of w + 1 or more. Each promise stands under the sentence of document 01 that it puts.
-- The words are those of the rules, and of Terms. Assumes nothing.
use Rattle.std.specs.Prelude.{ℕ, ◌+◌, ◌^◌, ◌≤◌, ◌<◌, ◌≡◌, refl, true, false, cond, List, ◌++◌, ◌⊎◌, ◌≢◌, ◌↔◌, length}
use Rattle.std.proofs.Common.{sym, inl, inr, ⊎_elim, arith}
use Rattle.std.proofs.Math.Decide.{ℕ_discrete}
use Rattle.rules.specs.Sets.{mem, word, sum}
use Rattle.rules.specs.Outcome.{Outcome, accepted}
use Rattle.rules.specs.Box.{Msg, asleep}
use Rattle.rules.specs.Hub.{Hub, no_wire, sleeping, run, drain, start_all, under_way}
use Rattle.rules.specs.Calls.{check_pairs}
use Rattle.rules.specs.Rest.{Table, Walk, Least, hops, together, layer, farthest, from, at_rest, wire_list, reached, enough}
use Rattle.sets.specs.Loops.{by_bool}
use Rattle.hops.specs.Hops.{hops_least, least_hops}
use Rattle.hops.specs.Rest.{From, from_ok, from_member, from_group, in_tables, far_there, far_most}
use Rattle.order.specs.Terms.{Reached, begin, Names, starts_of, handed, SetsOnly, Final, Alike}
use Rattle.order.specs.Rounds.{link_lt, links_lt}
use Rattle.order.specs.Invariant.{Sound, ways}
use Rattle.order.proofs.Reached.{sound, run_reached, starts_reached, drain_reached, checked_names}
use Rattle.order.proofs.Settle.{room_of}
use Rattle.order.proofs.Moves.{good_held}
use Rattle.order.proofs.Rest.{at_rest_lem, sleeps_at, hop_le, three_states, together_lt, lt_together, together_not, nodes_are, nodes_say, lists_say, in_off, not_say, not_off}
use Rattle.order.proofs.End.{under_idle, has_stopped, group_stopped}
use Rattle.order.proofs.Groups.{together_walk}
use Rattle.order.proofs.Lists.{log_begins, log_whole, log_split, ended, late_none, handed_le, handed_never, handed_once}
use Rattle.order.proofs.Drain.{drain_most, drained, finishes}
use Rattle.order.proofs.Started.{run_final, drain_final, same_end}

module _ (w : ℕ) (t : List ℕ) (table : Table w t) (room : ℕ) (wide : w + 1 ≤ room) where
  -- ---- which hubs are meant

  -- "A list of deliveries is pairs of bytes (a, b). .. The whole list is checked before its first pair is done." From any such hub a list leads to such a hub
  pub list_leads : (l : List ℕ) (h : Hub) → Names w t l → Reached w room t h → Reached w room t (run w room t l h)
  list_leads = run_reached w room t

  -- what refusals 10 and 11 leave is such a list
  pub list_checked : {A : Type 0} (n i : ℕ) (l : List ℕ) (o : Outcome A) (x : A) → n ≤ w → check_pairs n t i l o ≡ accepted x → Names w t l
  list_checked n i l o x h e = (checked_names w n t i l o x h e).0

  -- "The drain takes a set of boxes to start, ascending, and a budget of messages." Both lead to such a hub
  pub starts_lead : (x : ℕ) (h : Hub) → Reached w room t h → Reached w room t (start_all w room t x h)
  starts_lead = starts_reached w room t

  pub drain_leads : (budget : ℕ) (h : Hub) → Reached w room t h → Reached w room t (drain w room t budget h)
  drain_leads = drain_reached w room t

  -- ---- at every moment

  module _ (h : Hub) (r : Reached w room t h) where
    kept : Sound w t h
    kept = sound w room t table wide r

    -- 13: "a message would be the 21st waiting on one wire and its receiving queue together". It never is.
    pub never_full : h.full ≡ false
    never_full = kept.counted.room

    pub few_wait : (a b : ℕ) → length (h.wires a b).queue + length (h.wires a b).way ≤ w + 1
    few_wait a b =
        by_bool (mem b (word t a))
        (λ v. let ha : a < w = links_lt w t table a b v in room_of w t table a (ways w t h a) h ha (good_held w t h a ha kept.good) b v)
        (λ v. rw (kept.good.quiet a b v) (omega arith))

    -- "sent = moved + under way always."
    pub counts : h.sent ≡ h.moved + under_way w h
    counts = kept.counted.way

    -- "sent is the total length of its wire lists"
    pub sent_lists : h.sent ≡ sum w (λ a. sum w (λ b. length (h.wires a b).log))
    sent_lists = kept.counted.all

    -- "A box is asleep, awake or stopped." "HOP .. The largest is 17."
    pub states : (i : ℕ) → i < w → ((h.boxes i).state ≡ 0) ⊎ (((h.boxes i).state ≡ 1) ⊎ ((h.boxes i).state ≡ 2))
    states i hi = three_states w t h i hi kept.good

    pub hop_small : (i : ℕ) → i < w → (h.boxes i).hop ≤ w + 1
    hop_small i hi = hop_le w t table h i hi kept.good

    -- "The tables at rest": a stopped box's record, whole
    pub stopped_tables : (i : ℕ) → i < w → (h.boxes i).state ≡ 2 → h.boxes i ≡ at_rest w t i
    stopped_tables i hi e = at_rest_lem w t table h i hi kept.good e

    -- "A sleeping box's block is all zero."
    pub asleep_tables : (i : ℕ) → i < w → (h.boxes i).state ≡ 0 → h.boxes i ≡ asleep w
    asleep_tables i hi e = (sleeps_at w t h i hi kept.good e).blank

    -- ---- the wire lists, before the end and at it

    -- what was sent on a wire is the beginning of the list that the sheet fixes for it
    pub wire_begins : (a b : ℕ) → mem b (word t a) ≡ true → (o : List Msg) × (wire_list w t a b ≡ (h.wires a b).log ++ o)
    wire_begins a b v = log_begins w t table h kept.good a b v

    -- and all of it once the sender has stopped
    pub wire_whole : (a b : ℕ) → mem b (word t a) ≡ true → (h.boxes a).state ≡ 2 → (h.wires a b).log ≡ wire_list w t a b
    wire_whole a b v e = log_whole w t table h kept.good a b v e

    -- "first in first out": a receiver that has not stopped has used what was sent first, then comes its queue, then the wire
    pub wire_order : (a b : ℕ) → mem b (word t a) ≡ true → (h.boxes b).state ≢ 2
        → (h.wires a b).log ≡ (h.wires a b).taken ++ ((h.wires a b).queue ++ (h.wires a b).way)
    wire_order a b v e = log_split w t table h kept.good a b v e

    -- "A stopping box empties its queues. A message delivered to a stopped box is taken and dropped." No list is dropped
    pub wire_dropped : (a b : ℕ) → mem b (word t a) ≡ true → (h.boxes b).state ≡ 2
        → (dropped : List Msg) × ((h.wires a b).log ≡ (h.wires a b).taken ++ (dropped ++ (h.wires a b).way)) × SetsOnly dropped
    wire_dropped a b v e = let d = ended w t table h kept.good a b v e in (d.dropped, d.all, d.clean)

    -- nor will one be: none is under way to it
    pub wire_late : (a b : ℕ) → mem b (word t a) ≡ true → (h.boxes b).state ≡ 2 → SetsOnly (h.wires a b).way
    wire_late a b v e = late_none w t table h kept.good a b v e

    -- "It makes two wires": where there is no link there is nothing
    pub no_wire_lem : (a b : ℕ) → mem b (word t a) ≡ false → h.wires a b ≡ no_wire
    no_wire_lem a b v = kept.good.quiet a b v

    -- ---- each list exactly once

    pub lists_once : (j k : ℕ) → handed w h j k ≤ 1
    lists_once j k = handed_le w t table h kept.good j k

    -- a stopped box has used the list of every other member of its group
    pub lists_all : (j k : ℕ) → j < w → k < w → (h.boxes j).state ≡ 2 → j ≢ k → together w t j k ≡ true → handed w h j k ≡ 1
    lists_all j k hj hk e z g = handed_once w t table h kept.good j k hj hk e z (together_lt w t j k g)

    -- and no box ever its own, or that of a box of another group
    pub lists_else : (j k : ℕ) → (j ≡ k) ⊎ (together w t j k ≡ false) → handed w h j k ≡ 0
    lists_else j k z = handed_never w t table h kept.good j k (⊎_elim (λ e. inl e) (λ e. inr (together_not w t j k e)) z)

    -- ---- the end: "none is under way"

    module _ (none : under_way w h ≡ 0) where
      -- no box is awake
      pub end_states : (i : ℕ) → i < w → (h.boxes i ≡ asleep w) ⊎ (h.boxes i ≡ at_rest w t i)
      end_states i hi =
          elim (ℕ_discrete (h.boxes i).state 0) [
            | yes e ↦ inl (asleep_tables i hi e)
            | no e ↦ inr (stopped_tables i hi (has_stopped w t table h kept.good (under_idle w t table h kept.good none) i hi e))
          ]

      -- every box of a group in which a box is not asleep has stopped
      pub end_group : (i k : ℕ) → i < w → k < w → together w t i k ≡ true → (h.boxes i).state ≢ 0 → h.boxes k ≡ at_rest w t k
      end_group i k hi hk g z =
          stopped_tables k hk (group_stopped w t table h kept.good (under_idle w t table h kept.good none) i k hi hk (together_lt w t i k g) z)

    -- ---- the drain, from here

    -- "It ends when none is under way or when the messages moved reach the budget"
    pub drain_ends : (budget : ℕ) → (under_way w (drain w room t budget h) ≡ 0) ⊎ ((drain w room t budget h).moved ≡ h.moved + budget)
    drain_ends budget = (drained w t table room wide budget h kept).1

    pub drain_within : (budget : ℕ) → (drain w room t budget h).moved ≤ h.moved + budget
    drain_within budget = drain_most w room t budget h

    -- "A budget of E(N+2) + N(N-1) always finishes", and so does every larger one
    pub drain_finishes : (n : ℕ) → n ≤ w → ((i : ℕ) → word t i < 2 ^ n) → (budget : ℕ) → enough w t n ≤ budget → under_way w (drain w room t budget h) ≡ 0
    drain_finishes n hn low budget l = finishes w t table room wide n hn low budget h l kept

  -- ---- the end of a list, and of the drain, from a sleeping hub

  -- the boxes of the started groups have stopped, all others sleep; "When none is under way, sent is, over started groups, the sum over wires of
  -- (e of the sender + 3) plus n(n-1) for each group of n boxes."
  pub list_end : (l : List ℕ) → Names w t l → under_way w (run w room t l (sleeping w)) ≡ 0 → Final w t (starts_of w l) (run w room t l (sleeping w))
  list_end l n e = run_final w t table room wide (sound w room t table wide begin) l n (sound w room t table wide (list_leads l (sleeping w) n begin)) e

  pub drain_end : (x budget : ℕ) → under_way w (drain w room t budget (start_all w room t x (sleeping w))) ≡ 0
      → Final w t x (drain w room t budget (start_all w room t x (sleeping w)))
  drain_end x budget e = drain_final w t table room wide (sound w room t table wide begin) x budget (sound w room t table wide (drain_leads budget (start_all w room t x (sleeping w)) (starts_lead x (sleeping w) begin))) e

  -- so a drain of enough budget ends there, whatever was started
  pub drain_all : (n : ℕ) → n ≤ w → ((i : ℕ) → word t i < 2 ^ n) → (x budget : ℕ) → enough w t n ≤ budget
      → Final w t x (drain w room t budget (start_all w room t x (sleeping w)))
  drain_all n hn low x budget l =
      drain_end x budget (drain_finishes (start_all w room t x (sleeping w)) (starts_lead x (sleeping w) begin) n hn low budget l)

  -- the order of the deliveries leaves no trace: two ends with the same started groups have the same boxes and counts
  pub ends_alike : (x y : ℕ) (g h : Hub) → ((i : ℕ) → i < w → reached w t x i ≡ reached w t y i) → Final w t x g → Final w t y h → Alike w g h
  ends_alike x y g h e F H = same_end w t x y g h e F H

  pub lists_alike : (l m : List ℕ) → Names w t l → Names w t m → ((i : ℕ) → i < w → reached w t (starts_of w l) i ≡ reached w t (starts_of w m) i)
      → under_way w (run w room t l (sleeping w)) ≡ 0 → under_way w (run w room t m (sleeping w)) ≡ 0
      → Alike w (run w room t l (sleeping w)) (run w room t m (sleeping w))
  lists_alike l m p q e a b = ends_alike (starts_of w l) (starts_of w m) (run w room t l (sleeping w)) (run w room t m (sleeping w)) e (list_end l p a) (list_end m q b)

-- ---- what the tables at rest say, in demand 2's words

module _ (w : ℕ) (t : List ℕ) (table : Table w t) (i : ℕ) (hi : i < w) where
  -- "A group is all the boxes that links lead to from one box, itself included."
  pub group_walks : (k : ℕ) → (together w t i k ≡ true) ↔ ((n : ℕ) × Walk t n i k)
  group_walks k = together_walk w t table i k hi

  -- "a stopped box I whose farthest group member is e hops away": e is `farthest w t i`
  pub farthest_there : (k : ℕ) × (k < w) × (hops w t i k ≡ farthest w t i)
  farthest_there = far_there w t table i hi

  pub farthest_most : (k : ℕ) → k < w → together w t i k ≡ true → hops w t i k ≤ farthest w t i
  farthest_most k hk e = far_most w t table i hi k hk (together_lt w t i k e)

  -- "Nodes(d) is the set of boxes at d hops, the least number of links on any walk."
  pub nodes_layer : (d : ℕ) → d < w → word (at_rest w t i).nodes d ≡ layer w t i d
  nodes_layer d hd = nodes_are w t i d hd

  pub nodes_hops : (d k : ℕ) → d < w → k < w → (mem k (word (at_rest w t i).nodes d) ≡ true) ↔ Least t d i k
  nodes_hops d k hd hk =
      let (f, g) = nodes_say w t i d k hd hk in
      (λ m. let e : hops w t i k ≡ d = f m in rw e at (hops_least w t table i k hi (omega arith)), λ l. g (least_hops w t table d i k hi l))

  -- the box knows exactly its group
  pub knows_group : (k : ℕ) → k < w → (together w t i k ≡ true) ↔ ((d : ℕ) × (d < w) × (mem k (word (at_rest w t i).nodes d) ≡ true))
  knows_group k hk = (
    λ e. (hops w t i k, together_lt w t i k e, (nodes_say w t i (hops w t i k) k (together_lt w t i k e) hk).1 refl),
    λ x. let (d, hd, m) = x in lt_together w t i k (rw ((nodes_say w t i d k hd hk).0 m) hd),
  )

  -- "Neighbors(K) is K's link set, for the group; zero for all others."
  pub knows_links : (k : ℕ) → k < w → word (at_rest w t i).neighbors k ≡ cond (together w t i k) (word t k) 0
  knows_links k hk = lists_say w t i k hk

  -- "In_SPT(J): the origins K, other than I, for which J is the lowest-numbered neighbour one hop nearer to K."
  -- Each other member of the group is in exactly one In_SPT
  pub one_in : (k : ℕ) → k < w → i ≢ k → together w t i k ≡ true
      → ((from w t i k < w) × From w t i k (from w t i k)) × (mem k (word (at_rest w t i).in_spt (from w t i k)) ≡ true)
      × ((j : ℕ) → j < w → mem k (word (at_rest w t i).in_spt j) ≡ true → j ≡ from w t i k)
  one_in k hk z e =
      let hj : from w t i k < w = from_member w t table i k hi (together_lt w t i k e) z in
      ((hj, from_ok w t i k hj), (in_tables w t table i (from w t i k) k hj hk).1 refl, λ j hl m. sym ((in_tables w t table i j k hl hk).0 m))

  -- and nothing else is in any
  pub else_in : (j k : ℕ) → j < w → k < w → mem k (word (at_rest w t i).in_spt j) ≡ true → (i ≢ k) × (together w t i k ≡ true) × From w t i k j
  else_in j k hj hk m =
      let e : from w t i k ≡ j = (in_tables w t table i j k hj hk).0 m in
      let hf : from w t i k < w = rw e hj in
      ((from_group w t table i k hi hf).1, lt_together w t i k (from_group w t table i k hi hf).0, rw e at (from_ok w t i k hf))

  -- "Not_SPT(J): the group without those K that J takes from I."
  pub not_in : (j k : ℕ) → mem j (word t i) ≡ true → k < w
      → (mem k (word (at_rest w t i).not_spt j) ≡ true) ↔ ((together w t i k ≡ true) × (mem k (word (at_rest w t j).in_spt i) ≢ true))
  not_in j k v hk =
      let hj : j < w = link_lt w t table i j v in
      let (f, g) = not_say w t i j k v hj hk in
      (λ m. ((f m).0, λ u. (f m).1 ((in_tables w t table j i k hi hk).0 u)), λ x. g (x.0, λ u. x.1 ((in_tables w t table j i k hi hk).1 u)))

  -- "Both sets are zero for a J that is no neighbour."
  pub no_neighbour : (j : ℕ) → j < w → mem j (word t i) ≡ false → (word (at_rest w t i).in_spt j ≡ 0) × (word (at_rest w t i).not_spt j ≡ 0)
  no_neighbour j hj v = (in_off w t table i j hj v, not_off w t i j hj v)
