-- A stopped box's record is the tables at rest, whole; and what those tables say. Assumes nothing.
use Rattle.std.specs.Prelude.{ℕ, suc, ◌+◌, ◌≤◌, ◌<◌, ◌≡◌, true, false, List, ◌⊎◌, ◌≢◌, ◌↔◌, eqb, length}
use Rattle.std.proofs.Common.{sym, ◌∙◌, true≢false, inl, inr, arith, ext_get_or}
use Rattle.std.proofs.Math.Path.{ap}
use Rattle.std.proofs.Math.Bool.{cond}
use Rattle.std.proofs.Math.Decide.{dec_le, ℕ_discrete}
use borrow.Author.Tests.{lt-ltb, ltb-true, ne_eqb}
use Rattle.rules.specs.Sets.{mem, word, words}
use Rattle.rules.specs.Box.{Msg, Box}
use Rattle.rules.specs.Hub.{Hub}
use Rattle.rules.specs.Rest.{Table, hops, together, layer, farthest, from, in_at_rest, not_at_rest, at_rest}
use Rattle.sets.specs.Mem.{same}
use Rattle.sets.specs.Loops.{by_bool, length_words, get_d_words}
use Rattle.hops.specs.Hops.{hops_gap, hops_step, hops_near}
use Rattle.hops.specs.Rest.{in_layer, layer_in, layer_none, far_lt, far_most}
use Rattle.order.specs.Rounds.{in_rest_is, not_rest_is, not_rest_off, heard_last, in_cut_is, heard_is, heard_to, taken_group, no_link, not_from, zero_is}
use Rattle.order.specs.Invariant.{Awake, Stopped, Sleeps, Seat, sleeps, wakes, rests, spoken, ways, Good, rest_hop}

box_same : (a b : Box) → a.state ≡ b.state → a.hop ≡ b.hop → a.nodes ≡ b.nodes → a.in_spt ≡ b.in_spt → a.not_spt ≡ b.not_spt → a.neighbors ≡ b.neighbors → a ≡ b
box_same a b p q r s u v = λ i. record { state = p i; hop = q i; nodes = r i; in_spt = s i; not_spt = u i; neighbors = v i }

-- a table is read word by word
table_is : (w : ℕ) (l : List ℕ) (f : ℕ → ℕ) → length l ≡ w → ((k : ℕ) → k < w → word l k ≡ f k) → l ≡ words w f
table_is w l f n e = ext_get_or 0 l (words w f) (n ∙ sym (length_words w f)) (λ k h. e k (omega arith) ∙ sym (get_d_words w f k (omega arith)))

module _ (w : ℕ) (t : List ℕ) where
  pub together_lt : (i k : ℕ) → together w t i k ≡ true → hops w t i k < w
  unfolding together
  together_lt i k e = ltb-true _ _ e

  pub lt_together : (i k : ℕ) → hops w t i k < w → together w t i k ≡ true
  unfolding together
  lt_together i k h = lt-ltb _ _ h

  pub together_not : (i k : ℕ) → together w t i k ≡ false → ¬ (hops w t i k < w)
  together_not i k e h = true≢false (sym (lt_together i k h) ∙ e)

  -- ---- what the seat is, by the state

  pub seat_asleep : (j : ℕ) (n : ℕ → ℕ) (past queue rest : ℕ → List Msg) (b : Box) → Seat w t j n past queue rest b → b.state ≡ 0 → Sleeps w t j n past queue rest b
  seat_asleep j n past queue rest b (sleeps p) z = p
  seat_asleep j n past queue rest b (wakes p) z = absurd (omega (arith, p.half.state))
  seat_asleep j n past queue rest b (rests p) z = absurd (omega (arith, p.state))

  pub seat_awake : (j : ℕ) (n : ℕ → ℕ) (past queue rest : ℕ → List Msg) (b : Box) → Seat w t j n past queue rest b → b.state ≡ 1 → Awake w t j n past queue rest b
  seat_awake j n past queue rest b (sleeps p) z = absurd (let y : 0 ≡ b.state = ap (λ (x : Box). x.state) (sym p.blank) in omega arith)
  seat_awake j n past queue rest b (wakes p) z = p
  seat_awake j n past queue rest b (rests p) z = absurd (omega (arith, p.state))

  pub seat_stopped : (j : ℕ) (n : ℕ → ℕ) (past queue rest : ℕ → List Msg) (b : Box) → Seat w t j n past queue rest b → b.state ≢ 0 → b.state ≢ 1 → Stopped w t j n past queue rest b
  seat_stopped j n past queue rest b (sleeps p) y z = absurd (y (ap (λ (x : Box). x.state) p.blank))
  seat_stopped j n past queue rest b (wakes p) y z = absurd (z p.half.state)
  seat_stopped j n past queue rest b (rests p) y z = p

  pub three_states : (h : Hub) (i : ℕ) → i < w → Good w t h → ((h.boxes i).state ≡ 0) ⊎ (((h.boxes i).state ≡ 1) ⊎ ((h.boxes i).state ≡ 2))
  three_states h i hi G = go _ _ _ _ (h.boxes i) (G.seats i hi)
    where
      go : (n : ℕ → ℕ) (past queue rest : ℕ → List Msg) (b : Box) → Seat w t i n past queue rest b → (b.state ≡ 0) ⊎ ((b.state ≡ 1) ⊎ (b.state ≡ 2))
      go n past queue rest b (sleeps p) = inl (ap (λ (x : Box). x.state) p.blank)
      go n past queue rest b (wakes p) = inr (inl p.half.state)
      go n past queue rest b (rests p) = inr (inr p.state)

  pub sleeps_at : (h : Hub) (i : ℕ) → i < w → Good w t h → (h.boxes i).state ≡ 0
      → Sleeps w t i (λ k. spoken (h.boxes k)) (λ k. (h.wires k i).taken) (λ k. (h.wires k i).queue) (ways w t h i) (h.boxes i)
  sleeps_at h i hi G e = seat_asleep i _ _ _ _ (h.boxes i) (G.seats i hi) e

  pub wakes_at : (h : Hub) (i : ℕ) → i < w → Good w t h → (h.boxes i).state ≡ 1
      → Awake w t i (λ k. spoken (h.boxes k)) (λ k. (h.wires k i).taken) (λ k. (h.wires k i).queue) (ways w t h i) (h.boxes i)
  wakes_at h i hi G e = seat_awake i _ _ _ _ (h.boxes i) (G.seats i hi) e

  pub stopped_at : (h : Hub) (i : ℕ) → i < w → Good w t h → (h.boxes i).state ≢ 0 → (h.boxes i).state ≢ 1
      → Stopped w t i (λ k. spoken (h.boxes k)) (λ k. (h.wires k i).taken) (λ k. (h.wires k i).queue) (ways w t h i) (h.boxes i)
  stopped_at h i hi G y z = seat_stopped i _ _ _ _ (h.boxes i) (G.seats i hi) y z

  module _ (s : Table w t) where
    -- HOP at rest where there is a link
    pub rest_linked : (i j : ℕ) → mem j (word t i) ≡ true → rest_hop w t i ≡ farthest w t i + 2
    rest_linked i j v = rw (ne_eqb (word t i) 0 (λ z. no_link w t s i j z v))

    pub rest_le : (i : ℕ) → i < w → rest_hop w t i ≤ w + 1
    rest_le i hi = by_bool (eqb (word t i) 0) (λ e. rw e (omega arith)) (λ e. rw e (omega (arith, far_lt w t s i hi)))

    -- every member of the group is at most that far
    rest_far : (i k : ℕ) → i < w → k < w → hops w t i k < w → hops w t i k ≤ rest_hop w t i
    rest_far i k hi hk g =
        elim (ℕ_discrete (hops w t i k) 0) [
          | yes e ↦ omega arith
          | no e ↦
              let (j, v, f) = hops_near w t s i k hi g e in
              omega (arith, rest_linked i j v, far_most w t s i hi k hk g)
        ]

    module _ (i : ℕ) (hi : i < w) (n : ℕ → ℕ) (past queue rest : ℕ → List Msg) (b : Box) (p : Stopped w t i n past queue rest b) where
      rest_nodes : (d : ℕ) → d < w → word b.nodes d ≡ layer w t i d
      rest_nodes d h =
          elim (dec_le d b.hop) [
            | yes e ↦ p.tables.old d e
            | no e ↦ p.tables.new d (omega arith) ∙ sym (layer_none w t i d (λ k hk z. omega (arith, rest_far i k hi hk (omega arith), p.last)))
          ]

      rest_in : (j : ℕ) → j < w → word b.in_spt j ≡ in_at_rest w t i j
      rest_in j hj =
          p.tables.ins j hj
          ∙ same (in_cut_is w t i j b.hop) (in_rest_is w t i j)
          (λ k hk q. q.0)
          (λ k hk q. (q, omega (arith, rest_far i k hi hk (taken_group w t s j i k hj hi q).1, p.last)))

      rest_not : (j : ℕ) → j < w → word b.not_spt j ≡ not_at_rest w t i j
      rest_not j hj =
          by_bool (mem j (word t i))
          (λ v.
          let e : ℕ = farthest w t i in
          let y : b.hop ≡ suc (suc e) = omega (arith, p.last, rest_linked i j v) in
          p.tables.heard j v ∙ ap (heard_to w t i j) y ∙ heard_last w t i j (suc e)
          ∙ same (heard_is w t i j (suc e)) (not_rest_is w t i j v)
          (λ k hk q. (lt_together i k (hops_gap w t s i k hi (omega (arith, hops_step w t s i j k hi v, hops_gap w t s j k hj (omega (arith, q.0, far_lt w t s i hi))))), q.1))
          (λ k hk q. (omega (arith, far_most w t s i hi k hk (together_lt i k q.0), hops_step w t s j i k hj (s.both i j v)), q.1)))
          (λ v. p.tables.deaf j v ∙ sym (not_rest_off w t i j v))

      rest_lists : (k : ℕ) → k < w → word b.neighbors k ≡ cond (together w t i k) (word t k) 0
      rest_lists k hk =
          by_bool (together w t i k)
          (λ e. rw e (p.full k hk (together_lt i k e)))
          (λ e. rw e (p.tables.only k hk (together_not i k e)))

      stopped_is : b ≡ at_rest w t i
      unfolding at_rest
      stopped_is =
          box_same b (at_rest w t i) p.state p.last
          (table_is w b.nodes (layer w t i) p.tables.nodes_size rest_nodes)
          (table_is w b.in_spt (in_at_rest w t i) p.tables.in_size rest_in)
          (table_is w b.not_spt (not_at_rest w t i) p.tables.not_size rest_not)
          (table_is w b.neighbors (λ k. cond (together w t i k) (word t k) 0) p.tables.list_size rest_lists)

    pub at_rest_lem : (h : Hub) (i : ℕ) → i < w → Good w t h → (h.boxes i).state ≡ 2 → h.boxes i ≡ at_rest w t i
    at_rest_lem h i hi G e = stopped_is i hi _ _ _ _ (h.boxes i) (stopped_at h i hi G (omega arith) (omega arith))

    -- HOP at every moment
    pub hop_le : (h : Hub) (i : ℕ) → i < w → Good w t h → (h.boxes i).hop ≤ w + 1
    hop_le h i hi G = go _ _ _ _ (h.boxes i) (G.seats i hi)
      where
        go : (n : ℕ → ℕ) (past queue rest : ℕ → List Msg) (b : Box) → Seat w t i n past queue rest b → b.hop ≤ w + 1
        go n past queue rest b (sleeps p) = rw p.blank (omega arith)
        go n past queue rest b (wakes p) = omega (arith, p.half.early, far_lt w t s i hi)
        go n past queue rest b (rests p) = omega (arith, p.last, rest_le i hi)

  -- ---- what the tables at rest say

  pub nodes_are : (i d : ℕ) → d < w → word (at_rest w t i).nodes d ≡ layer w t i d
  unfolding at_rest
  nodes_are i d hd = get_d_words w (layer w t i) d hd

  pub nodes_say : (i d k : ℕ) → d < w → k < w → (mem k (word (at_rest w t i).nodes d) ≡ true) ↔ (hops w t i k ≡ d)
  nodes_say i d k hd hk = (
    λ m. in_layer w t i d k (ap (mem k) (sym (nodes_are i d hd)) ∙ m),
    λ z. ap (mem k) (nodes_are i d hd) ∙ layer_in w t i d k hk z,
  )

  pub lists_say : (i k : ℕ) → k < w → word (at_rest w t i).neighbors k ≡ cond (together w t i k) (word t k) 0
  unfolding at_rest
  lists_say i k hk = get_d_words w (λ k. cond (together w t i k) (word t k) 0) k hk

  pub not_say : (i j k : ℕ) → mem j (word t i) ≡ true → j < w → k < w
      → (mem k (word (at_rest w t i).not_spt j) ≡ true) ↔ ((together w t i k ≡ true) × (from w t j k ≢ i))
  unfolding at_rest
  not_say i j k v hj hk =
      let e : word (words w (not_at_rest w t i)) j ≡ not_at_rest w t i j = get_d_words w (not_at_rest w t i) j hj in
      (λ m. (not_rest_is w t i j v).get k (ap (mem k) (sym e) ∙ m), λ z. ap (mem k) e ∙ (not_rest_is w t i j v).put k hk z)

  -- "Both sets are zero for a J that is no neighbour."
  pub in_off : (s : Table w t) (i j : ℕ) → j < w → mem j (word t i) ≡ false → word (at_rest w t i).in_spt j ≡ 0
  unfolding at_rest
  in_off s i j hj v =
      get_d_words w (in_at_rest w t i) j hj
      ∙ same (in_rest_is w t i j) (zero_is w)
      (λ k hk e. not_from w t s i j k hj v e) (λ k hk e. absurd e)

  pub not_off : (i j : ℕ) → j < w → mem j (word t i) ≡ false → word (at_rest w t i).not_spt j ≡ 0
  unfolding at_rest
  not_off i j hj v = get_d_words w (not_at_rest w t i) j hj ∙ not_rest_off w t i j v
