-- With nothing under way: every box of a group in which a box is not asleep has stopped. Assumes nothing.
use Rattle.std.specs.Prelude.{ℕ, zero, suc, ◌+◌, ◌≤◌, ◌<◌, ◌≡◌, refl, true, List, [], ◌∷◌, ◌++◌, ◌≢◌}
use Rattle.std.proofs.Common.{sym, ap₂, ◌∙◌, append_assoc, arith, length-append}
use Rattle.std.proofs.Math.Path.{ap}
use Rattle.std.proofs.Math.ListN.{length}
use Rattle.rules.specs.Sets.{mem, word}
use Rattle.rules.specs.Box.{Msg, Box}
use Rattle.rules.specs.Hub.{Hub, Wire, under_way}
use Rattle.rules.specs.Rest.{Table, hops, farthest}
use Rattle.sets.specs.Loops.{by_bool}
use Rattle.hops.specs.Hops.{hops_gap, hops_zero, hops_near, hops_step}
use Rattle.hops.specs.Rest.{far_most, far_there, far_lt}
use Rattle.order.specs.Rounds.{link_lt, links_lt}
use Rattle.order.specs.Messages.{sets, sets_append, no_sets_lem}
use Rattle.order.specs.Sums.{sum_zero}
use Rattle.order.specs.Wire.{wire, wire_none, wire_sets}
use Rattle.order.specs.Invariant.{Flow, Awake, Stopped, Sleeps, Seat, sleeps, wakes, rests, spoken, ways, Good}
use Rattle.order.proofs.Work.{spoken_up, spoken_none}
use Rattle.order.proofs.Rest.{sleeps_at, wakes_at, stopped_at, rest_linked}

-- nothing is on a wire
abbrev pub Idle : Hub → Type 0
Idle h = (i j : ℕ) → (h.wires i j).way ≡ []

len_zero : (l : List Msg) → length l ≡ 0 → l ≡ []
len_zero [] e = refl
len_zero (m ∷ l) e = absurd (omega arith)

module _ (w : ℕ) (t : List ℕ) (s : Table w t) (h : Hub) (G : Good w t h) where
  pub under_idle : under_way w h ≡ 0 → Idle h
  unfolding under_way
  under_idle e i j =
      by_bool (mem j (word t i))
      (λ v. len_zero _ (sum_zero w (λ b. length (h.wires i b).way) (sum_zero w _ e i (links_lt w t s i j v)) j (link_lt w t s i j v)))
      (λ v. ap (λ (x : Wire). x.way) (G.quiet i j v))

  module _ (I : Idle h) where
    -- a neighbour of a box that has started has started
    next_up : (i j : ℕ) → j < w → mem i (word t j) ≡ true → (h.boxes i).state ≢ 0 → (h.boxes j).state ≢ 0
    next_up i j hj v z e =
        let p : Sleeps w t j (λ k. spoken (h.boxes k)) (λ k. (h.wires k j).taken) (λ k. (h.wires k j).queue) (ways w t h j) (h.boxes j) = sleeps_at w t h j hj G e in
        omega (arith, no_sets_lem, wire_sets w t i j (spoken (h.boxes i)), ap sets (p.all i v ∙ I i j), spoken_up (h.boxes i) z)

    -- a stopped box has sent all that its neighbours wait for
    no_wait : (i j hop : ℕ) → i < w → j < w → mem i (word t j) ≡ true → hop ≡ farthest w t i + 2 → suc hop ≤ suc (farthest w t j) → ⊥
    no_wait i j hop hi hj v l L =
        let (k, hk, e) = far_there w t s j hj in
        let a : hops w t i k ≤ suc (hops w t j k) = hops_step w t s i j k hi (s.both j i v) in
        let b : hops w t j k ≤ suc (hops w t i k) = hops_step w t s j i k hj v in
        omega (arith, far_most w t s i hi k hk (hops_gap w t s i k hi (omega (arith, far_lt w t s j hj))))

    none_awake : (f j : ℕ) → j < w → (h.boxes j).hop < f → (h.boxes j).state ≡ 1 → ⊥
    none_awake zero j hj l e = omega arith
    none_awake (suc f) j hj l e =
        let p : Awake w t j (λ k. spoken (h.boxes k)) (λ k. (h.wires k j).taken) (λ k. (h.wires k j).queue) (ways w t h j) (h.boxes j) = wakes_at w t h j hj G e in
        let (i, v, q) = p.waits in
        let F : Flow w t i j (spoken (h.boxes i)) (h.wires i j).taken (h.wires i j).queue (h.wires i j).way (h.boxes j) = p.half.flows i v in
        let hi : i < w = link_lt w t s j i v in
        let up : (h.boxes i).state ≢ 0 = next_up j i hi (s.both j i v) (omega arith) in
        let all : wire w t i j (spoken (h.boxes i)) ≡ (h.wires i j).taken ++ [] = F.all ∙ ap₂ (λ (x y : List Msg). (h.wires i j).taken ++ (x ++ y)) q (I i j) in
        let less : (h.boxes j).hop ≡ suc (h.boxes i).hop =
        omega (arith, spoken_up (h.boxes i) up, wire_sets w t i j (spoken (h.boxes i)), ap sets all, sets_append (h.wires i j).taken [], no_sets_lem, F.num) in
        let P : Stopped w t i (λ k. spoken (h.boxes k)) (λ k. (h.wires k i).taken) (λ k. (h.wires k i).queue) (ways w t h i) (h.boxes i) =
        stopped_at w t h i hi G up (none_awake f i hi (omega arith)) in
        no_wait i j (h.boxes i).hop hi hj v (P.last ∙ rest_linked w t s i j (s.both j i v)) (omega (arith, p.half.early))

    -- a box that has started has stopped
    pub has_stopped : (j : ℕ) → j < w → (h.boxes j).state ≢ 0 → (h.boxes j).state ≡ 2
    has_stopped j hj z = (stopped_at w t h j hj G z (none_awake (suc (h.boxes j).hop) j hj (omega arith))).state

    -- and so has every box of its group
    group_up : (d i k : ℕ) → i < w → hops w t i k ≡ d → hops w t i k < w → (h.boxes i).state ≢ 0 → (h.boxes k).state ≢ 0
    group_up zero i k hi e g z = rw (← hops_zero w t s i k hi e) z
    group_up (suc d) i k hi e g z =
        let (j, v, f) = hops_near w t s i k hi g (omega arith) in
        let hj : j < w = link_lt w t s i j v in
        group_up d j k hj (omega arith) (omega arith) (next_up i j hj (s.both i j v) z)

    pub group_stopped : (i k : ℕ) → i < w → k < w → hops w t i k < w → (h.boxes i).state ≢ 0 → (h.boxes k).state ≡ 2
    group_stopped i k hi hk g z = has_stopped k hk (group_up (hops w t i k) i k hi refl g z)

  -- ---- what stands on a wire was sent

  -- all that was sent from i to j ends with what is under way
  pub ends_with : (i j : ℕ) → j < w → mem i (word t j) ≡ true → (c : List Msg) × (wire w t i j (spoken (h.boxes i)) ≡ c ++ (h.wires i j).way)
  ends_with i j hj v = go (λ k. spoken (h.boxes k)) (λ k. (h.wires k j).taken) (λ k. (h.wires k j).queue) (ways w t h j) (h.boxes j) (G.seats j hj)
    where
      go : (n : ℕ → ℕ) (past queue rest : ℕ → List Msg) (b : Box) → Seat w t j n past queue rest b → (c : List Msg) × (wire w t i j (n i) ≡ c ++ rest i)
      go n past queue rest b (sleeps p) = ([], p.all i v)
      go n past queue rest b (wakes p) = (past i ++ queue i, (p.half.flows i v).all ∙ sym (append_assoc (past i) (queue i) (rest i)))
      go n past queue rest b (rests p) = (past i ++ (p.spent i v).dropped, (p.spent i v).all ∙ sym (append_assoc (past i) (p.spent i v).dropped (rest i)))

  pub sender_up : (a b : ℕ) (m : Msg) (q : List Msg) → mem b (word t a) ≡ true → (h.wires a b).way ≡ m ∷ q → (h.boxes a).state ≢ 0
  sender_up a b m q v e z =
      let (c, y) = ends_with a b (link_lt w t s a b v) (s.both a b v) in
      let x : length (wire w t a b (spoken (h.boxes a))) ≡ 0 = ap (λ (n : ℕ). length (wire w t a b n)) (spoken_none (h.boxes a) z) ∙ ap length (wire_none w t a b) in
      omega (arith, ap length y, length-append c (h.wires a b).way, ap length e)
