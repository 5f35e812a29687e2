-- On every hub that the rules reach, each message that waits fits a word, and a box's queues are as its state says. Assumes nothing.
use Rattle.std.specs.Prelude.{ℕ, zero, suc, ◌<◌, ◌≡◌, refl, true, false, List, [], ◌∷◌, ◌++◌, ◌⊎◌, ◌≢◌}
use Rattle.std.proofs.Common.{sym, ap, ◌∙◌, subst, true≢false, inl, inr, arith}
use Rattle.rules.specs.Sets.{mem, word}
use Rattle.rules.specs.Box.{Msg, Box, behind}
use Rattle.rules.specs.Hub.{Hub, Wire, no_wire}
use Rattle.rules.specs.Rest.{Table, said_set}
use Rattle.sets.specs.Mem.{set_of_lt, in_lt}
use Rattle.sets.specs.Loops.{by_bool}
use Rattle.order.specs.Messages.{In, members_get, carry}
use Rattle.order.specs.Stream.{stream}
use Rattle.order.specs.Wire.{wire, carried, origins}
use Rattle.order.specs.Invariant.{sleeps, wakes, rests, Good, SeatOf}
use Rattle.shows.specs.Gathers.{AllSmall}
use Rattle.shows.specs.Receives.{calm_empty}

-- ---- the wire lists

small_append : (l k : List Msg) → AllSmall (l ++ k) → AllSmall l × AllSmall k
small_append [] k a = (tt, a)
small_append (m ∷ l) k a = let (x, y) = small_append l k a.1 in ((a.0, x), y)

small_carry : (f : ℕ → ℕ) (js : List ℕ) (l : List Msg) → ((k : ℕ) → f k < 65536) → ((k : ℕ) → In k js → k < 16) → AllSmall l → AllSmall (carry f js l)
small_carry f [] l hf hj a = a
small_carry f (j ∷ js) l hf hj a = ((hj j (inl refl), hf j), small_carry f js l hf (λ k i. hj k (inr i)) a)

small_stream : (f : ℕ → ℕ) (ks : ℕ → List ℕ) (said : ℕ → ℕ) → ((k : ℕ) → f k < 65536) → ((r k : ℕ) → In k (ks r) → k < 16) → ((r : ℕ) → said r < 65536)
    → (n h : ℕ) (js : List ℕ) → ((k : ℕ) → In k js → k < 16) → AllSmall (stream f ks said n js h)
unfolding stream
small_stream f ks said hf hk hs zero h js hj = tt
small_stream f ks said hf hk hs (suc n) h js hj =
    small_carry f js _ hf hj (hs h, small_stream f ks said hf hk hs n (suc h) (ks (suc h)) (hk (suc h)))

module _ (t : List ℕ) (T : Table 16 t) where
  small_wire : (i j n : ℕ) → AllSmall (wire 16 t i j n)
  unfolding wire said_set
  small_wire i j n =
      let o : (r k : ℕ) → In k (origins 16 t i j r) → k < 16 = λ r k m. (members_get 16 (carried 16 t i j r) k m).0 in
      small_stream (word t) (origins 16 t i j) (said_set 16 t i j) T.small o (λ r. set_of_lt 16 _) n 0 (origins 16 t i j 0) (o 0)

  -- ---- what waits

  module _ (h : Hub) (G : Good 16 t h) where
    not_link : (a b : ℕ) → mem a (word t b) ≡ false → mem b (word t a) ≡ false
    not_link a b v = by_bool (mem b (word t a)) (λ u. absurd (true≢false (sym (T.both a b u) ∙ v))) (λ u. u)

    none : (a b : ℕ) → mem a (word t b) ≡ false → h.wires a b ≡ no_wire
    none a b v = G.quiet a b (not_link a b v)

    pub small_waits : (a b : ℕ) → b < 16 → AllSmall (h.wires a b).queue × AllSmall (h.wires a b).way
    small_waits a b hb =
        by_bool (mem a (word t b))
        (λ v. go v (G.seats b hb))
        (λ v. rw (none a b v) (tt, tt))
      where
        go : mem a (word t b) ≡ true → SeatOf 16 t h b (λ i. (h.wires i b).way) → AllSmall (h.wires a b).queue × AllSmall (h.wires a b).way
        go v (sleeps p) = (subst AllSmall (sym (p.empty a)) tt, subst AllSmall (p.all a v) (small_wire a b _))
        go v (wakes p) =
            let (x, y) = small_append (h.wires a b).taken _ (subst AllSmall (p.half.flows a v).all (small_wire a b _)) in
            small_append (h.wires a b).queue (h.wires a b).way y
        go v (rests p) =
            let (x, y) = small_append (h.wires a b).taken _ (subst AllSmall (p.spent a v).all (small_wire a b _)) in
            (subst AllSmall (sym (p.empty a)) tt, (small_append (p.spent a v).dropped (h.wires a b).way y).1)

    -- ---- a box's queues

    -- no list stands at a head
    pub calm_queues : (b : ℕ) → b < 16 → (a : ℕ) → behind (h.wires a b).queue ≡ (h.wires a b).queue
    calm_queues b hb a = go (G.seats b hb)
      where
        go : SeatOf 16 t h b (λ i. (h.wires i b).way) → behind (h.wires a b).queue ≡ (h.wires a b).queue
        go (sleeps p) = rw (p.empty a) calm_empty
        go (wakes p) = p.calm a
        go (rests p) = rw (p.empty a) calm_empty

    -- an awake box waits for a link
    pub waits_link : (b : ℕ) → b < 16 → (h.boxes b).state ≡ 1 → (i : ℕ) × (i < 16) × (mem i (word t b) ≡ true) × ((h.wires i b).queue ≡ [])
    waits_link b hb e = go (G.seats b hb)
      where
        go : SeatOf 16 t h b (λ i. (h.wires i b).way) → (i : ℕ) × (i < 16) × (mem i (word t b) ≡ true) × ((h.wires i b).queue ≡ [])
        go (sleeps p) = absurd (omega (arith, ap (λ (x : Box). x.state) p.blank))
        go (wakes p) = let (i, v, z) = p.waits in (i, in_lt 16 (word t b) i (T.small b) v, v, z)
        go (rests p) = absurd (omega (arith, p.state))

    -- one that sleeps or has stopped has empty queues
    pub no_queue : (b : ℕ) → b < 16 → (h.boxes b).state ≢ 1 → (a : ℕ) → (h.wires a b).queue ≡ []
    no_queue b hb z a = go (G.seats b hb)
      where
        go : SeatOf 16 t h b (λ i. (h.wires i b).way) → (h.wires a b).queue ≡ []
        go (sleeps p) = p.empty a
        go (wakes p) = absurd (z p.half.state)
        go (rests p) = p.empty a

    -- what is no link has no queue
    pub off_queue : (a b : ℕ) → mem a (word t b) ≡ false → (h.wires a b).queue ≡ []
    off_queue a b v = ap (λ (x : Wire). x.queue) (none a b v)

    -- every box's tables have 16 words, and its HOP is small; its state is one of three
    pub three_states : (b : ℕ) → b < 16 → ((h.boxes b).state ≡ 0) ⊎ (((h.boxes b).state ≡ 1) ⊎ ((h.boxes b).state ≡ 2))
    three_states b hb = go (G.seats b hb)
      where
        go : SeatOf 16 t h b (λ i. (h.wires i b).way) → ((h.boxes b).state ≡ 0) ⊎ (((h.boxes b).state ≡ 1) ⊎ ((h.boxes b).state ≡ 2))
        go (sleeps p) = inl (ap (λ (x : Box). x.state) p.blank)
        go (wakes p) = inr (inl p.half.state)
        go (rests p) = inr (inr p.state)
