-- The wire lists at any moment, and how often each list has gone to a box: once from the neighbour that it is taken from, and never else. Assumes nothing.
use Rattle.std.specs.Prelude.{ℕ, ◌+◌, ◌-◌, ◌≤◌, ◌<◌, ◌≡◌, refl, true, List, [], ◌∷◌, ◌++◌, ◌⊎◌, ◌≢◌}
use Rattle.std.proofs.Common.{sym, ap, ap₂, ◌∙◌, append_assoc, inl, ⊎_elim, arith}
use Rattle.std.proofs.Math.Decide.{dec_lt, ℕ_discrete}
use Rattle.rules.specs.Sets.{mem, word, sum}
use Rattle.rules.specs.Box.{Msg, notspt, neighbors, Box}
use Rattle.rules.specs.Hub.{Hub, Wire}
use Rattle.rules.specs.Rest.{Table, hops, farthest, from, wire_list}
use Rattle.sets.specs.Mem.{mem_past}
use Rattle.sets.specs.Loops.{by_bool, sum_same, sum_mono, sum_none}
use Rattle.hops.specs.Rest.{from_ok, from_member, from_group, far_most}
use Rattle.order.specs.Terms.{SetsOnly, handed, tally}
use Rattle.order.specs.Rounds.{link_lt, links_lt, taken_near, taken_group}
use Rattle.order.specs.Messages.{sets, sets_append, Says, says_l, says_r, says_where, tally_append, tally_none, tally_past, no_tally}
use Rattle.order.specs.Sums.{sum_one}
use Rattle.order.specs.Wire.{wire, wire_sets, wire_begins, wire_small, wire_list_lem, list_place, tally_other, tally_one, tally_le}
use Rattle.order.specs.Invariant.{Spent, Stopped, Seat, sleeps, wakes, rests, spoken, ways, Good, rest_hop}
use Rattle.order.proofs.Work.{spoken_up, spoken_none}
use Rattle.order.proofs.Rest.{stopped_at, rest_linked}

sets_only : (l : List Msg) → ((k : ℕ) → Says k l → ⊥) → SetsOnly l
sets_only [] h = tt
sets_only (notspt s ∷ l) h = sets_only l h
sets_only (neighbors k s ∷ l) h = h k (inl refl)

-- how often the list of k was sent to j
abbrev pub gone : ℕ → Hub → ℕ → ℕ → ℕ
gone w h j k = sum w (λ i. tally k (h.wires i j).log)

module _ (w : ℕ) (t : List ℕ) (s : Table w t) (h : Hub) (G : Good w t h) where
  -- ---- the wire lists

  spoken_far : (i j : ℕ) → mem j (word t i) ≡ true → spoken (h.boxes i) ≤ farthest w t i + 3
  spoken_far i j v = go _ _ _ _ (h.boxes i) (G.seats i (links_lt w t s i j v))
    where
      go : (n : ℕ → ℕ) (past queue rest : ℕ → List Msg) (b : Box) → Seat w t i n past queue rest b → spoken b ≤ farthest w t i + 3
      go n past queue rest b (sleeps p) = omega (arith, spoken_none b (ap (λ (x : Box). x.state) p.blank))
      go n past queue rest b (wakes p) = omega (arith, spoken_up b (omega (arith, p.half.state)), p.half.early)
      go n past queue rest b (rests p) = omega (arith, spoken_up b (omega (arith, p.state)), p.last, rest_linked w t s i j v)

  pub log_begins : (i j : ℕ) → mem j (word t i) ≡ true → (o : List Msg) × (wire_list w t i j ≡ (h.wires i j).log ++ o)
  log_begins i j v =
      let n : ℕ = spoken (h.boxes i) in
      let e : farthest w t i + 3 ≡ (farthest w t i + 3 - n) + n = omega (arith, spoken_far i j v) in
      let (o, z) = wire_begins w t i j n (farthest w t i + 3 - n) in
      (o, sym (wire_list_lem w t i j) ∙ ap (wire w t i j) e ∙ z ∙ ap (λ (x : List Msg). x ++ o) (sym (G.log i j v)))

  pub log_whole : (i j : ℕ) → mem j (word t i) ≡ true → (h.boxes i).state ≡ 2 → (h.wires i j).log ≡ wire_list w t i j
  log_whole i j v e =
      let hop : (h.boxes i).hop ≡ rest_hop w t i = (stopped_at w t h i (links_lt w t s i j v) G (omega arith) (omega arith)).last in
      let z : spoken (h.boxes i) ≡ farthest w t i + 3 = omega (arith, spoken_up (h.boxes i) (omega arith), rest_linked w t s i j v) in
      G.log i j v ∙ ap (wire w t i j) z ∙ wire_list_lem w t i j

  pub log_split : (i j : ℕ) → mem j (word t i) ≡ true → (h.boxes j).state ≢ 2
      → (h.wires i j).log ≡ (h.wires i j).taken ++ ((h.wires i j).queue ++ (h.wires i j).way)
  log_split i j v z = G.log i j v ∙ go _ _ _ _ (h.boxes j) (G.seats j (link_lt w t s i j v)) z
    where
      u : mem i (word t j) ≡ true
      u = s.both i j v

      go : (n : ℕ → ℕ) (past queue rest : ℕ → List Msg) (b : Box) → Seat w t j n past queue rest b → b.state ≢ 2 → wire w t i j (n i) ≡ past i ++ (queue i ++ rest i)
      go n past queue rest b (sleeps p) z = p.all i u ∙ sym (ap₂ (λ (x y : List Msg). x ++ (y ++ rest i)) (p.used i u) (p.empty i))
      go n past queue rest b (wakes p) z = (p.half.flows i u).all
      go n past queue rest b (rests p) z = absurd (z p.state)

  -- ---- "No list is ever dropped by a stopped box"

  -- after HOP sets of a box that has stopped no list follows
  none_late : (i j n : ℕ) (c d : List Msg) → mem i (word t j) ≡ true → rest_hop w t j ≤ sets c → wire w t i j n ≡ c ++ d → (k : ℕ) → Says k d → ⊥
  none_late i j n c d v g e k u =
      let (a, x, q, z) = says_where k d u in
      let hj : j < w = links_lt w t s j i v in
      let hi : i < w = link_lt w t s j i v in
      let (hk, vk, p) = list_place w t s i j n (c ++ a) k x q hi (e ∙ ap (λ (x : List Msg). c ++ x) z ∙ sym (append_assoc c a (neighbors k x ∷ q))) in
      omega (arith, sets_append c a, rest_linked w t s j i v, far_most w t s j hj k hk (taken_group w t s i j k hi hj vk).1)

  -- the wire into a stopped box
  pub record Ended (i j : ℕ) : Type 0 where
    pub dropped : List Msg
    pub all : (h.wires i j).log ≡ (h.wires i j).taken ++ (dropped ++ (h.wires i j).way)
    pub clean : SetsOnly dropped
    pub late : (k : ℕ) → Says k (dropped ++ (h.wires i j).way) → ⊥
    pub num : rest_hop w t j ≤ spoken (h.boxes i)

  pub ended : (i j : ℕ) → mem j (word t i) ≡ true → (h.boxes j).state ≡ 2 → Ended i j
  ended i j v e =
      let u : mem i (word t j) ≡ true = s.both i j v in
      let P : Stopped w t j (λ k. spoken (h.boxes k)) (λ k. (h.wires k j).taken) (λ k. (h.wires k j).queue) (ways w t h j) (h.boxes j) =
      stopped_at w t h j (link_lt w t s i j v) G (omega arith) (omega arith) in
      let F : Spent w t i j (spoken (h.boxes i)) (h.wires i j).taken (h.wires i j).way (h.boxes j) = P.spent i u in
      let none : (k : ℕ) → Says k (F.dropped ++ (h.wires i j).way) → ⊥ =
      none_late i j (spoken (h.boxes i)) (h.wires i j).taken (F.dropped ++ (h.wires i j).way) u (omega (arith, P.last, F.num)) F.all in
      record {
        dropped = F.dropped;
        all = G.log i j v ∙ F.all;
        clean = sets_only F.dropped (λ k x. none k (says_l k F.dropped _ x));
        late = none;
        num = omega (arith, P.last, F.num, wire_sets w t i j (spoken (h.boxes i)), ap sets F.all, sets_append (h.wires i j).taken (F.dropped ++ (h.wires i j).way));
      }

  pub late_none : (i j : ℕ) → mem j (word t i) ≡ true → (h.boxes j).state ≡ 2 → SetsOnly (h.wires i j).way
  late_none i j v e =
      let E : Ended i j = ended i j v e in
      sets_only (h.wires i j).way (λ k x. E.late k (says_r k E.dropped (h.wires i j).way x))

  -- ---- how often a list has gone to a box

  log_other : (i j k : ℕ) → k < w → from w t j k ≢ i → tally k (h.wires i j).log ≡ 0
  log_other i j k hk z =
      by_bool (mem j (word t i))
      (λ v. ap (tally k) (G.log i j v) ∙ tally_other w t i j k (spoken (h.boxes i)) hk z)
      (λ v. ap (λ (x : Wire). tally k x.log) (G.quiet i j v) ∙ no_tally k)

  log_le : (i j k : ℕ) → k < w → tally k (h.wires i j).log ≤ 1
  log_le i j k hk =
      by_bool (mem j (word t i))
      (λ v. rw (G.log i j v) (tally_le w t i j k (spoken (h.boxes i)) hk))
      (λ v. omega (arith, ap (λ (x : Wire). tally k x.log) (G.quiet i j v) ∙ no_tally k))

  gone_none : (j k : ℕ) → k < w → ¬ (from w t j k < w) → gone w h j k ≡ 0
  gone_none j k hk z = sum_same w _ _ (λ i hi. log_other i j k hk (omega arith)) ∙ sum_none w

  gone_from : (j k : ℕ) → k < w → from w t j k < w → gone w h j k ≡ tally k (h.wires (from w t j k) j).log
  gone_from j k hk v = sum_one w (λ i. tally k (h.wires i j).log) (from w t j k) v (λ i z. log_other i j k hk (λ e. z (sym e)))

  pub gone_le : (j k : ℕ) → k < w → gone w h j k ≤ 1
  gone_le j k hk =
      elim (dec_lt (from w t j k) w) [
        | yes v ↦ omega (arith, gone_from j k hk v, log_le (from w t j k) j k hk)
        | no v ↦ omega (arith, gone_none j k hk v)
      ]

  -- not to itself, and not out of the group
  pub gone_never : (j k : ℕ) → j < w → k < w → (j ≡ k) ⊎ (¬ (hops w t j k < w)) → gone w h j k ≡ 0
  gone_never j k hj hk z =
      gone_none j k hk (λ v. let (g, e) = from_group w t s j k hj v in ⊎_elim (λ x. e x) (λ x. x g) z)

  -- the list of k has come to a stopped j over the neighbour that j takes it from, and was used
  came : (j k : ℕ) → j < w → k < w → (h.boxes j).state ≡ 2 → j ≢ k → hops w t j k < w
      → (from w t j k < w) × (tally k (h.wires (from w t j k) j).log ≡ 1) × (tally k (h.wires (from w t j k) j).taken ≡ 1)
  came j k hj hk e z g =
      let i : ℕ = from w t j k in
      let hi : i < w = from_member w t s j k hj g z in
      let u : mem i (word t j) ≡ true = (from_ok w t j k hi).linked in
      let E : Ended i j = ended i j (s.both j i u) e in
      let one : tally k (h.wires i j).log ≡ 1 = ap (tally k) (G.log i j (s.both j i u))
      ∙ tally_one w t i j k (spoken (h.boxes i)) hk refl (omega (arith, taken_near w t s i j k hi refl, E.num, rest_linked w t s j i u, far_most w t s j hj k hk g)) in
      (hi, one, omega (arith, ap (tally k) E.all, tally_append k (h.wires i j).taken (E.dropped ++ (h.wires i j).way), tally_none k (E.dropped ++ (h.wires i j).way) (E.late k)))

  pub gone_once : (j k : ℕ) → j < w → k < w → (h.boxes j).state ≡ 2 → j ≢ k → hops w t j k < w → gone w h j k ≡ 1
  gone_once j k hj hk e z g = let (hi, a, b) = came j k hj hk e z g in gone_from j k hk hi ∙ a

  -- ---- and how often it was used

  used_le : (i j k : ℕ) → tally k (h.wires i j).taken ≤ tally k (h.wires i j).log
  used_le i j k =
      by_bool (mem j (word t i))
      (λ v. elim (ℕ_discrete (h.boxes j).state 2) [
        | yes e ↦ let E : Ended i j = ended i j v e in omega (arith, ap (tally k) E.all, tally_append k (h.wires i j).taken (E.dropped ++ (h.wires i j).way))
        | no e ↦ omega (arith, ap (tally k) (log_split i j v e), tally_append k (h.wires i j).taken ((h.wires i j).queue ++ (h.wires i j).way))
      ])
      (λ v. omega (arith, ap (λ (x : Wire). tally k x.taken) (G.quiet i j v) ∙ no_tally k))

  handed_gone : (j k : ℕ) → handed w h j k ≤ gone w h j k
  unfolding handed
  handed_gone j k = sum_mono w _ _ (λ i hi. used_le i j k)

  -- no list of a box at or past w, and none to such a box
  gone_past : (j k : ℕ) → w ≤ k → gone w h j k ≡ 0
  gone_past j k l =
      sum_same w _ _ (λ i hi. by_bool (mem j (word t i))
      (λ v. ap (tally k) (G.log i j v) ∙ tally_past w k (wire w t i j (spoken (h.boxes i))) l (wire_small w t i j (spoken (h.boxes i))))
      (λ v. ap (λ (x : Wire). tally k x.log) (G.quiet i j v) ∙ no_tally k)) ∙ sum_none w

  gone_off : (j k : ℕ) → w ≤ j → gone w h j k ≡ 0
  gone_off j k l =
      sum_same w _ _ (λ i hi. ap (λ (x : Wire). tally k x.log) (G.quiet i j (mem_past w (word t i) (s.small i) j l)) ∙ no_tally k) ∙ sum_none w

  pub handed_le : (j k : ℕ) → handed w h j k ≤ 1
  handed_le j k = elim (dec_lt k w) [ yes hk ↦ omega (arith, handed_gone j k, gone_le j k hk) | no l ↦ omega (arith, handed_gone j k, gone_past j k (omega arith)) ]

  pub handed_never : (j k : ℕ) → (j ≡ k) ⊎ (¬ (hops w t j k < w)) → handed w h j k ≡ 0
  handed_never j k z =
      elim (dec_lt k w) [
        | yes hk ↦ elim (dec_lt j w) [
          | yes hj ↦ omega (arith, handed_gone j k, gone_never j k hj hk z)
          | no l ↦ omega (arith, handed_gone j k, gone_off j k (omega arith))
        ]
        | no l ↦ omega (arith, handed_gone j k, gone_past j k (omega arith))
      ]

  pub handed_once : (j k : ℕ) → j < w → k < w → (h.boxes j).state ≡ 2 → j ≢ k → hops w t j k < w → handed w h j k ≡ 1
  unfolding handed
  handed_once j k hj hk e z g =
      let (hi, a, b) = came j k hj hk e z g in
      sum_one w (λ i. tally k (h.wires i j).taken) (from w t j k) hi (λ i y. omega (arith, used_le i j k, log_other i j k hk (λ q. y (sym q)))) ∙ b
