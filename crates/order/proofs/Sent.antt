-- What sent comes to: the NOTSPT of each wire and the lists, at any moment; a bound; and what it is with nothing under way. Assumes nothing.
use Prim.Native.Nat.{ℕ, ◌+◌, ◌*◌, ◌-◌, ◌^◌, ◌≤◌, ◌<◌}
use Rattle.std.specs.Prelude.{◌≡◌, refl, Bool, true, false, ◌&&◌, List, eqb, length}
use Rattle.std.proofs.Common.{sym, ap, ◌∙◌, inl, inr, eqb-true, eq-eqb, ne_eqb}
use Rattle.std.proofs.Math.Path.{ap₂}
use Rattle.std.proofs.Math.Bool.{cond}
use native.Mathlib.Omega.{arith}
use Rattle.std.proofs.Math.Decide.{ℕ_discrete}
use Rattle.std.proofs.lemmas.Bool.{eqb-false}
use Rattle.rules.specs.Sets.{mem, bit, word, count, sum}
use Rattle.rules.specs.Box.{Msg, Box}
use Rattle.rules.specs.Hub.{Hub, Wire}
use Rattle.rules.specs.Rest.{Table, hops, together, farthest, wires_of, wire_count, reached, is_first, sent_at_rest, enough}
use Rattle.sets.specs.Loops.{by_bool, sum_same, sum_mono, sum_none, count_same}
use Rattle.hops.specs.Hops.{hops_zero, hops_near}
use Rattle.order.specs.Terms.{tally}
use Rattle.order.specs.Rounds.{links_lt}
use Rattle.order.specs.Messages.{no_tally}
use Rattle.order.specs.Sums.{sum_plus, sum_more, sum_swap, sum_times, sum_flat, sum_but_one, sum_cut, sum_cond, count_sum}
use Rattle.order.specs.Wire.{wire, wire_sets, wire_small, length_tally}
use Rattle.order.specs.Invariant.{Seat, sleeps, wakes, rests, spoken, Good, Counted}
use Rattle.order.proofs.Work.{spoken_up, spoken_none}
use Rattle.order.proofs.Rest.{sleeps_at, stopped_at, rest_linked, together_lt, together_not}
use Rattle.order.proofs.End.{Idle}
use Rattle.order.proofs.Lists.{gone, gone_le, gone_never, gone_once}
use Rattle.order.proofs.Groups.{self_together, together_same, sum_groups, reached_same, link_low, group_low, far_low}

-- NOTSPT sent from i to j
abbrev sets_on : List ℕ → Hub → ℕ → ℕ → ℕ
sets_on t h i j = cond (mem j (word t i)) (spoken (h.boxes i)) 0

module _ (w : ℕ) (t : List ℕ) (s : Table w t) (h : Hub) (G : Good w t h) where
  log_length : (i j : ℕ) → length (h.wires i j).log ≡ sets_on t h i j + sum w (λ k. tally k (h.wires i j).log)
  log_length i j =
      by_bool (mem j (word t i))
      (λ v. rw (v, G.log i j v) (length_tally w (wire w t i j (spoken (h.boxes i))) (wire_small w t i j (spoken (h.boxes i))) ∙ omega (arith, wire_sets w t i j (spoken (h.boxes i)))))
      (λ v.
      let e : sum w (λ k. tally k (h.wires i j).log) ≡ 0 = sum_same w _ _ (λ k hk. ap (λ (x : Wire). tally k x.log) (G.quiet i j v) ∙ no_tally k) ∙ sum_none w in
      rw v (omega (arith, ap (λ (x : Wire). length x.log) (G.quiet i j v))))

  swapped : sum w (λ i. sum w (λ j. sum w (λ k. tally k (h.wires i j).log))) ≡ sum w (λ j. sum w (λ k. gone w h j k))
  swapped =
      sum_swap w w (λ i j. sum w (λ k. tally k (h.wires i j).log))
      ∙ sum_same w _ _ (λ j hj. sum_swap w w (λ i k. tally k (h.wires i j).log))

  sent_is : Counted w h → h.sent ≡ sum w (λ i. sum w (λ j. sets_on t h i j)) + sum w (λ j. sum w (λ k. gone w h j k))
  sent_is c =
      c.all
      ∙ sum_same w _ _ (λ i hi. sum_same w _ _ (λ j hj. log_length i j) ∙ sum_plus w (λ j. sets_on t h i j) (λ j. sum w (λ k. tally k (h.wires i j).log)))
      ∙ sum_plus w (λ i. sum w (λ j. sets_on t h i j)) (λ i. sum w (λ j. sum w (λ k. tally k (h.wires i j).log)))
      ∙ ap (λ (x : ℕ). sum w (λ i. sum w (λ j. sets_on t h i j)) + x) swapped

  -- ---- no run sends more than E(N + 2) + N(N - 1)

  module _ (n : ℕ) (hn : n ≤ w) (low : (i : ℕ) → word t i < 2 ^ n) where
    spoken_low : (i j : ℕ) → mem j (word t i) ≡ true → spoken (h.boxes i) ≤ n + 2
    spoken_low i j v = go _ _ _ _ (h.boxes i) (G.seats i (links_lt w t s i j v))
      where
        far : farthest w t i < n
        far = far_low w t s n hn low i (link_low w t s n hn low i j v).0

        go : (m : ℕ → ℕ) (past queue rest : ℕ → List Msg) (b : Box) → Seat w t i m past queue rest b → spoken b ≤ n + 2
        go m past queue rest b (sleeps p) = omega (arith, spoken_none b (ap (λ (x : Box). x.state) p.blank))
        go m past queue rest b (wakes p) = omega (arith, spoken_up b (omega (arith, p.half.state)), p.half.early, far)
        go m past queue rest b (rests p) = omega (arith, spoken_up b (omega (arith, p.state)), p.last, rest_linked w t s i j v, far)

    sets_low : (i : ℕ) → sum w (λ j. sets_on t h i j) ≤ wires_of w t i * (n + 2)
    unfolding wires_of
    sets_low i =
        omega (
          arith,
          sum_mono w (λ j. sets_on t h i j) (λ j. cond (mem j (word t i)) (n + 2) 0) (λ j hj. by_bool (mem j (word t i)) (λ v. rw v (spoken_low i j v)) (λ v. rw v (omega arith))),
          sum_cond w (λ j. mem j (word t i)) (n + 2),
        )

    high_none : (j k : ℕ) → n ≤ j → j < w → k < w → gone w h j k ≡ 0
    high_none j k l hj hk =
        gone_never w t s h G j k hj hk
        (elim (ℕ_discrete (hops w t j k) 0) [
          | yes z ↦ inl (hops_zero w t s j k hj z)
          | no z ↦ inr (λ g. let (i, v, e) = hops_near w t s j k hj g z in omega (arith, (link_low w t s n hn low j i v).0))
        ])

    row_low : (j : ℕ) → j < n → sum w (λ k. gone w h j k) ≤ n - 1
    row_low j hj =
        omega (
          arith,
          sum_cut n w (λ k. gone w h j k) hn (λ k l hk. gone_never w t s h G j k (omega arith) hk (inr (λ g. omega (arith, group_low w t s n hn low j k hj g)))),
          sum_but_one n (λ k. gone w h j k) j hj (gone_never w t s h G j j (omega arith) (omega arith) (inl refl)) (λ k hk. gone_le w t s h G j k (omega arith)),
        )

    pub sent_low : Counted w h → h.sent ≤ enough w t n
    unfolding enough wire_count
    sent_low c =
        let a : sum w (λ i. sum w (λ j. sets_on t h i j)) ≤ sum w (λ i. wires_of w t i * (n + 2)) = sum_mono w _ _ (λ i hi. sets_low i) in
        let b : sum w (λ j. sum w (λ k. gone w h j k)) ≡ sum n (λ j. sum w (λ k. gone w h j k)) =
        sum_cut n w (λ j. sum w (λ k. gone w h j k)) hn (λ j l hj. sum_same w _ _ (λ k hk. high_none j k l hj hk) ∙ sum_none w) in
        let e : sum n (λ j. sum w (λ k. gone w h j k)) ≤ n * (n - 1) = sum_flat n _ (n - 1) (λ j hj. row_low j hj) in
        omega (arith, sent_is c, sum_times w (wires_of w t) (n + 2))

  -- ---- with nothing under way, the boxes of the started groups stopped and all others asleep

  module _ (I : Idle h) (x : ℕ) (up : (i : ℕ) → i < w → reached w t x i ≡ true → (h.boxes i).state ≡ 2) (down : (i : ℕ) → i < w → reached w t x i ≡ false → (h.boxes i).state ≡ 0) where
    rest_sets : (i : ℕ) → i < w → sum w (λ j. sets_on t h i j) ≡ cond (reached w t x i) (wires_of w t i * (farthest w t i + 3)) 0
    unfolding wires_of
    rest_sets i hi =
        by_bool (reached w t x i)
        (λ e. rw e (sum_same w (λ j. sets_on t h i j) (λ j. cond (mem j (word t i)) (farthest w t i + 3) 0)
        (λ j hj. by_bool (mem j (word t i))
        (λ v. rw v (
        let st : (h.boxes i).state ≡ 2 = up i hi e in
        omega (arith, spoken_up (h.boxes i) (omega arith), (stopped_at w t h i hi G (omega arith) (omega arith)).last, rest_linked w t s i j v)))
        (λ v. rw v))
        ∙ sum_cond w (λ j. mem j (word t i)) (farthest w t i + 3)))
        (λ e. rw e (sum_same w (λ j. sets_on t h i j) (λ j. 0)
        (λ j hj. by_bool (mem j (word t i)) (λ v. rw v (spoken_none (h.boxes i) (down i hi e))) (λ v. rw v)) ∙ sum_none w))

    -- nothing was sent to a sleeping box
    asleep_gone : (j k : ℕ) → j < w → (h.boxes j).state ≡ 0 → gone w h j k ≡ 0
    asleep_gone j k hj z =
        sum_same w _ _ (λ i hi. by_bool (mem j (word t i))
        (λ v. ap (tally k) (G.log i j v ∙ (sleeps_at w t h j hj G z).all i (s.both i j v) ∙ I i j) ∙ no_tally k)
        (λ v. ap (λ (y : Wire). tally k y.log) (G.quiet i j v) ∙ no_tally k)) ∙ sum_none w

    -- one list for each other member of the group
    members_gone : (j : ℕ) → j < w → (h.boxes j).state ≡ 2 → sum w (λ k. gone w h j k) + 1 ≡ count w (together w t j)
    members_gone j hj e =
        sym (count_sum w (together w t j)
        ∙ sum_more w (λ k. bit (together w t j k)) (λ k. cond (eqb k j) 0 (bit (together w t j k))) j 1 hj (rw (self_together w t s j hj, eq-eqb j j refl) (omega arith)) (λ k z. rw (ne_eqb k j z))
        ∙ ap (λ (y : ℕ). y + 1) (sum_same w (λ k. cond (eqb k j) 0 (bit (together w t j k))) (λ k. gone w h j k) (λ k hk. sym (one k hk))))
      where
        one : (k : ℕ) → k < w → gone w h j k ≡ cond (eqb k j) 0 (bit (together w t j k))
        one k hk =
            by_bool (eqb k j)
            (λ u. rw u (gone_never w t s h G j k hj hk (inl (sym (eqb-true k j u)))))
            (λ u. rw u (by_bool (together w t j k)
            (λ v. rw v (gone_once w t s h G j k hj hk e (λ z. eqb-false k j u (sym z)) (together_lt w t j k v)))
            (λ v. rw v (gone_never w t s h G j k hj hk (inr (together_not w t j k v))))))

    abbrev others : ℕ → ℕ
    others j = cond (reached w t x j) (count w (together w t j) - 1) 0

    rest_lists : (j : ℕ) → j < w → sum w (λ k. gone w h j k) ≡ others j
    rest_lists j hj =
        by_bool (reached w t x j)
        (λ e. rw e (omega (arith, members_gone j hj (up j hj e))))
        (λ e. rw e (sum_same w _ _ (λ k hk. asleep_gone j k hj (down j hj e)) ∙ sum_none w))

    -- n(n - 1) for each group of n boxes
    gathered : sum w others ≡ sum w (λ i. cond (reached w t x i && is_first w t i) (count w (together w t i) * (count w (together w t i) - 1)) 0)
    gathered =
        sum_groups w t s others (λ i j hi hj e. ap₂ (λ (b : Bool) (n : ℕ). cond b (n - 1) 0) (reached_same w t s x i j hi hj e)
        (count_same w (together w t i) (together w t j) (λ k hk. together_same w t s i j hi hj e k)))
        ∙ sum_same w _ _ (λ i hi. by_bool (reached w t x i)
        (λ e. rw e)
        (λ e. rw e (by_bool (is_first w t i) (λ u. rw u (omega arith)) (λ u. rw u))))

    pub sent_rest : Counted w h → h.sent ≡ sent_at_rest w t x
    unfolding sent_at_rest
    sent_rest c =
        sent_is c
        ∙ ap₂ ◌+◌ (sum_same w _ _ rest_sets) (sum_same w _ _ rest_lists ∙ gathered)
