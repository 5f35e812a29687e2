-- Groups: boxes that links lead to from one another; a sum over boxes, gathered by groups; groups of a sheet with fewer boxes than the hub is wide. Assumes nothing.
use Rattle.std.specs.Prelude.{ℕ, zero, suc, ◌*◌, ◌-◌, ◌^◌, ◌≤◌, ◌<◌, ◌≡◌, refl, Bool, true, ◌&&◌, cond, List, ◌↔◌, eqb, ltb}
use Rattle.std.proofs.Math.Path.{sym}
use Rattle.std.proofs.Common.{ap, ◌∙◌, arith, lt-ltb, ltb-true, le-ltb, eqb-true, eq-eqb, ne_eqb}
use Rattle.rules.specs.Sets.{mem, word, least, count, sum}
use Rattle.rules.specs.Rest.{Table, Walk, hops, together, farthest, reached, is_first}
use Rattle.sets.specs.Mem.{in_lt, and_both, and_true, bool_ext}
use Rattle.sets.specs.Loops.{by_bool, least_hit, least_same, any_in, any_out, count_le, count_more, sum_same, sum_none}
use Rattle.hops.specs.Hops.{hops_least, hops_gap, hops_self, hops_zero, hops_sym, hops_step, hops_near, hops_between}
use Rattle.hops.specs.Rest.{far_lt, far_there}
use Rattle.order.specs.Rounds.{link_lt}
use Rattle.order.specs.Sums.{sum_one, sum_swap, sum_cond}
use Rattle.order.proofs.Rest.{together_lt, lt_together}

module _ (w : ℕ) (t : List ℕ) (s : Table w t) where
  pub self_together : (i : ℕ) → i < w → together w t i i ≡ true
  self_together i hi = lt_together w t i i (omega (arith, hops_self w t s i hi))

  pub together_sym : (i j : ℕ) → i < w → j < w → together w t i j ≡ true → together w t j i ≡ true
  together_sym i j hi hj e = lt_together w t j i (omega (arith, hops_sym w t s i j hi hj, together_lt w t i j e))

  trans_by : (d i j k : ℕ) → i < w → hops w t i j ≡ d → hops w t i j < w → hops w t j k < w → hops w t i k < w
  trans_by zero i j k hi e g l = rw (hops_zero w t s i j hi e) l
  trans_by (suc d) i j k hi e g l =
      let (c, v, f) = hops_near w t s i j hi g (omega arith) in
      hops_gap w t s i k hi (omega (arith, hops_step w t s i c k hi v, trans_by d c j k (link_lt w t s i c v) (omega arith) (omega arith) l))

  pub together_trans : (i j k : ℕ) → i < w → together w t i j ≡ true → together w t j k ≡ true → together w t i k ≡ true
  together_trans i j k hi a b = lt_together w t i k (trans_by (hops w t i j) i j k hi refl (together_lt w t i j a) (together_lt w t j k b))

  -- links lead from a box to its group, and nowhere else
  walk_lt : (n i k : ℕ) → i < w → Walk t n i k → hops w t i k < w
  walk_lt zero i k hi e = rw (← e) (omega (arith, hops_self w t s i hi))
  walk_lt (suc n) i k hi (j, v, u) = hops_gap w t s i k hi (omega (arith, hops_step w t s i j k hi v, walk_lt n j k (link_lt w t s i j v) u))

  pub together_walk : (i k : ℕ) → i < w → (together w t i k ≡ true) ↔ ((n : ℕ) × Walk t n i k)
  together_walk i k hi = (
    λ e. (hops w t i k, (hops_least w t s i k hi (omega (arith, together_lt w t i k e))).walk),
    λ x. lt_together w t i k (walk_lt x.0 i k hi x.1),
  )

  -- two boxes of a group see the same group
  pub together_same : (i j : ℕ) → i < w → j < w → together w t i j ≡ true → (k : ℕ) → together w t i k ≡ together w t j k
  together_same i j hi hj e k =
      bool_ext _ _ (λ u. together_trans j i k hj (together_sym i j hi hj e) u) (λ u. together_trans i j k hi e u)

  -- ---- the group's first box

  abbrev first : ℕ → ℕ
  first i = least w (together w t i)

  first_lt : (i : ℕ) → i < w → (first i < w) × (together w t i (first i) ≡ true)
  first_lt i hi = let (a, b) = least_hit w (together w t i) i hi (self_together i hi) in (omega arith, b)

  first_same : (i j : ℕ) → i < w → j < w → together w t i j ≡ true → first i ≡ first j
  first_same i j hi hj e = least_same w (together w t i) (together w t j) (λ k l. together_same i j hi hj e k)

  first_first : (j : ℕ) → j < w → (is_first w t (first j) ≡ true) × (together w t (first j) j ≡ true)
  unfolding is_first
  first_first j hj =
      let (a, b) = first_lt j hj in
      (eq-eqb _ _ (sym (first_same j (first j) hj a b)), together_sym j (first j) hj a b)

  is_first_lem : (i j : ℕ) → i < w → j < w → is_first w t i ≡ true → together w t i j ≡ true → i ≡ first j
  unfolding is_first
  is_first_lem i j hi hj e u = sym (eqb-true (first i) i e) ∙ first_same i j hi hj u

  -- what is the same for all boxes of a group, summed over boxes, is the sum over groups of n times as much
  pub sum_groups : (f : ℕ → ℕ) → ((i j : ℕ) → i < w → j < w → together w t i j ≡ true → f i ≡ f j)
      → sum w f ≡ sum w (λ i. cond (is_first w t i) (count w (together w t i) * f i) 0)
  sum_groups f same =
      sum_same w f (λ j. sum w (λ i. cond (is_first w t i && together w t i j) (f j) 0)) (λ j hj. sym (one j hj))
      ∙ sum_swap w w (λ j i. cond (is_first w t i && together w t i j) (f j) 0)
      ∙ sum_same w (λ i. sum w (λ j. cond (is_first w t i && together w t i j) (f j) 0)) (λ i. cond (is_first w t i) (count w (together w t i) * f i) 0) group
    where
      one : (j : ℕ) → j < w → sum w (λ i. cond (is_first w t i && together w t i j) (f j) 0) ≡ f j
      one j hj =
          let (a, b) = first_first j hj in
          let z : sum w (λ i. cond (is_first w t i && together w t i j) (f j) 0) ≡ sum w (λ i. cond (eqb i (first j)) (f j) 0) =
          sum_same w _ _ (λ i hi. ap (λ (x : Bool). cond x (f j) 0) (bool_ext _ _
          (λ u. let (p, q) = and_both _ _ u in eq-eqb i (first j) (is_first_lem i j hi hj p q))
          (λ u. rw (eqb-true i (first j) u) (and_true _ _ a b)))) in
          z ∙ sum_one w (λ i. cond (eqb i (first j)) (f j) 0) (first j) (first_lt j hj).0 (λ i y. rw (ne_eqb i (first j) y)) ∙ rw (eq-eqb (first j) (first j) refl)

      group : (i : ℕ) → i < w → sum w (λ j. cond (is_first w t i && together w t i j) (f j) 0) ≡ cond (is_first w t i) (count w (together w t i) * f i) 0
      group i hi =
          by_bool (is_first w t i)
          (λ e. rw e (sum_same w _ (λ j. cond (together w t i j) (f i) 0)
          (λ j hj. by_bool (together w t i j) (λ u. rw u (sym (same i j hi hj u))) (λ u. rw u)) ∙ sum_cond w (together w t i) (f i)))
          (λ e. rw e (sum_none w))

  -- ---- groups in which a box of a set is started

  pub reached_in : (x k i : ℕ) → k < w → mem k x ≡ true → together w t k i ≡ true → reached w t x i ≡ true
  unfolding reached
  reached_in x k i hk m e = any_in w (λ k. mem k x && together w t k i) k hk (and_true _ _ m e)

  pub reached_out : (x i : ℕ) → reached w t x i ≡ true → (k : ℕ) × (k < w) × (mem k x ≡ true) × (together w t k i ≡ true)
  unfolding reached
  reached_out x i e = let (k, hk, u) = any_out w (λ k. mem k x && together w t k i) e in let (a, b) = and_both _ _ u in (k, hk, a, b)

  pub reached_same : (x i j : ℕ) → i < w → j < w → together w t i j ≡ true → reached w t x i ≡ reached w t x j
  reached_same x i j hi hj e =
      bool_ext _ _
      (λ u. let (k, hk, m, v) = reached_out x i u in reached_in x k j hk m (together_trans k i j hk v e))
      (λ u. let (k, hk, m, v) = reached_out x j u in reached_in x k i hk m (together_trans k j i hk v (together_sym i j hi hj e)))

  -- ---- n boxes in a hub w wide

  module _ (n : ℕ) (hn : n ≤ w) (low : (i : ℕ) → word t i < 2 ^ n) where
    pub link_low : (i j : ℕ) → mem j (word t i) ≡ true → (i < n) × (j < n)
    link_low i j v = (in_lt n (word t j) i (low j) (s.both i j v), in_lt n (word t i) j (low i) v)

    low_by : (d i k : ℕ) → i < n → hops w t i k ≡ d → hops w t i k < w → k < n
    low_by zero i k hi e g = rw (← hops_zero w t s i k (omega arith) e) hi
    low_by (suc d) i k hi e g =
        let (j, v, f) = hops_near w t s i k (omega arith) g (omega arith) in
        low_by d j k (link_low i j v).1 (omega arith) (omega arith)

    pub group_low : (i k : ℕ) → i < n → hops w t i k < w → k < n
    group_low i k hi g = low_by (hops w t i k) i k hi refl g

    -- on the way to a box at d hops there is a box at each smaller number
    more_low : (i k : ℕ) → i < n → hops w t i k < w → (m : ℕ) → m ≤ hops w t i k → count n (λ c. ltb (hops w t i c) m) < count n (λ c. ltb (hops w t i c) (suc m))
    more_low i k hi g m l =
        let (c, hc, e) = hops_between w t s m (hops w t i k - m) i k (omega arith) (omega arith) (omega arith) in
        count_more n (λ c. ltb (hops w t i c) m) (λ c. ltb (hops w t i c) (suc m))
        (λ x u. lt-ltb (hops w t i x) (suc m) (omega (arith, ltb-true (hops w t i x) m u)))
        c (group_low i c hi (omega arith)) (le-ltb (hops w t i c) m (omega arith)) (lt-ltb (hops w t i c) (suc m) (omega arith))

    within_low : (i k : ℕ) → i < n → hops w t i k < w → (m : ℕ) → m ≤ hops w t i k → m < count n (λ c. ltb (hops w t i c) (suc m))
    within_low i k hi g zero l = omega (arith, more_low i k hi g 0 l)
    within_low i k hi g (suc m) l = omega (arith, more_low i k hi g (suc m) l, within_low i k hi g m (omega arith))

    -- so no member of the group is n hops away
    pub hops_low : (i k : ℕ) → i < n → hops w t i k < w → hops w t i k < n
    hops_low i k hi g =
        omega (arith, within_low i k hi g (hops w t i k) (omega arith), count_le n (λ c. ltb (hops w t i c) (suc (hops w t i k))))

    pub far_low : (i : ℕ) → i < n → farthest w t i < n
    far_low i hi =
        let (c, hc, e) = far_there w t s i (omega arith) in
        omega (arith, hops_low i c hi (omega (arith, far_lt w t s i (omega arith))))
