-- Who takes whom from whom, and which groups are started, in walks: the rules' executable words say the same. For any number of boxes. Assumes nothing.
use Rattle.std.specs.Prelude.{ℕ, zero, suc, ◌^◌, ◌≤◌, ◌<◌, ◌≡◌, true, List, ◌≢◌, ◌↔◌}
use Rattle.std.proofs.Common.{sym, ap, ◌∙◌, arith, pow_pos}
use Rattle.std.proofs.Math.Decide.{dec_lt}
use Rattle.std.proofs.Math.Dec.{eqb}
use Rattle.rules.specs.Sets.{mem, word}
use Rattle.rules.specs.Rest.{Table, Walk, Least, hops, together, layer, farthest, from, in_at_rest, not_at_rest, at_rest, reached}
use Rattle.sets.specs.Mem.{in_lt, set_of_lt}
use Rattle.sets.specs.Loops.{by_bool, get_d_words}
use Rattle.hops.specs.Hops.{hops_least, least_hops}
use Rattle.hops.specs.Rest.{From, from_ok, from_le, from_member, from_group, in_tables, layer_lt, far_lt, far_most, far_there}
use Rattle.order.specs.Rounds.{link_lt}
use Rattle.order.proofs.Rest.{together_lt, nodes_are, lists_say}
use Rattle.order.proofs.Promises.{nodes_hops, not_in}
use Rattle.order.proofs.Groups.{together_walk, reached_in, reached_out}
use Rattle.promises.specs.Said.{Leads, InStarted, Takes, Farthest}

-- a box takes nothing that it is itself
pub takes_other : (t : List ℕ) (i k j : ℕ) → Takes t i k j → i ≢ k
takes_other t i k j x e = x.far.none 0 (omega arith) e

-- links lead from a box below n to boxes below n, where the table names no other
pub walk_below : (t : List ℕ) (n : ℕ) → ((i : ℕ) → word t i < 2 ^ n) → (m i k : ℕ) → i < n → Walk t m i k → k < n
walk_below t n low zero i k h e = rw (← e) h
walk_below t n low (suc m) i k h u = let (j, v, x) = u in walk_below t n low m j k (in_lt n (word t i) j (low i) v) x

module _ (w : ℕ) (t : List ℕ) (s : Table w t) where
  pub rest_farthest : (i : ℕ) → i < w → Farthest t i (farthest w t i)
  rest_farthest i hi =
      let (c, hc, e) = far_there w t s i hi in
      record {
        there = (c, rw e at (hops_least w t s i c hi (omega (arith, far_lt w t s i hi))));
        most = λ d k l.
            let q : hops w t i k ≡ d = least_hops w t s d i k hi l in
            let hk : k < w = walk_below t w s.small d i k hi l.walk in
            let z : together w t i k ≡ true = (together_walk w t s i k hi).1 (d, l.walk) in
            omega (arith, far_most w t s i hi k hk (together_lt w t i k z));
      }

  -- where links lead there is a least number of them, below w
  pub leads_least : (i k : ℕ) → i < w → Leads t i k → (d : ℕ) × (d < w) × Least t d i k
  leads_least i k hi u =
      let h : hops w t i k < w = together_lt w t i k ((together_walk w t s i k hi).1 u) in
      (hops w t i k, h, hops_least w t s i k hi (omega arith))

  -- Nodes(d) of the tables at rest holds the boxes at d hops
  pub nodes_least : (i d k : ℕ) → i < w → d < w → (mem k (word (at_rest w t i).nodes d) ≡ true) ↔ Least t d i k
  nodes_least i d k hi hd = (
    λ m.
        let hk : k < w = in_lt w (layer w t i d) k (layer_lt w t i d) (rw (nodes_are w t i d hd) at m) in
        (nodes_hops w t s i hi d k hd hk).0 m,
    λ l. (nodes_hops w t s i hi d k hd (walk_below t w s.small d i k hi l.walk)).1 l,
  )

  -- Neighbors(k) is k's link set for the group, and 0 for all others
  pub lists_group : (i k : ℕ) → i < w → Leads t i k → word (at_rest w t i).neighbors k ≡ word t k
  lists_group i k hi u =
      let e : together w t i k ≡ true = (together_walk w t s i k hi).1 u in
      rw (lists_say w t i k (walk_below t w s.small u.0 i k hi u.1), e)

  pub lists_others : (i k : ℕ) → i < w → k < w → (Leads t i k → ⊥) → word (at_rest w t i).neighbors k ≡ 0
  lists_others i k hi hk z =
      by_bool (together w t i k) (λ e. absurd (z ((together_walk w t s i k hi).0 e))) (λ e. rw (lists_say w t i k hk, e))

  from_takes : (i k : ℕ) → i < w → from w t i k < w → Takes t i k (from w t i k)
  from_takes i k hi h =
      let f : From w t i k (from w t i k) = from_ok w t i k h in
      let g : hops w t i k < w = (from_group w t s i k hi h).0 in
      record {
        linked = f.linked;
        hops = hops w t (from w t i k) k;
        near = hops_least w t s (from w t i k) k h (omega (arith, f.near));
        far = rw f.near (hops_least w t s i k hi (omega arith));
        lowest = λ l q u v. f.lowest l q u (ap suc (least_hops w t s _ l k (link_lt w t s i l u) v) ∙ f.near);
      }

  takes_from : (i k j : ℕ) → i < w → Takes t i k j → from w t i k ≡ j
  takes_from i k j hi x =
      let hj : j < w = link_lt w t s i j x.linked in
      let a : hops w t j k ≡ x.hops = least_hops w t s x.hops j k hj x.near in
      let b : hops w t i k ≡ suc x.hops = least_hops w t s (suc x.hops) i k hi x.far in
      let l : from w t i k ≤ j = from_le w t s i j k x.linked (ap suc a ∙ sym b) in
      elim (dec_lt (from w t i k) j) [
        | yes q ↦
            let f : From w t i k (from w t i k) = from_ok w t i k (omega arith) in
            let c : hops w t (from w t i k) k ≡ x.hops = omega (arith, f.near) in
            absurd (x.lowest (from w t i k) q f.linked (rw c at (hops_least w t s (from w t i k) k (omega arith) (omega (arith, (from_group w t s i k hi (omega arith)).0)))))
        | no q ↦ omega arith
      ]

  nots_lt : (i j : ℕ) → j < w → word (at_rest w t i).not_spt j < 2 ^ w
  unfolding at_rest not_at_rest
  nots_lt i j hj =
      rw (get_d_words w (not_at_rest w t i) j hj)
      (by_bool (mem j (word t i)) (λ e. rw e (set_of_lt w _)) (λ e. rw e (pow_pos w)))

  -- In_SPT(J) of the tables at rest holds what I takes from J
  pub in_takes : (i j k : ℕ) → i < w → j < w → (mem k (word (at_rest w t i).in_spt j) ≡ true) ↔ Takes t i k j
  unfolding at_rest in_at_rest
  in_takes i j k hi hj = (
    λ m.
        let hk : k < w = in_lt w _ k (set_of_lt w (λ k. eqb (from w t i k) j)) (rw (get_d_words w (in_at_rest w t i) j hj) at m) in
        let e : from w t i k ≡ j = (in_tables w t s i j k hj hk).0 m in
        rw e at (from_takes i k hi (rw e hj)),
    λ x. (in_tables w t s i j k hj (walk_below t w s.small (suc x.hops) i k hi x.far.walk)).1 (takes_from i k j hi x),
  )

  -- every other member of the group is taken from one neighbour, and from no other
  pub one_taken : (i k : ℕ) → i < w → i ≢ k → Leads t i k → (j : ℕ) × Takes t i k j × ((l : ℕ) → Takes t i k l → l ≡ j)
  one_taken i k hi z u =
      let h : hops w t i k < w = together_lt w t i k ((together_walk w t s i k hi).1 u) in
      (from w t i k, from_takes i k hi (from_member w t s i k hi h z), λ l x. sym (takes_from i k l hi x))

  -- Not_SPT(J) holds the group without what J takes from I
  pub not_takes : (i j k : ℕ) → i < w → mem j (word t i) ≡ true
      → (mem k (word (at_rest w t i).not_spt j) ≡ true) ↔ (Leads t i k × (Takes t j k i → ⊥))
  not_takes i j k hi v = (
    λ m.
        let (e, f) = (not_in w t s i hi j k v (below m)).0 m in
        ((together_walk w t s i k hi).0 e, λ x. f ((in_takes j i k hj hi).1 x)),
    λ u.
        let (l, f) = u in
        (not_in w t s i hi j k v (walk_below t w s.small l.0 i k hi l.1)).1
        ((together_walk w t s i k hi).1 l, λ m. f ((in_takes j i k hj hi).0 m)),
  )
    where
      hj : j < w
      hj = link_lt w t s i j v

      below : mem k (word (at_rest w t i).not_spt j) ≡ true → k < w
      below m = in_lt w (word (at_rest w t i).not_spt j) k (nots_lt i j hj) m

  pub reached_started : (x i : ℕ) → x < 2 ^ w → (reached w t x i ≡ true) ↔ InStarted t x i
  reached_started x i hx = (
    λ e. let (k, hk, m, u) = reached_out w t s x i e in (k, m, (together_walk w t s k i hk).0 u),
    λ u. let (k, m, v) = u in let hk : k < w = in_lt w x k hx m in reached_in w t s x k i hk m ((together_walk w t s k i hk).1 v),
  )
