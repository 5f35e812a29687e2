-- "Take one from each link, ascending by neighbour": from the tables cut at HOP to those cut at HOP + 1, if each link's set is the one that it should be.
-- Assumes nothing.
use Prim.Native.Nat.{ℕ, zero, suc, ◌≤◌, ◌<◌}
use Rattle.std.specs.Prelude.{◌≡◌, true, false, List, ◌⊎◌, length}
use Rattle.std.proofs.Common.{sym, ◌∙◌, inl, inr, ⊎_elim, arith}
use Rattle.std.proofs.Math.Path.{ap, ap₂}
use Rattle.std.proofs.Math.Decide.{dec_lt, ℕ_discrete}
use Rattle.std.specs.Int.Bits.{bit_or}
use Rattle.std.proofs.Math.ListN.{get_or-eq_default}
use Rattle.rules.specs.Sets.{mem, without, word, join_at, union}
use Rattle.rules.specs.Box.{Box, take_set, take_sets, before}
use Rattle.rules.specs.Rest.{Table, hops, layer, from, said_set}
use Rattle.sets.specs.Mem.{Is, same, without_is, not_both}
use Rattle.sets.specs.Loops.{for_each_keeps}
use Rattle.sets.specs.Tables.{join_at_length, join_at_same, join_at_other, in_union, union_in, union_lt}
use Rattle.order.specs.Rounds.{le_suc, zero_is, in_cut, in_cut_is, cur_at, fresh, heard, heard_is, heard_to, cur_step, in_step, heard_more, in_skip, cur_skip, new_is, passed_next, cur_far}
use Rattle.order.specs.Wire.{carried}

module _ (w : ℕ) (t : List ℕ) where
  -- box i in round h, the links below n gone through; l is its table of lists, which stays
  pub record Mid (i h : ℕ) (l : List ℕ) (n : ℕ) (b : Box) : Type 0 where
    pub hop : b.hop ≡ h
    pub lists : b.neighbors ≡ l
    pub nodes_size : length b.nodes ≡ w
    pub in_size : length b.in_spt ≡ w
    pub not_size : length b.not_spt ≡ w
    pub old : (d : ℕ) → d ≤ h → word b.nodes d ≡ layer w t i d
    pub cur : word b.nodes (suc h) ≡ cur_at w t i h n
    pub new : (d : ℕ) → suc h < d → word b.nodes d ≡ 0
    pub done : (j : ℕ) → j < n → word b.in_spt j ≡ in_cut w t i j (suc h)
    pub todo : (j : ℕ) → n ≤ j → j < w → word b.in_spt j ≡ in_cut w t i j h
    pub heard : (j : ℕ) → j < n → mem j (word t i) ≡ true → word b.not_spt j ≡ heard_to w t i j (suc h)
    pub unheard : (j : ℕ) → n ≤ j → mem j (word t i) ≡ true → word b.not_spt j ≡ heard_to w t i j h
    pub deaf : (j : ℕ) → mem j (word t i) ≡ false → word b.not_spt j ≡ 0

  module _ (s : Table w t) (i h : ℕ) (l : List ℕ) (hi : i < w) (hh : h ≤ w) (heads : ℕ → ℕ) (due : (j : ℕ) → mem j (word t i) ≡ true → heads j ≡ said_set w t j i h) where
    known_is : (n : ℕ) (b : Box) → n ≤ w → Mid i h l n b
        → Is w (union w b.in_spt) (λ k. (j : ℕ) × (j < w) × (from w t i k ≡ j) × ((hops w t i k ≤ h) ⊎ ((hops w t i k ≡ suc h) × (j < n))))
    known_is n b hn m = record {
      small = union_lt w w b.in_spt (λ j q. elim (dec_lt j n) [
        | yes p ↦ rw (m.done j p) (in_cut_is w t i j (suc h)).small
        | no p ↦ rw (m.todo j (omega arith) q) (in_cut_is w t i j h).small
      ]);
      get = λ k q.
          let (j, z, e) = in_union w b.in_spt k q in
          elim (dec_lt j n) [
            | yes p ↦
                let (v, u) = (in_cut_is w t i j (suc h)).get k (rw (m.done j p) at e) in
                ⊎_elim (λ y. (j, z, v, inl y)) (λ y. (j, z, v, inr (y, p))) (le_suc (hops w t i k) h u)
            | no p ↦
                let (v, u) = (in_cut_is w t i j h).get k (rw (m.todo j (omega arith) z) at e) in
                (j, z, v, inl u)
          ];
      put = λ k z q.
          let (j, lj, v, c) = q in
          union_in w b.in_spt k j lj (elim (dec_lt j n) [
            | yes p ↦ rw (m.done j p) ((in_cut_is w t i j (suc h)).put k z (v, ⊎_elim (λ y. omega arith) (λ y. omega arith) c))
            | no p ↦ rw (m.todo j (omega arith) lj) ((in_cut_is w t i j h).put k z (v, ⊎_elim (λ y. y) (λ y. absurd (p y.1)) c))
          ]);
    }

    new_cur : (n : ℕ) (b : Box) → Mid i h l n b → (x : ℕ) → x ≡ fresh w t i n h → word (join_at b.nodes (suc b.hop) x) (suc h) ≡ cur_at w t i h (suc n)
    new_cur n b m x e =
        let z : suc b.hop ≡ suc h = ap suc m.hop in
        ap (λ (y : ℕ). word (join_at b.nodes y x) (suc h)) z
        ∙ elim (dec_lt (suc h) w) [
          | yes p ↦ join_at_same b.nodes (suc h) x (omega (arith, m.nodes_size)) ∙ ap₂ bit_or m.cur e ∙ cur_step w t i h n
          | no p ↦
              get_or-eq_default (join_at b.nodes (suc h) x) 0 (omega (arith, join_at_length b.nodes (suc h) x, m.nodes_size))
              ∙ sym (cur_far w t s i h (suc n) hi hh (omega arith))
        ]

    taken : (n : ℕ) (b : Box) → n < w → mem n (word t i) ≡ true → Mid i h l n b → Mid i h l (suc n) (take_set w n (heads n) b)
    unfolding take_set
    taken n b hn v m =
        let x : ℕ = without (heads n) (union w b.in_spt) in
        let e : x ≡ fresh w t i n h =
        ap (λ (y : ℕ). without y (union w b.in_spt)) (due n v) ∙ new_is w t s i h n (union w b.in_spt) hi (omega arith) v (known_is n b (omega arith) m) in
        record {
          hop = m.hop;
          lists = m.lists;
          nodes_size = join_at_length b.nodes (suc b.hop) x ∙ m.nodes_size;
          in_size = join_at_length b.in_spt n x ∙ m.in_size;
          not_size = join_at_length b.not_spt n (heads n) ∙ m.not_size;
          old = λ d q. join_at_other b.nodes (suc b.hop) x d (omega (arith, m.hop)) ∙ m.old d q;
          cur = new_cur n b m x e;
          new = λ d q. join_at_other b.nodes (suc b.hop) x d (omega (arith, m.hop)) ∙ m.new d q;
          done = λ j q. elim (ℕ_discrete j n) [
            | yes z ↦ rw z (join_at_same b.in_spt n x (omega (arith, m.in_size)) ∙ ap₂ bit_or (m.todo n (omega arith) hn) e ∙ in_step w t i h n)
            | no z ↦ join_at_other b.in_spt n x j z ∙ m.done j (omega arith)
          ];
          todo = λ j q r. join_at_other b.in_spt n x j (omega arith) ∙ m.todo j (omega arith) r;
          heard = λ j q u. elim (ℕ_discrete j n) [
            | yes z ↦ rw z (join_at_same b.not_spt n (heads n) (omega (arith, m.not_size)) ∙ ap₂ bit_or (m.unheard n (omega arith) v) (due n v) ∙ heard_more w t i n h)
            | no z ↦ join_at_other b.not_spt n (heads n) j z ∙ m.heard j (omega arith) u
          ];
          unheard = λ j q u. join_at_other b.not_spt n (heads n) j (omega arith) ∙ m.unheard j (omega arith) u;
          deaf = λ j u. join_at_other b.not_spt n (heads n) j (λ z. not_both n (word t i) v (rw z at u)) ∙ m.deaf j u;
        }

    skipped : (n : ℕ) (b : Box) → n < w → mem n (word t i) ≡ false → Mid i h l n b → Mid i h l (suc n) b
    skipped n b hn v m = record {
      hop = m.hop;
      lists = m.lists;
      nodes_size = m.nodes_size;
      in_size = m.in_size;
      not_size = m.not_size;
      old = m.old;
      cur = m.cur ∙ cur_skip w t s i h n hn v;
      new = m.new;
      done = λ j q. elim (ℕ_discrete j n) [
        | yes e ↦ rw e (m.todo n (omega arith) hn ∙ in_skip w t s i h n hn v)
        | no e ↦ m.done j (omega arith)
      ];
      todo = λ j q. m.todo j (omega arith);
      heard = λ j q u. elim (ℕ_discrete j n) [
        | yes e ↦ absurd (not_both n (word t i) (rw e at u) v)
        | no e ↦ m.heard j (omega arith) u
      ];
      unheard = λ j q. m.unheard j (omega arith);
      deaf = m.deaf;
    }

    pub all_taken : (b : Box) → Mid i h l 0 b → Mid i h l w (take_sets w (word t i) heads b)
    unfolding take_sets
    all_taken b m =
        for_each_keeps (word t i) (λ j. take_set w j (heads j)) (λ n x. Mid i h l n x) w b m (λ n x q v p. taken n x q v p) (λ n x q v p. skipped n x q v p)

  -- the boxes whose lists go out: "K in Nodes(HOP-1) without Not_SPT(J) (nothing in round 0)"
  pub lists_out : (s : Table w t) (i j h : ℕ) (f : List ℕ) → i < w → mem j (word t i) ≡ true → ((d : ℕ) → d ≤ h → word f d ≡ layer w t i d)
      → without (before h f) (heard_to w t i j (suc h)) ≡ carried w t i j (suc h)
  unfolding heard_to carried before
  lists_out s i j zero f hi v e =
      same (without_is (zero_is w) (heard_is w t i j 0)) (zero_is w) (λ k q p. p.0) (λ k q p. absurd p)
  lists_out s i j (suc h) f hi v e =
      ap (λ (x : ℕ). without x (heard w t i j (suc h))) (e h (omega arith)) ∙ passed_next w t s i j h hi v
