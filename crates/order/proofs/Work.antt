-- A box that a message reaches "works until neither of these applies": that is take lists, at most one round, take lists. Its invariant afterwards, and
-- that it has sent the next part of each wire's list. Assumes nothing.
use Rattle.std.specs.Prelude.{ℕ, zero, suc, ◌<◌, ◌≡◌, Bool, ◌&&◌, cond, ◌≢◌, eqb, length}
use Rattle.std.proofs.Math.Path.{refl, ap, ap₂, fun_ext}
use Rattle.std.proofs.Common.{sym, ◌∙◌, true≢false, arith, eq-eqb, ne_eqb}
use Rattle.std.proofs.Math.Bool.{true, false}
use Rattle.std.proofs.lemmas.Bool.{false≢true}
use mathlib.Core.List.{List, [], ◌∷◌, ◌++◌, append_assoc, append-nil}
use Rattle.std.proofs.Math.Decide.{ℕ_discrete}
use Rattle.rules.specs.Sets.{mem, word, upd}
use Rattle.rules.specs.Box.{Msg, notspt, neighbors, Box, Desk, lists, behind, save_lists, save_heads, save, is_set, tail, all_sets, round_sends, stops, round, work, receive}
use Rattle.rules.specs.Rest.{Table}
use Rattle.sets.specs.Loops.{by_bool}
use Rattle.sets.specs.Tables.{upd_same, upd_other}
use Rattle.order.specs.Rounds.{link_lt}
use Rattle.order.specs.Wire.{wire, wire_more}
use Rattle.order.specs.Invariant.{Flow, Half, Awake, Stopped, Seat, sleeps, wakes, rests, spoken}
use Rattle.order.proofs.Save.{used, saved, behind_twice, lists_none, behind_none, no_head}
use Rattle.order.proofs.Round.{sets_all, sets_not, with_sets, turned, round_is, after_hop, sends_next, sends_none, goes_on, comes_to_rest}

pub spoken_up : (b : Box) → b.state ≢ 0 → spoken b ≡ suc b.hop
unfolding spoken
spoken_up b z = go b.state refl
  where
    go : (s : ℕ) → b.state ≡ s → spoken b ≡ suc b.hop
    go zero e = absurd (z e)
    go (suc s) e = rw (e, spoken)

pub spoken_none : (b : Box) → b.state ≡ 0 → spoken b ≡ 0
unfolding spoken
spoken_none b e = rw (e, spoken)

pub two_or_one : (x : Bool) → ◌≢◌ {A = ℕ} (cond x 2 1) 0
two_or_one true = omega arith
two_or_one false = omega arith

-- ---- with nothing queued there is nothing to save

save_heads_none : (n : ℕ) (q : ℕ → List Msg) (l : List ℕ) → ((i : ℕ) → q i ≡ []) → save_heads n q l ≡ l
unfolding save_heads save_lists
save_heads_none zero q l e = refl
save_heads_none (suc n) q l e = ap (λ (x : List Msg). save_lists x (save_heads n q l)) (e n) ∙ save_heads_none n q l e

save_none : (w : ℕ) (d : Desk) → ((i : ℕ) → d.queues i ≡ []) → save w d ≡ d
unfolding save
save_none w d e =
    let a : save_heads w d.queues d.box.neighbors ≡ d.box.neighbors = save_heads_none w d.queues d.box.neighbors e in
    let b : (λ j. behind (d.queues j)) ≡ d.queues = fun_ext (λ j. ap behind (e j) ∙ behind_none ∙ sym (e j)) in
    let c : (λ j. d.taken j ++ lists (d.queues j)) ≡ d.taken =
    fun_ext (λ j. ap (λ (x : List Msg). d.taken j ++ lists x) (e j) ∙ ap (λ (x : List Msg). d.taken j ++ x) lists_none ∙ append-nil (d.taken j)) in
    λ i. record {
      box = record {
        state = d.box.state;
        hop = d.box.hop;
        nodes = d.box.nodes;
        in_spt = d.box.in_spt;
        not_spt = d.box.not_spt;
        neighbors = a i;
      };
      queues = b i;
      sends = d.sends;
      taken = c i;
    }

-- ---- the loop

-- it ends where the box has stopped or some link has no set at its head
work_end : (m w n : ℕ) (d : Desk) → eqb (save w d).box.state 1 && all_sets w n (save w d).queues ≡ false → work m w n d ≡ save w d
unfolding work
work_end zero w n d e = refl
work_end (suc m) w n d e = rw e

work_on : (m w n : ℕ) (d : Desk) → eqb (save w d).box.state 1 && all_sets w n (save w d).queues ≡ true → work (suc m) w n d ≡ work m w n (round w n (save w d))
unfolding work
work_on m w n d e = rw e

no_set : is_set [] ≡ true → ⊥
unfolding is_set
no_set h = false≢true h

-- after a round that leaves the queue of some link empty, neither rule applies once the lists are taken
after_round : (w n : ℕ) (c : Desk) (a : ℕ) → a < w → mem a n ≡ true → tail (c.queues a) ≡ [] → (x : Bool)
    → eqb (save w (turned w n c x)).box.state 1 && all_sets w n (save w (turned w n c x)).queues ≡ false
unfolding save
after_round w n c a h l e true = refl
after_round w n c a h l e false =
    by_bool (all_sets w n (save w (turned w n c false)).queues)
    (λ r. absurd (no_set (rw (l, e, behind_none) at (sets_all w n (save w (turned w n c false)).queues r a h l))))
    (λ r. r)

-- ---- what a step at j does: the box has its place, and each wire out of it has grown as it should

pub record Done (w : ℕ) (t : List ℕ) (j : ℕ) (n : ℕ → ℕ) (past rest : ℕ → List Msg) (b : Box) (d : Desk) : Type 0 where
  pub seat : Seat w t j n (used past d) d.queues rest d.box
  pub said : (i : ℕ) → mem i (word t j) ≡ true → wire w t j i (spoken d.box) ≡ wire w t j i (spoken b) ++ d.sends i
  pub mute : (i : ℕ) → mem i (word t j) ≡ false → (d.sends i ≡ []) × (d.taken i ≡ []) × (d.queues i ≡ [])

module _ (w : ℕ) (t : List ℕ) (s : Table w t) (j : ℕ) (hj : j < w) (n : ℕ → ℕ) (past rest : ℕ → List Msg) where
  -- a desk at which nothing was sent yet, and nothing taken or queued from what is no link
  pub record Clean (d : Desk) : Type 0 where
    pub sends : (i : ℕ) → d.sends i ≡ []
    pub taken : (i : ℕ) → mem i (word t j) ≡ false → d.taken i ≡ []
    pub queues : (i : ℕ) → mem i (word t j) ≡ false → d.queues i ≡ []

  save_clean : (d : Desk) → Clean d → Clean (save w d)
  unfolding save
  save_clean d c = record {
    sends = c.sends;
    taken = λ i v. ap₂ (λ (x y : List Msg). x ++ lists y) (c.taken i v) (c.queues i v) ∙ lists_none;
    queues = λ i v. ap behind (c.queues i v) ∙ behind_none;
  }

  module _ (d : Desk) (p : Half w t j n (used past d) d.queues rest d.box) (c : Clean d) where
    -- the box works no further: it waits for a set on some link
    waits_done : ((i : ℕ) → behind (d.queues i) ≡ d.queues i) → all_sets w (word t j) d.queues ≡ false → Done w t j n past rest d.box d
    waits_done calm r =
        let (i, hi, v, f) = sets_not w (word t j) d.queues r in
        record {
          seat = wakes (record { half = p; calm = calm; waits = (i, v, no_head (d.queues i) (calm i) f) });
          said = λ i v. sym (append-nil _) ∙ ap (λ (x : List Msg). wire w t j i (spoken d.box) ++ x) (sym (c.sends i));
          mute = λ i v. (c.sends i, c.taken i v, c.queues i v);
        }

    module _ (r : all_sets w (word t j) d.queues ≡ true) where
      sent_now : (x : Bool) (i : ℕ) → mem i (word t j) ≡ true
          → wire w t j i (spoken (turned w (word t j) d x).box) ≡ wire w t j i (spoken d.box) ++ (turned w (word t j) d x).sends i
      sent_now x i v =
          let e : spoken (turned w (word t j) d x).box ≡ suc (suc d.box.hop) =
          spoken_up _ (two_or_one x) ∙ ap (λ (h : ℕ). suc (suc h)) (after_hop w t s j hj n past rest d p r) in
          let f : spoken d.box ≡ suc d.box.hop = spoken_up d.box (omega (arith, p.state)) in
          ap (wire w t j i) e ∙ wire_more w t j i (suc d.box.hop)
          ∙ ap₂ ◌++◌ (ap (wire w t j i) (sym f)) (sym (ap (λ (l : List Msg). l ++ round_sends w (word t j) (with_sets w (word t j) d) i) (c.sends i) ∙ sends_next w t s j hj n past rest d p r i v))

      none_now : (x : Bool) (i : ℕ) → mem i (word t j) ≡ false
          → ((turned w (word t j) d x).sends i ≡ []) × ((turned w (word t j) d x).taken i ≡ []) × ((turned w (word t j) d x).queues i ≡ [])
      none_now x i v = (
        ap₂ ◌++◌ (c.sends i) (sends_none w t s j hj n past rest d p r i v),
        rw v (append-nil (d.taken i) ∙ c.taken i v),
        rw v (none x (d.queues i) (c.queues i v)),
      )
        where
          none : (x : Bool) (q : List Msg) → q ≡ [] → cond x [] q ≡ []
          none true q e = refl
          none false q e = e

      -- a round, and the lists that then stand at the heads: the queue of a is empty after it
      stop_done : stops (with_sets w (word t j) d) ≡ true → Done w t j n past rest d.box (save w (turned w (word t j) d true))
      stop_done z = rw (save_none w (turned w (word t j) d true) (λ i. refl)) (record {
        seat = rests (comes_to_rest w t s j hj n past rest d p r z);
        said = sent_now true;
        mute = none_now true;
      })

      go_done : (a : ℕ) → mem a (word t j) ≡ true → tail (d.queues a) ≡ [] → stops (with_sets w (word t j) d) ≡ false
          → Done w t j n past rest d.box (save w (turned w (word t j) d false))
      unfolding save spoken
      go_done a l e z = record {
        seat = wakes (record {
          half = saved w t s j hj n past rest (turned w (word t j) d false) (goes_on w t s j hj n past rest d p r z);
          calm = λ i. behind_twice ((turned w (word t j) d false).queues i);
          waits = (a, l, rw (l, e) behind_none);
        });
        said = sent_now false;
        mute = λ i v.
            let (x, y, q) = none_now false i v in
            (x, ap₂ (λ (a b : List Msg). a ++ lists b) y q ∙ lists_none, ap behind q ∙ behind_none);
      }

      pub turned_done : (a : ℕ) → mem a (word t j) ≡ true → tail (d.queues a) ≡ [] → Done w t j n past rest d.box (save w (round w (word t j) d))
      turned_done a l e =
          by_bool (stops (with_sets w (word t j) d))
          (λ z. rw (round_is w (word t j) d true z) (stop_done z))
          (λ z. rw (round_is w (word t j) d false z) (go_done a l e z))

  -- ---- a message from a joins its queue

  one_left : (m : Msg) → tail (behind (m ∷ [])) ≡ []
  unfolding tail behind
  one_left (notspt s) = refl
  one_left (neighbors k s) = refl

  module _ (a : ℕ) (m : Msg) (rest' : ℕ → List Msg) (l : mem a (word t j) ≡ true) (first : rest' a ≡ m ∷ rest a) (other : (i : ℕ) → mem i (word t j) ≡ true → i ≢ a → rest' i ≡ rest i) (b : Box) (queue : ℕ → List Msg) where
    abbrev joined : Desk
    joined = record { box = b; queues = upd queue a (queue a ++ (m ∷ [])); sends = λ i. []; taken = λ i. [] }

    joined_flow : (i : ℕ) → mem i (word t j) ≡ true → Flow w t i j (n i) (past i) (queue i) (rest' i) b → Flow w t i j (n i) (past i ++ []) (upd queue a (queue a ++ (m ∷ [])) i) (rest i) b
    joined_flow i v f = rw (append-nil (past i)) (record {
      all = f.all ∙ ap (λ (x : List Msg). past i ++ x) (elim (ℕ_discrete i a) [
        | yes z ↦ rw z (ap (λ (x : List Msg). queue a ++ x) first ∙ sym (append_assoc (queue a) (m ∷ []) (rest a))
            ∙ ap (λ (x : List Msg). x ++ rest a) (sym (upd_same queue a (queue a ++ (m ∷ [])))))
        | no z ↦ ap₂ ◌++◌ (sym (upd_other queue a _ i z)) (other i v z)
      ]);
      num = f.num;
      kept = f.kept;
    })

    off_link : (i : ℕ) → mem i (word t j) ≡ false → (q : (i : ℕ) → mem i (word t j) ≡ false → queue i ≡ []) → upd queue a (queue a ++ (m ∷ [])) i ≡ []
    off_link i v q = upd_other queue a _ i (λ z. true≢false (sym l ∙ ap (λ (x : ℕ). mem x (word t j)) (sym z) ∙ v)) ∙ q i v

    joined_half : Half w t j n past queue rest' b → Half w t j n (used past joined) joined.queues rest b
    joined_half p = record {
      state = p.state;
      tables = p.tables;
      early = p.early;
      linked = p.linked;
      flows = λ i v. joined_flow i v (p.flows i v);
      mute = λ i v. off_link i v p.mute;
    }

    joined_clean : Half w t j n past queue rest' b → Clean joined
    joined_clean p = record { sends = λ i. refl; taken = λ i v. refl; queues = λ i v. off_link i v p.mute }

    -- only the link that was waited for can make the box ready, and its queue holds one message then
    alone : Awake w t j n past queue rest' b → all_sets w (word t j) (save w joined).queues ≡ true
        → (c : ℕ) × (mem c (word t j) ≡ true) × (tail ((save w joined).queues c) ≡ [])
    unfolding save
    alone p r =
        let (i, v, e) = p.waits in
        elim (ℕ_discrete i a) [
          | yes z ↦ (a, l, ap (λ (x : List Msg). tail (behind x)) (upd_same queue a (queue a ++ (m ∷ [])) ∙ ap (λ (x : List Msg). x ++ (m ∷ [])) (ap queue (sym z) ∙ e)) ∙ one_left m)
          | no z ↦
              let h : is_set (behind (upd queue a (queue a ++ (m ∷ [])) i)) ≡ true = sets_all w (word t j) _ r i (link_lt w t s j i v) v in
              absurd (no_set (rw (upd_other queue a (queue a ++ (m ∷ [])) i z, e, behind_none) at h))
        ]

    save_state : (save w joined).box.state ≡ b.state
    unfolding save
    save_state = refl

    save_spoken : spoken (save w joined).box ≡ spoken b
    unfolding save spoken
    save_spoken = refl

    save_calm : (i : ℕ) → behind ((save w joined).queues i) ≡ (save w joined).queues i
    unfolding save
    save_calm i = behind_twice (joined.queues i)

    from_saved : (d : Desk) → Done w t j n past rest (save w joined).box d → Done w t j n past rest b d
    from_saved d x = record { seat = x.seat; said = λ i v. x.said i v ∙ ap (λ (k : ℕ). wire w t j i k ++ d.sends i) save_spoken; mute = x.mute }

    awake_done : (k : ℕ) → Awake w t j n past queue rest' b → Done w t j n past rest b (work (suc k) w (word t j) joined)
    awake_done k p =
        let h : Half w t j n (used past (save w joined)) (save w joined).queues rest (save w joined).box = saved w t s j hj n past rest joined (joined_half p.half) in
        let c : Clean (save w joined) = save_clean joined (joined_clean p.half) in
        let up : eqb (save w joined).box.state 1 ≡ true = eq-eqb _ 1 (save_state ∙ p.half.state) in
        by_bool (all_sets w (word t j) (save w joined).queues)
        (λ r.
        let (x, v, e) = alone p r in
        let z : work k w (word t j) (round w (word t j) (save w joined)) ≡ save w (round w (word t j) (save w joined)) =
        rw (round_is w (word t j) (save w joined) (stops (with_sets w (word t j) (save w joined))) refl)
        (work_end k w (word t j) (turned w (word t j) (save w joined) (stops (with_sets w (word t j) (save w joined))))
        (after_round w (word t j) (save w joined) x (link_lt w t s j x v) v e (stops (with_sets w (word t j) (save w joined))))) in
        rw (work_on k w (word t j) joined (rw (up, r)) ∙ z) (from_saved _ (turned_done (save w joined) h c r x v e)))
        (λ r. rw (work_end (suc k) w (word t j) joined (rw (up, r))) (from_saved _ (waits_done (save w joined) h c save_calm r)))

    -- "A message delivered to a stopped box is taken and dropped."
    stopped_done : Stopped w t j n past queue rest' b → Done w t j n past rest b (record { box = b; queues = queue; sends = λ i. []; taken = λ i. [] })
    stopped_done p = record {
      seat = rests (record {
        state = p.state;
        tables = p.tables;
        last = p.last;
        empty = p.empty;
        full = p.full;
        spent = λ i v. rw (append-nil (past i)) (elim (ℕ_discrete i a) [
          | yes z ↦ record {
            dropped = (p.spent i v).dropped ++ (m ∷ []);
            all = (p.spent i v).all ∙ ap (λ (x : List Msg). past i ++ x) (ap (λ (x : List Msg). (p.spent i v).dropped ++ x) (rw z first) ∙ sym (append_assoc (p.spent i v).dropped (m ∷ []) (rest i)));
            num = (p.spent i v).num;
          }
          | no z ↦ record {
            dropped = (p.spent i v).dropped;
            all = (p.spent i v).all ∙ ap (λ (x : List Msg). past i ++ ((p.spent i v).dropped ++ x)) (other i v z);
            num = (p.spent i v).num;
          }
        ]);
      });
      said = λ i v. sym (append-nil (wire w t j i (spoken b)));
      mute = λ i v. (refl, refl, p.empty i);
    }

    more_than_none : (q : List Msg) (x : Msg) → (k : ℕ) × (length (q ++ (x ∷ [])) ≡ suc k)
    more_than_none [] x = (0, refl)
    more_than_none (y ∷ q) x = (length (q ++ (x ∷ [])), refl)

    pub received : b.state ≢ 0 → Seat w t j n past queue rest' b → Done w t j n past rest b (receive w (word t j) a m b queue)
    unfolding receive
    received z (sleeps e) = absurd (z (ap (λ (x : Box). x.state) e.blank))
    received z (wakes p) =
        let (k, e) = more_than_none (queue a) m in
        rw (eq-eqb b.state 1 p.half.state, e) (awake_done k p)
    received z (rests p) = rw (ne_eqb b.state 1 (omega (arith, p.state))) (stopped_done p)
