-- Which boxes are not asleep: those of the groups in which a box was started, and no other. The end of a run with nothing under way. Assumes nothing.
use Prim.Native.Nat.{ℕ, zero, suc, ◌+◌, ◌≤◌, ◌<◌}
use Rattle.std.specs.Prelude.{◌≡◌, false, ◌&&◌, ◌≢◌, ltb}
use Rattle.std.proofs.Math.Path.{refl, ap₂}
use Rattle.std.proofs.Common.{sym, ◌∙◌, true≢false, arith}
use Rattle.std.proofs.Math.Bool.{true}
use mathlib.Core.List.{List, [], ◌∷◌}
use Rattle.std.proofs.Math.Decide.{ℕ_discrete}
use Rattle.std.proofs.Math.Dec.{eqb}
use borrow.Author.Tests.{eq-eqb}
use Rattle.rules.specs.Sets.{mem, word}
use Rattle.rules.specs.Box.{Msg, Desk}
use Rattle.rules.specs.Hub.{Hub, sleeping, settle, start, popped, hand_over, deliver, act, run, drain, start_all, sender, receiver, under_way}
use Rattle.rules.specs.Rest.{Table, together, reached, sent_at_rest}
use Rattle.sets.specs.Mem.{Is, or_right}
use Rattle.sets.specs.Loops.{by_bool, for_each_keeps, sum_same}
use Rattle.sets.specs.Tables.{upd_other}
use Rattle.order.specs.Terms.{Names, asks, starts_of, Final, Alike}
use Rattle.order.specs.Rounds.{set_of_is, link_lt, links_lt}
use Rattle.order.specs.Invariant.{Sound}
use Rattle.order.proofs.Moves.{start_sound, deliver_sound, full_link}
use Rattle.order.proofs.Rest.{at_rest_lem, sleeps_at, together_lt, lt_together}
use Rattle.order.proofs.End.{Idle, under_idle, group_stopped, sender_up}
use Rattle.order.proofs.Groups.{self_together, together_trans, reached_in, reached_out}
use Rattle.order.proofs.Sent.{sent_rest}
use Rattle.order.proofs.Kept.{settle_boxes, asked_up, drained_up}
use Rattle.hops.specs.Hops.{hops_gap, hops_step, hops_self}

-- the set of started boxes holds what the list starts
pub starts_is : (w : ℕ) (l : List ℕ) → Is w (starts_of w l) (λ k. asks k l ≡ true)
unfolding starts_of
starts_is w l = set_of_is w (λ k. asks k l) (λ k. asks k l ≡ true) (λ k e. e) (λ k e. e)

module _ (w : ℕ) (t : List ℕ) (s : Table w t) (room : ℕ) (hr : w + 1 ≤ room) (x : ℕ) where
  -- a box that is not asleep is of a group in which a box of x is started
  abbrev pub Rooted : Hub → Type 0
  Rooted h = (i : ℕ) → i < w → (h.boxes i).state ≢ 0 → reached w t x i ≡ true

  settle_rooted : (j : ℕ) (d : Desk) (h : Hub) → reached w t x j ≡ true → Rooted h → Rooted (settle w room j d h)
  settle_rooted j d h e y i hi =
      rw (settle_boxes w room j d h) (elim (ℕ_discrete i j) [ yes z ↦ λ q. rw z e | no z ↦ rw (upd_other h.boxes j d.box i z) (y i hi) ])

  pub start_rooted : (j : ℕ) (h : Hub) → reached w t x j ≡ true → Rooted h → Rooted (start w room t j h)
  unfolding start
  start_rooted j h e y = by_bool (eqb (h.boxes j).state 0) (λ z. rw z (settle_rooted j _ h e y)) (λ z. rw z y)

  popped_rooted : (a b : ℕ) (q : List Msg) (h : Hub) → Rooted h → Rooted (popped a b q h)
  unfolding popped
  popped_rooted a b q h y = y

  hand_rooted : (a b : ℕ) (m : Msg) (h : Hub) → reached w t x b ≡ true → Rooted h → Rooted (hand_over w room t a b m h)
  unfolding hand_over
  hand_rooted a b m h e y = settle_rooted b _ h e y

  -- a neighbour of a box of such a group is in it
  next_reached : (a b : ℕ) → mem b (word t a) ≡ true → reached w t x a ≡ true → reached w t x b ≡ true
  next_reached a b v e =
      let (k, hk, m, u) = reached_out w t s x a e in
      let near : together w t a b ≡ true = lt_together w t a b (hops_gap w t s a b (links_lt w t s a b v) (omega (arith, hops_step w t s a b b (links_lt w t s a b v) v, hops_self w t s b (link_lt w t s a b v)))) in
      reached_in w t s x k b hk m (together_trans w t s k a b hk u near)

  pub deliver_rooted : (a b : ℕ) (h : Hub) → Sound w t h → Rooted h → Rooted (deliver w room t a b h)
  unfolding deliver
  deliver_rooted a b h S y = go (h.wires a b).way refl
    where
      go : (l : List Msg) → (h.wires a b).way ≡ l → Rooted (deliver w room t a b h)
      go [] e = rw (e, deliver) y
      go (m ∷ q) e =
          let v : mem b (word t a) ≡ true = full_link w t h a b m q e S.good in
          let r : reached w t x b ≡ true = next_reached a b v (y a (links_lt w t s a b v) (sender_up w t s h S.good a b m q v e)) in
          rw (e, deliver) (hand_rooted a b m (start w room t b (popped a b q h)) r (start_rooted b (popped a b q h) r (popped_rooted a b q h y)))

  own_reached : (k : ℕ) → k < w → mem k x ≡ true → reached w t x k ≡ true
  own_reached k hk m = reached_in w t s x k k hk m (self_together w t s k hk)

  pub run_rooted : (l : List ℕ) (h : Hub) → Names w t l → ((k : ℕ) → k < w → asks k l ≡ true → mem k x ≡ true) → Sound w t h → Rooted h → Rooted (run w room t l h)
  unfolding run asks act
  run_rooted [] h n r S y = y
  run_rooted (a ∷ []) h n r S y = y
  run_rooted (a ∷ b ∷ l) h n r S y =
      let later : (k : ℕ) → k < w → asks k l ≡ true → mem k x ≡ true = λ k hk e. r k hk (or_right (eqb a b && eqb a k) (asks k l) e) in
      run_rooted l (act w room t a b h) n.2 later
      (by_bool (eqb a b) (λ e. rw e (start_sound w t s room hr h a n.0.0 S)) (λ e. rw e (deliver_sound w t s room hr h a b S)))
      (by_bool (eqb a b)
      (λ e. rw e (start_rooted a h (own_reached a n.0.0 (r a n.0.0 (rw (e, eq-eqb a a refl)))) y))
      (λ e. rw e (deliver_rooted a b h S y)))

  all_rooted : (h : Hub) → Sound w t h → Rooted h → Sound w t (start_all w room t x h) × Rooted (start_all w room t x h)
  unfolding start_all
  all_rooted h S y =
      for_each_keeps x (start w room t) (λ n g. Sound w t g × Rooted g) w h (S, y)
      (λ k g l m p. (start_sound w t s room hr g k l p.0, start_rooted k g (own_reached k l m) p.1)) (λ k g l m p. p)

  drain_rooted : (f : ℕ) (h : Hub) → Sound w t h → Rooted h → Rooted (drain w room t f h)
  unfolding drain
  drain_rooted zero h S y = y
  drain_rooted (suc f) h S y =
      by_bool (ltb (sender w h) w)
      (λ e. rw e (drain_rooted f _ (deliver_sound w t s room hr h (sender w h) (receiver w h) S) (deliver_rooted (sender w h) (receiver w h) h S y)))
      (λ e. rw e y)

  asleep_rooted : Rooted (sleeping w)
  asleep_rooted i hi z = absurd (z refl)

  -- ---- the end

  pub final : (h : Hub) → Sound w t h → Rooted h → ((k : ℕ) → k < w → mem k x ≡ true → (h.boxes k).state ≢ 0) → under_way w h ≡ 0 → Final w t x h
  final h S y up e =
      let I : Idle h = under_idle w t s h S.good e in
      let stop : (i : ℕ) → i < w → reached w t x i ≡ true → (h.boxes i).state ≡ 2 = λ i hi r.
      let (k, hk, m, u) = reached_out w t s x i r in
      group_stopped w t s h S.good I k i hk hi (together_lt w t k i u) (up k hk m) in
      let sleep : (i : ℕ) → i < w → reached w t x i ≡ false → (h.boxes i).state ≡ 0 = λ i hi r.
      elim (ℕ_discrete (h.boxes i).state 0) [ yes z ↦ z | no z ↦ absurd (true≢false (sym (y i hi z) ∙ r)) ] in
      let n : h.sent ≡ sent_at_rest w t x = sent_rest w t s h S.good I x stop sleep S.counted in
      record {
        stopped = λ i hi r. at_rest_lem w t s h i hi S.good (stop i hi r);
        sleep = λ i hi r. (sleeps_at w t h i hi S.good (sleep i hi r)).blank;
        sent = n;
        moved = omega (arith, S.counted.way);
      }

module _ (w : ℕ) (t : List ℕ) (s : Table w t) (room : ℕ) (hr : w + 1 ≤ room) (S : Sound w t (sleeping w)) where
  pub run_final : (l : List ℕ) → Names w t l → Sound w t (run w room t l (sleeping w)) → under_way w (run w room t l (sleeping w)) ≡ 0
      → Final w t (starts_of w l) (run w room t l (sleeping w))
  run_final l n T e =
      final w t s room hr (starts_of w l) (run w room t l (sleeping w)) T
      (run_rooted w t s room hr (starts_of w l) l (sleeping w) n (λ k hk a. (starts_is w l).put k hk a) S (asleep_rooted w t s room hr (starts_of w l)))
      (λ k hk m. asked_up w room t l (sleeping w) k ((starts_is w l).get k m)) e

  pub drain_final : (x f : ℕ) → Sound w t (drain w room t f (start_all w room t x (sleeping w))) → under_way w (drain w room t f (start_all w room t x (sleeping w))) ≡ 0
      → Final w t x (drain w room t f (start_all w room t x (sleeping w)))
  drain_final x f T e =
      let (A, y) = all_rooted w t s room hr x (sleeping w) S (asleep_rooted w t s room hr x) in
      final w t s room hr x (drain w room t f (start_all w room t x (sleeping w))) T
      (drain_rooted w t s room hr x f (start_all w room t x (sleeping w)) A y)
      (λ k hk m. drained_up w room t x f (sleeping w) k hk m) e

-- the same started groups, the same end
module _ (w : ℕ) (t : List ℕ) where
  sent_same : (x y : ℕ) → ((i : ℕ) → i < w → reached w t x i ≡ reached w t y i) → sent_at_rest w t x ≡ sent_at_rest w t y
  unfolding sent_at_rest
  sent_same x y e = ap₂ ◌+◌ (sum_same w _ _ (λ i hi. rw (e i hi))) (sum_same w _ _ (λ i hi. rw (e i hi)))

  pub same_end : (x y : ℕ) (g h : Hub) → ((i : ℕ) → i < w → reached w t x i ≡ reached w t y i) → Final w t x g → Final w t y h → Alike w g h
  same_end x y g h e F H = record {
    boxes = λ i hi. by_bool (reached w t x i)
        (λ r. F.stopped i hi r ∙ sym (H.stopped i hi (sym (e i hi) ∙ r)))
        (λ r. F.sleep i hi r ∙ sym (H.sleep i hi (sym (e i hi) ∙ r)));
    sent = F.sent ∙ sent_same x y e ∙ sym H.sent;
    moved = F.moved ∙ sent_same x y e ∙ sym H.moved;
  }
