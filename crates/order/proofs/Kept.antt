-- What no step changes, on any hub: a settled box alone is rewritten, a box that does not sleep never sleeps again, and each message taken off a wire counts.
-- Assumes nothing.
use Prim.Native.Nat.{ℕ, zero, suc, ◌+◌, ◌<◌}
use Rattle.std.specs.Prelude.{◌≡◌, ◌&&◌, ◌≢◌, ltb, length}
use Rattle.std.proofs.Math.Path.{refl, ap}
use Rattle.std.proofs.Common.{sym, ◌∙◌, arith}
use Rattle.std.proofs.Math.Bool.{true, true≢false}
use Rattle.std.proofs.lemmas.Bool.{false≢true}
use mathlib.Core.List.{List, [], ◌∷◌}
use Rattle.std.proofs.Math.Logic.{⊎_elim}
use Rattle.std.proofs.Math.Decide.{ℕ_discrete}
use Rattle.std.proofs.Math.Dec.{eqb}
use borrow.Author.Tests.{eqb-true, eq-eqb}
use Rattle.rules.specs.Sets.{mem, word, upd}
use Rattle.rules.specs.Box.{Msg, Box, Desk, started, save, stops, next_hop, round, all_sets, work, receive}
use Rattle.rules.specs.Hub.{Hub, send, send_list, send_all, settle, start, popped, hand_over, deliver, act, run, drain, start_all, queues_of, sender, receiver}
use Rattle.sets.specs.Mem.{and_both, or_cases}
use Rattle.sets.specs.Loops.{by_bool, for_each_keeps}
use Rattle.sets.specs.Tables.{upd_same, upd_other}
use Rattle.order.specs.Terms.{asks}
use Rattle.order.proofs.Work.{two_or_one}
use Rattle.order.proofs.Begin.{started_up}

-- ---- sending touches no box and moves nothing

pub record Still (g h : Hub) : Type 0 where
  pub boxes : g.boxes ≡ h.boxes
  pub moved : g.moved ≡ h.moved

still_two : (f g h : Hub) → Still f g → Still g h → Still f h
still_two f g h p q = record { boxes = p.boxes ∙ q.boxes; moved = p.moved ∙ q.moved }

send_still : (room a b : ℕ) (m : Msg) (h : Hub) → Still (send room a b m h) h
unfolding send
send_still room a b m h =
    by_bool (ltb (length (h.wires a b).queue + length (h.wires a b).way) room)
    (λ e. rw e (record { boxes = refl; moved = refl })) (λ e. rw e (record { boxes = refl; moved = refl }))

list_still : (room a b : ℕ) (l : List Msg) (h : Hub) → Still (send_list room a b l h) h
unfolding send_list
list_still room a b [] h = record { boxes = refl; moved = refl }
list_still room a b (m ∷ l) h = still_two _ _ h (list_still room a b l (send room a b m h)) (send_still room a b m h)

all_still : (room a : ℕ) (out : ℕ → List Msg) (n : ℕ) (h : Hub) → Still (send_all room a out n h) h
unfolding send_all
all_still room a out zero h = record { boxes = refl; moved = refl }
all_still room a out (suc n) h = still_two _ _ h (list_still room a n (out n) (send_all room a out n h)) (all_still room a out n h)

pub settle_boxes : (w room i : ℕ) (d : Desk) (h : Hub) → (settle w room i d h).boxes ≡ upd h.boxes i d.box
unfolding settle
settle_boxes w room i d h = (all_still room i d.sends w _).boxes

settle_moved : (w room i : ℕ) (d : Desk) (h : Hub) → (settle w room i d h).moved ≡ h.moved
unfolding settle
settle_moved w room i d h = (all_still room i d.sends w _).moved

-- ---- taking a message off a wire touches no box, and moves one

pub popped_boxes : (a b : ℕ) (q : List Msg) (h : Hub) → (popped a b q h).boxes ≡ h.boxes
unfolding popped
popped_boxes a b q h = refl

popped_moved : (a b : ℕ) (q : List Msg) (h : Hub) → (popped a b q h).moved ≡ suc h.moved
unfolding popped
popped_moved a b q h = refl

-- ---- a box that does not sleep goes on not sleeping

round_up : (w n : ℕ) (d : Desk) → (round w n d).box.state ≢ 0
unfolding round next_hop
round_up w n d = two_or_one (stops _)

work_up : (m w n : ℕ) (d : Desk) → d.box.state ≢ 0 → (work m w n d).box.state ≢ 0
unfolding work save
work_up zero w n d z = z
work_up (suc m) w n d z =
    by_bool (eqb (save w d).box.state 1 && all_sets w n (save w d).queues)
    (λ e. rw e (work_up m w n (round w n (save w d)) (round_up w n (save w d)))) (λ e. rw e z)

receive_up : (w n a : ℕ) (m : Msg) (b : Box) (q : ℕ → List Msg) → b.state ≢ 0 → (receive w n a m b q).box.state ≢ 0
unfolding receive
receive_up w n a m b q z = by_bool (eqb b.state 1) (λ e. rw e (work_up _ w n _ z)) (λ e. rw e z)

settle_up : (w room j : ℕ) (d : Desk) (h : Hub) (i : ℕ) → d.box.state ≢ 0 → (h.boxes i).state ≢ 0 → ((settle w room j d h).boxes i).state ≢ 0
settle_up w room j d h i y z =
    rw (settle_boxes w room j d h) (elim (ℕ_discrete i j) [ yes e ↦ rw (e, upd_same h.boxes j d.box) y | no e ↦ rw (upd_other h.boxes j d.box i e) z ])

module _ (w room : ℕ) (t : List ℕ) where
  pub start_keeps : (j : ℕ) (h : Hub) (i : ℕ) → (h.boxes i).state ≢ 0 → ((start w room t j h).boxes i).state ≢ 0
  unfolding start
  start_keeps j h i z = by_bool (eqb (h.boxes j).state 0) (λ e. rw e (settle_up w room j _ h i (started_up w j (word t j)) z)) (λ e. rw e z)

  pub start_wakes : (j : ℕ) (h : Hub) → ((start w room t j h).boxes j).state ≢ 0
  unfolding start
  start_wakes j h =
      by_bool (eqb (h.boxes j).state 0)
      (λ e. rw (e, settle_boxes w room j (record { box = started w j (word t j); queues = λ a. []; sends = _; taken = λ a. [] }) h, upd_same h.boxes j (started w j (word t j))) (started_up w j (word t j)))
      (λ e. rw e (λ z. true≢false (sym (eq-eqb _ 0 z) ∙ e)))

  pub start_moved : (j : ℕ) (h : Hub) → (start w room t j h).moved ≡ h.moved
  unfolding start
  start_moved j h = by_bool (eqb (h.boxes j).state 0) (λ e. rw e (settle_moved w room j _ h)) (λ e. rw e)

  hand_keeps : (a b : ℕ) (m : Msg) (h : Hub) (i : ℕ) → (h.boxes b).state ≢ 0 → (h.boxes i).state ≢ 0 → ((hand_over w room t a b m h).boxes i).state ≢ 0
  unfolding hand_over
  hand_keeps a b m h i y z = settle_up w room b _ h i (receive_up w (word t b) a m (h.boxes b) (queues_of h b) y) z

  pub deliver_keeps : (a b : ℕ) (h : Hub) (i : ℕ) → (h.boxes i).state ≢ 0 → ((deliver w room t a b h).boxes i).state ≢ 0
  unfolding deliver
  deliver_keeps a b h i z = go (h.wires a b).way refl
    where
      go : (l : List Msg) → (h.wires a b).way ≡ l → ((deliver w room t a b h).boxes i).state ≢ 0
      go [] e = rw (e, deliver) z
      go (m ∷ q) e = rw (e, deliver) (hand_keeps a b m (start w room t b (popped a b q h)) i (start_wakes b (popped a b q h)) (start_keeps b (popped a b q h) i (rw (popped_boxes a b q h) z)))

  pub deliver_moved : (a b : ℕ) (m : Msg) (q : List Msg) (h : Hub) → (h.wires a b).way ≡ m ∷ q → (deliver w room t a b h).moved ≡ suc h.moved
  unfolding deliver hand_over
  deliver_moved a b m q h e = rw (e, deliver) (settle_moved w room b _ _ ∙ start_moved b (popped a b q h) ∙ popped_moved a b q h)

  act_keeps : (a b : ℕ) (h : Hub) (i : ℕ) → (h.boxes i).state ≢ 0 → ((act w room t a b h).boxes i).state ≢ 0
  unfolding act
  act_keeps a b h i z = by_bool (eqb a b) (λ e. rw e (start_keeps a h i z)) (λ e. rw e (deliver_keeps a b h i z))

  run_keeps : (l : List ℕ) (h : Hub) (i : ℕ) → (h.boxes i).state ≢ 0 → ((run w room t l h).boxes i).state ≢ 0
  unfolding run
  run_keeps [] h i z = z
  run_keeps (a ∷ []) h i z = z
  run_keeps (a ∷ b ∷ l) h i z = run_keeps l (act w room t a b h) i (act_keeps a b h i z)

  -- a box that the list starts is not asleep at the end
  pub asked_up : (l : List ℕ) (h : Hub) (k : ℕ) → asks k l ≡ true → ((run w room t l h).boxes k).state ≢ 0
  unfolding run asks act
  asked_up [] h k e = absurd (false≢true e)
  asked_up (a ∷ []) h k e = absurd (false≢true e)
  asked_up (a ∷ b ∷ l) h k e =
      ⊎_elim
      (λ u.
      let (x, y) = and_both (eqb a b) (eqb a k) u in
      run_keeps l (act w room t a b h) k (rw (x, eqb-true a k y) (start_wakes k h)))
      (λ u. asked_up l (act w room t a b h) k u)
      (or_cases (eqb a b && eqb a k) (asks k l) e)

  drain_keeps : (f : ℕ) (h : Hub) (i : ℕ) → (h.boxes i).state ≢ 0 → ((drain w room t f h).boxes i).state ≢ 0
  unfolding drain
  drain_keeps zero h i z = z
  drain_keeps (suc f) h i z =
      by_bool (ltb (sender w h) w) (λ e. rw e (drain_keeps f _ i (deliver_keeps (sender w h) (receiver w h) h i z))) (λ e. rw e z)

  -- nor is a box of the drain's start set
  all_started : (x : ℕ) (h : Hub) (k : ℕ) → k < w → mem k x ≡ true → ((start_all w room t x h).boxes k).state ≢ 0
  unfolding start_all
  all_started x h k hk m =
      for_each_keeps x (start w room t) (λ n g. (i : ℕ) → i < n → mem i x ≡ true → (g.boxes i).state ≢ 0) w h (λ i l. absurd (omega arith))
      (λ n g l u p i q v. elim (ℕ_discrete i n) [ yes e ↦ rw e (start_wakes n g) | no e ↦ start_keeps n g i (p i (omega arith) v) ])
      (λ n g l u p i q v. elim (ℕ_discrete i n) [ yes e ↦ absurd (true≢false (sym v ∙ ap (λ (y : ℕ). mem y x) e ∙ u)) | no e ↦ p i (omega arith) v ])
      k hk m

  pub drained_up : (x f : ℕ) (h : Hub) (k : ℕ) → k < w → mem k x ≡ true → ((drain w room t f (start_all w room t x h)).boxes k).state ≢ 0
  drained_up x f h k hk m = drain_keeps f (start_all w room t x h) k (all_started x h k hk m)
