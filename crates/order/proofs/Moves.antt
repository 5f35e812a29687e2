-- Starts and deliveries keep the invariant. Assumes nothing.
use Prim.Native.Nat.{ℕ, ◌+◌, ◌≤◌, ◌<◌}
use Rattle.std.specs.Prelude.{◌≡◌, true, List, [], ◌∷◌, ◌⊎◌, ◌≢◌, eqb}
use Rattle.std.proofs.Math.Path.{refl, ap, fun_ext}
use Rattle.std.proofs.Common.{sym, ap₂, ◌∙◌, subst, subst₂, true≢false, append-nil, inl, inr, ⊎_elim, arith, eq-eqb, ne_eqb}
use Rattle.std.proofs.Math.Decide.{ℕ_discrete}
use Rattle.std.proofs.Math.ListN.{length}
use Rattle.rules.specs.Sets.{mem, word, sum}
use Rattle.rules.specs.Box.{Msg, Box, Desk, started, start_sends, receive}
use Rattle.rules.specs.Hub.{Hub, Wire, settle, start, popped, hand_over, deliver, queues_of, under_way}
use Rattle.rules.specs.Rest.{Table}
use Rattle.sets.specs.Loops.{by_bool, sum_same}
use Rattle.sets.specs.Tables.{upd_same, upd_other}
use Rattle.order.specs.Rounds.{link_lt, links_lt, link_ne}
use Rattle.order.specs.Sums.{sum_more}
use Rattle.order.specs.Wire.{wire}
use Rattle.order.specs.Invariant.{Seat, sleeps, wakes, rests, spoken, SeatOf, ways, Others, Held, Good, Counted, Sound}
use Rattle.order.proofs.Work.{Done, received}
use Rattle.order.proofs.Begin.{begins}
use Rattle.order.proofs.Kept.{popped_boxes, start_wakes}
use Rattle.order.specs.Send.{left, settled}
use Rattle.order.proofs.Settle.{same_grown, grown, settled_counted}
use Rattle.order.proofs.Settled.{settle_settled, settle_held}

-- ---- what a settled box leaves as it was

pub settled_into : (w j : ℕ) (d : Desk) (g : Hub) (i k : ℕ) → i ≢ j → ((settled w j d g).wires i k).way ≡ (g.wires i k).way
unfolding settled
settled_into w j d g i k e =
    let x : ((left j d g).wires i k).way ≡ (g.wires i k).way = by_bool (eqb k j) (λ z. rw z) (λ z. rw z) in
    rw (ne_eqb i j e) (append-nil _ ∙ x)

-- ---- the oldest message is off the wire

module _ (a b : ℕ) (q : List Msg) (h : Hub) where
  abbrev off : Wire
  off = record { log = (h.wires a b).log; taken = (h.wires a b).taken; queue = (h.wires a b).queue; way = q }

  popped_here : (popped a b q h).wires a b ≡ off
  unfolding popped
  popped_here = ap (λ (f : ℕ → Wire). f b) (upd_same h.wires a _) ∙ upd_same (h.wires a) b _

  popped_row : (i k : ℕ) → i ≢ a → (popped a b q h).wires i k ≡ h.wires i k
  unfolding popped
  popped_row i k z = ap (λ (f : ℕ → Wire). f k) (upd_other h.wires a _ i z)

  popped_col : (i k : ℕ) → k ≢ b → (popped a b q h).wires i k ≡ h.wires i k
  unfolding popped
  popped_col i k z =
      elim (ℕ_discrete i a) [
        | yes e ↦ rw e (ap (λ (f : ℕ → Wire). f k) (upd_same h.wires a _) ∙ upd_other (h.wires a) b _ k z)
        | no e ↦ popped_row i k e
      ]

  -- a part of the wire that a delivery leaves alone
  popped_part : {A : Type 0} (f : Wire → A) → f off ≡ f (h.wires a b) → (i k : ℕ) → f ((popped a b q h).wires i k) ≡ f (h.wires i k)
  popped_part f e i k =
      elim (ℕ_discrete i a) [
        | yes x ↦ elim (ℕ_discrete k b) [ yes y ↦ rw (x, y) (ap f popped_here ∙ e) | no y ↦ ap f (popped_col i k y) ]
        | no x ↦ ap f (popped_row i k x)
      ]

  popped_counted : (w : ℕ) (m : Msg) → a < w → b < w → (h.wires a b).way ≡ m ∷ q → Counted w h → Counted w (popped a b q h)
  unfolding popped under_way
  popped_counted w m ha hb e c =
      let one : sum w (λ y. length (h.wires a y).way) ≡ sum w (λ y. length ((popped a b q h).wires a y).way) + 1 =
      sum_more w (λ y. length (h.wires a y).way) (λ y. length ((popped a b q h).wires a y).way) b 1 hb
      (omega (arith, ap length e, ap (λ (x : Wire). length x.way) popped_here)) (λ y z. ap (λ (x : Wire). length x.way) (sym (popped_col a y z))) in
      let all : under_way w h ≡ under_way w (popped a b q h) + 1 =
      sum_more w (λ x. sum w (λ y. length (h.wires x y).way)) (λ x. sum w (λ y. length ((popped a b q h).wires x y).way)) a 1 ha one
      (λ x z. sum_same w _ _ (λ y hy. ap (λ (v : Wire). length v.way) (sym (popped_row x y z)))) in
      record {
        way = omega (arith, all, c.way);
        all = c.all ∙ sum_same w _ _ (λ x hx. sum_same w _ _ (λ y hy. ap length (sym (popped_part (λ v. v.log) refl x y))));
        room = c.room;
      }

module _ (w : ℕ) (t : List ℕ) where
  pub good_held : (h : Hub) (j : ℕ) → j < w → Good w t h → Held w t j (ways w t h j) h
  good_held h j hj G = record { others = record { seats = λ i hi e. G.seats i hi; quiet = G.quiet; log = G.log }; seat = G.seats j hj }

  -- a message is under way on links alone
  pub full_link : (h : Hub) (a b : ℕ) (m : Msg) (q : List Msg) → (h.wires a b).way ≡ m ∷ q → Good w t h → mem b (word t a) ≡ true
  full_link h a b m q e G =
      by_bool (mem b (word t a)) (λ v. v)
      (λ v. let z : ◌≡◌ {A = List Msg} [] (m ∷ q) = sym (ap (λ (x : Wire). x.way) (G.quiet a b v)) ∙ e in let y : ◌≡◌ {A = ℕ} 0 1 = cc in absurd (omega arith))

module _ (w : ℕ) (t : List ℕ) (s : Table w t) (room : ℕ) (hr : w + 1 ≤ room) where
  -- a box is seen the same in two hubs that agree on it
  seat_in : (g h : Hub) (i : ℕ) (rest : ℕ → List Msg) → h.boxes ≡ g.boxes
      → ((k : ℕ) → (h.wires k i).taken ≡ (g.wires k i).taken) → ((k : ℕ) → (h.wires k i).queue ≡ (g.wires k i).queue) → SeatOf w t g i rest → SeatOf w t h i rest
  seat_in g h i rest e x y p =
      subst (λ (b : ℕ → Box). Seat w t i (λ k. spoken (b k)) (λ k. (h.wires k i).taken) (λ k. (h.wires k i).queue) rest (b i)) (sym e)
      (subst₂ (λ (a c : ℕ → List Msg). Seat w t i (λ k. spoken (g.boxes k)) a c rest (g.boxes i)) (sym (fun_ext x)) (sym (fun_ext y)) p)

  -- what stands for the wires into a box matters on links alone
  seat_rest : (h : Hub) (i : ℕ) (rest rest' : ℕ → List Msg) → ((k : ℕ) → mem k (word t i) ≡ true → rest' k ≡ rest k) → SeatOf w t h i rest → SeatOf w t h i rest'
  seat_rest h i rest rest' e p =
      grown w t i (λ k. spoken (h.boxes k)) _ _ rest (λ k. spoken (h.boxes k)) rest' (h.boxes i)
      (same_grown w t i (λ k. spoken (h.boxes k)) (λ k. spoken (h.boxes k)) rest rest' (λ k v. (refl, e k v))) p

  held_good : (h : Hub) (j : ℕ) → Held w t j (ways w t h j) h → Good w t h
  held_good h j H = record {
    seats = λ i hi. elim (ℕ_discrete i j) [ yes e ↦ rw e H.seat | no e ↦ H.others.seats i hi e ];
    quiet = H.others.quiet;
    log = H.others.log;
  }

  abbrev DoneAt : ℕ → (ℕ → List Msg) → Hub → Desk → Type 0
  DoneAt j rest g d = Done w t j (λ k. spoken (g.boxes k)) (λ k. (g.wires k j).taken) rest (g.boxes j) d

  -- box j has acted on all that had come to it
  settle_good : (g : Hub) (j : ℕ) (d : Desk) → j < w → Others w t j g → DoneAt j (ways w t g j) g d → Good w t (settle w room j d g)
  settle_good g j d hj O D =
      let H : Held w t j (ways w t g j) (settle w room j d g) = settle_held w t s g j d (ways w t g j) hj O D room hr in
      let e : settle w room j d g ≡ settled w j d g = settle_settled w t s g j d (ways w t g j) hj O D room hr in
      held_good (settle w room j d g) j (record {
        others = H.others;
        seat = seat_rest (settle w room j d g) j (ways w t g j) (ways w t (settle w room j d g) j)
            (λ k v. ap (λ (x : Hub). (x.wires k j).way) e ∙ settled_into w j d g k j (link_ne w t s k j v)) H.seat;
      })

  settle_counted : (g : Hub) (j : ℕ) (d : Desk) (rest : ℕ → List Msg) → j < w → Others w t j g → DoneAt j rest g d → Counted w g → Counted w (settle w room j d g)
  settle_counted g j d rest hj O D c = rw (settle_settled w t s g j d rest hj O D room hr) (settled_counted w j d g hj c)

  -- ---- start

  abbrev pub first_desk : ℕ → Desk
  first_desk j = record { box = started w j (word t j); queues = λ a. []; sends = start_sends j (word t j); taken = λ a. [] }

  start_done : (h : Hub) (j : ℕ) (rest : ℕ → List Msg) → j < w → (h.boxes j).state ≡ 0 → SeatOf w t h j rest → DoneAt j rest h (first_desk j)
  start_done h j rest hj z p = go (λ k. spoken (h.boxes k)) (λ k. (h.wires k j).taken) (λ k. (h.wires k j).queue) (h.boxes j) z p
    where
      go : (n : ℕ → ℕ) (past queue : ℕ → List Msg) (b : Box) → b.state ≡ 0 → Seat w t j n past queue rest b → Done w t j n past rest b (first_desk j)
      go n past queue b z (sleeps p) = begins w t s j hj n past rest p.used p.all b z
      go n past queue b z (wakes p) = absurd (omega (arith, p.half.state))
      go n past queue b z (rests p) = absurd (omega (arith, p.state))

  start_yes : (h : Hub) (j : ℕ) → (h.boxes j).state ≡ 0 → start w room t j h ≡ settle w room j (first_desk j) h
  unfolding start
  start_yes h j e = rw (eq-eqb _ 0 e)

  start_no : (h : Hub) (j : ℕ) → (h.boxes j).state ≢ 0 → start w room t j h ≡ h
  unfolding start
  start_no h j e = rw (ne_eqb _ 0 e)

  -- a start is a settled start, or nothing
  pub start_cases : (h : Hub) (j : ℕ) (rest : ℕ → List Msg) → j < w → Held w t j rest h
      → (((h.boxes j).state ≡ 0) × (start w room t j h ≡ settled w j (first_desk j) h)) ⊎ (((h.boxes j).state ≢ 0) × (start w room t j h ≡ h))
  start_cases h j rest hj H =
      elim (ℕ_discrete (h.boxes j).state 0) [
        | yes e ↦ inl (e, start_yes h j e ∙ settle_settled w t s h j (first_desk j) rest hj H.others (start_done h j rest hj e H.seat) room hr)
        | no e ↦ inr (e, start_no h j e)
      ]

  start_held : (h : Hub) (j : ℕ) (rest : ℕ → List Msg) → j < w → Held w t j rest h → Held w t j rest (start w room t j h)
  start_held h j rest hj H =
      elim (ℕ_discrete (h.boxes j).state 0) [
        | yes e ↦ rw (start_yes h j e) (settle_held w t s h j (first_desk j) rest hj H.others (start_done h j rest hj e H.seat) room hr)
        | no e ↦ rw (start_no h j e) H
      ]

  start_counted : (h : Hub) (j : ℕ) (rest : ℕ → List Msg) → j < w → Held w t j rest h → Counted w h → Counted w (start w room t j h)
  start_counted h j rest hj H c = ⊎_elim (λ x. rw x.1 (settled_counted w j (first_desk j) h hj c)) (λ x. rw x.1 c) (start_cases h j rest hj H)

  start_into : (h : Hub) (j : ℕ) (rest : ℕ → List Msg) → j < w → Held w t j rest h → (i k : ℕ) → i ≢ j → ((start w room t j h).wires i k).way ≡ (h.wires i k).way
  start_into h j rest hj H i k e =
      ⊎_elim
      (λ x. ap (λ (g : Hub). (g.wires i k).way) x.1 ∙ settled_into w j (first_desk j) h i k e)
      (λ x. ap (λ (g : Hub). (g.wires i k).way) x.1)
      (start_cases h j rest hj H)

  pub start_sound : (h : Hub) (j : ℕ) → j < w → Sound w t h → Sound w t (start w room t j h)
  start_sound h j hj S =
      let H : Held w t j (ways w t h j) h = good_held w t h j hj S.good in
      record {
        good = elim (ℕ_discrete (h.boxes j).state 0) [
          | yes e ↦ rw (start_yes h j e) (settle_good h j (first_desk j) hj H.others (start_done h j (ways w t h j) hj e H.seat))
          | no e ↦ rw (start_no h j e) S.good
        ];
        counted = start_counted h j (ways w t h j) hj H S.counted;
      }

  -- ---- deliver

  module _ (h : Hub) (a b : ℕ) (m : Msg) (q : List Msg) (v : mem b (word t a) ≡ true) (e : (h.wires a b).way ≡ m ∷ q) (S : Sound w t h) where
    hb : b < w
    hb = link_lt w t s a b v

    back : mem a (word t b) ≡ true
    back = s.both a b v

    -- with the message in the hand, the receiver is as if it were still on the wire
    popped_held : Held w t b (ways w t h b) (popped a b q h)
    popped_held = record {
      others = record {
        seats = λ i hi z. seat_rest (popped a b q h) i (ways w t h i) (ways w t (popped a b q h) i) (λ k u. ap (λ (x : Wire). x.way) (popped_col a b q h k i z))
            (seat_in h (popped a b q h) i (ways w t h i) (popped_boxes a b q h) (λ k. popped_part a b q h (λ x. x.taken) refl k i) (λ k. popped_part a b q h (λ x. x.queue) refl k i) (S.good.seats i hi));
        quiet = λ i k u. elim (ℕ_discrete i a) [
          | yes x ↦ popped_col a b q h i k (λ y. true≢false (sym v ∙ ap₂ (λ (p r : ℕ). mem p (word t r)) (sym y) (sym x) ∙ u)) ∙ S.good.quiet i k u
          | no x ↦ popped_row a b q h i k x ∙ S.good.quiet i k u
        ];
        log = λ i k u. popped_part a b q h (λ x. x.log) refl i k ∙ S.good.log i k u ∙ ap (λ (x : ℕ → Box). wire w t i k (spoken (x i))) (sym (popped_boxes a b q h));
      };
      seat = seat_in h (popped a b q h) b (ways w t h b) (popped_boxes a b q h) (λ k. popped_part a b q h (λ x. x.taken) refl k b) (λ k. popped_part a b q h (λ x. x.queue) refl k b) (S.good.seats b hb);
    }

    abbrev up : Hub
    up = start w room t b (popped a b q h)

    up_held : Held w t b (ways w t h b) up
    up_held = start_held (popped a b q h) b (ways w t h b) hb popped_held

    up_way : (i : ℕ) → i ≢ b → (up.wires i b).way ≡ ((popped a b q h).wires i b).way
    up_way i z = start_into (popped a b q h) b (ways w t h b) hb popped_held i b z

    hand_done : DoneAt b (ways w t up b) up (receive w (word t b) a m (up.boxes b) (queues_of up b))
    hand_done =
        received w t s b hb (λ k. spoken (up.boxes k)) (λ k. (up.wires k b).taken) (ways w t up b) a m (ways w t h b) back
        (e ∙ ap (λ (x : List Msg). m ∷ x) (sym (up_way a (link_ne w t s a b back) ∙ ap (λ (x : Wire). x.way) (popped_here a b q h))))
        (λ i u z. sym (up_way i (link_ne w t s i b u) ∙ ap (λ (x : Wire). x.way) (popped_row a b q h i b z)))
        (up.boxes b) (queues_of up b) (start_wakes w room t b (popped a b q h)) up_held.seat

    hand_settled : hand_over w room t a b m up ≡ settled w b (receive w (word t b) a m (up.boxes b) (queues_of up b)) up
    unfolding hand_over
    hand_settled = settle_settled w t s up b _ (ways w t up b) hb up_held.others hand_done room hr

    hand_sound : Sound w t (hand_over w room t a b m up)
    unfolding hand_over
    hand_sound = record {
      good = settle_good up b _ hb up_held.others hand_done;
      counted = settle_counted up b _ (ways w t up b) hb up_held.others hand_done
          (start_counted (popped a b q h) b (ways w t h b) hb popped_held (popped_counted a b q h w m (links_lt w t s a b v) hb e S.counted));
    }

  pub deliver_none : (h : Hub) (a b : ℕ) → (h.wires a b).way ≡ [] → deliver w room t a b h ≡ h
  unfolding deliver
  deliver_none h a b e = rw (e, deliver)

  deliver_one : (h : Hub) (a b : ℕ) (m : Msg) (q : List Msg) → (h.wires a b).way ≡ m ∷ q → deliver w room t a b h ≡ hand_over w room t a b m (start w room t b (popped a b q h))
  unfolding deliver
  deliver_one h a b m q e = rw (e, deliver)

  pub deliver_sound : (h : Hub) (a b : ℕ) → Sound w t h → Sound w t (deliver w room t a b h)
  deliver_sound h a b S = go (h.wires a b).way refl
    where
      go : (l : List Msg) → (h.wires a b).way ≡ l → Sound w t (deliver w room t a b h)
      go [] e = rw (deliver_none h a b e) S
      go (m ∷ q) e = rw (deliver_one h a b m q e) (hand_sound h a b m q (full_link w t h a b m q e S.good) e S)

  -- ---- a delivery as one settled box, or two: a sleeping receiver starts first

  module _ (h : Hub) (a b : ℕ) (m : Msg) (q : List Msg) (e : (h.wires a b).way ≡ m ∷ q) (S : Sound w t h) where
    link : mem b (word t a) ≡ true
    link = full_link w t h a b m q e S.good

    abbrev gone : Hub
    gone = popped a b q h

    abbrev handed : Hub → Desk
    handed g = receive w (word t b) a m (g.boxes b) (queues_of g b)

    as_settled : (g : Hub) → start w room t b gone ≡ g → deliver w room t a b h ≡ settled w b (handed g) g
    as_settled g f = deliver_one h a b m q e ∙ hand_settled h a b m q link e S ∙ ap (λ (x : Hub). settled w b (handed x) x) f

    pub delivered : (((h.boxes b).state ≡ 0) × (deliver w room t a b h ≡ settled w b (handed (settled w b (first_desk b) gone)) (settled w b (first_desk b) gone)))
        ⊎ (((h.boxes b).state ≢ 0) × (deliver w room t a b h ≡ settled w b (handed gone) gone))
    delivered =
        ⊎_elim
        (λ x. inl (ap (λ (f : ℕ → Box). (f b).state) (sym (popped_boxes a b q h)) ∙ x.0, as_settled _ x.1))
        (λ x. inr ((λ z. x.0 (ap (λ (f : ℕ → Box). (f b).state) (popped_boxes a b q h) ∙ z)), as_settled _ x.1))
        (start_cases gone b (ways w t h b) (hb h a b m q link e S) (popped_held h a b m q link e S))
