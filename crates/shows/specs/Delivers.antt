-- A delivery of the code shows the delivery of the rules, case by case; and so does a start. Assumes nothing.
use Prim.Native.Nat.{ℕ, ◌+◌, ◌%◌, ◌^◌, ◌≤◌, ◌<◌}
use Rattle.std.specs.Prelude.{◌≡◌, Bool, ◌&&◌, ◌||◌, ◌⊎◌, ◌≢◌, replicate}
use Rattle.std.proofs.Math.Path.{refl, sym, ap, ap₂}
use Rattle.std.proofs.Common.{◌∙◌, subst, inl, inr, arith, length-append}
use Rattle.std.proofs.Math.Bool.{true, false, not, cond, true≢false}
use Rattle.std.proofs.lemmas.Bool.{false≢true}
use mathlib.Core.List.{List, [], ◌∷◌, ◌++◌, map-append, append-nil}
use Rattle.std.proofs.Math.Logic.{⊎_elim}
use Rattle.std.proofs.Math.Decide.{ℕ_discrete}
use Rattle.std.specs.Int.Bits.{bit_or, or_zero_l}
use Rattle.std.proofs.lemmas.Nat.{or_lt}
use Rattle.std.proofs.Math.Dec.{eqb}
use Rattle.std.proofs.Math.ListN.{length, get_or, set, length-set}
use Rattle.std.proofs.Math.Pow.{pow-lt}
use borrow.Author.Tests.{lt-ltb, eqb-true, eq-eqb, ne_eqb}
use Rattle.rules.specs.Sets.{mem, word, upd}
use Rattle.rules.specs.Box.{Msg, notspt, neighbors, Box, Desk, started, start_sends, behind, is_set, head_set, tail, all_sets, take_sets, round_sends, stops, next_hop, save_heads, receive}
use Rattle.rules.specs.Hub.{Wire, Hub, popped, deliver, start, queues_of}
use Rattle.rules.specs.Rest.{Table}
use Rattle.sets.specs.Mem.{mem_empty, ext}
use Rattle.sets.specs.Loops.{by_bool, all_in, all_out, sum_same, sum_none}
use Rattle.sets.specs.Tables.{upd_same, upd_other}
use Rattle.hops.specs.Rest.{far_lt}
use Rattle.order.specs.Send.{left, settled}
use Rattle.order.specs.Invariant.{Sound, SeatOf, sleeps, wakes, rests, ways}
use Rattle.order.proofs.Settle.{room_of}
use Rattle.order.proofs.Moves.{good_held, full_link, deliver_none, delivered, first_desk, start_cases, deliver_sound, start_sound}
use Rattle.order.specs.Rounds.{links_lt}
use Rattle.wires.specs.Wires.{sixteen, Waiting, waiting, Formed, Others, queued, under_way, arrived, oldest, skipped, taken as taken_off, taken_word, Arrived, Skipped, Taken}
use Rattle.wires.specs.Words.{word_of, is_list, origin_of, set_of}
use Rattle.wires.proofs.Laws.{queue_length, way_length, arrive_law, skip_law, take_law, sixteen_proper}
use Rattle.boxes.specs.Arrival.{Arrival}
use Rattle.boxes.specs.Departure.{Departure}
use Rattle.boxes.specs.Record.{Record, blank}
use Rattle.boxes.specs.Step.{step_def, woken, taken, saved, save_all, is_stopped}
use Rattle.boxes.specs.Laws.{saved_none, saved_stopped, taken_hop, taken_neighbors, woken_yes, woken_no}
use Rattle.mail.specs.Gather.{Got, got_nothing, wire_of, gather_to, clear_to}
use Rattle.turn.specs.Turn.{sleeps as sleeps_now, quiet, one_list, round_of, took_round, took_first, delivered as delivered_now, begun, heard_at, put_def}
use Rattle.turns.specs.Turns.{Going}
use Rattle.shows.specs.Held.{words_of, held_of, holds_both, Held, wire_lt, wire_other, length_words}
use Rattle.shows.specs.Lists.{saved_more, saved_nothing}
use Rattle.shows.specs.Gathers.{AllSmall, set_word, list_word, All, gathered}
use Rattle.shows.specs.Receives.{Leaves, nothing, with_neighbors, with_list, calm_cases, calm_empty, calm_set, waits_behind, saves_list, waits_set, goes_on, comes_to_rest}
use Rattle.shows.specs.Settles.{Alike, settled_queue, settled_way, settled_boxes, settled_sent, settled_moved, settled_full, both, twice}
use Rattle.shows.specs.Shows.{Shows, Does, some, shows_alike, add_here, add_other, put_shows}
use Rattle.shows.specs.Small.{small_waits, calm_queues, waits_link, no_queue, off_queue, three_states}
use Rattle.shows.specs.Steps.{wake_sends}
use Rattle.shows.specs.Doing.{Off, Comes, Room, still_desk, still_does, still_rec, round_desk, round_does, round_rec}
use Rattle.shows.specs.Clears.{Emptied, emptied, heads_same, saves_same}

-- ---- hubs that show the same

pub alike_trans : (f g h : Hub) → Alike f g → Alike g h → Alike f h
alike_trans f g h A B = record {
  boxes = λ i. A.boxes i ∙ B.boxes i;
  queue = λ a b. A.queue a b ∙ B.queue a b;
  way = λ a b. A.way a b ∙ B.way a b;
  sent = A.sent ∙ B.sent;
  moved = A.moved ∙ B.moved;
  full = A.full ∙ B.full;
}

pub alike_same : (g h : Hub) → g ≡ h → Alike g h
alike_same g h e = rw e (record { boxes = λ i. refl; queue = λ a b. refl; way = λ a b. refl; sent = refl; moved = refl; full = refl })

-- desks that are told by the same parts settle alike
desk_alike : (b : ℕ) (D d : Desk) (P : Hub) → D.box ≡ d.box → ((j : ℕ) → D.queues j ≡ d.queues j) → ((j : ℕ) → D.sends j ≡ d.sends j) → Alike (settled 16 b D P) (settled 16 b d P)
desk_alike b D d P e q o = record {
  boxes = λ i. settled_boxes 16 b D P i ∙ ap (λ (x : Box). upd P.boxes b x i) e ∙ sym (settled_boxes 16 b d P i);
  queue = λ x y. settled_queue 16 b D P x y ∙ ap (λ (l : List Msg). cond (eqb y b) l (P.wires x y).queue) (q x) ∙ sym (settled_queue 16 b d P x y);
  way = λ x y. settled_way 16 b D P x y ∙ ap (λ (l : List Msg). (P.wires x y).way ++ cond (eqb x b) l []) (o y) ∙ sym (settled_way 16 b d P x y);
  sent = settled_sent 16 b D P ∙ ap (λ (n : ℕ). P.sent + n) (sum_same 16 _ _ (λ y l. ap length (o y))) ∙ sym (settled_sent 16 b d P);
  moved = settled_moved 16 b D P ∙ sym (settled_moved 16 b d P);
  full = settled_full 16 b D P ∙ sym (settled_full 16 b d P);
}

-- ---- room, from what the rules have proved of the hub that comes out

module _ (t : List ℕ) (T : Table 16 t) where
  few : (h : Hub) → Sound 16 t h → (a b : ℕ) → length (h.wires a b).queue + length (h.wires a b).way ≤ 17
  few h S a b =
      by_bool (mem b (word t a))
      (λ v. let ha : a < 16 = links_lt 16 t T a b v in room_of 16 t T a (ways 16 t h a) h ha (good_held 16 t h a ha S.good) b v)
      (λ v. rw (S.good.quiet a b v) (omega arith))

  room : (b : ℕ) (D : Desk) (P F : Hub) → Alike (settled 16 b D P) F → Sound 16 t F → Room b D P
  room b D P F A S y hy =
      let q : ((left b D P).wires b y).queue ≡ (F.wires b y).queue = left_queue ∙ sym (settled_queue 16 b D P b y) ∙ A.queue b y in
      let w : (P.wires b y).way ++ D.sends y ≡ (F.wires b y).way = sym (settled_way 16 b D P b y ∙ here) ∙ A.way b y in
      omega (arith, few F S b y, ap length q, ap length w, ap length left_way, length-append (P.wires b y).way (D.sends y))
    where
      left_queue : ((left b D P).wires b y).queue ≡ cond (eqb y b) (D.queues b) (P.wires b y).queue
      left_queue = by_bool (eqb y b) (λ e. rw e) (λ e. rw e)

      left_way : ((left b D P).wires b y).way ≡ (P.wires b y).way
      left_way = by_bool (eqb y b) (λ e. rw e) (λ e. rw e)

      here : (P.wires b y).way ++ cond (eqb b b) (D.sends y) [] ≡ (P.wires b y).way ++ D.sends y
      here = rw (eq-eqb b b refl)

-- ---- the wires of a desk put back

left_held : (b : ℕ) (D : Desk) (P : Hub) (x y : ℕ) → held_of ((left b D P).wires x y) ≡ holds_both (words_of (cond (eqb y b) (D.queues x) (P.wires x y).queue)) (words_of (P.wires x y).way)
left_held b D P x y = by_bool (eqb y b) (λ e. rw e) (λ e. rw e)

-- one wire into b changed, in the store and on the desk
held_left : (s s' : List ℕ) (h P : Hub) (D : Desk) (a b : ℕ) → a < 16 → b < 16 → Held s h.wires → Formed sixteen s' → Others sixteen s (wire_of a b) s'
    → waiting sixteen s' (wire_of a b) ≡ holds_both (words_of (D.queues a)) (words_of (P.wires a b).way)
    → ((x : ℕ) → x ≢ a → D.queues x ≡ (h.wires x b).queue) → ((x y : ℕ) → (P.wires x y).queue ≡ (h.wires x y).queue) → ((x y : ℕ) → (x ≢ a) ⊎ (y ≢ b) → (P.wires x y).way ≡ (h.wires x y).way)
    → Held s' (left b D P).wires
held_left s s' h P D a b ha hb H F o e q p w = record {
  formed = F;
  at = λ x y hx hy. elim (ℕ_discrete x a) [
    | yes u ↦ elim (ℕ_discrete y b) [
      | yes v ↦ rw (u, v) (e ∙ sym (left_held b D P a b ∙ rw (eq-eqb b b refl)))
      | no v ↦ other x y hx hy (inr v) (λ z. absurd (v z))
    ]
    | no u ↦ other x y hx hy (inl u) (λ z. q x u ∙ ap (λ (i : ℕ). (h.wires x i).queue) (sym z))
  ];
}
  where
    other : (x y : ℕ) → x < 16 → y < 16 → (x ≢ a) ⊎ (y ≢ b) → (y ≡ b → D.queues x ≡ (h.wires x y).queue) → waiting sixteen s' (wire_of x y) ≡ held_of ((left b D P).wires x y)
    other x y hx hy z f =
        let k : (h.wires x y).queue ≡ cond (eqb y b) (D.queues x) (P.wires x y).queue = elim (ℕ_discrete y b) [
          | yes v ↦ sym (same (eq-eqb y b v) ∙ f v)
          | no v ↦ sym (apart (ne_eqb y b v) ∙ p x y)
        ] in
        o (wire_of x y) (wire_other x y a b hy hb z) ∙ H.at x y hx hy
        ∙ ap₂ (λ (k l : List Msg). holds_both (words_of k) (words_of l)) k (sym (w x y z)) ∙ sym (left_held b D P x y)
      where
        same : eqb y b ≡ true → cond (eqb y b) (D.queues x) (P.wires x y).queue ≡ D.queues x
        same g = rw g

        apart : eqb y b ≡ false → cond (eqb y b) (D.queues x) (P.wires x y).queue ≡ (P.wires x y).queue
        apart g = rw g

-- a set at the head is a message that waits, and where no list stands at the head a message that waits is a set
set_some : (l : List Msg) → is_set l ≡ true → some l ≡ true
unfolding is_set
set_some [] e = absurd (false≢true e)
set_some (m ∷ l) e = lt-ltb 0 (length (m ∷ l)) (omega arith)

some_set : (l : List Msg) → behind l ≡ l → some l ≡ true → is_set l ≡ true
unfolding is_set
some_set l c e = ⊎_elim (λ z. absurd (false≢true (sym (ap some z) ∙ e))) (λ z. let (v, k, y) = z in rw y) (calm_cases l c)

-- one list alone is saved
listed : (k : Arrival) (x : Box) (o v : ℕ) → o < 16 → k.listed ≡ 2 ^ o → k.lists ≡ set (replicate 16 0) o v → x.state ≡ 1 → length x.neighbors ≡ 16 → saved k x ≡ with_list x o v
unfolding saved
listed k x o v ho l s u y =
    ap (with_neighbors x) (ap (λ (c : Bool). cond c x.neighbors (save_all x.neighbors k.listed k.lists)) (ne_eqb x.state 2 (λ z. omega arith))
    ∙ ap₂ (save_all x.neighbors) (l ∙ sym (or_zero_l (2 ^ o))) s
    ∙ saved_more x.neighbors 0 (replicate 16 0) o v ho y refl ∙ ap (λ (t : List ℕ). set t o v) (saved_nothing x.neighbors (replicate 16 0) y))

-- ---- one turn of box b, as the code does it

abbrev pub stepped_at : Going → ℕ → List ℕ → Arrival → Going
stepped_at g b s k =
    let x = step_def (get_or g.row b blank) k in
    record { row = set g.row b x.«record»; store = (put_def s x.out g.turn).store; turn = (put_def s x.out g.turn).turn }

module _ (t : List ℕ) (T : Table 16 t) (g : Going) (h : Hub) (S : Shows t g h) (Z : Sound 16 t h) where
  -- without a round: the hub F is told by the desk of the step
  still_turn : (a b : ℕ) (ha : a < 16) (hb : b < 16) (P : Hub) (k : Arrival) (s : List ℕ) (C : Comes t a b k) (O : Off a b k.moved s P h) (e : k.round ≡ false)
      (sl : k.wakes ≡ true → (h.boxes b).state ≡ 0) (q : ℕ → List Msg) (sm : k.heard < 2 ^ 16) (hr : (x : ℕ) → x < 16 → mem x k.heard ≡ some (q x)) (al : word t b ≡ 0 → (x : ℕ) → q x ≡ [])
      (F : Hub) → Sound 16 t F → Alike (settled 16 b (still_desk t T g h S a b ha hb P k s C O e sl q sm hr al) P) F
      → Held s (left b (still_desk t T g h S a b ha hb P k s C O e sl q sm hr al) P).wires → Shows t (stepped_at g b s k) F
  still_turn a b ha hb P k s C O e sl q sm hr al F Y A H =
      let D : Desk = still_desk t T g h S a b ha hb P k s C O e sl q sm hr al in
      let o : Departure = (step_def (get_or g.row b blank) k).out in
      let W : Does t T g h P D a b ha hb s o = still_does t T g h S a b ha hb P k s C O e sl q sm hr al H (room t T b D P F A Y) in
      shows_alike t (stepped_at g b s k) (settled 16 b D P) F
      (put_shows t T g h P D a b ha hb s o S W (step_def (get_or g.row b blank) k).«record» (still_rec t T g h S a b ha hb P k s C O e sl q sm hr al)) A

  -- with one
  round_turn : (a b : ℕ) (ha : a < 16) (hb : b < 16) (P : Hub) (k : Arrival) (s : List ℕ) (C : Comes t a b k) (O : Off a b k.moved s P h) (e : k.round ≡ true)
      (sl : k.wakes ≡ true → (h.boxes b).state ≡ 0) (aw : k.wakes ≡ false → (h.boxes b).state ≡ 1) (q : ℕ → List Msg) (sm : k.heard < 2 ^ 16)
      (lo : (taken k (woken (get_or g.row b blank) k)).hop < 65535) (hr : (x : ℕ) → x < 16 → mem x (cond (stops (taken k (woken (get_or g.row b blank) k))) 0 k.heard) ≡ some (q x))
      (F : Hub) → Sound 16 t F → Alike (settled 16 b (round_desk t T g h S a b ha hb P k s C O e sl aw q sm lo hr) P) F
      → Held (cond (stops (taken k (woken (get_or g.row b blank) k))) (clear_to b (word t b) 16 s) s) (left b (round_desk t T g h S a b ha hb P k s C O e sl aw q sm lo hr) P).wires
      → Shows t (stepped_at g b s k) F
  round_turn a b ha hb P k s C O e sl aw q sm lo hr F Y A H =
      let D : Desk = round_desk t T g h S a b ha hb P k s C O e sl aw q sm lo hr in
      let o : Departure = (step_def (get_or g.row b blank) k).out in
      let W : Does t T g h P D a b ha hb s o = round_does t T g h S a b ha hb P k s C O e sl aw q sm lo hr H (room t T b D P F A Y) in
      shows_alike t (stepped_at g b s k) (settled 16 b D P) F
      (put_shows t T g h P D a b ha hb s o S W (step_def (get_or g.row b blank) k).«record» (round_rec t T g h S a b ha hb P k s C O e sl aw q sm lo hr)) A

  -- ---- nothing is moved and nobody wakes: the hub stays

  abbrev Q : ℕ → ℕ → List Msg
  Q b x = (h.wires x b).queue

  stays_off : (a b : ℕ) (s : List ℕ) → Off a b false s h h
  stays_off a b s = record {
    boxes = λ i. refl;
    queues = λ x y. refl;
    ways = λ x y z. refl;
    way = λ e. refl;
    less = λ e. absurd (false≢true e);
    more = λ e. absurd (false≢true e);
    sent = refl;
    moves = refl;
    full = refl;
  }

  -- a desk that changes nothing
  same_desk : (b : ℕ) (D : Desk) → D.box ≡ h.boxes b → ((x : ℕ) → D.queues x ≡ Q b x) → ((j : ℕ) → D.sends j ≡ []) → Alike (settled 16 b D h) h
  same_desk b D e q o = record {
    boxes = λ i. settled_boxes 16 b D h i ∙ elim (ℕ_discrete i b) [ yes z ↦ rw z (upd_same h.boxes b D.box ∙ e) | no z ↦ upd_other h.boxes b D.box i z ];
    queue = λ x y. settled_queue 16 b D h x y ∙ elim (ℕ_discrete y b) [ yes z ↦ rw (z, eq-eqb b b refl) (q x) | no z ↦ rw (ne_eqb y b z) ];
    way = λ x y. settled_way 16 b D h x y ∙ by_bool (eqb x b) (λ z. rw (z, o y) (append-nil _)) (λ z. rw z (append-nil _));
    sent = settled_sent 16 b D h ∙ omega (arith, sum_same 16 (λ y. length (D.sends y)) (λ y. 0) (λ y l. ap length (o y)), sum_none 16);
    moved = settled_moved 16 b D h;
    full = settled_full 16 b D h;
  }

  alone : (b : ℕ) → word t b ≡ 0 → (x : ℕ) → Q b x ≡ []
  alone b e x = off_queue t T h Z.good x b (ap (mem x) e ∙ mem_empty x)

  -- the arrival of a turn in which nothing comes
  pub idle : (a b : ℕ) → a < 16 → b < 16 → Shows t (stepped_at g b g.store (quiet g.turn a b false false (heard_at g.turn b))) h
  unfolding quiet
  idle a b ha hb =
      let k : Arrival = quiet g.turn a b false false (heard_at g.turn b) in
      let r : Record = get_or g.row b blank in
      let x : saved k (woken r k) ≡ h.boxes b = saved_none k (woken r k) refl ∙ woken_no r k refl ∙ S.boxes b hb in
      still_turn a b ha hb h k g.store (record { own = refl; «from» = refl; links = ap (λ (l : List ℕ). word l b) S.links }) (stays_off a b g.store) refl (λ z. absurd (false≢true z)) (Q b)
      (S.heard_set b hb) (λ x hx. S.heard x b hx hb) (alone b) h Z
      (same_desk b (record { box = saved k (woken r k); queues = Q b; sends = λ j. []; taken = λ j. [] }) x (λ y. refl) (λ j. refl))
      (held_left g.store g.store h h (record { box = saved k (woken r k); queues = Q b; sends = λ j. []; taken = λ j. [] }) a b ha hb S.held S.held.formed (λ i z. refl) (S.held.at a b ha hb)
      (λ y z. refl) (λ y z. refl) (λ y z u. refl))

  -- ---- who sleeps

  sleeps_is : (b : ℕ) → b < 16 → sleeps_now g.turn b ≡ eqb (h.boxes b).state 0
  unfolding sleeps_now
  sleeps_is b hb =
      ap₂ (λ (x y : Bool). not x && not y) (S.awake b hb) (S.stopped b hb)
      ∙ ⊎_elim (λ z. rw z) (λ z. ⊎_elim (λ u. rw u) (λ u. rw u) z) (three_states t T h Z.good b hb)

  slept : (b : ℕ) → b < 16 → sleeps_now g.turn b ≡ true → (h.boxes b).state ≡ 0
  slept b hb e = eqb-true _ 0 (sym (sleeps_is b hb) ∙ e)

  up : (b : ℕ) → b < 16 → sleeps_now g.turn b ≡ false → (h.boxes b).state ≢ 0
  up b hb e z = true≢false (sym (eq-eqb _ 0 z) ∙ sym (sleeps_is b hb) ∙ e)

  asleep_queue : (b : ℕ) → b < 16 → (h.boxes b).state ≡ 0 → (x : ℕ) → Q b x ≡ []
  asleep_queue b hb e x = no_queue t T h Z.good b hb (λ z. omega arith) x

  -- ---- a start

  wakes_box : (k : Arrival) (b : ℕ) → b < 16 → k.own ≡ b → k.links ≡ word t b → k.wakes ≡ true → woken (get_or g.row b blank) k ≡ started 16 b (word t b)
  wakes_box k b hb e l w = woken_yes (get_or g.row b blank) k w ∙ ap₂ (λ (x y : ℕ). started 16 x y) here l
    where
      here : k.own % 16 ≡ b
      here = omega arith

  starts : (b : ℕ) → b < 16 → sleeps_now g.turn b ≡ true → Shows t (stepped_at g b g.store (quiet g.turn b b false true (heard_at g.turn b))) (start 16 20 t b h)
  unfolding quiet
  starts b hb e =
      let k : Arrival = quiet g.turn b b false true (heard_at g.turn b) in
      let r : Record = get_or g.row b blank in
      let l : k.links ≡ word t b = ap (λ (l : List ℕ). word l b) S.links in
      let x : saved k (woken r k) ≡ started 16 b (word t b) = saved_none k (woken r k) refl ∙ wakes_box k b hb refl l refl in
      let D : Desk = record { box = saved k (woken r k); queues = Q b; sends = start_sends b (word t b); taken = λ j. [] } in
      let f : start 16 20 t b h ≡ settled 16 b (first_desk 16 t T 20 (omega arith) b) h =
      ⊎_elim (λ y. y.1) (λ y. absurd (y.0 (slept b hb e))) (start_cases 16 t T 20 (omega arith) h b (ways 16 t h b) hb (good_held 16 t h b hb Z.good)) in
      still_turn b b hb hb h k g.store (record { own = refl; «from» = refl; links = l }) (stays_off b b g.store) refl (λ z. slept b hb e) (Q b)
      (S.heard_set b hb) (λ x hx. S.heard x b hx hb) (alone b) (start 16 20 t b h) (start_sound 16 t T 20 (omega arith) h b hb Z)
      (alike_trans _ _ _ (desk_alike b D (first_desk 16 t T 20 (omega arith) b) h x (asleep_queue b hb (slept b hb e)) (λ j. refl)) (alike_same _ _ (sym f)))
      (held_left g.store g.store h h D b b hb hb S.held S.held.formed (λ i z. refl) (S.held.at b b hb hb) (λ y z. refl) (λ y z. refl) (λ y z u. refl))

  start_no : (b : ℕ) → (h.boxes b).state ≢ 0 → start 16 20 t b h ≡ h
  unfolding start
  start_no b z = rw (ne_eqb _ 0 z)

  pub begun_shows : (b : ℕ) → b < 16 → Shows t (stepped_at g b (begun g.turn b g.store).store (begun g.turn b g.store).arrival) (start 16 20 t b h)
  unfolding begun
  begun_shows b hb =
      by_bool (sleeps_now g.turn b)
      (λ e. rw e (starts b hb e))
      (λ e. rw (e, start_no b (up b hb e)) (idle b b hb hb))

  -- ---- a message comes from a to b

  module _ (a b : ℕ) (ha : a < 16) (hb : b < 16) (m : Msg) (q : List Msg) (e : (h.wires a b).way ≡ m ∷ q) where
    abbrev P : Hub
    P = popped a b q h

    abbrev i : ℕ
    i = wire_of a b

    abbrev n : ℕ
    n = word t b

    here : i < 256
    here = wire_lt a b ha hb

    link_ab : mem b (word t a) ≡ true
    link_ab = full_link 16 t h a b m q e Z.good

    link : mem a n ≡ true
    link = T.both a b link_ab

    -- the hub without it

    pop_here : (P.wires a b).way ≡ q
    unfolding popped
    pop_here = ap (λ (x : ℕ → Wire). (x b).way) (upd_same h.wires a _) ∙ ap (λ (x : Wire). x.way) (upd_same (h.wires a) b _)

    pop_wire : (x y : ℕ) → (x ≢ a) ⊎ (y ≢ b) → P.wires x y ≡ h.wires x y
    unfolding popped
    pop_wire x y z =
        elim (ℕ_discrete x a) [
          | yes u ↦ rw u (ap (λ (f : ℕ → Wire). f y) (upd_same h.wires a _) ∙ upd_other (h.wires a) b _ y (⊎_elim (λ v. absurd (v u)) (λ v. v) z))
          | no u ↦ ap (λ (f : ℕ → Wire). f y) (upd_other h.wires a _ x u)
        ]

    pop_queue : (x y : ℕ) → (P.wires x y).queue ≡ (h.wires x y).queue
    unfolding popped
    pop_queue x y =
        elim (ℕ_discrete x a) [
          | yes u ↦ elim (ℕ_discrete y b) [
            | yes v ↦ rw (u, v) (ap (λ (f : ℕ → Wire). (f b).queue) (upd_same h.wires a _) ∙ ap (λ (x : Wire). x.queue) (upd_same (h.wires a) b _))
            | no v ↦ ap (λ (x : Wire). x.queue) (pop_wire x y (inr v))
          ]
          | no u ↦ ap (λ (x : Wire). x.queue) (pop_wire x y (inl u))
        ]

    off : (s : List ℕ) → under_way sixteen s i ≡ length q → Off a b true s P h
    unfolding popped
    off s l = record {
      boxes = λ x. refl;
      queues = pop_queue;
      ways = λ x y z. ap (λ (w : Wire). w.way) (pop_wire x y z);
      way = λ z. absurd (true≢false z);
      less = λ z. l ∙ ap length (sym pop_here);
      more = λ z. rw e (lt-ltb 0 (length (m ∷ q)) (omega arith));
      sent = refl;
      moves = refl;
      full = refl;
    }

    -- the store with it in the queue

    held_i : waiting sixteen g.store i ≡ holds_both (words_of (Q b a)) (word_of m ∷ words_of q)
    held_i = S.held.at a b ha hb ∙ ap (λ (l : List Msg). holds_both (words_of (Q b a)) (words_of l)) e

    way_word : (waiting sixteen g.store i).way ≡ word_of m ∷ words_of q
    way_word = ap (λ (x : Waiting). x.way) held_i

    abbrev AL : Arrived sixteen g.store i (arrived sixteen g.store i) (oldest sixteen g.store i)
    AL = arrive_law sixteen sixteen_proper g.store i S.held.formed.size here

    abbrev s₁ : List ℕ
    s₁ = arrived sixteen g.store i

    arrived_at : waiting sixteen s₁ i ≡ holds_both (words_of (Q b a ++ (m ∷ []))) (words_of q)
    arrived_at =
        AL.delivered S.held.formed (word_of m) (words_of q) way_word
        ∙ ap (λ (x : Waiting). holds_both (x.queue ++ (word_of m ∷ [])) (words_of q)) held_i
        ∙ ap (λ (l : List ℕ). holds_both l (words_of q)) (sym (map-append word_of (Q b a) (m ∷ [])))

    oldest_is : oldest sixteen g.store i ≡ word_of m
    oldest_is = AL.oldest_of (word_of m) (words_of q) way_word

    under_some : eqb (under_way sixteen g.store i) 0 ≡ false
    under_some = ne_eqb (under_way sixteen g.store i) 0 (λ (z : under_way sixteen g.store i ≡ 0). absurd (omega (arith, way_length sixteen g.store i, ap length way_word, z)))

    queued_is : queued sixteen g.store i ≡ length (Q b a)
    queued_is = sym (queue_length sixteen g.store i) ∙ ap (λ (x : Waiting). length x.queue) held_i ∙ length_words (Q b a)

    under_of : (s : List ℕ) (w : List ℕ) → waiting sixteen s i ≡ holds_both w (words_of q) → under_way sixteen s i ≡ length q
    under_of s w f = sym (way_length sixteen s i) ∙ ap (λ (x : Waiting). length x.way) f ∙ length_words q

    -- a desk with the message's wire changed
    held_desk : (s : List ℕ) (D : Desk) → Formed sixteen s → Others sixteen g.store i s → waiting sixteen s i ≡ holds_both (words_of (D.queues a)) (words_of q)
        → ((x : ℕ) → x ≢ a → D.queues x ≡ Q b x) → Held s (left b D P).wires
    held_desk s D F o w f =
        held_left g.store s h P D a b ha hb S.held F o (w ∙ ap (λ (l : List Msg). holds_both (words_of (D.queues a)) (words_of l)) (sym pop_here)) f pop_queue
        (λ x y z. ap (λ (w : Wire). w.way) (pop_wire x y z))

    links_is : word g.turn.links b ≡ n
    links_is = ap (λ (l : List ℕ). word l b) S.links

    alone_of : (f : ℕ → List Msg) → n ≡ 0 → (x : ℕ) → f x ≡ []
    alone_of f z x = absurd (true≢false (sym link ∙ ap (mem a) z ∙ mem_empty a))

    -- ---- to a stopped box: it is taken and dropped

    dropped : (h.boxes b).state ≡ 2 → Shows t (stepped_at g b (skipped sixteen g.store i) (quiet g.turn a b true false (heard_at g.turn b))) (deliver 16 20 t a b h)
    unfolding quiet receive popped
    dropped z =
        let k : Arrival = quiet g.turn a b true false (heard_at g.turn b) in
        let r : Record = get_or g.row b blank in
        let SL : Skipped sixteen g.store i (skipped sixteen g.store i) = skip_law sixteen sixteen_proper g.store i S.held.formed.size here in
        let none : (x : ℕ) → Q b x ≡ [] = no_queue t T h Z.good b hb (λ y. omega arith) in
        let w : waiting sixteen (skipped sixteen g.store i) i ≡ holds_both [] (words_of q) =
        SL.dropped (ap (λ (x : Waiting). x.queue) held_i ∙ ap words_of (none a)) (word_of m) (words_of q) way_word in
        let x : saved k (woken r k) ≡ h.boxes b = saved_none k (woken r k) refl ∙ woken_no r k refl ∙ S.boxes b hb in
        let D : Desk = record { box = saved k (woken r k); queues = Q b; sends = λ j. []; taken = λ j. [] } in
        let d : Desk = receive 16 n a m (P.boxes b) (queues_of P b) in
        let f : deliver 16 20 t a b h ≡ settled 16 b d P = ⊎_elim (λ y. absurd (omega (arith, y.0))) (λ y. y.1) (delivered 16 t T 20 (omega arith) h a b m q e Z) in
        let L : Leaves d (h.boxes b) (queues_of P b) nothing = drops z in
        still_turn a b ha hb P k (skipped sixteen g.store i) (record { own = refl; «from» = refl; links = links_is }) (off (skipped sixteen g.store i) (under_of _ [] w)) refl
        (λ y. absurd (false≢true y)) (Q b) (S.heard_set b hb) (λ x hx. S.heard x b hx hb) (alone_of (Q b)) (deliver 16 20 t a b h) (deliver_sound 16 t T 20 (omega arith) h a b Z)
        (alike_trans _ _ _ (desk_alike b D d P (x ∙ sym L.box) (λ j. sym (L.queues j ∙ pop_queue j b)) (λ j. sym (L.sends j))) (alike_same _ _ (sym f)))
        (held_desk (skipped sixteen g.store i) D (SL.formed S.held.formed) SL.others (w ∙ ap (λ (l : List Msg). holds_both (words_of l) (words_of q)) (sym (none a))) (λ y u. refl))
      where
        drops : (h.boxes b).state ≡ 2 → Leaves (receive 16 n a m (P.boxes b) (queues_of P b)) (h.boxes b) (queues_of P b) nothing
        drops z = rw (ne_eqb (h.boxes b).state 1 (λ y. omega arith)) (record { box = refl; queues = λ j. refl; sends = λ j. refl })

    -- ---- to a box that is up, or that starts first

    -- box₀ is the receiver once it is up, q₀ its queues, first what its start sends; F is the hub that comes out, which the message's desk tells
    module _ (wk : Bool) (box₀ : Box) (q₀ first : ℕ → List Msg) (F : Hub) (Y : Sound 16 t F) (nap : sleeps_now g.turn b ≡ wk) (st : wk ≡ false → (h.boxes b).state ≡ 1)
        (woke : (k : Arrival) → k.own ≡ b → k.links ≡ n → k.wakes ≡ wk → woken (get_or g.row b blank) k ≡ box₀)
        (fst : (k : Arrival) → k.wakes ≡ wk → (j : ℕ) → first j ≡ wake_sends (get_or g.row b blank) k b n j)
        (live : box₀.state ≡ 1) (low : box₀.hop < 65535) (sized : length box₀.neighbors ≡ 16) (same : (x : ℕ) → q₀ x ≡ Q b x)
        (told : Alike (settled 16 b (record { box = (receive 16 n a m box₀ q₀).box; queues = (receive 16 n a m box₀ q₀).queues; sends = λ j. first j ++ (receive 16 n a m box₀ q₀).sends j; taken = λ x. [] }) P) F) where
      abbrev d : Desk
      d = receive 16 n a m box₀ q₀

      calm : (x : ℕ) → behind (q₀ x) ≡ q₀ x
      calm x = rw (same x) (calm_queues t T h Z.good b hb x)

      -- a desk told by the same parts tells F
      tells : (D : Desk) → D.box ≡ d.box → ((j : ℕ) → D.queues j ≡ d.queues j) → ((j : ℕ) → D.sends j ≡ first j ++ d.sends j) → Alike (settled 16 b D P) F
      tells D x y z = alike_trans _ _ _ (desk_alike b D _ P x y z) told

      napping : sleeps_now g.turn b ≡ true → (h.boxes b).state ≡ 0
      napping = slept b hb

      heard_is : (x : ℕ) → x < 16 → mem x (heard_at g.turn b) ≡ some (q₀ x)
      heard_is x hx = S.heard x b hx hb ∙ ap some (sym (same x))

      -- it waits behind another message
      behind_one : (x : Msg) (l : List Msg) → q₀ a ≡ x ∷ l → wk ≡ false → Shows t (stepped_at g b s₁ (quiet g.turn a b true false (heard_at g.turn b))) F
      unfolding quiet
      behind_one x l f w =
          let k : Arrival = quiet g.turn a b true false (heard_at g.turn b) in
          let r : Record = get_or g.row b blank in
          let (v, hv, lv, nv) = waits_link t T h Z.good b hb (st w) in
          let L : Leaves d box₀ (upd q₀ a (q₀ a ++ (m ∷ []))) nothing = waits_behind 16 n a m box₀ q₀ ha link live calm x l f v hv lv (same v ∙ nv) in
          let bx : saved k (woken r k) ≡ box₀ = saved_none k (woken r k) refl ∙ woke k refl links_is (sym w) in
          let D : Desk = record { box = saved k (woken r k); queues = upd q₀ a (q₀ a ++ (m ∷ [])); sends = λ j. []; taken = λ j. [] } in
          still_turn a b ha hb P k s₁ (record { own = refl; «from» = refl; links = links_is }) (off s₁ (under_of s₁ _ arrived_at)) refl (λ y. absurd (false≢true y)) (upd q₀ a (q₀ a ++ (m ∷ [])))
          (S.heard_set b hb) (λ y hy. heard_is y hy ∙ more y) (alone_of _) F Y
          (tells D (bx ∙ sym L.box) (λ j. sym (L.queues j)) (λ j. sym (ap₂ ◌++◌ (fst k (sym w) j) (L.sends j))))
          (held_desk s₁ D (AL.formed S.held.formed) AL.others
          (arrived_at ∙ ap (λ (l : List Msg). holds_both (words_of l) (words_of q)) (ap (λ (l : List Msg). l ++ (m ∷ [])) (sym (same a)) ∙ sym (upd_same q₀ a (q₀ a ++ (m ∷ [])))))
          (λ y u. upd_other q₀ a (q₀ a ++ (m ∷ [])) y u ∙ same y))
        where
          more : (y : ℕ) → some (q₀ y) ≡ some (upd q₀ a (q₀ a ++ (m ∷ [])) y)
          more y = elim (ℕ_discrete y a) [
            | yes z ↦ rw (z, upd_same q₀ a (q₀ a ++ (m ∷ [])), f) (lt-ltb 0 (length (x ∷ l)) (omega arith) ∙ sym (lt-ltb 0 (length ((x ∷ l) ++ (m ∷ []))) (omega arith)))
            | no z ↦ ap some (sym (upd_other q₀ a (q₀ a ++ (m ∷ [])) y z))
          ]

      -- ---- it is alone in its queue

      module _ (f : q₀ a ≡ []) where
        none_a : Q b a ≡ []
        none_a = sym (same a) ∙ f

        arrived_one : waiting sixteen s₁ i ≡ holds_both (word_of m ∷ []) (words_of q)
        arrived_one = arrived_at ∙ ap (λ (l : List Msg). holds_both (words_of (l ++ (m ∷ []))) (words_of q)) none_a

        small_m : AllSmall (m ∷ q)
        small_m = subst AllSmall e (small_waits t T h Z.good a b hb).1

        hears_one : (x : ℕ) → x < 16 → mem x (bit_or (heard_at g.turn b) (2 ^ a)) ≡ some (upd q₀ a (m ∷ []) x)
        hears_one x hx = elim (ℕ_discrete x a) [
          | yes u ↦ rw (u, upd_same q₀ a (m ∷ [])) (add_here (heard_at g.turn b) a)
          | no u ↦ rw (upd_other q₀ a (m ∷ []) x u) (add_other (heard_at g.turn b) a x u ∙ heard_is x hx)
        ]

        heard_less : bit_or (heard_at g.turn b) (2 ^ a) < 2 ^ 16
        heard_less = or_lt 16 (heard_at g.turn b) (2 ^ a) (S.heard_set b hb) (pow-lt ha)

        -- a list: it is saved at once
        one_list_lem : (o v : ℕ) → m ≡ neighbors o v → Shows t (stepped_at g b (taken_off sixteen s₁ i) (one_list g.turn a b (word_of m))) F
        unfolding one_list
        one_list_lem o v z =
            let k : Arrival = one_list g.turn a b (word_of m) in
            let r : Record = get_or g.row b blank in
            let (ho, hv) = (subst AllSmall (ap (λ (x : Msg). x ∷ q) z) small_m).0 in
            let (x1, x2, x3) = list_word o v ho hv in
            let TL : Taken sixteen s₁ i (taken_off sixteen s₁ i) (taken_word sixteen s₁ i) = take_law sixteen sixteen_proper s₁ i (AL.formed S.held.formed).size here in
            let w : waiting sixteen (taken_off sixteen s₁ i) i ≡ holds_both [] (words_of q) =
            TL.off (word_of m) [] (ap (λ (x : Waiting). x.queue) arrived_one) ∙ ap (λ (x : Waiting). holds_both [] x.way) arrived_one in
            let L : Leaves d (with_list box₀ o v) q₀ nothing = saves_list 16 n a m box₀ q₀ ha link live calm o v z f in
            let wb : woken r k ≡ box₀ = woke k refl links_is nap in
            let bx : saved k (woken r k) ≡ with_list box₀ o v =
            ap (saved k) wb ∙ listed k box₀ o v ho (ap (λ (x : Msg). 2 ^ origin_of (word_of x)) z ∙ ap (λ (x : ℕ). 2 ^ x) x3)
            (ap (λ (x : Msg). set (replicate 16 0) (origin_of (word_of x)) (set_of (word_of x))) z ∙ ap₂ (λ (x y : ℕ). set (replicate 16 0) x y) x3 x2) live sized in
            let D : Desk = record { box = saved k (woken r k); queues = q₀; sends = wake_sends r k b n; taken = λ j. [] } in
            still_turn a b ha hb P k (taken_off sixteen s₁ i) (record { own = refl; «from» = refl; links = links_is }) (off (taken_off sixteen s₁ i) (under_of _ [] w)) refl napping q₀
            (S.heard_set b hb) heard_is (alone_of q₀) F Y
            (tells D (bx ∙ sym L.box) (λ j. sym (L.queues j)) (λ j. sym (ap₂ ◌++◌ (fst k nap j) (L.sends j) ∙ append-nil _)))
            (held_desk (taken_off sixteen s₁ i) D (TL.formed (AL.formed S.held.formed)) (λ j y. TL.others j y ∙ AL.others j y)
            (w ∙ ap (λ (l : List Msg). holds_both (words_of l) (words_of q)) (sym f)) (λ y u. same y))

        -- a set: it waits for the other links
        waits_one : (v : ℕ) → m ≡ notspt v → all_sets 16 n (upd q₀ a (m ∷ [])) ≡ false
            → Shows t (stepped_at g b s₁ (quiet g.turn a b true (sleeps_now g.turn b) (bit_or (heard_at g.turn b) (2 ^ a)))) F
        unfolding quiet
        waits_one v z y =
            let k : Arrival = quiet g.turn a b true (sleeps_now g.turn b) (bit_or (heard_at g.turn b) (2 ^ a)) in
            let r : Record = get_or g.row b blank in
            let L : Leaves d box₀ (upd q₀ a (m ∷ [])) nothing = waits_set 16 n a m box₀ q₀ ha link live calm v z f y in
            let bx : saved k (woken r k) ≡ box₀ = saved_none k (woken r k) refl ∙ woke k refl links_is nap in
            let D : Desk = record { box = saved k (woken r k); queues = upd q₀ a (m ∷ []); sends = wake_sends r k b n; taken = λ j. [] } in
            still_turn a b ha hb P k s₁ (record { own = refl; «from» = refl; links = links_is }) (off s₁ (under_of s₁ _ arrived_at)) refl napping (upd q₀ a (m ∷ []))
            heard_less hears_one (alone_of _) F Y
            (tells D (bx ∙ sym L.box) (λ j. sym (L.queues j)) (λ j. sym (ap₂ ◌++◌ (fst k nap j) (L.sends j) ∙ append-nil _)))
            (held_desk s₁ D (AL.formed S.held.formed) AL.others (arrived_one ∙ ap (λ (l : List Msg). holds_both (words_of l) (words_of q)) (sym (upd_same q₀ a (m ∷ []))))
            (λ y u. upd_other q₀ a (m ∷ []) y u ∙ same y))

        -- a set, and every other link has one: a round
        module _ (v : ℕ) (z : m ≡ notspt v) (ready : all_sets 16 n (upd q₀ a (m ∷ [])) ≡ true) where
          -- the queues with the message in
          abbrev W : ℕ → List Msg
          W = upd q₀ a (m ∷ [])

          abbrev D₁ : Desk
          D₁ = record { box = box₀; queues = W; sends = λ j. []; taken = λ j. [] }

          H₁ : Held s₁ (left b D₁ P).wires
          H₁ = held_desk s₁ D₁ (AL.formed S.held.formed) AL.others (arrived_one ∙ ap (λ (l : List Msg). holds_both (words_of l) (words_of q)) (sym (upd_same q₀ a (m ∷ []))))
              (λ y u. upd_other q₀ a (m ∷ []) y u ∙ same y)

          into : (x : ℕ) → ((left b D₁ P).wires x b).queue ≡ W x
          into x = rw (eq-eqb b b refl)

          set_heads : (j : ℕ) → j < 16 → mem j n ≡ true → is_set ((left b D₁ P).wires j b).queue ≡ true
          unfolding all_sets
          set_heads j hj l = ap is_set (into j) ∙ or_right (mem j n) (is_set (W j)) l (all_out 16 (λ j. not (mem j n) || is_set (W j)) ready j hj)
            where
              or_right : (x y : Bool) → x ≡ true → not x || y ≡ true → y ≡ true
              or_right true y l e = e
              or_right false y l e = absurd (false≢true l)

          smalls : (j : ℕ) → j < 16 → AllSmall ((left b D₁ P).wires j b).queue
          smalls j hj = subst AllSmall (sym (into j)) (elim (ℕ_discrete j a) [
            | yes u ↦ subst AllSmall (sym (ap W u ∙ upd_same q₀ a (m ∷ []))) (small_m.0, tt)
            | no u ↦ subst AllSmall (sym (upd_other q₀ a (m ∷ []) j u ∙ same j)) (small_waits t T h Z.good j b hb).0
          ])

          abbrev G : Got
          G = gather_to b n 16 (got_nothing s₁)

          A : All b hb n s₁ (left b D₁ P).wires H₁ set_heads smalls 16 G
          A = gathered b hb n s₁ (left b D₁ P).wires H₁ set_heads smalls

          -- what is no link has nothing
          off_W : (x : ℕ) → mem x n ≡ false → W x ≡ []
          off_W x l = upd_other q₀ a (m ∷ []) x (λ u. true≢false (sym link ∙ ap (λ (y : ℕ). mem y n) (sym u) ∙ l)) ∙ same x ∙ off_queue t T h Z.good x b l

          abbrev k : Arrival
          k = round_of g.turn a b G

          abbrev r : Record
          r = get_or g.row b blank

          -- the box that has taken its sets
          abbrev taking : Box
          taking = take_sets 16 n (λ j. head_set (W j)) box₀

          took : taken k (woken r k) ≡ taking
          unfolding round_of
          took =
              ap₂ (λ (x : ℕ) (y : Box). take_sets 16 x (word G.heads) y) links_is (woke k refl links_is nap)
              ∙ heads_same n (word G.heads) (λ j. head_set (W j)) box₀ (λ j hj l. A.heads j (omega arith) hj l ∙ ap head_set (into j))

          abbrev leaving : ℕ → List Msg
          leaving x = cond (mem x n) (tail (W x)) (W x)

          left_in : (x : ℕ) → mem x n ≡ true → behind (leaving x) ≡ behind (tail ((left b D₁ P).wires x b).queue)
          left_in x l = ap behind (link_in l) ∙ ap (λ (y : List Msg). behind (tail y)) (sym (into x))
            where
              link_in : mem x n ≡ true → leaving x ≡ tail (W x)
              link_in l = rw l

          left_off : (x : ℕ) → mem x n ≡ false → leaving x ≡ []
          left_off x l = no_link l ∙ off_W x l
            where
              no_link : mem x n ≡ false → leaving x ≡ W x
              no_link l = rw l

          low_hop : (taken k (woken r k)).hop < 65535
          low_hop = rw took (rw (taken_hop 16 n (λ j. head_set (W j)) box₀) low)

          next_neighbors : (x : Box) → (next_hop x).neighbors ≡ x.neighbors
          unfolding next_hop
          next_neighbors x = refl

          next_size : length (next_hop taking).neighbors ≡ 16
          next_size = ap length (next_neighbors taking ∙ taken_neighbors 16 n (λ j. head_set (W j)) box₀) ∙ sized

          comes : Comes t a b k
          unfolding round_of
          comes = record { own = refl; «from» = refl; links = links_is }

          -- a wire into b after the round, before it is known whether the box stops
          after_link : (x : ℕ) → x < 16 → mem x n ≡ true → waiting sixteen G.store (wire_of x b) ≡ holds_both (words_of (behind (leaving x))) (words_of (P.wires x b).way)
          after_link x hx l =
              A.done x (omega arith) hx l
              ∙ ap₂ (λ (u w : List Msg). holds_both (words_of u) (words_of w)) (sym (left_in x l)) (into_way x b)
            where
              into_way : (x y : ℕ) → ((left b D₁ P).wires x y).way ≡ (P.wires x y).way
              into_way x y = by_bool (eqb y b) (λ e. rw e) (λ e. rw e)

          after_off : (x : ℕ) → x < 16 → mem x n ≡ false → waiting sixteen G.store (wire_of x b) ≡ holds_both [] (words_of (P.wires x b).way)
          after_off x hx l =
              A.kept x b hx hb (inr (inr l)) ∙ left_held b D₁ P x b
              ∙ ap (λ (u : List Msg). holds_both (words_of u) (words_of (P.wires x b).way)) (here_queue ∙ off_W x l)
            where
              here_queue : cond (eqb b b) (W x) (P.wires x b).queue ≡ W x
              here_queue = rw (eq-eqb b b refl)

          after_other : (x y : ℕ) → x < 16 → y < 16 → y ≢ b → waiting sixteen G.store (wire_of x y) ≡ holds_both (words_of (P.wires x y).queue) (words_of (P.wires x y).way)
          after_other x y hx hy u =
              A.kept x y hx hy (inl u) ∙ left_held b D₁ P x y ∙ ap (λ (l : List Msg). holds_both (words_of l) (words_of (P.wires x y).way)) (apart (ne_eqb y b u))
            where
              apart : eqb y b ≡ false → cond (eqb y b) (W x) (P.wires x y).queue ≡ (P.wires x y).queue
              apart e = rw e

          under_a : under_way sixteen G.store i ≡ length q
          under_a = under_of G.store _ (after_link a ha link ∙ ap (λ (l : List Msg). holds_both (words_of (behind (leaving a))) (words_of l)) pop_here)

          -- a desk whose queues the store holds
          desk_held : (s : List ℕ) (D : Desk) → Formed sixteen s
              → ((x : ℕ) → x < 16 → waiting sixteen s (wire_of x b) ≡ holds_both (words_of (D.queues x)) (words_of (P.wires x b).way))
              → ((x y : ℕ) → x < 16 → y < 16 → y ≢ b → waiting sixteen s (wire_of x y) ≡ holds_both (words_of (P.wires x y).queue) (words_of (P.wires x y).way)) → Held s (left b D P).wires
          desk_held s D F u w = record {
            formed = F;
            at = λ x y hx hy. elim (ℕ_discrete y b) [
              | yes e ↦ rw e (u x hx ∙ sym (left_held b D P x b ∙ rw (eq-eqb b b refl)))
              | no e ↦ w x y hx hy e ∙ sym (left_held b D P x y ∙ rw (ne_eqb y b e))
            ];
          }

          queue_off : (x : ℕ) → mem x n ≡ false → behind (leaving x) ≡ []
          queue_off x l = ap behind (left_off x l) ∙ calm_empty

          -- it goes on
          round_on : stops taking ≡ false → Shows t (stepped_at g b G.store k) F
          unfolding round_of next_hop saved
          round_on go =
              let no' : stops (taken k (woken r k)) ≡ false = ap stops took ∙ go in
              let L : Leaves d (with_neighbors (next_hop taking) (save_heads 16 leaving (next_hop taking).neighbors)) (λ j. behind (leaving j)) (round_sends 16 n taking) =
              goes_on 16 n a m box₀ q₀ ha link live calm v z f ready go in
              let D : Desk = record { box = saved k (next_hop (taken k (woken r k))); queues = λ x. behind (leaving x); sends = λ j. wake_sends r k b n j ++ round_sends 16 n (taken k (woken r k)) j; taken = λ x. [] } in
              let awake : is_stopped (next_hop taking) ≡ false = on go in
              let bx : saved k (next_hop (taken k (woken r k))) ≡ with_neighbors (next_hop taking) (save_heads 16 leaving (next_hop taking).neighbors) =
              ap (λ (x : Box). saved k (next_hop x)) took ∙ lists_in k (next_hop taking) awake
              ∙ ap (with_neighbors (next_hop taking)) (A.saves (next_hop taking).neighbors next_size
              ∙ saves_same 16 _ leaving (next_hop taking).neighbors (λ j hj. by_bool (mem j n)
              (λ l. rw l (ap tail (into j))) (λ l. rw l (sym (off_W j l))))) in
              round_turn a b ha hb P k G.store comes (off G.store under_a) refl napping (λ y. st (sym nap ∙ y)) (λ x. behind (leaving x)) A.few low_hop
              (λ x hx. ap (λ (y : Bool). mem x (cond y 0 G.heard)) no' ∙ hears_on x hx) F Y
              (tells D (bx ∙ sym L.box) (λ j. sym (L.queues j))
              (λ j. sym (ap₂ ◌++◌ (fst k nap j) (L.sends j ∙ ap (λ (x : Box). round_sends 16 n x j) (sym took)))))
              (subst (λ (y : Bool). Held (cond y (clear_to b n 16 G.store) G.store) (left b D P).wires) (sym no')
              (desk_held G.store D A.formed (λ x hx. by_bool (mem x n) (λ l. after_link x hx l)
              (λ l. after_off x hx l ∙ ap (λ (u : List Msg). holds_both (words_of u) (words_of (P.wires x b).way)) (sym (queue_off x l)))) after_other))
            where
              on : stops taking ≡ false → is_stopped (next_hop taking) ≡ false
              on e = ap (λ (x : Bool). eqb (cond x 2 1) 2) e

              lists_in : (c : Arrival) (x : Box) → is_stopped x ≡ false → saved c x ≡ with_neighbors x (save_all x.neighbors c.listed c.lists)
              lists_in c x e = ap (λ (y : Bool). with_neighbors x (cond y x.neighbors (save_all x.neighbors c.listed c.lists))) e

              hears_on : (x : ℕ) → x < 16 → mem x G.heard ≡ some (behind (leaving x))
              hears_on x hx = by_bool (mem x n)
                  (λ l. A.hears x hx l ∙ ap some (sym (left_in x l)))
                  (λ l. A.deaf x (inr l) ∙ sym (ap some (queue_off x l)))

          -- it stops, and empties its queues
          round_off : stops taking ≡ true → Shows t (stepped_at g b G.store k) F
          unfolding round_of next_hop
          round_off end =
              let end' : stops (taken k (woken r k)) ≡ true = ap stops took ∙ end in
              let L : Leaves d (next_hop taking) nothing (round_sends 16 n taking) = comes_to_rest 16 n a m box₀ q₀ ha link live calm v z f ready end in
              let D : Desk = record { box = saved k (next_hop (taken k (woken r k))); queues = nothing; sends = λ j. wake_sends r k b n j ++ round_sends 16 n (taken k (woken r k)) j; taken = λ x. [] } in
              let bx : saved k (next_hop (taken k (woken r k))) ≡ next_hop taking = ap (λ (x : Box). saved k (next_hop x)) took ∙ saved_stopped k (next_hop taking) (ended end) in
              let E : Emptied b hb n G.store A.formed 16 (clear_to b n 16 G.store) = emptied b hb n G.store A.formed in
              round_turn a b ha hb P k G.store comes (off G.store under_a) refl napping (λ y. st (sym nap ∙ y)) nothing A.few low_hop
              (λ x hx. ap (λ (y : Bool). mem x (cond y 0 G.heard)) end' ∙ mem_empty x) F Y
              (tells D (bx ∙ sym L.box) (λ j. sym (L.queues j))
              (λ j. sym (ap₂ ◌++◌ (fst k nap j) (L.sends j ∙ ap (λ (x : Box). round_sends 16 n x j) (sym took)))))
              (subst (λ (y : Bool). Held (cond y (clear_to b n 16 G.store) G.store) (left b D P).wires) (sym end')
              (desk_held (clear_to b n 16 G.store) D E.formed
              (λ x hx. by_bool (mem x n)
              (λ l. E.done x (omega arith) hx l ∙ ap (λ (y : Waiting). holds_both [] y.way) (after_link x hx l))
              (λ l. E.kept x b hx hb (inr (inr l)) ∙ after_off x hx l))
              (λ x y hx hy u. E.kept x y hx hy (inl u) ∙ after_other x y hx hy u)))
            where
              ended : stops taking ≡ true → is_stopped (next_hop taking) ≡ true
              ended e = ap (λ (x : Bool). eqb (cond x 2 1) 2) e

          pub one_round : Shows t (stepped_at g b G.store k) F
          one_round = by_bool (stops taking) round_off round_on

        -- ---- which of them: as the code finds out

        -- the link set is heard in full exactly where every link has a set at its head
        heard_all : (v : ℕ) → m ≡ notspt v → eqb (bit_or (heard_at g.turn b) (2 ^ a)) n ≡ all_sets 16 n (upd q₀ a (m ∷ []))
        unfolding all_sets
        heard_all v z =
            by_bool (all_sets 16 n (upd q₀ a (m ∷ [])))
            (λ y. eq-eqb _ n (ext 16 _ n heard_less (T.small b) (λ x hx. hears_one x hx ∙ by_bool (mem x n)
            (λ l. set_some _ (or_right (mem x n) _ l (all_out 16 (λ j. not (mem j n) || is_set (upd q₀ a (m ∷ []) j)) y x hx)) ∙ sym l)
            (λ l. ap some (off_link x l) ∙ sym l))) ∙ sym y)
            (λ y. ne_eqb _ n (λ u. true≢false (sym (all_in 16 (λ j. not (mem j n) || is_set (upd q₀ a (m ∷ []) j)) (λ x hx. by_bool (mem x n)
            (λ l. rw l (some_set _ (calm_one x) (sym (hears_one x hx) ∙ ap (mem x) u ∙ l))) (λ l. rw l))) ∙ y)) ∙ sym y)
          where
            or_right : (x y : Bool) → x ≡ true → not x || y ≡ true → y ≡ true
            or_right true y l e = e
            or_right false y l e = absurd (false≢true l)

            off_link : (x : ℕ) → mem x n ≡ false → upd q₀ a (m ∷ []) x ≡ []
            off_link x l = upd_other q₀ a (m ∷ []) x (λ u. true≢false (sym link ∙ ap (λ (y : ℕ). mem y n) (sym u) ∙ l)) ∙ same x ∙ off_queue t T h Z.good x b l

            calm_one : (x : ℕ) → behind (upd q₀ a (m ∷ []) x) ≡ upd q₀ a (m ∷ []) x
            calm_one x = elim (ℕ_discrete x a) [ yes u ↦ rw (u, upd_same q₀ a (m ∷ []), z) (calm_set v []) | no u ↦ rw (upd_other q₀ a (m ∷ []) x u) (calm x) ]

        pub first_shows : Shows t (stepped_at g b (took_first g.turn a b (word_of m) s₁).store (took_first g.turn a b (word_of m) s₁).arrival) F
        unfolding took_first took_round
        first_shows = go m refl
          where
            go : (x : Msg) → m ≡ x → Shows t (stepped_at g b (took_first g.turn a b (word_of m) s₁).store (took_first g.turn a b (word_of m) s₁).arrival) F
            go (neighbors o v) z =
                let (ho, hv) = (subst AllSmall (ap (λ (x : Msg). x ∷ q) z) small_m).0 in
                rw (ap (λ (x : Msg). is_list (word_of x)) z ∙ (list_word o v ho hv).0) (one_list_lem o v z)
            go (notspt v) z =
                let hv : v < 65536 = (subst AllSmall (ap (λ (x : Msg). x ∷ q) z) small_m).0 in
                by_bool (all_sets 16 n (upd q₀ a (m ∷ [])))
                (λ y. rw (ap (λ (x : Msg). is_list (word_of x)) z ∙ (set_word v hv).0, links_is, heard_all v z ∙ y) (one_round v z y))
                (λ y. rw (ap (λ (x : Msg). is_list (word_of x)) z ∙ (set_word v hv).0, links_is, heard_all v z ∙ y) (waits_one v z y))

    -- ---- an awake receiver

    awake_low : (h.boxes b).state ≡ 1 → ((h.boxes b).hop < 65535) × (length (h.boxes b).neighbors ≡ 16)
    awake_low y = go (Z.good.seats b hb)
      where
        go : SeatOf 16 t h b (ways 16 t h b) → ((h.boxes b).hop < 65535) × (length (h.boxes b).neighbors ≡ 16)
        go (sleeps p) = absurd (omega (arith, ap (λ (x : Box). x.state) p.blank))
        go (wakes p) = (omega (arith, p.half.early, far_lt 16 t T b hb), p.half.tables.list_size)
        go (rests p) = absurd (omega (arith, p.state))

    abbrev F : Hub
    F = deliver 16 20 t a b h

    Y : Sound 16 t F
    Y = deliver_sound 16 t T 20 (omega arith) h a b Z

    pop_boxes : P.boxes ≡ h.boxes
    unfolding popped
    pop_boxes = refl

    box_b : P.boxes b ≡ h.boxes b
    box_b = ap (λ (f : ℕ → Box). f b) pop_boxes

    awake_nap : (h.boxes b).state ≡ 1 → sleeps_now g.turn b ≡ false
    awake_nap y = sleeps_is b hb ∙ ne_eqb (h.boxes b).state 0 (λ (z : (h.boxes b).state ≡ 0). omega arith)

    abbrev d_up : Desk
    d_up = receive 16 n a m (P.boxes b) (queues_of P b)

    told_up : (h.boxes b).state ≡ 1 → Alike (settled 16 b (record { box = d_up.box; queues = d_up.queues; sends = λ j. nothing j ++ d_up.sends j; taken = λ x. [] }) P) F
    told_up y =
        alike_trans _ _ _ (desk_alike b _ d_up P refl (λ j. refl) (λ j. refl))
        (alike_same _ _ (sym (⊎_elim (λ x. absurd (omega (arith, x.0))) (λ x. x.1) (delivered 16 t T 20 (omega arith) h a b m q e Z))))

    abbrev Result : List ℕ → Arrival → Type 0
    Result s k = Shows t (stepped_at g b s k) F

    up_first : (y : (h.boxes b).state ≡ 1) → Q b a ≡ [] → Result (took_first g.turn a b (word_of m) s₁).store (took_first g.turn a b (word_of m) s₁).arrival
    up_first y f =
        first_shows false (P.boxes b) (queues_of P b) nothing F Y (awake_nap y) (λ z. y) (λ k x l w. woken_no (get_or g.row b blank) k w ∙ S.boxes b hb ∙ sym box_b)
        (λ k w j. sym (ap (λ (x : Bool). cond x (start_sends b n j) []) w)) (ap (λ (x : Box). x.state) box_b ∙ y) (rw box_b (awake_low y).0) (ap (λ (x : Box). length x.neighbors) box_b ∙ (awake_low y).1)
        (λ x. pop_queue x b) (told_up y) (pop_queue a b ∙ f)

    up_behind : (y : (h.boxes b).state ≡ 1) (x : Msg) (l : List Msg) → Q b a ≡ x ∷ l → Result s₁ (quiet g.turn a b true false (heard_at g.turn b))
    up_behind y x l f =
        behind_one false (P.boxes b) (queues_of P b) nothing F Y (awake_nap y) (λ z. y) (λ k x l w. woken_no (get_or g.row b blank) k w ∙ S.boxes b hb ∙ sym box_b)
        (λ k w j. sym (ap (λ (x : Bool). cond x (start_sends b n j) []) w)) (ap (λ (x : Box). x.state) box_b ∙ y) (rw box_b (awake_low y).0) (ap (λ (x : Box). length x.neighbors) box_b ∙ (awake_low y).1)
        (λ x. pop_queue x b) (told_up y) x l (pop_queue a b ∙ f) refl

    -- ---- a sleeping receiver starts first

    abbrev up₀ : Hub
    up₀ = settled 16 b (first_desk 16 t T 20 (omega arith) b) P

    box_up : up₀.boxes b ≡ started 16 b n
    box_up = settled_boxes 16 b (first_desk 16 t T 20 (omega arith) b) P b ∙ upd_same P.boxes b (started 16 b n)

    queue_up : (x : ℕ) → queues_of up₀ b x ≡ []
    queue_up x = settled_queue 16 b (first_desk 16 t T 20 (omega arith) b) P x b ∙ rw (eq-eqb b b refl)

    abbrev d_new : Desk
    d_new = receive 16 n a m (up₀.boxes b) (queues_of up₀ b)

    told_new : (h.boxes b).state ≡ 0 → Alike (settled 16 b (record { box = d_new.box; queues = d_new.queues; sends = λ j. start_sends b n j ++ d_new.sends j; taken = λ x. [] }) P) F
    told_new y =
        alike_trans _ _ _ (desk_alike b _ (both (first_desk 16 t T 20 (omega arith) b) d_new) P refl (λ j. refl) (λ j. refl))
        (alike_trans _ _ _ (twice 16 b (first_desk 16 t T 20 (omega arith) b) d_new P)
        (alike_same _ _ (sym (⊎_elim (λ x. x.1) (λ x. absurd (x.0 y)) (delivered 16 t T 20 (omega arith) h a b m q e Z)))))

    some_link : n ≢ 0
    some_link z = true≢false (sym link ∙ ap (mem a) z ∙ mem_empty a)

    new_first : (h.boxes b).state ≡ 0 → Result (took_first g.turn a b (word_of m) s₁).store (took_first g.turn a b (word_of m) s₁).arrival
    unfolding started
    new_first y =
        first_shows true (up₀.boxes b) (queues_of up₀ b) (start_sends b n) F Y (sleeps_is b hb ∙ eq-eqb _ 0 y) (λ z. absurd (true≢false z)) (λ k x l w. wakes_box k b hb x l w ∙ sym box_up)
        (λ k w j. sym (ap (λ (x : Bool). cond x (start_sends b n j) []) w)) (ap (λ (x : Box). x.state) box_up ∙ ap (λ (x : Bool). cond x 2 1) (ne_eqb n 0 some_link))
        (rw box_up (omega arith)) (ap (λ (x : Box). length x.neighbors) box_up ∙ length-set (replicate 16 0) b n)
        (λ x. queue_up x ∙ sym (asleep_queue b hb y x)) (told_new y) (queue_up a)

    -- ---- all of them, as the code finds out

    queued_none : Q b a ≡ [] → eqb (queued sixteen g.store i) 0 ≡ true
    queued_none z = eq-eqb _ 0 (queued_is ∙ ap length z)

    queued_some : (x : Msg) (l : List Msg) → Q b a ≡ x ∷ l → eqb (queued sixteen g.store i) 0 ≡ false
    queued_some x l z = ne_eqb (queued sixteen g.store i) 0 (λ (y : queued sixteen g.store i ≡ 0). absurd (omega (arith, queued_is, ap length z, y)))

    not_stopped : (h.boxes b).state ≢ 2 → mem b g.turn.stopped ≡ false
    not_stopped z = S.stopped b hb ∙ ne_eqb _ 2 z

    pub came_shows : Result (delivered_now g.turn a b g.store).store (delivered_now g.turn a b g.store).arrival
    unfolding delivered_now
    came_shows =
        ⊎_elim
        (λ y. let z : mem b g.turn.stopped ≡ false = not_stopped (λ (z : (h.boxes b).state ≡ 2). omega arith) in rw (under_some, z, queued_none (asleep_queue b hb y a), oldest_is) (new_first y))
        (⊎_elim (λ y. go y (Q b a) refl) (λ y. let z : mem b g.turn.stopped ≡ true = S.stopped b hb ∙ eq-eqb (h.boxes b).state 2 y in rw (under_some, z) (dropped y)))
        (three_states t T h Z.good b hb)
      where
        go : (h.boxes b).state ≡ 1 → (l : List Msg) → Q b a ≡ l → Result (delivered_now g.turn a b g.store).store (delivered_now g.turn a b g.store).arrival
        go y [] f = let z : mem b g.turn.stopped ≡ false = not_stopped (λ (z : (h.boxes b).state ≡ 2). omega arith) in rw (under_some, z, queued_none f, oldest_is) (up_first y f)
        go y (x ∷ l) f = let z : mem b g.turn.stopped ≡ false = not_stopped (λ (z : (h.boxes b).state ≡ 2). omega arith) in rw (under_some, z, queued_some x l f) (up_behind y x l f)

  -- ---- a delivery, whatever is on the wire

  pub delivered_shows : (a b : ℕ) → a < 16 → b < 16 → Shows t (stepped_at g b (delivered_now g.turn a b g.store).store (delivered_now g.turn a b g.store).arrival) (deliver 16 20 t a b h)
  unfolding delivered_now
  delivered_shows a b ha hb = go (h.wires a b).way refl
    where
      go : (l : List Msg) → (h.wires a b).way ≡ l
          → Shows t (stepped_at g b (delivered_now g.turn a b g.store).store (delivered_now g.turn a b g.store).arrival) (deliver 16 20 t a b h)
      go [] f =
          let z : under_way sixteen g.store (wire_of a b) ≡ 0 = sym (way_length sixteen g.store (wire_of a b)) ∙ ap (λ (x : Waiting). length x.way) (S.held.at a b ha hb) ∙ ap (λ (l : List Msg). length (words_of l)) f in
          rw (eq-eqb _ 0 z, deliver_none 16 t T 20 (omega arith) h a b f) (idle a b ha hb)
      go (m ∷ q) f = came_shows a b ha hb m q f
