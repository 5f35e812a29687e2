-- What the step makes of an arrival, as a desk to be settled: without a round, and with one. Assumes nothing.
use Rattle.std.specs.Prelude.{ℕ, suc, ◌+◌, ◌%◌, ◌^◌, ◌≤◌, ◌<◌, ◌≡◌, refl, Bool, true, false, cond, ◌&&◌, ◌||◌, List, [], ◌∷◌, ◌++◌, map, ◌⊎◌, ◌≢◌, eqb, length, get_or}
use Rattle.std.proofs.Common.{sym, ap, ap₂, ◌∙◌, subst, arith, length-append, lt-ltb, eqb-true}
use Rattle.std.proofs.lemmas.Bool.{false≢true}
use Rattle.std.proofs.Math.Bool.{or-true, or-false}
use Rattle.rules.specs.Sets.{mem, word, members}
use Rattle.rules.specs.Box.{Msg, notspt, neighbors, Box, Desk, started, start_sends, round_sends, stops, next_hop}
use Rattle.rules.specs.Hub.{Hub}
use Rattle.rules.specs.Rest.{Table}
use Rattle.sets.specs.Mem.{mem_empty, and_both, in_lt}
use Rattle.sets.specs.Loops.{by_bool, for_each_empty}
use Rattle.order.specs.Send.{left}
use Rattle.wires.specs.Wires.{sixteen, under_way}
use Rattle.boxes.specs.Arrival.{Arrival}
use Rattle.boxes.specs.Departure.{Departure}
use Rattle.boxes.specs.Record.{Record, box_of, record_of, blank}
use Rattle.boxes.specs.Step.{step_def, woken, taken, saved, is_stopped, origins_of, sets_of}
use Rattle.boxes.specs.Laws.{woken_yes, woken_no, round_record, still_record, started_stops, start_sends_lem, box_sends}
use Rattle.mail.specs.Gather.{wire_of, clear_to}
use Rattle.turn.specs.Turn.{ends}
use Rattle.turns.specs.Turns.{Going}
use Rattle.shows.specs.Held.{Held}
use Rattle.shows.specs.Shows.{Shows, Does, some}
use Rattle.shows.specs.Steps.{Passes, passes, ends_still, ends_round, wake_sends, says_still, says_round}

-- the hub P is h, with the oldest message from a to b off its wire where one was moved; s is the store after that
pub record Off (a b : ℕ) (moved : Bool) (s : List ℕ) (P h : Hub) : Type 0 where
  pub boxes : (i : ℕ) → P.boxes i ≡ h.boxes i
  pub queues : (x y : ℕ) → (P.wires x y).queue ≡ (h.wires x y).queue
  pub ways : (x y : ℕ) → (x ≢ a) ⊎ (y ≢ b) → (P.wires x y).way ≡ (h.wires x y).way
  pub way : moved ≡ false → (P.wires a b).way ≡ (h.wires a b).way
  pub less : moved ≡ true → under_way sixteen s (wire_of a b) ≡ length (P.wires a b).way
  pub more : moved ≡ true → some (h.wires a b).way ≡ true
  pub sent : P.sent ≡ h.sent
  pub moves : P.moved ≡ cond moved (suc h.moved) h.moved
  pub full : P.full ≡ h.full

-- whose arrival it is
pub record Comes (t : List ℕ) (a b : ℕ) (k : Arrival) : Type 0 where
  pub own : k.own ≡ b
  pub «from» : k.«from» ≡ a
  pub links : k.links ≡ word t b

abbrev pub Room : ℕ → Desk → Hub → Type 0
Room b D P = (y : ℕ) → y < 16 → length ((left b D P).wires b y).queue + length ((left b D P).wires b y).way + length (D.sends y) ≤ 20

saved_state : (k : Arrival) (x : Box) → (saved k x).state ≡ x.state
unfolding saved
saved_state k x = refl

started_state : (i n : ℕ) → (started 16 i n).state ≡ cond (eqb n 0) 2 1
unfolding started
started_state i n = refl

next_state : (x : Box) → (next_hop x).state ≡ cond (stops x) 2 1
unfolding next_hop
next_state x = refl

two : (n : ℕ) → eqb n 2 ≡ true → n ≡ 2
two n e = eqb-true n 2 e

module _ (t : List ℕ) (T : Table 16 t) (g : Going) (h : Hub) (S : Shows t g h) (a b : ℕ) (ha : a < 16) (hb : b < 16) (P : Hub) (k : Arrival) (s : List ℕ) (C : Comes t a b k) (O : Off a b k.moved s P h) where
  abbrev r : Record
  r = get_or g.row b blank

  abbrev o : Departure
  o = (step_def r k).out

  abbrev n : ℕ
  n = word t b

  pass : Passes k o
  pass = passes r k

  box_is : box_of r ≡ h.boxes b
  box_is = S.boxes b hb

  woken_up : k.wakes ≡ true → woken r k ≡ started 16 b n
  woken_up e = woken_yes r k e ∙ ap₂ (λ (x y : ℕ). started 16 x y) here C.links
    where
      here : k.own % 16 ≡ b
      here = omega (arith, C.own)

  woken_same : k.wakes ≡ false → woken r k ≡ h.boxes b
  woken_same e = woken_no r k e ∙ box_is

  -- ---- no round

  module _ (round : k.round ≡ false) (slept : k.wakes ≡ true → (h.boxes b).state ≡ 0) (q : ℕ → List Msg) (small : k.heard < 2 ^ 16) (hears : (x : ℕ) → x < 16 → mem x k.heard ≡ some (q x))
      (alone : n ≡ 0 → (x : ℕ) → q x ≡ []) where
    abbrev pub still_desk : Desk
    still_desk = record { box = saved k (woken r k); queues = q; sends = wake_sends r k b n; taken = λ x. [] }

    still_ends : ends o ≡ true → n ≡ 0
    still_ends e =
        let (x, w) = and_both (is_stopped (woken r k)) k.wakes (sym (ends_still r k round) ∙ e) in
        eqb-true n 0 (sym (started_stops b n) ∙ ap is_stopped (sym (woken_up w)) ∙ x)

    still_clear : cond (ends o) (clear_to b n 16 s) s ≡ s
    unfolding clear_to
    still_clear = by_bool (ends o) (λ e. rw e (ap (λ (x : ℕ). clear_to b x 16 s) (still_ends e) ∙ for_each_empty _ 16 s)) (λ e. rw e)

    still_none : (j : ℕ) → mem j n ≡ false → wake_sends r k b n j ≡ []
    unfolding start_sends
    still_none j v = by_bool k.wakes (λ e. rw (e, v)) (λ e. rw e)

    pub still_does : Held s (left b still_desk P).wires → Room b still_desk P → Does t T g h P still_desk a b ha hb s o
    still_does H R = record {
      own = pass.own ∙ C.own;
      «from» = pass.«from» ∙ C.«from»;
      held = subst (λ (x : List ℕ). Held x (left b still_desk P).wires) (sym still_clear) H;
      says = λ j hj v. says_still r k b n j hb C.own round v;
      mute = still_none;
      loud = λ e j v.
          let w : k.wakes ≡ true = sym (or-false k.wakes) ∙ sym (ap₂ ◌||◌ pass.wakes (pass.round ∙ round)) ∙ e in
          ap some (ap (λ (x : Bool). cond x (start_sends b n j) []) w ∙ start_sends_lem b n j v);
      still = λ e j.
          let w : k.wakes ≡ false = sym (or-false k.wakes) ∙ sym (ap₂ ◌||◌ pass.wakes (pass.round ∙ round)) ∙ e in
          ap (λ (x : Bool). cond x (start_sends b n j) []) w;
      room = R;
      stops = λ e. let (x, w) = and_both (is_stopped (woken r k)) k.wakes (sym (ends_still r k round) ∙ e) in saved_state k (woken r k) ∙ two _ x;
      wakes = λ e f.
          let w : k.wakes ≡ true = sym pass.wakes ∙ f in
          saved_state k (woken r k) ∙ ap (λ (x : Box). x.state) (woken_up w) ∙ started_state b n
          ∙ by_bool (eqb n 0)
          (λ z. absurd (false≢true (sym e ∙ ends_still r k round ∙ ap₂ ◌&&◌ (ap is_stopped (woken_up w) ∙ started_stops b n ∙ z) w)))
          (λ z. ap (λ (x : Bool). cond x 2 1) z);
      slept = λ f. slept (sym pass.wakes ∙ f);
      stays = λ e f. saved_state k (woken r k) ∙ ap (λ (x : Box). x.state) (woken_same (sym pass.wakes ∙ f));
      heard_set = rw pass.heard small;
      hears = λ x hx. by_bool (ends o)
          (λ e. ap (λ (y : Bool). mem x (cond y 0 o.heard)) e ∙ mem_empty x ∙ sym (ap some (alone (still_ends e) x)))
          (λ e. ap (λ (y : Bool). mem x (cond y 0 o.heard)) e ∙ ap (mem x) pass.heard ∙ hears x hx);
      boxes = O.boxes;
      queues = O.queues;
      ways = O.ways;
      way = λ e. O.way (sym pass.moved ∙ e);
      less = λ e. O.less (sym pass.moved ∙ e);
      more = λ e. O.more (sym pass.moved ∙ e);
      sent = O.sent;
      moved = O.moves ∙ ap (λ (x : Bool). cond x (suc h.moved) h.moved) (sym pass.moved);
      full = O.full;
    }

    pub still_rec : (step_def r k).«record» ≡ record_of still_desk.box
    still_rec = still_record r k round

  -- ---- a round

  module _ (round : k.round ≡ true) (slept : k.wakes ≡ true → (h.boxes b).state ≡ 0) (awake : k.wakes ≡ false → (h.boxes b).state ≡ 1) (q : ℕ → List Msg) (small : k.heard < 2 ^ 16)
      (low : (taken k (woken r k)).hop < 65535) (hears : (x : ℕ) → x < 16 → mem x (cond (stops (taken k (woken r k))) 0 k.heard) ≡ some (q x)) where
    abbrev pub B : Box
    B = taken k (woken r k)

    abbrev pub round_desk : Desk
    round_desk = record { box = saved k (next_hop B); queues = q; sends = λ j. wake_sends r k b n j ++ round_sends 16 n B j; taken = λ x. [] }

    round_none : (j : ℕ) → mem j n ≡ false → wake_sends r k b n j ++ round_sends 16 n B j ≡ []
    unfolding start_sends round_sends
    round_none j v = by_bool k.wakes (λ e. rw (e, v)) (λ e. rw (e, v))

    round_some : (j : ℕ) → mem j n ≡ true → some (wake_sends r k b n j ++ round_sends 16 n B j) ≡ true
    round_some j v =
        ap (λ (l : List Msg). some (wake_sends r k b n j ++ l)) (box_sends n B j v (in_lt 16 n j (T.small b) v))
        ∙ ended (wake_sends r k b n j) (map (λ x. neighbors x (word B.neighbors x)) (members 16 (word (origins_of B) j))) (notspt (word (sets_of B) j))
      where
        ended : (x y : List Msg) (m : Msg) → some (x ++ (y ++ (m ∷ []))) ≡ true
        ended x y m = lt-ltb 0 (length (x ++ (y ++ (m ∷ [])))) (omega (arith, length-append x (y ++ (m ∷ [])), length-append y (m ∷ [])))

    pub round_does : Held (cond (stops B) (clear_to b n 16 s) s) (left b round_desk P).wires → Room b round_desk P → Does t T g h P round_desk a b ha hb s o
    round_does H R = record {
      own = pass.own ∙ C.own;
      «from» = pass.«from» ∙ C.«from»;
      held = subst (λ (x : Bool). Held (cond x (clear_to b n 16 s) s) (left b round_desk P).wires) (sym (ends_round r k round)) H;
      says = λ j hj v. says_round r k b n j hb hj C.own C.links round v;
      mute = round_none;
      loud = λ e j v. round_some j v;
      still = λ e j. absurd (false≢true (sym e ∙ ap (λ (x : Bool). o.wakes || x) (pass.round ∙ round) ∙ or-true o.wakes));
      room = R;
      stops = λ e. saved_state k (next_hop B) ∙ next_state B ∙ ap (λ (x : Bool). cond x 2 1) (sym (ends_round r k round) ∙ e);
      wakes = λ e f. saved_state k (next_hop B) ∙ next_state B ∙ ap (λ (x : Bool). cond x 2 1) (sym (ends_round r k round) ∙ e);
      slept = λ f. slept (sym pass.wakes ∙ f);
      stays = λ e f. saved_state k (next_hop B) ∙ next_state B ∙ ap (λ (x : Bool). cond x 2 1) (sym (ends_round r k round) ∙ e) ∙ sym (awake (sym pass.wakes ∙ f));
      heard_set = rw pass.heard small;
      hears = λ x hx. ap₂ (λ (y : Bool) (z : ℕ). mem x (cond y 0 z)) (ends_round r k round) pass.heard ∙ hears x hx;
      boxes = O.boxes;
      queues = O.queues;
      ways = O.ways;
      way = λ e. O.way (sym pass.moved ∙ e);
      less = λ e. O.less (sym pass.moved ∙ e);
      more = λ e. O.more (sym pass.moved ∙ e);
      sent = O.sent;
      moved = O.moves ∙ ap (λ (x : Bool). cond x (suc h.moved) h.moved) (sym pass.moved);
      full = O.full;
    }

    pub round_rec : (step_def r k).«record» ≡ record_of round_desk.box
    round_rec = round_record r k round low
