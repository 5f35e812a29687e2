-- The turns of the code come to the run of the list and then the drain of the rules. Assumes nothing.
use Prim.Native.Nat.{ℕ, zero, suc, ◌+◌, ◌*◌, ◌-◌, ◌/◌, ◌%◌, ◌^◌, ◌<◌}
use Rattle.std.specs.Prelude.{◌≡◌, Bool, ◌||◌, ◌≢◌, eqb, get_or}
use Rattle.std.proofs.Math.Path.{refl, sym, ap, ap₂}
use Rattle.std.proofs.Common.{◌∙◌, subst, mod-eq_of_lt, get_or-drop, drop-drop}
use Rattle.std.proofs.Math.Bool.{true, false, cond, true≢false}
use mathlib.Core.List.{List, [], ◌∷◌}
use native.Mathlib.Omega.{arith}
use Rattle.std.specs.Int.Bits.{bit_or}
use Rattle.std.proofs.Math.Dec.{ltb}
use Rattle.std.proofs.Math.ListN.{length, drop}
use Rattle.std.proofs.lemmas.List.{get_or-replicate}
use borrow.Author.Tests.{lt-ltb, le-ltb, ltb-true, eqb-true, ne_eqb}
use Rattle.rules.specs.Sets.{mem, word, least, any}
use Rattle.rules.specs.Box.{Msg, asleep}
use Rattle.rules.specs.Hub.{Hub, sleeping, deliver, act, run, drain, holds, sender, receiver}
use Rattle.rules.specs.Rest.{Table}
use Rattle.sets.specs.Mem.{mem_empty}
use Rattle.sets.specs.Loops.{by_bool, least_ok, least_hit, least_same, any_out}
use Rattle.order.specs.Invariant.{Sound}
use Rattle.order.specs.Terms.{Names, begin}
use Rattle.order.proofs.Reached.{sound}
use Rattle.order.proofs.Moves.{deliver_sound, start_sound, full_link}
use Rattle.wires.specs.Wires.{sixteen, queued, under_way, Waiting}
use Rattle.wires.specs.Words.{is_list}
use Rattle.wires.proofs.Laws.{way_length}
use Rattle.tables.specs.Tables.{laid}
use Rattle.tables.proofs.Laws.{entries_length, laid_waits, laid_formed, laid_links, laid_heard, laid_busy}
use Rattle.boxes.specs.Arrival.{Arrival}
use Rattle.boxes.specs.Departure.{Departure}
use Rattle.boxes.specs.Record.{box_of, record_of, blank, box_record}
use Rattle.mail.specs.Gather.{wire_of}
use Rattle.turn.specs.Turn.{Turn, Pair, turn_of, Took, searched, next_pair, quiet, one_list, round_of, took_round, took_first, delivered, begun, took_pair, took_def, heard_at, next_turn, put_def}
use Rattle.turns.proofs.Laws.{turns_over, turns_on, turn_pairs}
use Rattle.turns.specs.Turns.{Going, turn_def, turns_def, first_turn, asleep_row, own_def}
use Rattle.shows.specs.Held.{length_words}
use Rattle.shows.specs.Shows.{Shows}
use Rattle.shows.specs.Steps.{passes}
use Rattle.shows.specs.Delivers.{stepped_at, idle, begun_shows, delivered_shows}

-- ---- what a turn carries on besides

put_at : (s : List ℕ) (o : Departure) (c : Turn) → (put_def s o c).turn.at ≡ cond (ltb c.at c.pairs) (c.at + 1) c.at
unfolding put_def next_turn
put_at s o c = refl

put_left : (s : List ℕ) (o : Departure) (c : Turn) → (put_def s o c).turn.left ≡ cond (ltb c.at c.pairs || o.moved) (c.left - 1) 0
unfolding put_def next_turn
put_left s o c = refl

put_pairs : (s : List ℕ) (o : Departure) (c : Turn) → (put_def s o c).turn.pairs ≡ c.pairs
unfolding put_def next_turn
put_pairs s o c = refl

-- a turn, whose arrival is k for box b
turn_as : (list : List ℕ) (g : Going) (s : List ℕ) (k : Arrival) (b : ℕ) → took_def list g.store g.turn ≡ record { store = s; arrival = k } → k.own ≡ b → turn_def list g ≡ stepped_at g b s k
unfolding turn_def
turn_as list g s k b e f = ap (λ (x : Took). stepped_at g x.arrival.own x.store x.arrival) e ∙ ap (λ (i : ℕ). stepped_at g i s k) f

begun_own : (c : Turn) (a : ℕ) (s : List ℕ) → (begun c a s).arrival.own ≡ a
unfolding begun quiet
begun_own c a s = refl

-- whom a delivery is for, and that a message which is on the wire is moved
first_facts : (c : Turn) (a b x : ℕ) (s : List ℕ) → ((took_first c a b x s).arrival.own ≡ b) × ((took_first c a b x s).arrival.moved ≡ true)
unfolding took_first took_round quiet one_list round_of
first_facts c a b x s =
    by_bool (is_list x)
    (λ e. rw e (refl, refl))
    (λ e. by_bool (eqb (bit_or (heard_at c b) (2 ^ a)) (word c.links b)) (λ f. rw (e, f) (refl, refl)) (λ f. rw (e, f) (refl, refl)))

delivered_facts : (c : Turn) (a b : ℕ) (s : List ℕ)
    → ((delivered c a b s).arrival.own ≡ b) × (eqb (under_way sixteen s (wire_of a b)) 0 ≡ false → (delivered c a b s).arrival.moved ≡ true)
unfolding delivered quiet
delivered_facts c a b s =
    by_bool (eqb (under_way sixteen s (wire_of a b)) 0)
    (λ e. rw e (refl, λ z. absurd (true≢false z)))
    (λ e. by_bool (mem b c.stopped)
    (λ f. rw (e, f) (refl, λ z. refl))
    (λ f. by_bool (eqb (queued sixteen s (wire_of a b)) 0)
    (λ u. rw (e, f, u) ((first_facts c a b _ _).0, λ z. (first_facts c a b _ _).1))
    (λ u. rw (e, f, u) (refl, λ z. refl))))

-- ---- a loop that says the same

any_same : (n : ℕ) (f g : ℕ → Bool) → ((k : ℕ) → k < n → f k ≡ g k) → any n f ≡ any n g
unfolding any
any_same zero f g e = refl
any_same (suc n) f g e = ap₂ ◌||◌ (e 0 (omega arith)) (any_same n (λ k. f (suc k)) (λ k. g (suc k)) (λ k l. e (suc k) (omega arith)))

-- ---- one pair of the list

abbrev pair : ℕ → ℕ → Pair
pair x y = record { some = true; «from» = x; to = y }

next_is : (list : List ℕ) (c : Turn) (x y : ℕ) → ltb c.at c.pairs ≡ true → word list (c.at * 2) ≡ x → word list (c.at * 2 + 1) ≡ y → x < 16 → y < 16 → next_pair list c ≡ pair x y
unfolding next_pair
next_is list c x y on fx fy hx hy =
    ap (λ (b : Bool). cond b (pair (word list (c.at * 2) % 16) (word list (c.at * 2 + 1) % 16)) (searched c.busy)) on
    ∙ ap₂ pair (ap (λ (n : ℕ). n % 16) fx ∙ mod-eq_of_lt hx) (ap (λ (n : ℕ). n % 16) fy ∙ mod-eq_of_lt hy)

module _ (t : List ℕ) (T : Table 16 t) (list : List ℕ) where
  took_pair_lem : (g : Going) (a b : ℕ) → a < 16 → b < 16 → next_pair list g.turn ≡ record { some = true; «from» = a; to = b }
      → (took_def list g.store g.turn ≡ cond (eqb a b) (begun g.turn b g.store) (delivered g.turn a b g.store))
  unfolding took_def took_pair
  took_pair_lem g a b ha hb e = rw e

  pair_shows : (g : Going) (h : Hub) (a b : ℕ) → a < 16 → b < 16 → next_pair list g.turn ≡ record { some = true; «from» = a; to = b } → Shows t g h → Sound 16 t h
      → Shows t (turn_def list g) (act 16 20 t a b h)
  unfolding act
  pair_shows g h a b ha hb e S Z =
      by_bool (eqb a b)
      (λ f.
      let k : Took = begun g.turn b g.store in
      let u : turn_def list g ≡ stepped_at g b k.store k.arrival = turn_as list g k.store k.arrival b (took_pair_lem g a b ha hb e ∙ rw f) (begun_own g.turn b g.store) in
      let w : a ≡ b = eqb-true a b f in
      rw (f, u, w) (begun_shows t T g h S Z b hb))
      (λ f.
      let k : Took = delivered g.turn a b g.store in
      let u : turn_def list g ≡ stepped_at g b k.store k.arrival = turn_as list g k.store k.arrival b (took_pair_lem g a b ha hb e ∙ rw f) (delivered_facts g.turn a b g.store).0 in
      rw (f, u) (delivered_shows t T g h S Z a b ha hb))

  act_sound : (h : Hub) (a b : ℕ) → a < 16 → Sound 16 t h → Sound 16 t (act 16 20 t a b h)
  unfolding act
  act_sound h a b ha Z = by_bool (eqb a b) (λ e. rw e (start_sound 16 t T 20 (omega arith) h a ha Z)) (λ e. rw e (deliver_sound 16 t T 20 (omega arith) h a b Z))

  -- ---- what a turn carries on

  turn_at : (g : Going) → (turn_def list g).turn.at ≡ cond (ltb g.turn.at g.turn.pairs) (g.turn.at + 1) g.turn.at
  unfolding turn_def
  turn_at g = put_at _ _ g.turn

  turn_left : (g : Going) → (turn_def list g).turn.left ≡ cond (ltb g.turn.at g.turn.pairs || (took_def list g.store g.turn).arrival.moved) (g.turn.left - 1) 0
  unfolding turn_def
  turn_left g =
      put_left _ _ g.turn
      ∙ ap (λ (x : Bool). cond (ltb g.turn.at g.turn.pairs || x) (g.turn.left - 1) 0) (passes (get_or g.row (took_def list g.store g.turn).arrival.own blank) (took_def list g.store g.turn).arrival).moved

  -- ---- the pairs of the list

  pub record Listed (N B : ℕ) (g : Going) (n : ℕ) (h : Hub) : Type 0 where
    pub going : Going
    pub shows : Shows t going h
    pub sound : Sound 16 t h
    pub left : going.turn.left ≡ B
    pub at : going.turn.at ≡ N
    pub pairs : going.turn.pairs ≡ N
    pub same : turns_def (n + B) list g ≡ turns_def B list going

  none_left : (N B : ℕ) (g : Going) (h : Hub) → Shows t g h → Sound 16 t h → g.turn.left ≡ B → g.turn.at ≡ N → g.turn.pairs ≡ N → Listed N B g 0 h
  none_left N B g h S Z l a p = record { going = g; shows = S; sound = Z; left = l; at = a; pairs = p; same = let e : 0 + B ≡ B = omega arith in ap (λ (n : ℕ). turns_def n list g) e }

  pub listed : (N B : ℕ) (rest : List ℕ) (g : Going) (h : Hub) → Shows t g h → Sound 16 t h → Names 16 t rest → drop (g.turn.at * 2) list ≡ rest → g.turn.pairs ≡ N → g.turn.at + length rest / 2 ≡ N
      → g.turn.left ≡ length rest / 2 + B → Listed N B g (length rest / 2) (run 16 20 t rest h)
  unfolding run
  listed N B [] g h S Z M d p a l = none_left N B g h S Z (omega arith) (omega arith) p
  listed N B (x ∷ []) g h S Z M d p a l = none_left N B g h S Z (omega arith) (omega arith) p
  listed N B (x ∷ y ∷ rest) g h S Z M d p a l =
      let half : length (x ∷ y ∷ rest) / 2 ≡ suc (length rest / 2) = omega arith in
      let ((hx, hy), w, M') = M in
      let fx : word list (g.turn.at * 2) ≡ x = ap (word list) (sym zero_more) ∙ sym (get_or-drop (g.turn.at * 2) list 0 0) ∙ ap (λ (u : List ℕ). word u 0) d in
      let fy : word list (g.turn.at * 2 + 1) ≡ y = sym (get_or-drop (g.turn.at * 2) list 1 0) ∙ ap (λ (u : List ℕ). word u 1) d in
      let on : ltb g.turn.at g.turn.pairs ≡ true = lt-ltb g.turn.at g.turn.pairs (omega arith) in
      let next : next_pair list g.turn ≡ record { some = true; «from» = x; to = y } = next_is list g.turn x y on fx fy hx hy in
      let g₁ : Going = turn_def list g in
      let S₁ : Shows t g₁ (act 16 20 t x y h) = pair_shows g h x y hx hy next S Z in
      let at₁ : g₁.turn.at ≡ g.turn.at + 1 = turn_at g ∙ ap (λ (b : Bool). cond b (g.turn.at + 1) g.turn.at) on in
      let left₁ : g₁.turn.left ≡ g.turn.left - 1 = turn_left g ∙ ap (λ (b : Bool). cond (b || (took_def list g.store g.turn).arrival.moved) (g.turn.left - 1) 0) on in
      let two : g₁.turn.at * 2 ≡ g.turn.at * 2 + 2 = omega arith in
      let d₁ : drop (g₁.turn.at * 2) list ≡ rest = ap (λ (n : ℕ). drop n list) two ∙ sym (drop-drop 2 (g.turn.at * 2) list) ∙ ap (drop 2) d in
      let R : Listed N B g₁ (length rest / 2) (run 16 20 t rest (act 16 20 t x y h)) =
      listed N B rest g₁ (act 16 20 t x y h) S₁ (act_sound h x y hx Z) M' d₁ (turn_pairs list g _ refl ∙ p) (omega arith) (omega arith) in
      record {
        going = R.going;
        shows = R.shows;
        sound = R.sound;
        left = R.left;
        at = R.at;
        pairs = R.pairs;
        same = let s : length (x ∷ y ∷ rest) / 2 + B ≡ suc (length rest / 2 + B) = omega arith in
            ap (λ (n : ℕ). turns_def n list g) s ∙ turns_on (length rest / 2 + B) list g _ (omega arith) refl ∙ R.same;
      }
    where
      zero_more : g.turn.at * 2 + 0 ≡ g.turn.at * 2
      zero_more = omega arith

  -- ---- the drain

  module _ (g : Going) (h : Hub) (S : Shows t g h) (Z : Sound 16 t h) (done : ltb g.turn.at g.turn.pairs ≡ false) where
    sends_same : (a : ℕ) → a < 16 → any 16 (λ b. mem b (word g.turn.busy a)) ≡ any 16 (holds h a)
    unfolding holds
    sends_same a ha = any_same 16 _ _ (λ b hb. S.busy a b ha hb)

    sender_is : least 16 (λ a. any 16 (λ b. mem b (word g.turn.busy a))) ≡ sender 16 h
    unfolding sender
    sender_is = least_same 16 _ _ sends_same

    receiver_is : sender 16 h < 16 → least 16 (λ b. mem b (word g.turn.busy (sender 16 h))) ≡ receiver 16 h
    unfolding receiver holds
    receiver_is l = least_same 16 _ _ (λ b hb. S.busy (sender 16 h) b l hb)

    searches : next_pair list g.turn ≡ searched g.turn.busy
    unfolding next_pair
    searches = ap (λ (b : Bool). cond b (pair (word list (g.turn.at * 2) % 16) (word list (g.turn.at * 2 + 1) % 16)) (searched g.turn.busy)) done

    -- some wire holds a message
    module _ (l : sender 16 h < 16) where
      found : next_pair list g.turn ≡ pair (sender 16 h) (receiver 16 h)
      unfolding searched
      found =
          searches ∙ ap (λ (a : ℕ). told a (least 16 (λ b. mem b (word g.turn.busy a)))) sender_is
          ∙ ap (told (sender 16 h)) (receiver_is l)
          ∙ ap (λ (b : Bool). record { some = b; «from» = cond b (sender 16 h) 0; to = cond b (receiver 16 h) 0 }) (lt-ltb (sender 16 h) 16 l)
        where
          told : ℕ → ℕ → Pair
          told a b = record { some = ltb a 16; «from» = cond (ltb a 16) a 0; to = cond (ltb a 16) b 0 }

      some_receiver : any 16 (holds h (sender 16 h)) ≡ true
      unfolding sender
      some_receiver = least_ok 16 (λ a. any 16 (holds h a)) l

      receiver_lt : (receiver 16 h < 16) × (holds h (sender 16 h) (receiver 16 h) ≡ true)
      unfolding receiver
      receiver_lt = let (b, hb, y) = any_out 16 (holds h (sender 16 h)) some_receiver in let (u, v) = least_hit 16 (holds h (sender 16 h)) b hb y in (omega arith, v)

      on_way : length (h.wires (sender 16 h) (receiver 16 h)).way ≢ 0
      unfolding holds
      on_way z = true≢false (sym receiver_lt.1 ∙ ap (ltb 0) z)

      other : eqb (sender 16 h) (receiver 16 h) ≡ false
      other = ne_eqb _ _ (λ z. go (h.wires (sender 16 h) (receiver 16 h)).way refl z)
        where
          go : (k : List Msg) → (h.wires (sender 16 h) (receiver 16 h)).way ≡ k → sender 16 h ≡ receiver 16 h → ⊥
          go [] y z = on_way (ap length y)
          go (m ∷ q) y z = true≢false (sym (full_link 16 t h _ _ m q y Z.good) ∙ ap (λ (x : ℕ). mem x (word t (sender 16 h))) (sym z) ∙ T.apart (sender 16 h))

      drained_one : Shows t (turn_def list g) (deliver 16 20 t (sender 16 h) (receiver 16 h) h)
      unfolding act
      drained_one = rw other at (pair_shows g h (sender 16 h) (receiver 16 h) l receiver_lt.0 found S Z)

      moved_one : (took_def list g.store g.turn).arrival.moved ≡ true
      moved_one =
          ap (λ (k : Took). k.arrival.moved) (took_pair_lem g (sender 16 h) (receiver 16 h) l receiver_lt.0 found ∙ pick other)
          ∙ (delivered_facts g.turn (sender 16 h) (receiver 16 h) g.store).1 (ne_eqb _ 0 (λ z. on_way (sym (length_words (h.wires (sender 16 h) (receiver 16 h)).way) ∙ sym (ap (λ (x : Waiting). length x.way) (S.held.at _ _ l receiver_lt.0)) ∙ way_length sixteen g.store _ ∙ z)))
        where
          pick : eqb (sender 16 h) (receiver 16 h) ≡ false
              → cond (eqb (sender 16 h) (receiver 16 h)) (begun g.turn (receiver 16 h) g.store) (delivered g.turn (sender 16 h) (receiver 16 h) g.store) ≡ delivered g.turn (sender 16 h) (receiver 16 h) g.store
          pick e = rw e

    -- none does
    module _ (n : ltb (sender 16 h) 16 ≡ false) where
      took_none : took_def list g.store g.turn ≡ record { store = g.store; arrival = quiet g.turn 0 0 false false (heard_at g.turn 0) }
      unfolding took_def took_pair searched
      took_none =
          ap (λ (p : Pair). took_pair g.turn p g.store) searches
          ∙ ap (λ (b : Bool). cond b (cond (eqb (cond b x 0) (cond b y 0)) (begun g.turn (cond b y 0) g.store) (delivered g.turn (cond b x 0) (cond b y 0) g.store))
          (record { store = g.store; arrival = quiet g.turn 0 0 false false (heard_at g.turn 0) })) (ap (λ (a : ℕ). ltb a 16) sender_is ∙ n)
        where
          x : ℕ
          x = least 16 (λ a. any 16 (λ b. mem b (word g.turn.busy a)))

          y : ℕ
          y = least 16 (λ b. mem b (word g.turn.busy x))

      rests_so : Shows t (turn_def list g) h
      unfolding quiet
      rests_so = rw (turn_as list g g.store (quiet g.turn 0 0 false false (heard_at g.turn 0)) 0 took_none refl) (idle t T g h S Z 0 0 (omega arith) (omega arith))

      left_none : (turn_def list g).turn.left ≡ 0
      unfolding quiet
      left_none = turn_left g ∙ ap₂ (λ (x y : Bool). cond (x || y) (g.turn.left - 1) 0) done (ap (λ (k : Took). k.arrival.moved) took_none)

  pub drained : (B : ℕ) (g : Going) (h : Hub) → Shows t g h → Sound 16 t h → ltb g.turn.at g.turn.pairs ≡ false → g.turn.left ≡ B → Shows t (turns_def B list g) (drain 16 20 t B h)
  unfolding drain turns_def
  drained zero g h S Z d l = S
  drained (suc B) g h S Z d l =
      rw (turns_on B list g _ (omega arith) refl) (by_bool (ltb (sender 16 h) 16)
      (λ e.
      let k : sender 16 h < 16 = ltb-true _ _ e in
      let g₁ : Going = turn_def list g in
      let d₁ : ltb g₁.turn.at g₁.turn.pairs ≡ false = ap₂ ltb (turn_at g ∙ ap (λ (b : Bool). cond b (g.turn.at + 1) g.turn.at) d) (turn_pairs list g _ refl) ∙ d in
      let l₁ : g₁.turn.left ≡ B = turn_left g ∙ ap₂ (λ (x y : Bool). cond (x || y) (g.turn.left - 1) 0) d (moved_one g h S Z d k) ∙ omega arith in
      rw e (drained B g₁ (deliver 16 20 t (sender 16 h) (receiver 16 h) h) (drained_one g h S Z d k) (deliver_sound 16 t T 20 (omega arith) h _ _ Z) d₁ l₁))
      (λ e. rw (e, turns_over B list (turn_def list g) (left_none g h S Z d e)) (rests_so g h S Z d e)))

-- ---- from a sleeping hub

asleep_shows : (t : List ℕ) → Table 16 t → (pairs budget : ℕ) → Shows t (record { row = asleep_row; store = laid t; turn = turn_of (first_turn pairs budget) (laid t) }) (sleeping 16)
unfolding first_turn
asleep_shows t T pairs budget = record {
  rows = refl;
  boxes = λ i hi. ap box_of (get_or-replicate 16 i (record_of (asleep 16)) blank hi) ∙ box_record (asleep 16);
  held = record { formed = laid_formed t; at = λ a b ha hb. laid_waits t (wire_of a b) };
  links = laid_links t T.size (λ b hb. T.small b);
  sent = refl;
  moved = refl;
  full = refl;
  awake = λ i hi. mem_empty i;
  stopped = λ i hi. mem_empty i;
  heard_size = entries_length (laid t) 16 16;
  heard_set = λ b hb. rw (laid_heard t b hb) (omega arith);
  heard = λ a b ha hb. ap (mem a) (laid_heard t b hb) ∙ mem_empty a;
  busy_size = entries_length (laid t) 32 16;
  busy = λ a b ha hb. ap (mem b) (laid_busy t a ha) ∙ mem_empty b;
}

-- The owner's turns, on a list that names what it should, show the rules' run of the list and then the drain of the budget.
pub own_shows : (t : List ℕ) (T : Table 16 t) (list : List ℕ) (budget : ℕ) → Names 16 t list
    → Shows t (own_def list t budget) (drain 16 20 t budget (run 16 20 t list (sleeping 16))) × Sound 16 t (run 16 20 t list (sleeping 16))
unfolding own_def first_turn
own_shows t T list budget M =
    let N : ℕ = length list / 2 in
    let g : Going = record { row = asleep_row; store = laid t; turn = turn_of (first_turn N budget) (laid t) } in
    let L : Listed t T list N budget g N (run 16 20 t list (sleeping 16)) =
    listed t T list N budget list g (sleeping 16) (asleep_shows t T N budget) (sound 16 20 t T (omega arith) begin) M refl refl (omega arith) refl in
    let d : ltb L.going.turn.at L.going.turn.pairs ≡ false = ap₂ ltb L.at L.pairs ∙ le-ltb N N (omega arith) in (
      subst (λ (x : Going). Shows t x (drain 16 20 t budget (run 16 20 t list (sleeping 16)))) (sym L.same)
          (drained t T list budget L.going (run 16 20 t list (sleeping 16)) L.shows L.sound d L.left),
      L.sound,
    )
