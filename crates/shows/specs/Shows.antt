-- The code's row, store and turn beside the rules' hub, and that a turn which does what a settled box does shows the settled hub. Assumes nothing.
use Rattle.std.specs.Prelude.{ℕ, suc, ◌+◌, ◌-◌, ◌%◌, ◌^◌, ◌≤◌, ◌<◌, ◌≡◌, refl, Bool, true, false, not, cond, ◌&&◌, ◌||◌, List, [], ◌∷◌, ◌++◌, ◌⊎◌, ◌≢◌, eqb, ltb, length, get_or, set}
use Rattle.std.proofs.Math.Path.{sym, ap, subst}
use Rattle.std.proofs.Common.{ap₂, ◌∙◌, subst₂, inl, inr, ⊎_elim, arith, length-set, get_or-set_same, get_or-set_other, lt-ltb, eq-eqb, ne_eqb}
use Rattle.std.proofs.Math.Bool.{and-true, and-false, or-true, or-false}
use Rattle.std.proofs.Math.Decide.{ℕ_discrete}
use Rattle.std.specs.Int.Bits.{bit_or}
use Rattle.rules.specs.Sets.{mem, without, word, for_each}
use Rattle.rules.specs.Box.{Msg, Box, Desk}
use Rattle.rules.specs.Hub.{Hub}
use Rattle.rules.specs.Rest.{Table}
use Rattle.sets.specs.Mem.{mem_or, mem_without, mem_one}
use Rattle.sets.specs.Loops.{by_bool}
use Rattle.sets.specs.Tables.{upd_same, upd_other}
use Rattle.order.specs.Send.{left, settled}
use Rattle.wires.specs.Wires.{sixteen, Waiting, under_way}
use Rattle.boxes.specs.Departure.{Departure}
use Rattle.boxes.specs.Record.{Record, box_of, record_of, blank, box_record}
use Rattle.mail.specs.Letter.{post_link}
use Rattle.mail.specs.Post.{Posted}
use Rattle.mail.specs.Gather.{wire_of, clear_to}
use Rattle.turn.specs.Turn.{Turn, less_of, kept_tables, letter, post_to, less_busy, more_busy, ends, next_turn, put_def}
use Rattle.turns.specs.Turns.{Going}
use Rattle.shows.specs.Held.{held_of, Held, held_same, held_tables}
use Rattle.shows.specs.Posts.{Sends, letter_list, next_count}
use Rattle.shows.specs.Settles.{Alike, settled_queue, settled_way, settled_boxes, settled_moved, posts_settled}

-- a message waits
abbrev pub some : List Msg → Bool
some l = ltb 0 (length l)

pub record Shows (t : List ℕ) (g : Going) (h : Hub) : Type 0 where
  pub rows : length g.row ≡ 16
  pub boxes : (i : ℕ) → i < 16 → box_of (get_or g.row i blank) ≡ h.boxes i
  pub held : Held g.store h.wires
  pub links : g.turn.links ≡ t
  -- the counts are 32-bit numbers
  pub sent : g.turn.sent ≡ h.sent % 4294967296
  pub moved : g.turn.moved ≡ h.moved % 4294967296
  pub full : g.turn.full ≡ h.full
  -- who is awake, and who has stopped
  pub awake : (i : ℕ) → i < 16 → mem i g.turn.awake ≡ eqb (h.boxes i).state 1
  pub stopped : (i : ℕ) → i < 16 → mem i g.turn.stopped ≡ eqb (h.boxes i).state 2
  -- whose queue, and whose wire, holds a message
  pub heard_size : length g.turn.heard ≡ 16
  pub heard_set : (b : ℕ) → b < 16 → word g.turn.heard b < 2 ^ 16
  pub heard : (a b : ℕ) → a < 16 → b < 16 → mem a (word g.turn.heard b) ≡ some (h.wires a b).queue
  pub busy_size : length g.turn.busy ≡ 16
  pub busy : (a b : ℕ) → a < 16 → b < 16 → mem b (word g.turn.busy a) ≡ some (h.wires a b).way

-- hubs that show the same are shown by the same
pub shows_alike : (t : List ℕ) (g : Going) (h k : Hub) → Shows t g h → Alike h k → Shows t g k
shows_alike t g h k S A = record {
  rows = S.rows;
  boxes = λ i hi. S.boxes i hi ∙ A.boxes i;
  held = held_same g.store h.wires k.wires S.held (λ a b ha hb. ap₂ pair (sym (A.queue a b)) (sym (A.way a b)));
  links = S.links;
  sent = S.sent ∙ ap (λ (n : ℕ). n % 4294967296) A.sent;
  moved = S.moved ∙ ap (λ (n : ℕ). n % 4294967296) A.moved;
  full = S.full ∙ A.full;
  awake = λ i hi. S.awake i hi ∙ ap (λ (b : Box). eqb b.state 1) (A.boxes i);
  stopped = λ i hi. S.stopped i hi ∙ ap (λ (b : Box). eqb b.state 2) (A.boxes i);
  heard_size = S.heard_size;
  heard_set = S.heard_set;
  heard = λ a b ha hb. S.heard a b ha hb ∙ ap some (A.queue a b);
  busy_size = S.busy_size;
  busy = λ a b ha hb. S.busy a b ha hb ∙ ap some (A.way a b);
}
  where
    pair : List Msg → List Msg → Waiting
    pair q l = held_of (record { log = []; taken = []; queue = q; way = l })

-- ---- sets with one box more or less

pub mem_add : (s b i : ℕ) → mem i (bit_or s (2 ^ b)) ≡ mem i s || eqb i b
mem_add s b i = mem_or i s (2 ^ b) ∙ ap (λ (x : Bool). mem i s || x) (mem_one i b)

pub mem_less : (s b i : ℕ) → mem i (without s (2 ^ b)) ≡ mem i s && not (eqb i b)
mem_less s b i = mem_without i s (2 ^ b) ∙ ap (λ (x : Bool). mem i s && not x) (mem_one i b)

pub add_here : (s b : ℕ) → mem b (bit_or s (2 ^ b)) ≡ true
add_here s b = mem_add s b b ∙ rw (eq-eqb b b refl) (or-true (mem b s))

pub add_other : (s b i : ℕ) → i ≢ b → mem i (bit_or s (2 ^ b)) ≡ mem i s
add_other s b i z = mem_add s b i ∙ rw (ne_eqb i b z) (or-false (mem i s))

pub less_here : (s b : ℕ) → mem b (without s (2 ^ b)) ≡ false
less_here s b = mem_less s b b ∙ rw (eq-eqb b b refl) (and-false (mem b s))

pub less_other : (s b i : ℕ) → i ≢ b → mem i (without s (2 ^ b)) ≡ mem i s
less_other s b i z = mem_less s b i ∙ rw (ne_eqb i b z) (and-true (mem i s))

-- ---- whether a message waits

some_none : (l : List Msg) → length l ≡ 0 → some l ≡ false
some_none l e = rw e

some_any : (l : List Msg) → length l ≢ 0 → some l ≡ true
some_any l z = lt-ltb 0 (length l) (omega arith)

some_append : (l k : List Msg) → some (l ++ k) ≡ some l || some k
some_append [] k = refl
some_append (m ∷ l) k = lt-ltb 0 (length ((m ∷ l) ++ k)) (omega arith) ∙ sym (ap (λ (x : Bool). x || some k) (lt-ltb 0 (length (m ∷ l)) (omega arith)))

-- ---- a turn of box b, which the rules tell as the desk D settled on the hub P

module _ (t : List ℕ) (T : Table 16 t) (g : Going) (h P : Hub) (D : Desk) (a b : ℕ) (ha : a < 16) (hb : b < 16) (s : List ℕ) (o : Departure) where
  pub record Does : Type 0 where
    pub own : o.own ≡ b
    pub «from» : o.«from» ≡ a
    -- the queues are as the desk has them, once a box that ends has emptied its own
    pub held : Held (cond (ends o) (clear_to b (word t b) 16 s) s) (left b D P).wires
    -- what goes out
    pub says : (j : ℕ) → j < 16 → mem j (word t b) ≡ true → letter_list (letter o j) o.neighbors ≡ D.sends j
    pub mute : (j : ℕ) → mem j (word t b) ≡ false → D.sends j ≡ []
    pub loud : o.wakes || o.round ≡ true → (j : ℕ) → mem j (word t b) ≡ true → some (D.sends j) ≡ true
    pub still : o.wakes || o.round ≡ false → (j : ℕ) → D.sends j ≡ []
    pub room : (y : ℕ) → y < 16 → length ((left b D P).wires b y).queue + length ((left b D P).wires b y).way + length (D.sends y) ≤ 20
    -- the box's state
    pub stops : ends o ≡ true → D.box.state ≡ 2
    pub wakes : ends o ≡ false → o.wakes ≡ true → D.box.state ≡ 1
    pub slept : o.wakes ≡ true → (h.boxes b).state ≡ 0
    pub stays : ends o ≡ false → o.wakes ≡ false → D.box.state ≡ (h.boxes b).state
    -- the links whose queue holds a message
    pub heard_set : o.heard < 2 ^ 16
    pub hears : (x : ℕ) → x < 16 → mem x (cond (ends o) 0 o.heard) ≡ some (D.queues x)
    -- the hub before it: the message is off its wire, or nothing is
    pub boxes : (i : ℕ) → P.boxes i ≡ h.boxes i
    pub queues : (x y : ℕ) → (P.wires x y).queue ≡ (h.wires x y).queue
    pub ways : (x y : ℕ) → (x ≢ a) ⊎ (y ≢ b) → (P.wires x y).way ≡ (h.wires x y).way
    pub way : o.moved ≡ false → (P.wires a b).way ≡ (h.wires a b).way
    pub less : o.moved ≡ true → under_way sixteen s (wire_of a b) ≡ length (P.wires a b).way
    pub more : o.moved ≡ true → some (h.wires a b).way ≡ true
    pub sent : P.sent ≡ h.sent
    pub moved : P.moved ≡ cond o.moved (suc h.moved) h.moved
    pub full : P.full ≡ h.full

  module _ (S : Shows t g h) (F : Does) where
    own_mod : o.own % 16 ≡ b
    own_mod = omega (arith, F.own)

    from_mod : o.«from» % 16 ≡ a
    from_mod = omega (arith, F.«from»)

    abbrev c : Turn
    c = g.turn

    abbrev before : Posted
    before = record { store = cond (ends o) (clear_to b (word t b) 16 s) s; sent = c.sent; full = c.full }

    abbrev after : Hub
    after = settled 16 b D P

    posted : Sends (post_to o (word t b) 16 before) after
    unfolding post_to
    posted =
        subst (λ (x : ℕ). Sends (for_each (word t b) (λ j. post_link (wire_of x j) (letter o j) o.neighbors) 16 before) after) (sym own_mod) (posts_settled b (word t b) (letter o) o.neighbors D P before hb (T.small b)
        (record { held = F.held; sent = S.sent ∙ ap (λ (n : ℕ). n % 4294967296) (sym F.sent); full = S.full ∙ sym F.full })
        F.says F.mute F.room)

    -- ---- the boxes

    box_here : (after.boxes b) ≡ D.box
    box_here = settled_boxes 16 b D P b ∙ upd_same P.boxes b D.box

    box_other : (i : ℕ) → i ≢ b → after.boxes i ≡ h.boxes i
    box_other i z = settled_boxes 16 b D P i ∙ upd_other P.boxes b D.box i z ∙ F.boxes i

    -- ---- awake and stopped

    abbrev awake_now : ℕ
    awake_now = cond (ends o) (without c.awake (2 ^ b)) (cond o.wakes (bit_or c.awake (2 ^ b)) c.awake)

    abbrev stopped_now : ℕ
    stopped_now = cond (ends o) (bit_or c.stopped (2 ^ b)) c.stopped

    awake_here : mem b awake_now ≡ eqb D.box.state 1
    awake_here =
        by_bool (ends o)
        (λ e. rw (e, F.stops e) (less_here c.awake b))
        (λ e. by_bool o.wakes
        (λ f. rw (e, f, F.wakes e f) (add_here c.awake b))
        (λ f. rw (e, f) (S.awake b hb ∙ ap (λ (n : ℕ). eqb n 1) (sym (F.stays e f)))))

    awake_other : (i : ℕ) → i ≢ b → mem i awake_now ≡ mem i c.awake
    awake_other i z =
        by_bool (ends o)
        (λ e. rw e (less_other c.awake b i z))
        (λ e. by_bool o.wakes (λ f. rw (e, f) (add_other c.awake b i z)) (λ f. rw (e, f)))

    stopped_here : mem b stopped_now ≡ eqb D.box.state 2
    stopped_here =
        by_bool (ends o)
        (λ e. rw (e, F.stops e) (add_here c.stopped b))
        (λ e. by_bool o.wakes
        (λ f. rw (e, F.wakes e f) (S.stopped b hb ∙ ap (λ (n : ℕ). eqb n 2) (F.slept f)))
        (λ f. rw e (S.stopped b hb ∙ ap (λ (n : ℕ). eqb n 2) (sym (F.stays e f)))))

    stopped_other : (i : ℕ) → i ≢ b → mem i stopped_now ≡ mem i c.stopped
    stopped_other i z = by_bool (ends o) (λ e. rw e (add_other c.stopped b i z)) (λ e. rw e)

    -- ---- the wires that are busy

    abbrev less_now : List ℕ
    less_now = cond (o.moved && eqb (under_way sixteen s (wire_of a b)) 0) (set c.busy a (without (word c.busy a) (2 ^ b))) c.busy

    less_size : length less_now ≡ 16
    less_size = by_bool (o.moved && eqb (under_way sixteen s (wire_of a b)) 0) (λ e. rw e (length-set c.busy a _ ∙ S.busy_size)) (λ e. rw e S.busy_size)

    less_here_is : mem b (word less_now a) ≡ some (P.wires a b).way
    less_here_is =
        by_bool o.moved
        (λ m. elim (ℕ_discrete (length (P.wires a b).way) 0) [
          | yes z ↦ rw (m, F.less m, eq-eqb (length (P.wires a b).way) 0 z, get_or-set_same c.busy a (without (word c.busy a) (2 ^ b)) 0 (omega (arith, S.busy_size)))
              (less_here (word c.busy a) b ∙ sym (some_none (P.wires a b).way z))
          | no z ↦ rw (m, F.less m, ne_eqb (length (P.wires a b).way) 0 z) (S.busy a b ha hb ∙ F.more m ∙ sym (some_any (P.wires a b).way z))
        ])
        (λ m. rw m (S.busy a b ha hb ∙ ap some (sym (F.way m))))

    less_other_is : (x y : ℕ) → x < 16 → y < 16 → (x ≢ a) ⊎ (y ≢ b) → mem y (word less_now x) ≡ some (P.wires x y).way
    less_other_is x y hx hy z =
        by_bool (o.moved && eqb (under_way sixteen s (wire_of a b)) 0)
        (λ e. rw e (elim (ℕ_discrete x a) [
          | yes u ↦ rw (u, get_or-set_same c.busy a (without (word c.busy a) (2 ^ b)) 0 (omega (arith, S.busy_size)))
              (less_other (word c.busy a) b y (⊎_elim (λ v. absurd (v u)) (λ v. v) z) ∙ ap (λ (k : ℕ). mem y (word c.busy k)) (sym u) ∙ S.busy x y hx hy ∙ ap some (sym (F.ways x y z)) ∙ ap (λ (k : ℕ). some (P.wires k y).way) u)
          | no u ↦ ap (mem y) (get_or-set_other c.busy a x _ 0 u) ∙ S.busy x y hx hy ∙ ap some (sym (F.ways x y z))
        ]))
        (λ e. rw e (S.busy x y hx hy ∙ ap some (sym (F.ways x y z))))

    less_is : (x y : ℕ) → x < 16 → y < 16 → mem y (word less_now x) ≡ some (P.wires x y).way
    less_is x y hx hy =
        elim (ℕ_discrete x a) [
          | yes u ↦ elim (ℕ_discrete y b) [ yes v ↦ rw (u, v) less_here_is | no v ↦ less_other_is x y hx hy (inr v) ]
          | no u ↦ less_other_is x y hx hy (inl u)
        ]

    abbrev busy_now : List ℕ
    busy_now = cond (o.wakes || o.round) (set less_now b (bit_or (word less_now b) (word t b))) less_now

    busy_size : length busy_now ≡ 16
    busy_size = by_bool (o.wakes || o.round) (λ e. rw e (length-set less_now b _ ∙ less_size)) (λ e. rw e less_size)

    sends_some : o.wakes || o.round ≡ true → (y : ℕ) → some (D.sends y) ≡ mem y (word t b)
    sends_some e y = by_bool (mem y (word t b)) (λ v. F.loud e y v ∙ sym v) (λ v. ap some (F.mute y v) ∙ sym v)

    way_is : (x y : ℕ) → some (after.wires x y).way ≡ some (P.wires x y).way || some (cond (eqb x b) (D.sends y) [])
    way_is x y = ap some (settled_way 16 b D P x y) ∙ some_append (P.wires x y).way (cond (eqb x b) (D.sends y) [])

    busy_is : (x y : ℕ) → x < 16 → y < 16 → mem y (word busy_now x) ≡ some (after.wires x y).way
    busy_is x y hx hy =
        elim (ℕ_discrete x b) [
          | yes u ↦ by_bool (o.wakes || o.round)
              (λ e. rw (e, u, get_or-set_same less_now b (bit_or (word less_now b) (word t b)) 0 (omega (arith, less_size)))
              (mem_or y (word less_now b) (word t b) ∙ ap₂ ◌||◌ (less_is b y hb hy) (sym (sends_some e y)) ∙ sym (way_is b y ∙ rw (eq-eqb b b refl))))
              (λ e. rw (e, u) (less_is b y hb hy ∙ sym (or-false _) ∙ ap (λ (l : List Msg). some (P.wires b y).way || some l) (sym (F.still e y)) ∙ sym (way_is b y ∙ rw (eq-eqb b b refl))))
          | no u ↦
              let r : word busy_now x ≡ word less_now x = by_bool (o.wakes || o.round) (λ e. rw e (get_or-set_other less_now b x _ 0 u)) (λ e. rw e) in
              ap (mem y) r ∙ less_is x y hx hy ∙ sym (way_is x y ∙ rw (ne_eqb x b u) (or-false _))
        ]

    -- ---- the queues that hold a message

    abbrev heard_now : List ℕ
    heard_now = set c.heard b (cond (ends o) 0 o.heard)

    heard_here : word heard_now b ≡ cond (ends o) 0 o.heard
    heard_here = get_or-set_same c.heard b _ 0 (omega (arith, S.heard_size))

    queue_here : (x : ℕ) → (after.wires x b).queue ≡ D.queues x
    queue_here x = settled_queue 16 b D P x b ∙ rw (eq-eqb b b refl)

    queue_other : (x y : ℕ) → y ≢ b → (after.wires x y).queue ≡ (h.wires x y).queue
    queue_other x y z = settled_queue 16 b D P x y ∙ rw (ne_eqb y b z) (F.queues x y)

    heard_is : (x y : ℕ) → x < 16 → y < 16 → mem x (word heard_now y) ≡ some (after.wires x y).queue
    heard_is x y hx hy =
        elim (ℕ_discrete y b) [
          | yes u ↦ rw (u, heard_here) (F.hears x hx ∙ ap some (sym (queue_here x)))
          | no u ↦ ap (mem x) (get_or-set_other c.heard b y _ 0 u) ∙ S.heard x y hx hy ∙ ap some (sym (queue_other x y u))
        ]

    heard_small : (y : ℕ) → y < 16 → word heard_now y < 2 ^ 16
    heard_small y hy =
        elim (ℕ_discrete y b) [
          | yes u ↦ rw (u, heard_here) (by_bool (ends o) (λ e. rw e (omega arith)) (λ e. rw e F.heard_set))
          | no u ↦ rw (get_or-set_other c.heard b y (cond (ends o) 0 o.heard) 0 u) (S.heard_set y hy)
        ]

    -- ---- the turn shows the settled hub

    abbrev sent_out : Posted
    sent_out = post_to o (word t b) 16 before

    abbrev listed : Bool
    listed = ltb c.at c.pairs

    abbrev turn_now : Turn
    turn_now = record {
      left = cond (listed || o.moved) (c.left - 1) 0;
      at = cond listed (c.at + 1) c.at;
      pairs = c.pairs;
      sent = sent_out.sent;
      moved = cond o.moved ((c.moved + 1) % 4294967296) c.moved;
      full = sent_out.full;
      awake = awake_now;
      stopped = stopped_now;
      links = c.links;
      heard = heard_now;
      busy = busy_now;
    }

    pub turn_is : (put_def s o c).turn ≡ turn_now
    unfolding put_def next_turn less_busy more_busy
    turn_is = rw (own_mod, from_mod, S.links)

    abbrev to_now : ℕ
    to_now = less_of s o.moved a b (word c.busy a)

    store_is : (put_def s o c).store ≡ kept_tables o (word t b) to_now sent_out.store
    unfolding put_def
    store_is = rw (own_mod, from_mod, S.links)

    moved_is : cond o.moved ((c.moved + 1) % 4294967296) c.moved ≡ after.moved % 4294967296
    moved_is =
        by_bool o.moved
        (λ e. rw e (ap (λ (n : ℕ). (n + 1) % 4294967296) S.moved ∙ next_count h.moved ∙ ap (λ (n : ℕ). n % 4294967296) (sym (settled_moved 16 b D P ∙ F.moved ∙ when e))))
        (λ e. rw e (S.moved ∙ ap (λ (n : ℕ). n % 4294967296) (sym (settled_moved 16 b D P ∙ F.moved ∙ unless e))))
      where
        when : o.moved ≡ true → cond o.moved (suc h.moved) h.moved ≡ suc h.moved
        when e = rw e

        unless : o.moved ≡ false → cond o.moved (suc h.moved) h.moved ≡ h.moved
        unless e = rw e

    pub turned : (x : Record) → x ≡ record_of D.box → Shows t (record { row = set g.row b x; store = kept_tables o (word t b) to_now sent_out.store; turn = turn_now }) after
    turned x e = record {
      rows = length-set g.row b x ∙ S.rows;
      boxes = λ i hi. elim (ℕ_discrete i b) [
        | yes z ↦ rw (z, get_or-set_same g.row b x blank (omega (arith, S.rows))) (ap box_of e ∙ box_record D.box ∙ sym box_here)
        | no z ↦ ap box_of (get_or-set_other g.row b i x blank z) ∙ S.boxes i hi ∙ sym (box_other i z)
      ];
      held = held_tables o (word t b) to_now sent_out.store _ posted.held;
      links = S.links;
      sent = posted.sent;
      moved = moved_is;
      full = posted.full;
      awake = λ i hi. elim (ℕ_discrete i b) [
        | yes z ↦ rw z (awake_here ∙ ap (λ (y : Box). eqb y.state 1) (sym box_here))
        | no z ↦ awake_other i z ∙ S.awake i hi ∙ ap (λ (y : Box). eqb y.state 1) (sym (box_other i z))
      ];
      stopped = λ i hi. elim (ℕ_discrete i b) [
        | yes z ↦ rw z (stopped_here ∙ ap (λ (y : Box). eqb y.state 2) (sym box_here))
        | no z ↦ stopped_other i z ∙ S.stopped i hi ∙ ap (λ (y : Box). eqb y.state 2) (sym (box_other i z))
      ];
      heard_size = length-set c.heard b _ ∙ S.heard_size;
      heard_set = heard_small;
      heard = heard_is;
      busy_size = busy_size;
      busy = busy_is;
    }

    -- the same, as the code tells it
    pub put_shows : (x : Record) → x ≡ record_of D.box → Shows t (record { row = set g.row b x; store = (put_def s o c).store; turn = (put_def s o c).turn }) after
    put_shows x e = subst₂ (λ (u : List ℕ) (v : Turn). Shows t (record { row = set g.row b x; store = u; turn = v }) after) (sym store_is) (sym turn_is) (turned x e)
