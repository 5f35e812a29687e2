-- Where there is room for all that a box sends, sending message by message with a check for room each time is sending it all at once. Assumes nothing.
use Prim.Native.Nat.{ℕ, zero, suc, ◌+◌, ◌≤◌, ◌<◌}
use Rattle.std.specs.Prelude.{◌≡◌, cond, eqb, ltb}
use Rattle.std.proofs.Math.Path.{refl, ap}
use Rattle.std.proofs.Common.{sym, ◌∙◌, arith, lt-ltb, le-ltb, eqb-true, eq-eqb, ne_eqb}
use mathlib.Core.List.{List, [], ◌∷◌, ◌++◌, append_assoc, append-nil}
use Rattle.std.proofs.Math.Decide.{dec_lt, ℕ_discrete}
use Rattle.std.proofs.Math.ListN.{length, length-append}
use Rattle.rules.specs.Sets.{sum, upd}
use Rattle.rules.specs.Box.{Msg, Desk}
use Rattle.rules.specs.Hub.{Hub, Wire, send, send_list, send_all, settle}
use Rattle.sets.specs.Loops.{by_bool}

-- ---- hubs and wires are equal by their parts

pub wire_same : (x y : Wire) → x.log ≡ y.log → x.taken ≡ y.taken → x.queue ≡ y.queue → x.way ≡ y.way → x ≡ y
wire_same x y a b c d = λ i. record { log = a i; taken = b i; queue = c i; way = d i }

hub_same : (g h : Hub) → g.boxes ≡ h.boxes → ((a b : ℕ) → g.wires a b ≡ h.wires a b) → g.sent ≡ h.sent → g.moved ≡ h.moved → g.full ≡ h.full → g ≡ h
hub_same g h p q r s u = λ i. record { boxes = p i; wires = λ a b. q a b i; sent = r i; moved = s i; full = u i }

-- ---- what goes out, all at once

-- a wire with o more sent on it
abbrev pub longer : List Msg → Wire → Wire
longer o x = record { log = x.log ++ o; taken = x.taken; queue = x.queue; way = x.way ++ o }

longer_none : (x : Wire) → longer [] x ≡ x
longer_none x = wire_same (longer [] x) x (append-nil x.log) refl refl (append-nil x.way)

longer_twice : (o p : List Msg) (x : Wire) → longer p (longer o x) ≡ longer (o ++ p) x
longer_twice o p x = wire_same (longer p (longer o x)) (longer (o ++ p) x) (append_assoc x.log o p) refl refl (append_assoc x.way o p)

-- the hub with `out a b` more on each wire, k messages in all
abbrev pub plus : (ℕ → ℕ → List Msg) → ℕ → Hub → Hub
plus out k h = record { boxes = h.boxes; wires = λ a b. longer (out a b) (h.wires a b); sent = h.sent + k; moved = h.moved; full = h.full }

plus_same : (o p : ℕ → ℕ → List Msg) (k m : ℕ) (h : Hub) → ((a b : ℕ) → o a b ≡ p a b) → k ≡ m → plus o k h ≡ plus p m h
plus_same o p k m h e f =
    hub_same (plus o k h) (plus p m h) refl (λ a b. ap (λ (l : List Msg). longer l (h.wires a b)) (e a b)) (ap (λ (x : ℕ). h.sent + x) f) refl refl

plus_none : (o : ℕ → ℕ → List Msg) (h : Hub) → ((a b : ℕ) → o a b ≡ []) → h ≡ plus o 0 h
plus_none o h e =
    hub_same h (plus o 0 h) refl (λ a b. sym (ap (λ (l : List Msg). longer l (h.wires a b)) (e a b) ∙ longer_none (h.wires a b))) (omega arith) refl refl

plus_twice : (o p : ℕ → ℕ → List Msg) (k m : ℕ) (h : Hub) → plus p m (plus o k h) ≡ plus (λ a b. o a b ++ p a b) (k + m) h
plus_twice o p k m h =
    hub_same (plus p m (plus o k h)) (plus (λ a b. o a b ++ p a b) (k + m) h) refl (λ a b. longer_twice (o a b) (p a b) (h.wires a b)) (omega arith) refl refl

-- l on the wire from a to b alone
abbrev only : ℕ → ℕ → List Msg → ℕ → ℕ → List Msg
only a b l x y = cond (eqb x a) (cond (eqb y b) l []) []

only_here : (a b : ℕ) (l : List Msg) → only a b l a b ≡ l
only_here a b l = rw (eq-eqb a a refl, eq-eqb b b refl)

only_none : (a b x y : ℕ) → only a b [] x y ≡ []
only_none a b x y = by_bool (eqb x a) (λ e. rw e (by_bool (eqb y b) (λ f. rw f) (λ f. rw f))) (λ e. rw e)

only_more : (a b : ℕ) (l m : List Msg) (x y : ℕ) → only a b l x y ++ only a b m x y ≡ only a b (l ++ m) x y
only_more a b l m x y = by_bool (eqb x a) (λ e. rw e (by_bool (eqb y b) (λ f. rw f) (λ f. rw f))) (λ e. rw e)

upd_two : (f : ℕ → ℕ → Wire) (a b : ℕ) (m : Msg) (x y : ℕ) → upd f a (upd (f a) b (longer (m ∷ []) (f a b))) x y ≡ longer (only a b (m ∷ []) x y) (f x y)
unfolding upd
upd_two f a b m x y =
    by_bool (eqb x a)
    (λ e. rw (e, eqb-true x a e) (by_bool (eqb y b) (λ g. rw (g, eqb-true y b g)) (λ g. rw g (sym (longer_none (f a y))))))
    (λ e. rw e (sym (longer_none (f x y))))

module _ (room a : ℕ) where
  send_is : (b : ℕ) (m : Msg) (h : Hub) → length (h.wires a b).queue + length (h.wires a b).way + 1 ≤ room → send room a b m h ≡ plus (only a b (m ∷ [])) 1 h
  unfolding send
  send_is b m h r =
      rw (lt-ltb (length (h.wires a b).queue + length (h.wires a b).way) room (omega arith))
      (hub_same _ (plus (only a b (m ∷ [])) 1 h) refl (λ x y. upd_two h.wires a b m x y) (omega arith) refl refl)

  list_is : (b : ℕ) (l : List Msg) (h : Hub) → length (h.wires a b).queue + length (h.wires a b).way + length l ≤ room
      → send_list room a b l h ≡ plus (only a b l) (length l) h
  unfolding send_list
  list_is b [] h r = plus_none (only a b []) h (only_none a b)
  list_is b (m ∷ l) h r =
      let g : Hub = plus (only a b (m ∷ [])) 1 h in
      let z : length (g.wires a b).way ≡ length (h.wires a b).way + 1 =
      ap (λ (o : List Msg). length ((h.wires a b).way ++ o)) (only_here a b (m ∷ [])) ∙ length-append (h.wires a b).way (m ∷ []) in
      ap (send_list room a b l) (send_is b m h (omega arith))
      ∙ list_is b l g (omega arith)
      ∙ plus_twice (only a b (m ∷ [])) (only a b l) 1 (length l) h
      ∙ plus_same _ (only a b (m ∷ l)) (1 + length l) (length (m ∷ l)) h (only_more a b (m ∷ []) l) (omega arith)

  -- out goes to the boxes below n
  abbrev below : (ℕ → List Msg) → ℕ → ℕ → ℕ → List Msg
  below out n x y = cond (eqb x a) (cond (ltb y n) (out y) []) []

  below_more : (out : ℕ → List Msg) (n x y : ℕ) → below out n x y ++ only a n (out n) x y ≡ below out (suc n) x y
  below_more out n x y =
      by_bool (eqb x a)
      (λ e. rw e (elim (ℕ_discrete y n) [
        | yes z ↦ rw (z, le-ltb n n (omega arith), eq-eqb n n refl, lt-ltb n (suc n) (omega arith))
        | no z ↦ elim (dec_lt y n) [
          | yes p ↦ rw (lt-ltb y n p, ne_eqb y n z, lt-ltb y (suc n) (omega arith)) (append-nil (out y))
          | no p ↦ rw (le-ltb y n (omega arith), ne_eqb y n z, le-ltb y (suc n) (omega arith))
        ]
      ]))
      (λ e. rw e)

  below_none : (out : ℕ → List Msg) (x y : ℕ) → below out 0 x y ≡ []
  below_none out x y = by_bool (eqb x a) (λ e. rw (e, le-ltb y 0 (omega arith))) (λ e. rw e)

  not_yet : (out : ℕ → List Msg) (n : ℕ) (l : List Msg) → length (l ++ below out n a n) ≡ length l
  not_yet out n l = rw (eq-eqb a a refl, le-ltb n n (omega arith)) (ap length (append-nil l))

  all_is : (out : ℕ → List Msg) (n : ℕ) (h : Hub)
      → ((b : ℕ) → b < n → length (h.wires a b).queue + length (h.wires a b).way + length (out b) ≤ room)
      → send_all room a out n h ≡ plus (below out n) (sum n (λ b. length (out b))) h
  unfolding send_all sum
  all_is out zero h r = plus_none (below out 0) h (below_none out)
  all_is out (suc n) h r =
      let k : ℕ = sum n (λ b. length (out b)) in
      ap (send_list room a n (out n)) (all_is out n h (λ b l. r b (omega arith)))
      ∙ list_is n (out n) (plus (below out n) k h) (omega (arith, r n (omega arith), not_yet out n (h.wires a n).way))
      ∙ plus_twice (below out n) (only a n (out n)) k (length (out n)) h
      ∙ plus_same _ (below out (suc n)) (k + length (out n)) (k + length (out n)) h (below_more out n) refl

-- box i's record and queues are as it left them
abbrev pub left : ℕ → Desk → Hub → Hub
left i d h = record {
  boxes = upd h.boxes i d.box;
  wires = λ a b. cond (eqb b i) (record { log = (h.wires a b).log; taken = (h.wires a b).taken ++ d.taken a; queue = d.queues a; way = (h.wires a b).way }) (h.wires a b);
  sent = h.sent;
  moved = h.moved;
  full = h.full;
}

-- what i sends to b, and nobody else anything
abbrev pub sends_of : ℕ → Desk → ℕ → ℕ → List Msg
sends_of i d a b = cond (eqb a i) (d.sends b) []

-- box i has acted, with room for all that it sends
unfoldable pub settled : ℕ → ℕ → Desk → Hub → Hub
settled w i d h = plus (sends_of i d) (sum w (λ b. length (d.sends b))) (left i d h)

pub settle_is : (w room i : ℕ) (d : Desk) (h : Hub) → ((b : ℕ) → w ≤ b → d.sends b ≡ [])
    → ((b : ℕ) → b < w → length ((left i d h).wires i b).queue + length ((left i d h).wires i b).way + length (d.sends b) ≤ room)
    → settle w room i d h ≡ settled w i d h
unfolding settle settled
settle_is w room i d h none r =
    all_is room i d.sends w (left i d h) r
    ∙ plus_same (below room i d.sends w) (sends_of i d) (sum w (λ b. length (d.sends b))) (sum w (λ b. length (d.sends b))) (left i d h)
    (λ a b. by_bool (eqb a i)
    (λ e. rw e (elim (dec_lt b w) [ yes p ↦ rw (lt-ltb b w p) | no p ↦ rw (le-ltb b w (omega arith), none b (omega arith)) ]))
    (λ e. rw e)) refl
