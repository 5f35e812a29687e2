-- A box has acted: the invariant of the hub afterwards, that there was room for all that it sent, and the counts. Assumes nothing.
use Rattle.std.specs.Prelude.{ℕ, suc, ◌+◌, ◌≤◌, ◌<◌, ◌≡◌, true, false, ◌≢◌, eqb}
use Rattle.std.proofs.Math.Path.{refl, sym, ap, ap₂}
use Rattle.std.proofs.Common.{◌∙◌, arith}
use mathlib.Core.List.{List, [], ◌++◌, append_assoc, append-nil}
use Rattle.std.proofs.Math.Decide.{ℕ_discrete}
use Rattle.std.proofs.Math.ListN.{length, length-append}
use borrow.Author.Tests.{eqb-true, eq-eqb, ne_eqb}
use Rattle.rules.specs.Sets.{mem, word, sum, upd}
use Rattle.rules.specs.Box.{Msg, Box, Desk}
use Rattle.rules.specs.Hub.{Hub, Wire, no_wire, under_way}
use Rattle.rules.specs.Rest.{Table}
use Rattle.sets.specs.Loops.{by_bool, sum_same}
use Rattle.sets.specs.Tables.{upd_same, upd_other}
use Rattle.order.specs.Rounds.{link_lt, link_ne, no_link_back}
use Rattle.order.specs.Messages.{sets, sets_append}
use Rattle.order.specs.Sums.{sum_plus, sum_more}
use Rattle.order.specs.Wire.{wire, wire_sets, part_le}
use Rattle.order.specs.Invariant.{Flow, Spent, Seat, sleeps, wakes, rests, spoken, SeatOf, ways, Others, Held, logged, Counted}
use Rattle.order.proofs.Save.{used}
use Rattle.order.proofs.Work.{Done, spoken_up, spoken_none}
use Rattle.order.specs.Send.{wire_same, longer, left, sends_of, settled}

-- ---- a box keeps its place while its neighbours send

module _ (w : ℕ) (t : List ℕ) where
  abbrev pub Grown : (j : ℕ) (n : ℕ → ℕ) (rest : ℕ → List Msg) (n' : ℕ → ℕ) (rest' : ℕ → List Msg) → Type 0
  Grown j n rest n' rest' = (i : ℕ) → mem i (word t j) ≡ true → (o : List Msg) × (wire w t i j (n' i) ≡ wire w t i j (n i) ++ o) × (rest' i ≡ rest i ++ o)

  pub same_grown : (j : ℕ) (n n' : ℕ → ℕ) (rest rest' : ℕ → List Msg) → ((i : ℕ) → mem i (word t j) ≡ true → (n' i ≡ n i) × (rest' i ≡ rest i)) → Grown j n rest n' rest'
  same_grown j n n' rest rest' f i v =
      let (x, y) = f i v in ([], ap (wire w t i j) x ∙ sym (append-nil (wire w t i j (n i))), y ∙ sym (append-nil (rest i)))

  stretch : (a q r o x y r' : List Msg) → x ≡ a ++ (q ++ r) → y ≡ x ++ o → r' ≡ r ++ o → y ≡ a ++ (q ++ r')
  stretch a q r o x y r' e f g =
      f ∙ ap (λ (l : List Msg). l ++ o) e ∙ append_assoc a (q ++ r) o ∙ ap (λ (l : List Msg). a ++ l) (append_assoc q r o) ∙ ap (λ (l : List Msg). a ++ (q ++ l)) (sym g)

  pub grown : (j : ℕ) (n : ℕ → ℕ) (past queue rest : ℕ → List Msg) (n' : ℕ → ℕ) (rest' : ℕ → List Msg) (b : Box) → Grown j n rest n' rest'
      → Seat w t j n past queue rest b → Seat w t j n' past queue rest' b
  grown j n past queue rest n' rest' b g (sleeps p) = sleeps (record {
    blank = p.blank;
    used = p.used;
    empty = p.empty;
    all = λ i v. let (o, x, y) = g i v in x ∙ ap (λ (l : List Msg). l ++ o) (p.all i v) ∙ sym y;
  })
  grown j n past queue rest n' rest' b g (wakes p) = wakes (record {
    half = record {
      state = p.half.state;
      tables = p.half.tables;
      early = p.half.early;
      linked = p.half.linked;
      mute = p.half.mute;
      flows = λ i v.
          let (o, x, y) = g i v in
          let f : Flow w t i j (n i) (past i) (queue i) (rest i) b = p.half.flows i v in
          record { num = f.num; kept = f.kept; all = stretch (past i) (queue i) (rest i) o _ _ (rest' i) f.all x y };
    };
    calm = p.calm;
    waits = p.waits;
  })
  grown j n past queue rest n' rest' b g (rests p) = rests (record {
    state = p.state;
    tables = p.tables;
    last = p.last;
    empty = p.empty;
    full = p.full;
    spent = λ i v.
        let (o, x, y) = g i v in
        let f : Spent w t i j (n i) (past i) (rest i) b = p.spent i v in
        record { dropped = f.dropped; num = f.num; all = stretch (past i) f.dropped (rest i) o _ _ (rest' i) f.all x y };
  })

  -- ---- how much waits

  -- a box has done no more rounds than its neighbour has sent NOTSPT
  hop_le : (i j : ℕ) (n : ℕ → ℕ) (past queue rest : ℕ → List Msg) (b : Box) → mem j (word t i) ≡ true → Seat w t i n past queue rest b → b.hop ≤ n j
  hop_le i j n past queue rest b v (sleeps p) = rw p.blank (omega arith)
  hop_le i j n past queue rest b v (wakes p) =
      let F : Flow w t j i (n j) (past j) (queue j) (rest j) b = p.half.flows j v in
      omega (arith, wire_sets w t j i (n j), ap sets F.all, sets_append (past j) (queue j ++ rest j), F.num)
  hop_le i j n past queue rest b v (rests p) =
      let F : Spent w t j i (n j) (past j) (rest j) b = p.spent j v in
      omega (arith, wire_sets w t j i (n j), ap sets F.all, sets_append (past j) (F.dropped ++ rest j), F.num)

  spoken_hop : (b : Box) → spoken b ≤ suc b.hop
  spoken_hop b = elim (ℕ_discrete b.state 0) [ yes e ↦ omega (arith, spoken_none b e) | no e ↦ omega (arith, spoken_up b e) ]

  module _ (s : Table w t) where
    waiting_le : (i j : ℕ) (n : ℕ → ℕ) (past queue rest : ℕ → List Msg) (b : Box) → i < w → j < w → mem i (word t j) ≡ true → n i ≤ b.hop + 2
        → Seat w t j n past queue rest b → length (queue i) + length (rest i) ≤ w + 1
    waiting_le i j n past queue rest b hi hj v a (sleeps p) =
        let q : length (queue i) ≡ 0 = ap length (p.empty i) in
        let z : b.hop ≡ 0 = ap (λ (x : Box). x.hop) p.blank in
        omega (arith, part_le w t s i j (n i) [] (rest i) hi hj (p.all i v), wire_sets w t i j (n i), ap sets (p.all i v))
    waiting_le i j n past queue rest b hi hj v a (wakes p) =
        let F : Flow w t i j (n i) (past i) (queue i) (rest i) b = p.half.flows i v in
        omega (
          arith,
          part_le w t s i j (n i) (past i) (queue i ++ rest i) hi hj F.all,
          length-append (queue i) (rest i),
          wire_sets w t i j (n i),
          ap sets F.all,
          sets_append (past i) (queue i ++ rest i),
          F.num,
        )
    waiting_le i j n past queue rest b hi hj v a (rests p) =
        let F : Spent w t i j (n i) (past i) (rest i) b = p.spent i v in
        let q : length (queue i) ≡ 0 = ap length (p.empty i) in
        omega (
          arith,
          part_le w t s i j (n i) (past i) (F.dropped ++ rest i) hi hj F.all,
          length-append F.dropped (rest i),
          wire_sets w t i j (n i),
          ap sets F.all,
          sets_append (past i) (F.dropped ++ rest i),
          F.num,
        )

    -- of what j has sent to i at most two NOTSPT wait, and each list at most once
    pub room_of : (j : ℕ) (rest : ℕ → List Msg) (h : Hub) → j < w → Held w t j rest h → (i : ℕ) → mem i (word t j) ≡ true
        → length (h.wires j i).queue + length (h.wires j i).way ≤ w + 1
    room_of j rest h hj H i v =
        let ahead : spoken (h.boxes j) ≤ (h.boxes i).hop + 2 = omega (
          arith,
          hop_le j i (λ k. spoken (h.boxes k)) _ _ rest (h.boxes j) v H.seat,
          spoken_hop (h.boxes j),
          spoken_hop (h.boxes i),
        ) in
        waiting_le j i (λ k. spoken (h.boxes k)) _ _ (ways w t h i) (h.boxes i) hj (link_lt w t s j i v) (s.both j i v) ahead
        (H.others.seats i (link_lt w t s j i v) (link_ne w t s i j v))

    -- ---- box j has acted

    module _ (g : Hub) (j : ℕ) (d : Desk) (rest : ℕ → List Msg) (hj : j < w) (O : Others w t j g)
        (D : Done w t j (λ k. spoken (g.boxes k)) (λ k. (g.wires k j).taken) rest (g.boxes j) d) where
      settled_others : (i : ℕ) → i < w → i ≢ j → SeatOf w t (settled w j d g) i (ways w t (settled w j d g) i)
      unfolding settled
      settled_others i hi e =
          rw (upd_other g.boxes j d.box i e, ne_eqb i j e)
          (grown i (λ k. spoken (g.boxes k)) (λ k. (g.wires k i).taken) (λ k. (g.wires k i).queue) (ways w t g i)
          (λ k. spoken (upd g.boxes j d.box k)) (λ k. ((left j d g).wires k i).way ++ sends_of j d k i) (g.boxes i)
          (λ k v. elim (ℕ_discrete k j) [
            | yes z ↦ rw (z, upd_same g.boxes j d.box, eq-eqb j j refl, ne_eqb i j e) (d.sends i, D.said i (s.both i j (rw z at v)), refl)
            | no z ↦ rw (upd_other g.boxes j d.box k z, ne_eqb k j z, ne_eqb i j e) ([], sym (append-nil (wire w t k i (spoken (g.boxes k)))), refl)
          ])
          (O.seats i hi e))

      settled_seat : SeatOf w t (settled w j d g) j rest
      unfolding settled
      settled_seat =
          rw (upd_same g.boxes j d.box, eq-eqb j j refl)
          (grown j (λ k. spoken (g.boxes k)) (used (λ k. (g.wires k j).taken) d) d.queues rest _ rest d.box
          (same_grown j (λ k. spoken (g.boxes k)) _ rest rest (λ k v. (ap spoken (upd_other g.boxes j d.box k (link_ne w t s k j v)), refl)))
          D.seat)

      settled_quiet : (i k : ℕ) → mem k (word t i) ≡ false → (settled w j d g).wires i k ≡ no_wire
      unfolding settled
      settled_quiet i k v =
          let q : g.wires i k ≡ no_wire = O.quiet i k v in
          let x : sends_of j d i k ≡ [] = by_bool (eqb i j) (λ e. rw e (D.mute k (rw (eqb-true i j e) at v)).0) (λ e. rw e) in
          let y : (left j d g).wires i k ≡ no_wire = by_bool (eqb k j)
          (λ e.
          let (a, b, c) = D.mute i (no_link_back w t s i j (rw (eqb-true k j e) at v)) in
          rw e (wire_same _ no_wire (ap (λ (x : Wire). x.log) q) (ap₂ ◌++◌ (ap (λ (x : Wire). x.taken) q) b) c (ap (λ (x : Wire). x.way) q)))
          (λ e. rw e q) in
          ap₂ longer x y

      settled_log : (i k : ℕ) → mem k (word t i) ≡ true → ((settled w j d g).wires i k).log ≡ wire w t i k (spoken ((settled w j d g).boxes i))
      unfolding settled
      settled_log i k v =
          let x : ((left j d g).wires i k).log ≡ wire w t i k (spoken (g.boxes i)) = by_bool (eqb k j) (λ e. rw e (O.log i k v)) (λ e. rw e (O.log i k v)) in
          ap (λ (x : List Msg). x ++ sends_of j d i k) x
          ∙ elim (ℕ_discrete i j) [
            | yes z ↦ rw (z, eq-eqb j j refl, upd_same g.boxes j d.box) (sym (D.said k (rw z at v)))
            | no z ↦ rw (ne_eqb i j z, upd_other g.boxes j d.box i z) (append-nil _)
          ]

      pub settled_held : Held w t j rest (settled w j d g)
      settled_held = record { others = record { seats = settled_others; quiet = settled_quiet; log = settled_log }; seat = settled_seat }

      -- there was room for all that it sends
      pub room_left : (room : ℕ) → w + 1 ≤ room → (b : ℕ) → b < w → length ((left j d g).wires j b).queue + length ((left j d g).wires j b).way + length (d.sends b) ≤ room
      unfolding settled
      room_left room hr b hb =
          let q : Wire = (left j d g).wires j b in
          by_bool (mem b (word t j))
          (λ v.
          let x : length q.queue + length (q.way ++ sends_of j d j b) ≤ w + 1 = room_of j rest (settled w j d g) hj settled_held b v in
          let y : sends_of j d j b ≡ d.sends b = rw (eq-eqb j j refl) in
          omega (arith, ap (λ (o : List Msg). length (q.way ++ o)) y, length-append q.way (d.sends b)))
          (λ v.
          let x : longer (sends_of j d j b) q ≡ no_wire = settled_quiet j b v in
          let y : length q.queue ≡ 0 = ap (λ (x : Wire). length x.queue) x in
          let z : length (q.way ++ sends_of j d j b) ≡ 0 = ap (λ (x : Wire). length x.way) x in
          omega (arith, length-append q.way (sends_of j d j b), ap length (D.mute b v).0))

-- ---- the counts

sum_grown : (w i : ℕ) (f : ℕ → ℕ → List Msg) (d : Desk) → i < w
    → sum w (λ a. sum w (λ b. length (f a b ++ sends_of i d a b))) ≡ sum w (λ a. sum w (λ b. length (f a b))) + sum w (λ b. length (d.sends b))
sum_grown w i f d hi =
    sum_more w (λ a. sum w (λ b. length (f a b ++ sends_of i d a b))) (λ a. sum w (λ b. length (f a b))) i (sum w (λ b. length (d.sends b))) hi
    (rw (eq-eqb i i refl) (sum_same w _ _ (λ b hb. length-append (f i b) (d.sends b)) ∙ sum_plus w (λ b. length (f i b)) (λ b. length (d.sends b))))
    (λ a z. rw (ne_eqb a i z) (sum_same w _ _ (λ b hb. ap length (append-nil (f a b)))))

settled_way : (w i : ℕ) (d : Desk) (h : Hub) → i < w → under_way w (settled w i d h) ≡ under_way w h + sum w (λ b. length (d.sends b))
unfolding under_way settled
settled_way w i d h hi =
    sum_grown w i (λ a b. ((left i d h).wires a b).way) d hi
    ∙ ap (λ (x : ℕ). x + sum w (λ b. length (d.sends b))) (sum_same w _ _ (λ a ha. sum_same w _ _ (λ b hb. by_bool (eqb b i) (λ e. rw e) (λ e. rw e))))

settled_logged : (w i : ℕ) (d : Desk) (h : Hub) → i < w → logged w (settled w i d h) ≡ logged w h + sum w (λ b. length (d.sends b))
unfolding settled
settled_logged w i d h hi =
    sum_grown w i (λ a b. ((left i d h).wires a b).log) d hi
    ∙ ap (λ (x : ℕ). x + sum w (λ b. length (d.sends b))) (sum_same w _ _ (λ a ha. sum_same w _ _ (λ b hb. by_bool (eqb b i) (λ e. rw e) (λ e. rw e))))

settled_sent : (w i : ℕ) (d : Desk) (h : Hub) → ((settled w i d h).sent ≡ h.sent + sum w (λ b. length (d.sends b))) × ((settled w i d h).moved ≡ h.moved) × ((settled w i d h).full ≡ h.full)
unfolding settled
settled_sent w i d h = (refl, refl, refl)

pub settled_counted : (w i : ℕ) (d : Desk) (h : Hub) → i < w → Counted w h → Counted w (settled w i d h)
settled_counted w i d h hi c =
    let (x, y, z) = settled_sent w i d h in
    record {
      way = omega (arith, settled_way w i d h hi, c.way);
      all = omega (arith, settled_logged w i d h hi, c.all);
      room = z ∙ c.room;
    }
