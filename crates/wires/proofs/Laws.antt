-- What the calls on the store of waiting messages come to in lists, over its sizes: what joined, what was delivered, what was taken; that every other
-- wire is as it was; and that the store stays formed. Assumes nothing.
use Prim.Native.Nat.{ℕ, zero, suc, ◌+◌, ◌-◌, ◌%◌, ◌≤◌, ◌<◌}
use native.Mathlib.Nat.{add-zero, mod-lt, mod-mod, mod-add-mod, mod-eq_of_lt}
use native.Mathlib.Decide.{ℕ_discrete}
use native.Mathlib.Omega.{arith}
use mathlib.Core.Path.{◌≡◌, refl, sym, ap, ap₂, ◌∙◌}
use mathlib.Core.Logic.{◌≢◌}
use mathlib.Core.Bool.{Bool, true, false}
use mathlib.Core.List.{List, [], ◌∷◌, ◌++◌}
use lib.Dec.{eqb, ltb}
use lib.ListN.{length, set, replicate, length-set, length-append, length-replicate}
use borrow.Author.Tests.{ltb-true, ltb-false, eqb-true, eqb-false, lt-ltb, le-ltb, eq-eqb, ne_eqb}
use Rattle.rules.specs.Sets.{word}
use Rattle.wires.specs.Wires.{Sizes, sixteen, Proper, Waiting, Formed, stride, store_size, place, slot, head_at, queued_at, way_at, head, queued, under_way, ring_at, waiting, none, has_room, pushed, arrived, oldest, skipped, front, taken, taken_word, cleared, Others, join_way, Pushed, Arrived, Skipped, First, Taken, Cleared, Empty}
use Rattle.wires.proofs.Ring.{turn_apart, read_same, read_beside, read_elsewhere, ring_agree, ring_turn, ring_more, ring_first, ring_some, ring_length, ring_none, none_ring}

-- a wire that holds these two lists
abbrev holds : List ℕ → List ℕ → Waiting
holds q w = record { queue = q; way = w }

-- how many wait, in lists and in the store's own counts
pub queue_length : (z : Sizes) (s : List ℕ) (i : ℕ) → length (waiting z s i).queue ≡ queued z s i
unfolding waiting
queue_length z s i = ring_length z s i _ _

pub way_length : (z : Sizes) (s : List ℕ) (i : ℕ) → length (waiting z s i).way ≡ under_way z s i
unfolding waiting
way_length z s i = ring_length z s i _ _

module _ (z : Sizes) (ok : Proper z) where
  -- what a wire holds depends on its own words alone
  pub waiting_agree : (s s' : List ℕ) (k : ℕ) → ((p : ℕ) → p < stride z → word s' (place z k p) ≡ word s (place z k p)) → waiting z s' k ≡ waiting z s k
  unfolding waiting
  waiting_agree s s' k f =
      let h : head z s' k ≡ head z s k = ap (λ (x : ℕ). x % z.ring) (f z.ring (omega arith)) in
      let q : queued z s' k ≡ queued z s k = ap (λ (x : ℕ). x % z.ring) (f (z.ring + 1) (omega arith)) in
      let w : under_way z s' k ≡ under_way z s k = ap (λ (x : ℕ). x % z.ring) (f (z.ring + 2) (omega arith)) in
      let r : (a n : ℕ) → ring_at z s' k a n ≡ ring_at z s k a n =
      λ a n. ring_agree z s s' k a a n (λ j l. f ((a + j) % z.ring) (omega (arith, mod-lt (a + j) ok.some))) in
      rw (h, q, w) (ap₂ holds (r _ _) (r _ _))

  -- a word stored at a place of wire i: every other wire is as it was
  pub stored_others : (s : List ℕ) (i p v : ℕ) → p < stride z → Others z s i (set s (place z i p) v)
  stored_others s i p v hp k ne = waiting_agree s (set s (place z i p) v) k (λ q hq. read_elsewhere z s i k p q v hp hq ne)

  pub stored_twice : (s : List ℕ) (i p v q u : ℕ) → p < stride z → q < stride z → Others z s i (set (set s (place z i p) v) (place z i q) u)
  stored_twice s i p v q u hp hq k ne = stored_others (set s (place z i p) v) i q u hq k ne ∙ stored_others s i p v hp k ne

  -- a slot's place is a place of the wire
  slot_in : (p : ℕ) → p % z.ring < stride z
  slot_in p = omega (arith, mod-lt p ok.some)

  -- a word stored behind the ring
  ring_kept : (s : List ℕ) (i p v h n : ℕ) → z.ring ≤ p → ring_at z (set s (place z i p) v) i h n ≡ ring_at z s i h n
  ring_kept s i p v h n l = ring_agree z s (set s (place z i p) v) i h h n (λ j _. read_beside z s i p ((h + j) % z.ring) v (omega (arith, mod-lt (h + j) ok.some)))

  -- two words stored behind the ring
  both_kept : (s : List ℕ) (i p v q u h n : ℕ) → z.ring ≤ p → z.ring ≤ q → ring_at z (set (set s (place z i p) v) (place z i q) u) i h n ≡ ring_at z s i h n
  both_kept s i p v q u h n lp lq = ring_kept (set s (place z i p) v) i q u h n lq ∙ ring_kept s i p v h n lp

  -- a number read back, that is a place of the ring
  mod_of : {a b : ℕ} → a ≡ b → b < z.ring → a % z.ring ≡ b
  mod_of e l = ap (λ (y : ℕ). y % z.ring) e ∙ mod-eq_of_lt l

  -- the counts of a wire, and its ring, give what it holds
  waiting_is : (s : List ℕ) (i h q w : ℕ) → head z s i ≡ h → queued z s i ≡ q → under_way z s i ≡ w → waiting z s i ≡ holds (ring_at z s i h q) (ring_at z s i (h + q) w)
  unfolding waiting
  waiting_is s i h q w eh eq ew = rw (eh, eq, ew)

  -- a store stays formed where wire i keeps to the room with what it holds now, and every other wire is as it was
  kept_formed : (s s' : List ℕ) (i : ℕ) (w : Waiting) → length s' ≡ length s → Others z s i s' → waiting z s' i ≡ w → length w.queue + length w.way ≤ z.room
      → Formed z s → Formed z s'
  kept_formed s s' i w e o h l f = record {
    size = e ∙ f.size;
    room = λ k. elim (ℕ_discrete k i) [ yes p ↦ rw (p, h) l | no n ↦ rw (o k n) (f.room k) ];
  }

  -- the room, in the store's own counts
  within : (s : List ℕ) (i : ℕ) → Formed z s → queued z s i + under_way z s i ≤ z.room
  within s i f = rw (queue_length, way_length) at (f.room i)

  module _ (s : List ℕ) (i : ℕ) (size : length s ≡ store_size z) (here : i < z.wires) where
    -- ---- push

    pub push_joins : (x : ℕ) → queued z s i + under_way z s i < z.room
        → waiting z (set (set s (slot z i (head z s i + queued z s i + under_way z s i)) x) (way_at z i) (under_way z s i + 1)) i ≡ join_way (waiting z s i) x
    unfolding waiting
    push_joins x l =
        let h : ℕ = head z s i in
        let q : ℕ = queued z s i in
        let w : ℕ = under_way z s i in
        let a : ℕ = h + q + w in
        let s₁ : List ℕ = set s (slot z i a) x in
        let s₂ : List ℕ = set s₁ (way_at z i) (w + 1) in
        let low : a % z.ring < z.ring = mod-lt a ok.some in
        let less : z.room < z.ring = ok.less in
        let size₁ : length s₁ ≡ store_size z = length-set s (slot z i a) x ∙ size in
        let eh : head z s₂ i ≡ h =
        ap (λ (y : ℕ). y % z.ring) (read_beside z s₁ i (z.ring + 2) z.ring (w + 1) (omega arith) ∙ read_beside z s i (a % z.ring) z.ring x (omega arith)) in
        let eq : queued z s₂ i ≡ q =
        ap (λ (y : ℕ). y % z.ring) (read_beside z s₁ i (z.ring + 2) (z.ring + 1) (w + 1) (omega arith) ∙ read_beside z s i (a % z.ring) (z.ring + 1) x (omega arith)) in
        let ew : under_way z s₂ i ≡ w + 1 =
        ap (λ (y : ℕ). y % z.ring) (read_same z s₁ i (z.ring + 2) (w + 1) size₁ here (omega arith)) ∙ mod-eq_of_lt (omega arith) in
        let old : (b n : ℕ) → h ≤ b → b + n ≤ a → ring_at z s₂ i b n ≡ ring_at z s i b n =
        λ b n lb ln.
        ring_kept s₁ i (z.ring + 2) (w + 1) b n (omega arith)
        ∙ ring_agree z s s₁ i b b n (λ j lj. read_beside z s i (a % z.ring) ((b + j) % z.ring) x (turn_apart z.ring (b + j) a (omega arith) (omega arith))) in
        let new : word s₂ (slot z i a) ≡ x =
        read_beside z s₁ i (z.ring + 2) (a % z.ring) (w + 1) (omega arith) ∙ read_same z s i (a % z.ring) x size here (omega arith) in
        let way : ring_at z s₂ i (h + q) (w + 1) ≡ ring_at z s i (h + q) w ++ (x ∷ []) =
        rw (ring_more, old (h + q) w (omega arith) (omega arith), new) in
        waiting_is s₂ i h q (w + 1) eh eq ew ∙ ap₂ holds (old h q (omega arith) (omega arith)) way

    pub push_yes : (x : ℕ) → queued z s i + under_way z s i < z.room
        → Pushed z s i x (set (set s (slot z i (head z s i + queued z s i + under_way z s i)) x) (way_at z i) (under_way z s i + 1)) true
    unfolding pushed has_room
    push_yes x l =
        let e : ltb (queued z s i + under_way z s i) z.room ≡ true = lt-ltb _ _ l in
        let o = stored_twice s i ((head z s i + queued z s i + under_way z s i) % z.ring) x (z.ring + 2) (under_way z s i + 1) (slot_in _) (omega arith) in
        record {
          words = rw e;
          answer = sym e;
          room = rw (queue_length, way_length) (sym e);
          joined = λ _. push_joins x l;
          refused = λ n. cc;
          others = o;
          formed = kept_formed s _ i _ (simp length-set) o (push_joins x l) (simp (length-append, queue_length, way_length) (omega arith));
        }

    pub push_no : (x : ℕ) → z.room ≤ queued z s i + under_way z s i → Pushed z s i x s false
    unfolding pushed has_room
    push_no x l =
        let e : ltb (queued z s i + under_way z s i) z.room ≡ false = le-ltb _ _ l in
        record {
          words = rw e;
          answer = sym e;
          room = rw (queue_length, way_length) (sym e);
          joined = λ n. cc;
          refused = λ _. refl;
          others = λ k _. refl;
          formed = λ f. f;
        }

    pub push_law : (x : ℕ) → Pushed z s i x (pushed z s i x) (has_room z s i)
    unfolding pushed has_room
    push_law x = go (has_room z s i) refl
      where
        go : (b : Bool) → has_room z s i ≡ b → Pushed z s i x (pushed z s i x) (has_room z s i)
        go true e = rw e (push_yes x (ltb-true _ _ e))
        go false e = rw e (push_no x (ltb-false _ _ e))

    -- a word stored at a place behind the ring, and another at a later one
    set₂ : ℕ → ℕ → ℕ → ℕ → List ℕ
    set₂ p v q u = set (set s (place z i p) v) (place z i q) u

    read₁ : (p v q u : ℕ) → p < stride z → p ≢ q → word (set₂ p v q u) (place z i p) ≡ v
    unfolding set₂
    read₁ p v q u hp ne = read_beside z (set s (place z i p) v) i q p u ne ∙ read_same z s i p v size here hp

    read₂ : (p v q u : ℕ) → q < stride z → word (set₂ p v q u) (place z i q) ≡ u
    unfolding set₂
    read₂ p v q u hq = read_same z (set s (place z i p) v) i q u (length-set s (place z i p) v ∙ size) here hq

    read₀ : (p v q u r : ℕ) → r ≢ p → r ≢ q → word (set₂ p v q u) (place z i r) ≡ word s (place z i r)
    unfolding set₂
    read₀ p v q u r np nq = read_beside z (set s (place z i p) v) i q r u nq ∙ read_beside z s i p r v np

    -- ---- arrive

    pub arrive_delivers : queued z s i + under_way z s i ≤ z.room → (x : ℕ) (l : List ℕ) → (waiting z s i).way ≡ x ∷ l
        → waiting z (set (set s (queued_at z i) (queued z s i + 1)) (way_at z i) (under_way z s i - 1)) i ≡ holds ((waiting z s i).queue ++ (x ∷ [])) l
    unfolding waiting set₂
    arrive_delivers room x l e =
        let h : ℕ = head z s i in
        let q : ℕ = queued z s i in
        let w : ℕ = under_way z s i in
        let p₁ : ℕ = z.ring + 1 in
        let p₂ : ℕ = z.ring + 2 in
        let s' : List ℕ = set₂ p₁ (q + 1) p₂ (w - 1) in
        let less : z.room < z.ring = ok.less in
        let first = ring_first z s i (h + q) w x l e in
        let some : 0 < w = first.1 in
        let eh : head z s' i ≡ h = ap (λ (y : ℕ). y % z.ring) (read₀ p₁ (q + 1) p₂ (w - 1) z.ring (omega arith) (omega arith)) in
        let eq : queued z s' i ≡ q + 1 = mod_of (read₁ p₁ (q + 1) p₂ (w - 1) (omega arith) (omega arith)) (omega arith) in
        let ew : under_way z s' i ≡ w - 1 = mod_of (read₂ p₁ (q + 1) p₂ (w - 1) (omega arith)) (omega arith) in
        let kept : (a n : ℕ) → ring_at z s' i a n ≡ ring_at z s i a n = λ a n. both_kept s i p₁ (q + 1) p₂ (w - 1) a n (omega arith) (omega arith) in
        let next : h + (q + 1) ≡ h + q + 1 = omega arith in
        waiting_is s' i h (q + 1) (w - 1) eh eq ew
        ∙ ap₂ holds (kept h (q + 1) ∙ rw (ring_more, first.0)) (kept (h + (q + 1)) (w - 1) ∙ rw next first.2)

    pub arrive_yes : under_way z s i ≢ 0
        → Arrived z s i (set (set s (queued_at z i) (queued z s i + 1)) (way_at z i) (under_way z s i - 1)) (oldest z s i)
    unfolding waiting arrived oldest
    arrive_yes ne =
        let e : eqb (under_way z s i) 0 ≡ false = ne_eqb _ _ ne in
        let o = stored_twice s i (z.ring + 1) (queued z s i + 1) (z.ring + 2) (under_way z s i - 1) (omega arith) (omega arith) in
        let some = ring_some z s i (head z s i + queued z s i) (under_way z s i) ne in
        record {
          words = rw e;
          answer = refl;
          oldest_of = λ x l p. rw e (ring_first z s i _ _ x l p).0;
          delivered = λ f x l p. arrive_delivers (within s i f) x l p;
          none_under_way = λ p. absurd (ne (none_ring z s i _ _ p));
          others = o;
          formed = λ f. let r = within s i f in
              kept_formed s _ i _ (simp length-set) o (arrive_delivers r _ _ some) (simp (length-append, ring_length) (omega arith)) f;
        }

    pub arrive_no : under_way z s i ≡ 0 → Arrived z s i s (oldest z s i)
    unfolding waiting arrived
    arrive_no e =
        let t : eqb (under_way z s i) 0 ≡ true = eq-eqb _ _ e in
        let never : (x : ℕ) (l : List ℕ) → (waiting z s i).way ≡ x ∷ l → ⊥ =
        λ x l p. let r : 0 < under_way z s i = (ring_first z s i _ _ x l p).1 in omega arith in
        record {
          words = rw t;
          answer = refl;
          oldest_of = λ x l p. absurd (never x l p);
          delivered = λ f x l p. absurd (never x l p);
          none_under_way = λ p. refl;
          others = λ k _. refl;
          formed = λ f. f;
        }

    pub arrive_law : Arrived z s i (arrived z s i) (oldest z s i)
    unfolding arrived
    arrive_law = go (eqb (under_way z s i) 0) refl
      where
        go : (b : Bool) → eqb (under_way z s i) 0 ≡ b → Arrived z s i (arrived z s i) (oldest z s i)
        go true e = rw e (arrive_no (eqb-true _ _ e))
        go false e = rw e (arrive_yes (eqb-false _ _ e))

    -- ---- the head moves on

    next_place : (a n : ℕ) → ((head z s i + a) % z.ring + n) % z.ring ≡ (head z s i + a + n) % z.ring
    next_place a n = mod-add-mod (head z s i + a) z.ring n

    -- ---- skip

    pub skip_drops : queued z s i ≡ 0 → (x : ℕ) (l : List ℕ) → (waiting z s i).way ≡ x ∷ l
        → waiting z (set (set s (head_at z i) ((head z s i + 1) % z.ring)) (way_at z i) (under_way z s i - 1)) i ≡ holds [] l
    unfolding waiting set₂
    skip_drops none x l e =
        let h : ℕ = head z s i in
        let q : ℕ = queued z s i in
        let w : ℕ = under_way z s i in
        let h' : ℕ = (h + 1) % z.ring in
        let p₁ : ℕ = z.ring in
        let p₂ : ℕ = z.ring + 2 in
        let s' : List ℕ = set₂ p₁ h' p₂ (w - 1) in
        let low : w < z.ring = mod-lt _ ok.some in
        let first = ring_first z s i (h + q) w x l e in
        let eh : head z s' i ≡ h' = mod_of (read₁ p₁ h' p₂ (w - 1) (omega arith) (omega arith)) (mod-lt _ ok.some) in
        let eq : queued z s' i ≡ q = ap (λ (y : ℕ). y % z.ring) (read₀ p₁ h' p₂ (w - 1) (z.ring + 1) (omega arith) (omega arith)) in
        let ew : under_way z s' i ≡ w - 1 = mod_of (read₂ p₁ h' p₂ (w - 1) (omega arith)) (omega arith) in
        let kept : (a n : ℕ) → ring_at z s' i a n ≡ ring_at z s i a n = λ a n. both_kept s i p₁ h' p₂ (w - 1) a n (omega arith) (omega arith) in
        let turn : (h' + q) % z.ring ≡ (h + q + 1) % z.ring =
        next_place 1 q ∙ (let a : h + 1 + q ≡ h + q + 1 = omega arith in ap (λ (y : ℕ). y % z.ring) a) in
        waiting_is s' i h' q (w - 1) eh eq ew
        ∙ ap₂ holds (ring_none z s' i h' q none) (kept (h' + q) (w - 1) ∙ ring_turn z s i (h' + q) (h + q + 1) (w - 1) turn ∙ first.2)

    pub skip_yes : queued z s i ≡ 0 → under_way z s i ≢ 0
        → Skipped z s i (set (set s (head_at z i) ((head z s i + 1) % z.ring)) (way_at z i) (under_way z s i - 1))
    unfolding waiting skipped
    skip_yes none ne =
        let t : eqb (queued z s i) 0 ≡ true = eq-eqb _ _ none in
        let e : eqb (under_way z s i) 0 ≡ false = ne_eqb _ _ ne in
        let o = stored_twice s i z.ring ((head z s i + 1) % z.ring) (z.ring + 2) (under_way z s i - 1) (omega arith) (omega arith) in
        let some = ring_some z s i (head z s i + queued z s i) (under_way z s i) ne in
        record {
          words = rw (t, e);
          dropped = λ _ x l p. skip_drops none x l p;
          none_under_way = λ p. absurd (ne (none_ring z s i _ _ p));
          others = o;
          formed = λ f. let r = within s i f in
              kept_formed s _ i _ (simp length-set) o (skip_drops none _ _ some) (simp ring_length (omega arith)) f;
        }

    pub skip_empty : queued z s i ≡ 0 → under_way z s i ≡ 0 → Skipped z s i s
    unfolding waiting skipped
    skip_empty none e =
        let t : eqb (queued z s i) 0 ≡ true = eq-eqb _ _ none in
        let u : eqb (under_way z s i) 0 ≡ true = eq-eqb _ _ e in
        record {
          words = rw (t, u);
          dropped = λ _ x l p. absurd (let r : 0 < under_way z s i = (ring_first z s i _ _ x l p).1 in omega arith);
          none_under_way = λ p. refl;
          others = λ k _. refl;
          formed = λ f. f;
        }

    pub skip_queued : queued z s i ≢ 0 → Skipped z s i s
    unfolding waiting skipped
    skip_queued ne =
        let t : eqb (queued z s i) 0 ≡ false = ne_eqb _ _ ne in
        record {
          words = rw t;
          dropped = λ p. absurd (ne (none_ring z s i _ _ p));
          none_under_way = λ p. refl;
          others = λ k _. refl;
          formed = λ f. f;
        }

    pub skip_law : Skipped z s i (skipped z s i)
    unfolding skipped
    skip_law = go (eqb (queued z s i) 0) (eqb (under_way z s i) 0) refl refl
      where
        go : (a b : Bool) → eqb (queued z s i) 0 ≡ a → eqb (under_way z s i) 0 ≡ b → Skipped z s i (skipped z s i)
        go true true d e = rw (d, e) (skip_empty (eqb-true _ _ d) (eqb-true _ _ e))
        go true false d e = rw (d, e) (skip_yes (eqb-true _ _ d) (eqb-false _ _ e))
        go false b d e = rw d (skip_queued (eqb-false _ _ d))

    -- ---- first

    pub first_law : First z s i (front z s i)
    unfolding waiting front
    first_law = record {
      answer = refl;
      head_of = λ x l p. rw (← mod-mod (word s (head_at z i)) z.ring) (ring_first z s i _ _ x l p).0;
    }

    -- ---- take

    pub take_off : (x : ℕ) (l : List ℕ) → (waiting z s i).queue ≡ x ∷ l
        → waiting z (set (set s (head_at z i) ((head z s i + 1) % z.ring)) (queued_at z i) (queued z s i - 1)) i ≡ holds l (waiting z s i).way
    unfolding waiting set₂
    take_off x l e =
        let h : ℕ = head z s i in
        let q : ℕ = queued z s i in
        let w : ℕ = under_way z s i in
        let h' : ℕ = (h + 1) % z.ring in
        let p₁ : ℕ = z.ring in
        let p₂ : ℕ = z.ring + 1 in
        let s' : List ℕ = set₂ p₁ h' p₂ (q - 1) in
        let low : q < z.ring = mod-lt _ ok.some in
        let first = ring_first z s i h q x l e in
        let some : 0 < q = first.1 in
        let eh : head z s' i ≡ h' = mod_of (read₁ p₁ h' p₂ (q - 1) (omega arith) (omega arith)) (mod-lt _ ok.some) in
        let eq : queued z s' i ≡ q - 1 = mod_of (read₂ p₁ h' p₂ (q - 1) (omega arith)) (omega arith) in
        let ew : under_way z s' i ≡ w = ap (λ (y : ℕ). y % z.ring) (read₀ p₁ h' p₂ (q - 1) (z.ring + 2) (omega arith) (omega arith)) in
        let kept : (a n : ℕ) → ring_at z s' i a n ≡ ring_at z s i a n = λ a n. both_kept s i p₁ h' p₂ (q - 1) a n (omega arith) (omega arith) in
        let turn : (h' + (q - 1)) % z.ring ≡ (h + q) % z.ring =
        next_place 1 (q - 1) ∙ (let a : h + 1 + (q - 1) ≡ h + q = omega arith in ap (λ (y : ℕ). y % z.ring) a) in
        waiting_is s' i h' (q - 1) w eh eq ew
        ∙ ap₂ holds
        (kept h' (q - 1) ∙ ring_turn z s i h' (h + 1) (q - 1) (mod-mod (h + 1) z.ring) ∙ first.2)
        (kept (h' + (q - 1)) w ∙ ring_turn z s i (h' + (q - 1)) (h + q) w turn)

    pub take_yes : queued z s i ≢ 0
        → Taken z s i (set (set s (head_at z i) ((head z s i + 1) % z.ring)) (queued_at z i) (queued z s i - 1)) (taken_word z s i)
    unfolding waiting taken taken_word
    take_yes ne =
        let e : eqb (queued z s i) 0 ≡ false = ne_eqb _ _ ne in
        let o = stored_twice s i z.ring ((head z s i + 1) % z.ring) (z.ring + 1) (queued z s i - 1) (omega arith) (omega arith) in
        let some = ring_some z s i (head z s i) (queued z s i) ne in
        record {
          words = rw e;
          answer = refl;
          head_of = λ x l p. (rw e refl) ∙ first_law.head_of x l p;
          off = λ x l p. take_off x l p;
          none_queued = λ p. absurd (ne (none_ring z s i _ _ p));
          others = o;
          formed = λ f. let r = within s i f in
              kept_formed s _ i _ (simp length-set) o (take_off _ _ some) (simp ring_length (omega arith)) f;
        }

    pub take_no : queued z s i ≡ 0 → Taken z s i s (taken_word z s i)
    unfolding waiting taken
    take_no e =
        let t : eqb (queued z s i) 0 ≡ true = eq-eqb _ _ e in
        let never : (x : ℕ) (l : List ℕ) → (waiting z s i).queue ≡ x ∷ l → ⊥ =
        λ x l p. let r : 0 < queued z s i = (ring_first z s i _ _ x l p).1 in omega arith in
        record {
          words = rw t;
          answer = refl;
          head_of = λ x l p. absurd (never x l p);
          off = λ x l p. absurd (never x l p);
          none_queued = λ p. refl;
          others = λ k _. refl;
          formed = λ f. f;
        }

    pub take_law : Taken z s i (taken z s i) (taken_word z s i)
    unfolding taken
    take_law = go (eqb (queued z s i) 0) refl
      where
        go : (b : Bool) → eqb (queued z s i) 0 ≡ b → Taken z s i (taken z s i) (taken_word z s i)
        go true e = rw e (take_no (eqb-true _ _ e))
        go false e = rw e (take_yes (eqb-false _ _ e))

    -- ---- clear

    pub clear_empties : waiting z (cleared z s i) i ≡ holds [] (waiting z s i).way
    unfolding waiting set₂ cleared
    clear_empties =
        let h : ℕ = head z s i in
        let q : ℕ = queued z s i in
        let w : ℕ = under_way z s i in
        let h' : ℕ = (h + q) % z.ring in
        let p₁ : ℕ = z.ring in
        let p₂ : ℕ = z.ring + 1 in
        let s' : List ℕ = set₂ p₁ h' p₂ 0 in
        let eh : head z s' i ≡ h' = mod_of (read₁ p₁ h' p₂ 0 (omega arith) (omega arith)) (mod-lt _ ok.some) in
        let eq : queued z s' i ≡ 0 = mod_of (read₂ p₁ h' p₂ 0 (omega arith)) ok.some in
        let ew : under_way z s' i ≡ w = ap (λ (y : ℕ). y % z.ring) (read₀ p₁ h' p₂ 0 (z.ring + 2) (omega arith) (omega arith)) in
        let kept : (a n : ℕ) → ring_at z s' i a n ≡ ring_at z s i a n = λ a n. both_kept s i p₁ h' p₂ 0 a n (omega arith) (omega arith) in
        waiting_is s' i h' 0 w eh eq ew
        ∙ ap₂ holds (ring_none z s' i h' 0 refl) (kept (h' + 0) w ∙ rw (add-zero h') (ring_turn z s i h' (h + q) w (mod-mod (h + q) z.ring)))

    pub clear_law : Cleared z s i (cleared z s i)
    unfolding cleared
    clear_law =
        let o = stored_twice s i z.ring ((head z s i + queued z s i) % z.ring) (z.ring + 1) 0 (omega arith) (omega arith) in
        record {
          words = refl;
          emptied = clear_empties;
          others = o;
          formed = λ f. let r = within s i f in kept_formed s _ i _ (simp length-set) o clear_empties (simp way_length (omega arith)) f;
        }

  -- ---- the empty store

  zeros : (n p : ℕ) → word (replicate n 0) p ≡ 0
  zeros zero p = refl
  zeros (suc n) zero = refl
  zeros (suc n) (suc p) = zeros n p

  pub none_waits : (k : ℕ) → waiting z (none z) k ≡ holds [] []
  unfolding none
  none_waits k =
      let n : ℕ = store_size z in
      let e : (p : ℕ) → word (replicate n 0) p % z.ring ≡ 0 = λ p. mod_of (zeros n p) ok.some in
      waiting_is (replicate n 0) k 0 0 0 (e (head_at z k)) (e (queued_at z k)) (e (way_at z k))
      ∙ ap₂ holds (ring_none z (replicate n 0) k 0 0 refl) (ring_none z (replicate n 0) k (0 + 0) 0 refl)

  pub none_formed : Formed z (none z)
  unfolding none
  none_formed = record { size = length-replicate _ 0; room = λ k. rw (none_waits k) (omega arith) }

  pub none_law : Empty z (none z)
  none_law = record { words = refl; nothing = none_waits; formed = none_formed }

-- the hub's own sizes are proper
pub sixteen_proper : Proper sixteen
sixteen_proper = record { some = omega arith; less = omega arith }
