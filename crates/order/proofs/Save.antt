-- "Some queue has a Neighbors message at its head: take it and save its list." Saving keeps the invariant of the box. Assumes nothing.
use Prim.Native.Nat.{ℕ, zero, suc, ◌≤◌, ◌<◌}
use Rattle.std.specs.Prelude.{◌≡◌, true, false, length, set}
use Rattle.std.proofs.Math.Path.{refl, ap}
use Rattle.std.proofs.Common.{sym, ◌∙◌, subst, true≢false, arith, length-set, get_or-set_same}
use mathlib.Core.List.{List, [], ◌∷◌, ◌++◌, append_assoc}
use Rattle.std.proofs.Math.Logic.{⊎_elim}
use Rattle.std.proofs.Math.Decide.{ℕ_discrete}
use Rattle.std.proofs.Math.Seq.{get_or-set_other}
use Rattle.rules.specs.Sets.{mem, word}
use Rattle.rules.specs.Box.{Msg, notspt, neighbors, Desk, lists, behind, save_lists, save_heads, save, is_set}
use Rattle.rules.specs.Rest.{Table}
use Rattle.sets.specs.Loops.{by_bool}
use Rattle.order.specs.Rounds.{lt_suc, link_lt}
use Rattle.order.specs.Messages.{sets, sets_append, Says, says_split, Every, every_split}
use Rattle.order.specs.Wire.{Own, Mate, wire_own}
use Rattle.order.specs.Invariant.{Flow, Half}

-- ---- the lists at the head of a queue

pub lists_behind : (q : List Msg) → q ≡ lists q ++ behind q
unfolding lists behind
lists_behind [] = refl
lists_behind (notspt s ∷ q) = refl
lists_behind (neighbors k s ∷ q) = ap (λ (x : List Msg). neighbors k s ∷ x) (lists_behind q)

lists_sets : (q : List Msg) → sets (lists q) ≡ 0
unfolding lists sets
lists_sets [] = refl
lists_sets (notspt s ∷ q) = refl
lists_sets (neighbors k s ∷ q) = lists_sets q

pub behind_twice : (q : List Msg) → behind (behind q) ≡ behind q
unfolding behind
behind_twice [] = refl
behind_twice (notspt s ∷ q) = refl
behind_twice (neighbors k s ∷ q) = behind_twice q

pub lists_none : lists [] ≡ []
unfolding lists
lists_none = refl

pub behind_none : behind [] ≡ []
unfolding behind
behind_none = refl

behind_le : (q : List Msg) → length (behind q) ≤ length q
unfolding behind
behind_le [] = omega arith
behind_le (notspt s ∷ q) = omega arith
behind_le (neighbors k s ∷ q) = omega (arith, behind_le q)

-- no list at the head and no set: empty
pub no_head : (q : List Msg) → behind q ≡ q → is_set q ≡ false → q ≡ []
unfolding behind is_set
no_head [] e h = refl
no_head (notspt s ∷ q) e h = absurd (true≢false h)
no_head (neighbors k s ∷ q) e h = absurd (omega (arith, behind_le q, ap length e))

-- ---- the table of lists

after_set : (f : ℕ → ℕ) (l : List ℕ) (j s k : ℕ) → j < length l → s ≡ f j → word l k ≡ f k → word (set l j s) k ≡ f k
after_set f l j s k h e g =
    elim (ℕ_discrete k j) [ yes x ↦ rw x (get_or-set_same l j s 0 h ∙ e) | no x ↦ get_or-set_other l j k s 0 x ∙ g ]

one_length : (q : List Msg) (l : List ℕ) → length (save_lists q l) ≡ length l
unfolding save_lists
one_length [] l = refl
one_length (notspt s ∷ q) l = refl
one_length (neighbors k s ∷ q) l = one_length q (set l k s) ∙ length-set l k s

pub save_length : (n : ℕ) (q : ℕ → List Msg) (l : List ℕ) → length (save_heads n q l) ≡ length l
unfolding save_heads
save_length zero q l = refl
save_length (suc n) q l = one_length (q n) (save_heads n q l) ∙ save_length n q l

module _ (w : ℕ) (f : ℕ → ℕ) (G : ℕ → Type 0) (low : (k : ℕ) → G k → k < w) where
  put_keeps : (q : List Msg) (l : List ℕ) (k : ℕ) → length l ≡ w → Every (Own f G) q → word l k ≡ f k → word (save_lists q l) k ≡ f k
  unfolding save_lists
  put_keeps [] l k n o e = e
  put_keeps (notspt s ∷ q) l k n o e = e
  put_keeps (neighbors j s ∷ q) l k n o e =
      put_keeps q (set l j s) k (length-set l j s ∙ n) o.1 (after_set f l j s k (omega (arith, low j o.0.1)) o.0.0 e)

  put_gains : (q : List Msg) (l : List ℕ) (k : ℕ) → length l ≡ w → Every (Own f G) q → Says k (lists q) → word (save_lists q l) k ≡ f k
  unfolding save_lists lists
  put_gains [] l k n o e = absurd e
  put_gains (notspt s ∷ q) l k n o e = absurd e
  put_gains (neighbors j s ∷ q) l k n o e =
      ⊎_elim
      (λ z. put_keeps q (set l j s) k (length-set l j s ∙ n) o.1 (rw z (get_or-set_same l j s 0 (omega (arith, low j o.0.1)) ∙ o.0.0)))
      (λ u. put_gains q (set l j s) k (length-set l j s ∙ n) o.1 u) e

  put_none : (q : List Msg) (l : List ℕ) (k : ℕ) → Every (Own f G) q → (G k → ⊥) → word (save_lists q l) k ≡ word l k
  unfolding save_lists
  put_none [] l k o e = refl
  put_none (notspt s ∷ q) l k o e = refl
  put_none (neighbors j s ∷ q) l k o e =
      put_none q (set l j s) k o.1 e ∙ get_or-set_other l j k s 0 (λ z. e (rw z o.0.1))

  module _ (q : ℕ → List Msg) (l : List ℕ) (k : ℕ) where
    all_keeps : (n : ℕ) → length l ≡ w → ((i : ℕ) → i < n → Every (Own f G) (q i)) → word l k ≡ f k → word (save_heads n q l) k ≡ f k
    unfolding save_heads
    all_keeps zero z o e = e
    all_keeps (suc n) z o e =
        put_keeps (q n) (save_heads n q l) k (save_length n q l ∙ z) (o n (omega arith)) (all_keeps n z (λ i h. o i (omega arith)) e)

    all_gains : (n i : ℕ) → length l ≡ w → i < n → ((i : ℕ) → i < n → Every (Own f G) (q i)) → Says k (lists (q i)) → word (save_heads n q l) k ≡ f k
    unfolding save_heads
    all_gains zero i z h o e = absurd (omega arith)
    all_gains (suc n) i z h o e =
        ⊎_elim
        (λ y. put_keeps (q n) (save_heads n q l) k (save_length n q l ∙ z) (o n (omega arith)) (all_gains n i z y (λ x u. o x (omega arith)) e))
        (λ y. put_gains (q n) (save_heads n q l) k (save_length n q l ∙ z) (o n (omega arith)) (rw y at e))
        (lt_suc i n h)

    all_none : (n : ℕ) → ((i : ℕ) → i < n → Every (Own f G) (q i)) → (G k → ⊥) → word (save_heads n q l) k ≡ word l k
    unfolding save_heads
    all_none zero o e = refl
    all_none (suc n) o e = put_none (q n) (save_heads n q l) k (o n (omega arith)) e ∙ all_none n (λ i h. o i (omega arith)) e

-- ---- the box

-- a desk between its steps: what it has used of each link, before and at this desk
abbrev pub used : (ℕ → List Msg) → Desk → ℕ → List Msg
used past d i = past i ++ d.taken i

module _ (w : ℕ) (t : List ℕ) (s : Table w t) (j : ℕ) (hj : j < w) (n : ℕ → ℕ) (past rest : ℕ → List Msg) where
  module _ (d : Desk) (p : Half w t j n (used past d) d.queues rest d.box) where
    -- every list in a queue is the box's own, and its box is in the group
    queue_own : (i : ℕ) → i < w → Every (Own (word t) (Mate w t j)) (d.queues i)
    queue_own i hi =
        by_bool (mem i (word t j))
        (λ v. let f : Flow w t i j (n i) (used past d i) (d.queues i) (rest i) d.box = p.flows i v in
        (every_split (Own (word t) (Mate w t j)) (d.queues i) (rest i)
        (every_split (Own (word t) (Mate w t j)) (used past d i) (d.queues i ++ rest i) (subst (Every (Own (word t) (Mate w t j))) f.all (wire_own w t s i j (n i) hi hj))).1).0)
        (λ v. rw (p.mute i v) tt)

    lists_keep : (k : ℕ) → word d.box.neighbors k ≡ word t k → word (save_heads w d.queues d.box.neighbors) k ≡ word t k
    lists_keep k e = all_keeps w (word t) (Mate w t j) (λ k g. g.0) d.queues d.box.neighbors k w p.tables.list_size queue_own e

    saved_flow : (i : ℕ) → mem i (word t j) ≡ true → Flow w t i j (n i) (used past (save w d) i) (behind (d.queues i)) (rest i) (save w d).box
    unfolding save
    saved_flow i v =
        let f : Flow w t i j (n i) (used past d i) (d.queues i) (rest i) d.box = p.flows i v in
        record {
          all = f.all ∙ ap (λ (x : List Msg). (past i ++ d.taken i) ++ (x ++ rest i)) (lists_behind (d.queues i)) ∙ simp append_assoc;
          num = ap sets (sym (append_assoc (past i) (d.taken i) (lists (d.queues i)))) ∙ omega (arith, sets_append (past i ++ d.taken i) (lists (d.queues i)), lists_sets (d.queues i), f.num);
          kept = λ k u. ⊎_elim
              (λ z. lists_keep k (f.kept k z))
              (λ z. all_gains w (word t) (Mate w t j) (λ k g. g.0) d.queues d.box.neighbors k w i p.tables.list_size (link_lt w t s j i v) queue_own z)
              (says_split k (past i ++ d.taken i) (lists (d.queues i)) (subst (Says k) (sym (append_assoc (past i) (d.taken i) (lists (d.queues i)))) u));
        }

    pub saved : Half w t j n (used past (save w d)) (save w d).queues rest (save w d).box
    unfolding save
    saved = record {
      state = p.state;
      tables = record {
        nodes_size = p.tables.nodes_size;
        in_size = p.tables.in_size;
        not_size = p.tables.not_size;
        list_size = save_length w d.queues d.box.neighbors ∙ p.tables.list_size;
        old = p.tables.old;
        new = p.tables.new;
        ins = p.tables.ins;
        heard = p.tables.heard;
        deaf = p.tables.deaf;
        own = lists_keep j p.tables.own;
        only = λ k hk g. all_none w (word t) (Mate w t j) (λ k g. g.0) d.queues d.box.neighbors k w queue_own (λ x. g x.1) ∙ p.tables.only k hk g;
      };
      early = p.early;
      linked = p.linked;
      flows = saved_flow;
      mute = λ i v. ap behind (p.mute i v) ∙ behind_none;
    }
