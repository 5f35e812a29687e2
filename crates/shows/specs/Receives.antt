-- What one message does at a box that is awake between two deliveries, case by case: it waits behind another; it is a list, and saved at once; it is a set,
-- and waits for the other links; it is the set that was waited for, and a round is done. Pointwise, for any number of boxes. Assumes nothing.
use Rattle.std.specs.Prelude.{ℕ, zero, suc, ◌≤◌, ◌<◌, ◌≡◌, Bool, cond, ◌||◌, ◌⊎◌, ◌≢◌, eqb, length, set}
use Rattle.std.proofs.Math.Path.{refl, ap, fun_ext}
use Rattle.std.proofs.Common.{sym, ◌∙◌, inl, inr, ⊎_elim, arith}
use Rattle.std.proofs.Math.Bool.{true, false, not, false≢true}
use mathlib.Core.List.{List, [], ◌∷◌, ◌++◌}
use Rattle.std.proofs.Math.Decide.{ℕ_discrete}
use borrow.Author.Tests.{eq-eqb}
use Rattle.rules.specs.Sets.{mem, all, upd}
use Rattle.rules.specs.Box.{Msg, notspt, neighbors, Box, Desk, lists, behind, save_lists, save_heads, save, is_set, head_set, tail, all_sets, take_sets, round_sends, stops, next_hop, round, work, receive}
use Rattle.sets.specs.Loops.{by_bool, all_out}
use Rattle.sets.specs.Tables.{upd_same, upd_other}

-- ---- a queue with no list at its head

pub calm_cases : (q : List Msg) → behind q ≡ q → (q ≡ []) ⊎ ((s : ℕ) × (l : List Msg) × (q ≡ notspt s ∷ l))
unfolding behind
calm_cases [] e = inl refl
calm_cases (notspt s ∷ l) e = inr (s, l, refl)
calm_cases (neighbors k s ∷ l) e = absurd (shorter (behind l) l (neighbors k s) (longer l) e)
  where
    shorter : (a b : List Msg) (m : Msg) → length a ≤ length b → a ≡ m ∷ b → ⊥
    shorter a b m l e = omega (arith, ap length e)

    longer : (q : List Msg) → length (behind q) ≤ length q
    longer [] = omega arith
    longer (notspt s ∷ q) = omega arith
    longer (neighbors k s ∷ q) = omega (arith, longer q)

calm_saves : (q : List Msg) (t : List ℕ) → behind q ≡ q → (save_lists q t ≡ t) × (lists q ≡ [])
unfolding save_lists lists
calm_saves q t e =
    ⊎_elim (λ z. rw z (refl, refl)) (λ z. let (s, l, f) = z in rw f (refl, refl)) (calm_cases q e)

pub calm_heads : (n : ℕ) (q : ℕ → List Msg) (t : List ℕ) → ((j : ℕ) → j < n → behind (q j) ≡ q j) → save_heads n q t ≡ t
unfolding save_heads
calm_heads zero q t c = refl
calm_heads (suc n) q t c = ap (save_lists (q n)) (calm_heads n q t (λ j h. c j (omega arith))) ∙ (calm_saves (q n) t (c n (omega arith))).0

-- one queue holds a list, the others none at their heads
one_heads : (n a : ℕ) (q : ℕ → List Msg) (t : List ℕ) (k s : ℕ) → q a ≡ neighbors k s ∷ [] → ((j : ℕ) → j ≢ a → behind (q j) ≡ q j) → a < n → save_heads n q t ≡ set t k s
unfolding save_heads save_lists
one_heads zero a q t k s e c h = absurd (omega arith)
one_heads (suc n) a q t k s e c h =
    elim (ℕ_discrete a n) [
      | yes z ↦ ap (save_lists (q n)) (calm_heads n q t (λ j l. c j (omega arith))) ∙ ap (λ (l : List Msg). save_lists l t) (ap q (sym z) ∙ e)
      | no z ↦ ap (save_lists (q n)) (one_heads n a q t k s e c (omega arith)) ∙ (calm_saves (q n) (set t k s) (c n (λ y. z (sym y)))).0
    ]

pub calm_empty : behind [] ≡ []
unfolding behind
calm_empty = refl

pub calm_set : (s : ℕ) (l : List Msg) → behind (notspt s ∷ l) ≡ notspt s ∷ l
unfolding behind
calm_set s l = refl

-- ---- the desk that a message leaves, told by its parts

pub record Leaves (d : Desk) (b : Box) (q o : ℕ → List Msg) : Type 0 where
  pub box : d.box ≡ b
  pub queues : (j : ℕ) → d.queues j ≡ q j
  pub sends : (j : ℕ) → d.sends j ≡ o j

abbrev pub nothing : ℕ → List Msg
nothing j = []

desk_same : (c d : Desk) → c.box ≡ d.box → c.queues ≡ d.queues → c.sends ≡ d.sends → c.taken ≡ d.taken → c ≡ d
desk_same c d p q r u = λ i. record { box = p i; queues = q i; sends = r i; taken = u i }

-- the box with other lists
abbrev pub with_neighbors : Box → List ℕ → Box
with_neighbors b t = record { state = b.state; hop = b.hop; nodes = b.nodes; in_spt = b.in_spt; not_spt = b.not_spt; neighbors = t }

abbrev pub with_list : Box → ℕ → ℕ → Box
with_list b k s = with_neighbors b (set b.neighbors k s)

module _ (w n a : ℕ) (m : Msg) (b : Box) (q : ℕ → List Msg) (ha : a < w) (link : mem a n ≡ true) (up : b.state ≡ 1) (calm : (j : ℕ) → behind (q j) ≡ q j) where
  abbrev joined : ℕ → List Msg
  joined = upd q a (q a ++ (m ∷ []))

  abbrev desk : Desk
  desk = record { box = b; queues = joined; sends = λ j. []; taken = λ j. [] }

  -- it works: as many rounds as the queue is long
  received : receive w n a m b q ≡ work (length (q a ++ (m ∷ []))) w n desk
  unfolding receive
  received = rw (eq-eqb b.state 1 up)

  ready_not : (i : ℕ) → i < w → mem i n ≡ true → behind (joined i) ≡ [] → all_sets w n (save w desk).queues ≡ false
  unfolding all_sets save is_set
  ready_not i hi v e =
      by_bool (all w (λ j. not (mem j n) || is_set (behind (joined j))))
      (λ r. absurd (no_set (rw (v, e) at (all_out w (λ j. not (mem j n) || is_set (behind (joined j))) r i hi))))
      (λ r. r)
    where
      no_set : is_set [] ≡ true → ⊥
      no_set x = false≢true x

  save_up : eqb (save w desk).box.state 1 ≡ true
  unfolding save
  save_up = eq-eqb b.state 1 up

  -- no round: the lists at the heads are saved
  stays : (k : ℕ) → all_sets w n (save w desk).queues ≡ false → work (suc k) w n desk ≡ save w desk
  unfolding work
  stays k r = rw (save_up, r)

  more : (l : List Msg) → (k : ℕ) × (length (l ++ (m ∷ [])) ≡ suc k)
  more [] = (0, refl)
  more (x ∷ l) = (length (l ++ (m ∷ [])), refl)

  no_round : all_sets w n (save w desk).queues ≡ false → receive w n a m b q ≡ save w desk
  no_round r = let (k, e) = more (q a) in received ∙ ap (λ (x : ℕ). work x w n desk) e ∙ stays k r

  -- the saved desk, where no list stands at a head
  saved_calm : ((j : ℕ) → behind (joined j) ≡ joined j) → Leaves (save w desk) b joined nothing
  unfolding save
  saved_calm c = record { box = ap (with_neighbors b) (calm_heads w joined b.neighbors (λ j h. c j)); queues = c; sends = λ j. refl }

  joined_calm : behind (q a ++ (m ∷ [])) ≡ q a ++ (m ∷ []) → (j : ℕ) → behind (joined j) ≡ joined j
  joined_calm e j = elim (ℕ_discrete j a) [ yes z ↦ rw (z, upd_same q a (q a ++ (m ∷ []))) e | no z ↦ rw (upd_other q a (q a ++ (m ∷ [])) j z) (calm j) ]

  -- ---- it waits behind another

  pub waits_behind : (x : Msg) (l : List Msg) → q a ≡ x ∷ l → (i : ℕ) → i < w → mem i n ≡ true → q i ≡ [] → Leaves (receive w n a m b q) b joined nothing
  waits_behind x l e i hi v z =
      let ne : i ≢ a = λ y. absurd (some (sym z ∙ ap q y ∙ e)) in
      let f : behind (joined i) ≡ [] = rw (upd_other q a (q a ++ (m ∷ [])) i ne, z) calm_empty in
      rw (no_round (ready_not i hi v f)) (saved_calm (joined_calm (go (calm_cases (q a) (calm a)))))
    where
      some : [] ≡ x ∷ l → ⊥
      some y = let z : ◌≡◌ {A = ℕ} 0 1 = cc in omega arith

      go : (q a ≡ []) ⊎ ((s : ℕ) × (k : List Msg) × (q a ≡ notspt s ∷ k)) → behind (q a ++ (m ∷ [])) ≡ q a ++ (m ∷ [])
      go (inl y) = absurd (some (sym y ∙ e))
      go (inr (s, k, y)) = rw y (calm_set s (k ++ (m ∷ [])))

  -- ---- it is alone in its queue

  alone : q a ≡ [] → (j : ℕ) → joined j ≡ upd q a (m ∷ []) j
  alone e j = ap (λ (l : List Msg). upd q a (l ++ (m ∷ [])) j) e

  -- a list: it is saved, and the queues are as they were
  pub saves_list : (k s : ℕ) → m ≡ neighbors k s → q a ≡ [] → Leaves (receive w n a m b q) (with_list b k s) q nothing
  unfolding save behind
  saves_list k s f e =
      let one : joined a ≡ neighbors k s ∷ [] = alone e a ∙ upd_same q a (m ∷ []) ∙ ap (λ (x : Msg). x ∷ []) f in
      let none : behind (joined a) ≡ [] = ap behind one ∙ gone in
      rw (no_round (ready_not a ha link none)) (saved one none)
    where
      gone : behind (neighbors k s ∷ []) ≡ []
      gone = refl

      saved : joined a ≡ neighbors k s ∷ [] → behind (joined a) ≡ [] → Leaves (save w desk) (with_list b k s) q nothing
      saved one none = record {
        box = ap (with_neighbors b) (one_heads w a joined b.neighbors k s one (λ j z. rw (upd_other q a (q a ++ (m ∷ [])) j z) (calm j)) ha);
        queues = λ j. elim (ℕ_discrete j a) [ yes z ↦ rw z (none ∙ sym e) | no z ↦ rw (upd_other q a (q a ++ (m ∷ [])) j z) (calm j) ];
        sends = λ j. refl;
      }

  -- a set
  module _ (s : ℕ) (f : m ≡ notspt s) (e : q a ≡ []) where
    set_calm : (j : ℕ) → behind (joined j) ≡ joined j
    set_calm = joined_calm (rw (e, f) (calm_set s []))

    -- the saved desk
    abbrev waiting : ℕ → List Msg
    waiting = upd q a (m ∷ [])

    abbrev ready : Desk
    ready = record { box = b; queues = waiting; sends = λ j. []; taken = (save w desk).taken }

    saved_is : save w desk ≡ ready
    saved_is =
        let L : Leaves (save w desk) b joined nothing = saved_calm set_calm in
        desk_same (save w desk) ready L.box (fun_ext (λ j. L.queues j ∙ alone e j)) (fun_ext (λ j. L.sends j)) refl

    -- it waits for the other links
    pub waits_set : all_sets w n waiting ≡ false → Leaves (receive w n a m b q) b waiting nothing
    waits_set r =
        rw (no_round (ap (λ (d : Desk). all_sets w n d.queues) saved_is ∙ r), saved_is) (record { box = refl; queues = λ j. refl; sends = λ j. refl })

    one_round : all_sets w n waiting ≡ true → work 1 w n desk ≡ save w (round w n ready)
    unfolding work
    one_round r = rw (saved_is, eq-eqb b.state 1 up, r)

    -- the sets at the heads are taken
    abbrev pub taking : Box
    taking = take_sets w n (λ j. head_set (waiting j)) b

    -- what is left in the queues
    abbrev pub leaving : ℕ → List Msg
    leaving j = cond (mem j n) (tail (waiting j)) (waiting j)

    pub does_round : all_sets w n waiting ≡ true → receive w n a m b q ≡ save w (round w n ready)
    does_round r = received ∙ ap (λ (l : List Msg). work (length (l ++ (m ∷ []))) w n desk) e ∙ one_round r

    -- the desk after the round, stopped or not
    abbrev turned : Bool → Desk
    turned x = record {
      box = next_hop taking;
      queues = λ j. cond x [] (leaving j);
      sends = round_sends w n taking;
      taken = λ j. ready.taken j ++ cond (mem j n) (notspt (head_set (ready.queues j)) ∷ []) [];
    }

    turned_is : (x : Bool) → stops taking ≡ x → round w n ready ≡ turned x
    unfolding round
    turned_is x z = ap turned z

    -- it goes on
    pub goes_on : all_sets w n waiting ≡ true → stops taking ≡ false
        → Leaves (receive w n a m b q) (with_neighbors (next_hop taking) (save_heads w leaving (next_hop taking).neighbors)) (λ j. behind (leaving j)) (round_sends w n taking)
    unfolding save
    goes_on r z = rw (does_round r, turned_is false z) saved
      where
        saved : Leaves (save w (turned false)) (with_neighbors (next_hop taking) (save_heads w leaving (next_hop taking).neighbors)) (λ j. behind (leaving j)) (round_sends w n taking)
        saved = record { box = refl; queues = λ j. refl; sends = λ j. refl }

    -- it stops
    pub comes_to_rest : all_sets w n waiting ≡ true → stops taking ≡ true → Leaves (receive w n a m b q) (next_hop taking) nothing (round_sends w n taking)
    unfolding save
    comes_to_rest r z = rw (does_round r, turned_is true z) saved
      where
        saved : Leaves (save w (turned true)) (next_hop taking) nothing (round_sends w n taking)
        saved = record {
          box = ap (with_neighbors (next_hop taking)) (calm_heads w nothing (next_hop taking).neighbors (λ j h. calm_empty));
          queues = λ j. calm_empty;
          sends = λ j. refl;
        }
