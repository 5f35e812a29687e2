-- Runs of messages: how many NOTSPT stand in one, whose lists, how often; a set's members as a run of lists. No hops. Assumes nothing.
use Rattle.std.specs.Prelude.{ℕ, zero, suc, ◌+◌, ◌≤◌, ◌<◌, ◌≡◌, refl, true, false, List, [], ◌∷◌, ◌++◌, map, ◌⊎◌, eqb}
use Rattle.std.proofs.Common.{sym, ap, ap₂, ◌∙◌, true≢false, append-nil, inl, inr, ⊎_elim, arith, eq-eqb, ne_eqb}
use Rattle.std.proofs.Math.Decide.{ℕ_discrete}
use Rattle.rules.specs.Sets.{mem, bit, each, members}
use Rattle.rules.specs.Box.{Msg, notspt, neighbors}
use Rattle.sets.specs.Mem.{mem_empty}
use Rattle.sets.specs.Loops.{by_bool}
use Rattle.order.specs.Terms.{tally}
use Rattle.order.specs.Rounds.{lt_suc}

-- ---- the members of a set as a list

abbrev pub In : ℕ → List ℕ → Type 0
In k [] = ⊥
In k (x ∷ l) = (k ≡ x) ⊎ In k l

in_append : (k : ℕ) (a b : List ℕ) → In k (a ++ b) → In k a ⊎ In k b
in_append k [] b h = inr h
in_append k (x ∷ a) b h = ⊎_elim (λ e. inl (inl e)) (λ u. ⊎_elim (λ v. inl (inr v)) (λ v. inr v) (in_append k a b u)) h

append_in_l : (k : ℕ) (a b : List ℕ) → In k a → In k (a ++ b)
append_in_l k [] b h = absurd h
append_in_l k (x ∷ a) b h = ⊎_elim (λ e. inl e) (λ u. inr (append_in_l k a b u)) h

append_in_r : (k : ℕ) (a b : List ℕ) → In k b → In k (a ++ b)
append_in_r k [] b h = h
append_in_r k (x ∷ a) b h = inr (append_in_r k a b h)

members_more : (w s : ℕ) → mem w s ≡ true → members (suc w) s ≡ members w s ++ (w ∷ [])
unfolding members each
members_more w s e = rw e

members_skip : (w s : ℕ) → mem w s ≡ false → members (suc w) s ≡ members w s
unfolding members each
members_skip w s e = rw e (append-nil (members w s))

members_start : (s : ℕ) → members 0 s ≡ []
unfolding members each
members_start s = refl

pub members_get : (w s k : ℕ) → In k (members w s) → (k < w) × (mem k s ≡ true)
members_get zero s k = rw members_start (λ h. absurd h)
members_get (suc w) s k =
    by_bool (mem w s)
    (λ e. rw (members_more w s e) (λ h. ⊎_elim (λ u. let (a, b) = members_get w s k u in (omega arith, b))
    (λ u. ⊎_elim (λ z. (omega arith, rw z e)) (λ z. absurd z) u) (in_append k (members w s) (w ∷ []) h)))
    (λ e. rw (members_skip w s e) (λ h. let (a, b) = members_get w s k h in (omega arith, b)))

pub members_put : (w s k : ℕ) → k < w → mem k s ≡ true → In k (members w s)
members_put zero s k h m = absurd (omega arith)
members_put (suc w) s k h m =
    by_bool (mem w s)
    (λ e. rw (members_more w s e) (⊎_elim (λ z. append_in_l k (members w s) (w ∷ []) (members_put w s k z m)) (λ z. append_in_r k (members w s) (w ∷ []) (inl z)) (lt_suc k w h)))
    (λ e. rw (members_skip w s e) (⊎_elim (λ z. members_put w s k z m) (λ z. absurd (true≢false (sym m ∙ ap (λ (x : ℕ). mem x s) z ∙ e))) (lt_suc k w h)))

pub members_none : (w : ℕ) → members w 0 ≡ []
members_none zero = members_start 0
members_none (suc w) = members_skip w 0 (mem_empty w) ∙ members_none w

-- ---- how many NOTSPT; whose lists

unfoldable pub sets : List Msg → ℕ
sets [] = 0
sets (notspt s ∷ l) = suc (sets l)
sets (neighbors k s ∷ l) = sets l

pub sets_append : (a b : List Msg) → sets (a ++ b) ≡ sets a + sets b
unfolding sets
sets_append [] b = omega arith
sets_append (notspt s ∷ a) b = omega (arith, sets_append a b)
sets_append (neighbors k s ∷ a) b = sets_append a b

pub no_sets_lem : sets [] ≡ 0
unfolding sets
no_sets_lem = refl

pub one_set : (s : ℕ) → sets (notspt s ∷ []) ≡ 1
unfolding sets
one_set s = refl

-- the list of k stands in c
abbrev pub Says : ℕ → List Msg → Type 0
Says k [] = ⊥
Says k (notspt s ∷ c) = Says k c
Says k (neighbors j s ∷ c) = (k ≡ j) ⊎ Says k c

pub says_split : (k : ℕ) (a b : List Msg) → Says k (a ++ b) → Says k a ⊎ Says k b
says_split k [] b e = inr e
says_split k (notspt s ∷ a) b e = says_split k a b e
says_split k (neighbors j s ∷ a) b e = ⊎_elim (λ z. inl (inl z)) (λ u. ⊎_elim (λ z. inl (inr z)) (λ z. inr z) (says_split k a b u)) e

pub says_l : (k : ℕ) (a b : List Msg) → Says k a → Says k (a ++ b)
says_l k [] b h = absurd h
says_l k (notspt s ∷ a) b h = says_l k a b h
says_l k (neighbors j s ∷ a) b h = ⊎_elim (λ e. inl e) (λ u. inr (says_l k a b u)) h

pub says_r : (k : ℕ) (a b : List Msg) → Says k b → Says k (a ++ b)
says_r k [] b h = h
says_r k (notspt s ∷ a) b h = says_r k a b h
says_r k (neighbors j s ∷ a) b h = inr (says_r k a b h)

-- where it stands
pub says_where : (k : ℕ) (d : List Msg) → Says k d → (a : List Msg) × (s : ℕ) × (q : List Msg) × (d ≡ a ++ (neighbors k s ∷ q))
says_where k [] h = absurd h
says_where k (notspt s ∷ d) h =
    let (a, x, q, e) = says_where k d h in (notspt s ∷ a, x, q, ap (λ (c : List Msg). notspt s ∷ c) e)
says_where k (neighbors j s ∷ d) h =
    ⊎_elim (λ e. ([], s, d, rw e))
    (λ u. let (a, x, q, e) = says_where k d u in (neighbors j s ∷ a, x, q, ap (λ (c : List Msg). neighbors j s ∷ c) e)) h

-- every list in c has the property
abbrev pub Every : (ℕ → ℕ → Type 0) → List Msg → Type 0
Every P [] = Unit {0}
Every P (notspt s ∷ c) = Every P c
Every P (neighbors j s ∷ c) = P j s × Every P c

pub every_split : (P : ℕ → ℕ → Type 0) (a b : List Msg) → Every P (a ++ b) → Every P a × Every P b
every_split P [] b e = (tt, e)
every_split P (notspt s ∷ a) b e = every_split P a b e
every_split P (neighbors j s ∷ a) b e = let (x, y) = every_split P a b e.1 in ((e.0, x), y)

-- ---- how often the list of k stands in c

pub tally_append : (k : ℕ) (a b : List Msg) → tally k (a ++ b) ≡ tally k a + tally k b
unfolding tally
tally_append k [] b = omega arith
tally_append k (notspt s ∷ a) b = tally_append k a b
tally_append k (neighbors j s ∷ a) b = omega (arith, tally_append k a b)

pub no_tally : (k : ℕ) → tally k [] ≡ 0
unfolding tally
no_tally k = refl

pub set_tally : (k s : ℕ) → tally k (notspt s ∷ []) ≡ 0
unfolding tally
set_tally k s = refl

pub tally_none : (k : ℕ) (c : List Msg) → (Says k c → ⊥) → tally k c ≡ 0
unfolding tally
tally_none k [] h = refl
tally_none k (notspt s ∷ c) h = tally_none k c h
tally_none k (neighbors j s ∷ c) h = rw (ne_eqb k j (λ e. h (inl e))) (omega (arith, tally_none k c (λ u. h (inr u))))

pub tally_past : (w k : ℕ) (c : List Msg) → w ≤ k → Every (λ j s. j < w) c → tally k c ≡ 0
unfolding tally
tally_past w k [] h e = refl
tally_past w k (notspt s ∷ c) h e = tally_past w k c h e
tally_past w k (neighbors j s ∷ c) h e = rw (ne_eqb k j (omega (arith, e.0))) (omega (arith, tally_past w k c h e.1))

-- ---- runs of lists

-- the lists of the boxes js, in order, and then l
abbrev pub carry : (ℕ → ℕ) → List ℕ → List Msg → List Msg
carry f js l = map (λ k. neighbors k (f k)) js ++ l

pub carry_same : (f g : ℕ → ℕ) (js : List ℕ) → ((k : ℕ) → In k js → f k ≡ g k) → map (λ k. neighbors k (f k)) js ≡ map (λ k. neighbors k (g k)) js
carry_same f g [] h = refl
carry_same f g (j ∷ js) h = ap₂ ◌∷◌ (ap (neighbors j) (h j (inl refl))) (carry_same f g js (λ k u. h k (inr u)))

pub says_carry : (f : ℕ → ℕ) (js : List ℕ) (l : List Msg) (k : ℕ) → In k js → Says k (carry f js l)
says_carry f [] l k h = absurd h
says_carry f (j ∷ js) l k h = ⊎_elim (λ e. inl e) (λ u. inr (says_carry f js l k u)) h

pub carry_says : (f : ℕ → ℕ) (js : List ℕ) (l : List Msg) (k : ℕ) → Says k l → Says k (carry f js l)
carry_says f [] l k h = h
carry_says f (j ∷ js) l k h = inr (carry_says f js l k h)

pub every_carry : (P : ℕ → ℕ → Type 0) (f : ℕ → ℕ) (js : List ℕ) (l : List Msg) → ((k : ℕ) → In k js → P k (f k)) → Every P l → Every P (carry f js l)
every_carry P f [] l h e = e
every_carry P f (j ∷ js) l h e = (h j (inl refl), every_carry P f js l (λ k u. h k (inr u)) e)

pub sets_carry : (f : ℕ → ℕ) (js : List ℕ) (l : List Msg) → sets (carry f js l) ≡ sets l
unfolding sets
sets_carry f [] l = refl
sets_carry f (j ∷ js) l = sets_carry f js l

-- how often k stands in a list of boxes
unfoldable times : ℕ → List ℕ → ℕ
times k [] = 0
times k (j ∷ l) = bit (eqb k j) + times k l

times_append : (k : ℕ) (a b : List ℕ) → times k (a ++ b) ≡ times k a + times k b
unfolding times
times_append k [] b = omega arith
times_append k (j ∷ a) b = omega (arith, times_append k a b)

times_one : (k j : ℕ) → times k (j ∷ []) ≡ bit (eqb k j)
unfolding times
times_one k j = omega arith

tally_times : (k : ℕ) (f : ℕ → ℕ) (js : List ℕ) (l : List Msg) → tally k (carry f js l) ≡ times k js + tally k l
unfolding tally times
tally_times k f [] l = omega arith
tally_times k f (j ∷ js) l = omega (arith, tally_times k f js l)

times_none : (k : ℕ) → times k [] ≡ 0
unfolding times
times_none k = refl

times_past : (k w s : ℕ) → w ≤ k → times k (members w s) ≡ 0
times_past k zero s h = ap (times k) (members_start s) ∙ times_none k
times_past k (suc w) s h =
    let z : times k (members w s) ≡ 0 = times_past k w s (omega arith) in
    by_bool (mem w s)
    (λ e. ap (times k) (members_more w s e) ∙ times_append k (members w s) (w ∷ []) ∙ omega (arith, times_one k w ∙ ap bit (ne_eqb k w (omega arith))))
    (λ e. ap (times k) (members_skip w s e) ∙ z)

times_members : (k w s : ℕ) → k < w → times k (members w s) ≡ bit (mem k s)
times_members k zero s h = absurd (omega arith)
times_members k (suc w) s h =
    elim (ℕ_discrete k w) [
      | yes z ↦ rw z (by_bool (mem w s)
          (λ e. ap (times w) (members_more w s e) ∙ times_append w (members w s) (w ∷ []) ∙ rw e (omega (arith, times_past w w s (omega arith), times_one w w ∙ ap bit (eq-eqb w w refl))))
          (λ e. ap (times w) (members_skip w s e) ∙ rw e (times_past w w s (omega arith))))
      | no z ↦ by_bool (mem w s)
          (λ e. ap (times k) (members_more w s e) ∙ times_append k (members w s) (w ∷ []) ∙ omega (arith, times_members k w s (omega arith), times_one k w ∙ ap bit (ne_eqb k w z)))
          (λ e. ap (times k) (members_skip w s e) ∙ times_members k w s (omega arith))
    ]

-- the list of each member once, and no other
pub tally_members : (k : ℕ) (f : ℕ → ℕ) (w s : ℕ) (l : List Msg) → k < w → tally k (carry f (members w s) l) ≡ bit (mem k s) + tally k l
tally_members k f w s l h = tally_times k f (members w s) l ∙ ap (λ (n : ℕ). n + tally k l) (times_members k w s h)
