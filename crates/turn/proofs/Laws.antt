-- What the calls of a turn's first part come to in their definitions: each law takes what the callees promise, and gives what the function promises.
-- Assumes nothing.
use Prim.Native.Nat.{ℕ, zero, suc, ◌+◌, ◌*◌, ◌%◌, ◌<◌}
use native.Mathlib.Decide.{dec_lt}
use native.Mathlib.Omega.{arith}
use mathlib.Core.Path.{◌≡◌, refl, sym, ap, ◌∙◌}
use mathlib.Core.Bool.{Bool, true, false, cond, true≢false}
use mathlib.Core.List.{List, [], ◌∷◌}
use lib.Dec.{eqb, ltb}
use lib.ListN.{length, get_or}
use borrow.Author.Tests.{lt-ltb, ne_eqb}
use Rattle.rules.specs.Sets.{mem, word, least, any}
use Rattle.sets.specs.Mem.{mem_empty}
use Rattle.sets.specs.Loops.{any_in, any_out, by_bool, least_is, least_none}
use Rattle.boxes.specs.Arrival.{Arrival}
use Rattle.turn.specs.Turn.{Turn, Pair, searched, pair_of, next_pair, sleeps, quiet, one_list, round_of, took_round, took_first, delivered, took_pair, took_def}
use Rattle.turn.specs.Parts.{Receiver, took, receiver_of, quiet_to, one_list_to, round_to, first_to, delivered_to}
use Rattle.turn.specs.Code.{flat}

-- ---- the search

abbrev pub nobody : Pair
nobody = record { some = false; «from» = 0; to = 0 }

-- the search's answer, once its sender is found
from_sender : List ℕ → ℕ → Pair
from_sender busy a = record { some = ltb a 16; «from» = cond (ltb a 16) a 0; to = cond (ltb a 16) (least 16 (λ b. mem b (word busy a))) 0 }

any_none : (w : ℕ) (f : ℕ → Bool) → ((j : ℕ) → j < w → f j ≡ false) → any w f ≡ false
any_none w f none = by_bool (any w f) (λ e. let (k, l, t) = any_out w f e in absurd (true≢false (sym t ∙ none k l))) (λ e. e)

-- the senders below n have nothing under way
abbrev pub Idle : List ℕ → ℕ → Type 0
Idle busy n = (k : ℕ) → k < n → (b : ℕ) → b < 16 → mem b (word busy k) ≡ false

pub idle_more : (busy : List ℕ) (n : ℕ) → Idle busy n → ((b : ℕ) → b < 16 → mem b (word busy n) ≡ false) → Idle busy (n + 1)
idle_more busy n i h k l b m = elim (dec_lt k n) [ yes p ↦ i k p b m | no q ↦ (let e : k ≡ n = omega arith in rw e (h b m)) ]

pub idle_empty : (to : ℕ) → to ≡ 0 → (b : ℕ) → b < 16 → mem b to ≡ false
idle_empty to e b l = rw e (mem_empty b)

pub search_none : (busy : List ℕ) → Idle busy 16 → nobody ≡ searched busy
unfolding searched from_sender
search_none busy idle =
    sym (ap (from_sender busy) (least_none 16 (λ a. any 16 (λ b. mem b (word busy a))) (λ a l. any_none 16 (λ b. mem b (word busy a)) (idle a l))))

pub search_found : (busy : List ℕ) (a b : ℕ) → a < 16 → b < 16 → Idle busy a → ((t : ℕ) → t < b → mem t (word busy a) ≡ false) → mem b (word busy a) ≡ true
    → ◌≡◌ {A = Pair} (record { some = true; «from» = a; to = b }) (searched busy)
unfolding searched from_sender
search_found busy a b la lb idle before here =
    let f : ℕ → Bool = λ k. any 16 (λ t. mem t (word busy k)) in
    let e : least 16 f ≡ a = least_is 16 f a la (λ j lj. any_none 16 (λ t. mem t (word busy j)) (idle j lj)) (any_in 16 (λ t. mem t (word busy a)) b lb here) in
    let g : least 16 (λ t. mem t (word busy a)) ≡ b = least_is 16 (λ t. mem t (word busy a)) b lb before here in
    let t : ltb a 16 ≡ true = lt-ltb a 16 la in
    sym (ap (from_sender busy) e ∙ rw (t, g))

-- ---- what a pair brings

-- the same definitions twice: by the receiver's words, and by the state
pub delivered_is : (c : Turn) (a b : ℕ) (s : List ℕ) → delivered_to (receiver_of c b) a s ≡ delivered c a b s
unfolding delivered_to first_to round_to one_list_to quiet_to receiver_of delivered took_first took_round round_of one_list quiet sleeps
delivered_is c a b s = refl

-- by the next pair
pub take_delivers : (list s s' : List ℕ) (c : Turn) (p : Pair) (r : Receiver) (h : Arrival) → p ≡ pair_of list c.at c.pairs c.busy → p.some ≡ true → (p.«from» ≡ p.to → ⊥)
    → r ≡ receiver_of c p.to → took s' h ≡ delivered_to r p.«from» s → took s' h ≡ took_def list s c
unfolding took_def took_pair next_pair
take_delivers list s s' c p r h ep y n er e =
    let t : eqb p.«from» p.to ≡ false = ne_eqb _ _ n in
    e ∙ ap (λ (z : Receiver). delivered_to z p.«from» s) er ∙ delivered_is c p.«from» p.to s ∙ rw (← ep, y, t)

-- ---- the pairs of the list

pub flat_at : (ps : List (List ℕ)) (k : ℕ) → k < length ps → (word (flat ps) (k * 2) ≡ word (get_or ps k []) 0) × (word (flat ps) (k * 2 + 1) ≡ word (get_or ps k []) 1)
unfolding flat
flat_at [] k l = absurd (omega arith)
flat_at (p ∷ ps) zero l = (refl, refl)
flat_at (p ∷ ps) (suc k) l =
    let even : suc k * 2 ≡ suc (suc (k * 2)) = omega arith in
    let odd : suc k * 2 + 1 ≡ suc (suc (k * 2 + 1)) = omega arith in
    (rw even (flat_at ps k (omega arith)).0, rw odd (flat_at ps k (omega arith)).1)

pub pair_listed : (list : List (List ℕ)) (busy p : List ℕ) (at : ℕ) → at < length list → p ≡ get_or list at []
    → ◌≡◌ {A = Pair} (record { some = true; «from» = word p 0 % 16; to = word p 1 % 16 }) (pair_of (flat list) at (length list) busy)
pair_listed list busy p at l e =
    let f = flat_at list at l in
    rw (lt-ltb _ _ l, f.0, f.1, e)
