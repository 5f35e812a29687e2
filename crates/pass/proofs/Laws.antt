-- Turns that touch no record: what a look at a pair shows comes to what the turn's definition takes; such turns, one after the other, as many as are left; and what
-- the calls of a look come to. Assumes nothing.
use Prim.Native.Nat.{ℕ, zero, suc, ◌-◌, ◌^◌, ◌<◌, ◌≤◌}
use native.Mathlib.Omega.{arith}
use mathlib.Core.Path.{◌≡◌, refl, sym, ap, ◌∙◌, subst}
use mathlib.Core.Bool.{Bool, true, false, not, ◌&&◌, ◌||◌, cond, true≢false}
use mathlib.Core.List.{List}
use lib.Bits.{bit_or}
use lib.Dec.{eqb, ltb}
use lib.ListN.{length, set}
use borrow.Author.Tests.{ne_eqb, eqb-true, eqb-false, not-true}
use Rattle.rules.specs.Sets.{mem, word}
use Rattle.sets.specs.Loops.{by_bool, pick}
use Rattle.wires.specs.Words.{is_list}
use Rattle.wires.specs.Wires.{sixteen, place, queued, under_way, arrived, oldest, front, skipped}
use Rattle.mail.specs.Gather.{wire_of}
use Rattle.tables.specs.Tables.{links_of, heard_of, busy_of, with_heard, with_busy}
use Rattle.tables.proofs.Laws.{Same, arrived_same, skipped_same, same_links, same_heard, same_busy, same_refl, both_links, both_heard, both_busy}
use Rattle.turn.specs.declared.Carried.{Carried as CarriedCode}
use Rattle.turn.specs.Turn.{Turn, Pair, less_of, pair_of, next_pair, sleeps, quiet, begun, took_pair, Took, Put}
use Rattle.turn.specs.Parts.{Receiver, took, receiver_of, quiet_to, first_to, delivered_to, left_after}
use Rattle.turn.specs.Code.{turn_with, gone_on}
use Rattle.pass.specs.Code.{carried_with}
use Rattle.pass.specs.Pass.{Glance, Glanced, glanced, seen_as, glance_first, glance_to, glance_pair, glance_at, to_after, quiet_turn, quiet_store, pass_one, pass_to, pass_all}
use Rattle.turn.proofs.Laws.{delivered_is}

-- ---- a look at a pair, and what the turn's definition takes for it

module _ (r : Receiver) (a : ℕ) (s s₁ s₂ : List ℕ) (heard more : ℕ) (k₁ k₂ : Took) where
  abbrev Looked : Bool → Bool → Bool → Bool → Bool → Bool → Glanced
  Looked way stopped sleeps none list all =
      cond way
      (glanced s (seen_as true false heard))
      (cond stopped
      (glanced s₁ (seen_as true true heard))
      (cond sleeps
      (glanced s (seen_as false false heard))
      (cond none
      (cond list (glanced s (seen_as false false heard)) (cond all (glanced s (seen_as false false heard)) (glanced s₂ (seen_as true true more))))
      (glanced s₂ (seen_as true true heard)))))

  abbrev Taken : Bool → Bool → Bool → Bool → Bool → Bool → Took
  Taken way stopped sleeps none list all =
      cond way
      (took s (quiet_to r a false false heard))
      (cond stopped
      (took s₁ (quiet_to r a true false heard))
      (cond none (cond list k₁ (cond all k₂ (took s₂ (quiet_to r a true sleeps more)))) (took s₂ (quiet_to r a true false heard))))

  abbrev Shown : Glanced → Took
  Shown g = took g.store (quiet_to r a g.glance.moved false g.glance.heard)

  looked_taken : (way stopped sleeps none list list' all : Bool) → (way ≡ false → none ≡ true → list ≡ list') → (Looked way stopped sleeps none list all).glance.quiet ≡ true
      → Taken way stopped sleeps none list' all ≡ Shown (Looked way stopped sleeps none list all)
  looked_taken true stopped sleeps none list list' all h e = refl
  looked_taken false true sleeps none list list' all h e = refl
  looked_taken false false true none list list' all h e = absurd (true≢false (sym e))
  looked_taken false false false true true list' all h e = absurd (true≢false (sym e))
  looked_taken false false false true false true all h e = absurd (true≢false (sym (h refl refl)))
  looked_taken false false false true false false true h e = absurd (true≢false (sym e))
  looked_taken false false false true false false false h e = refl
  looked_taken false false false false list list' all h e = refl

  looked_same : (way stopped sleeps none list all : Bool) → (Looked way stopped sleeps none list all).glance.quiet ≡ false → (Looked way stopped sleeps none list all).store ≡ s
  looked_same true stopped sleeps none list all e = absurd (true≢false e)
  looked_same false true sleeps none list all e = absurd (true≢false e)
  looked_same false false true none list all e = refl
  looked_same false false false true true all e = refl
  looked_same false false false true false true e = refl
  looked_same false false false true false false e = absurd (true≢false e)
  looked_same false false false false list all e = absurd (true≢false e)

-- behind an empty queue the oldest under way stands where the queue's head would
front_oldest : (s : List ℕ) (i : ℕ) → eqb (under_way sixteen s i) 0 ≡ false → eqb (queued sixteen s i) 0 ≡ true → front sixteen s i ≡ oldest sixteen s i
unfolding front oldest
front_oldest s i w q =
    let z : queued sixteen s i ≡ 0 = eqb-true _ _ q in
    rw w (ap (λ (k : ℕ). word s (place sixteen i k)) (omega (arith, z)))

glance_delivered : (r : Receiver) (a : ℕ) (s : List ℕ) → (glance_to r a s).glance.quiet ≡ true
    → delivered_to r a s ≡ took (glance_to r a s).store (quiet_to r a (glance_to r a s).glance.moved false (glance_to r a s).glance.heard)
unfolding glance_to glance_first delivered_to first_to
glance_delivered r a s e =
    let i : ℕ = wire_of a r.own in
    looked_taken r a s (skipped sixteen s i) (arrived sixteen s i) r.heard (bit_or r.heard (2 ^ a)) _ _
    (eqb (under_way sixteen s i) 0) r.stopped r.sleeps (eqb (queued sixteen s i) 0) (is_list (front sixteen s i)) (is_list (oldest sixteen s i)) (eqb (bit_or r.heard (2 ^ a)) r.links)
    (λ w q. ap is_list (front_oldest s i w q)) e

glance_still : (r : Receiver) (a : ℕ) (s : List ℕ) → (glance_to r a s).glance.quiet ≡ false → (glance_to r a s).store ≡ s
unfolding glance_to glance_first
glance_still r a s e =
    let i : ℕ = wire_of a r.own in
    looked_same r a s (skipped sixteen s i) (arrived sixteen s i) r.heard (bit_or r.heard (2 ^ a)) (took s (quiet_to r a false false 0)) (took s (quiet_to r a false false 0))
    (eqb (under_way sixteen s i) 0) r.stopped r.sleeps (eqb (queued sixteen s i) 0) (is_list (front sixteen s i)) (eqb (bit_or r.heard (2 ^ a)) r.links) e

-- a look leaves the tables
glance_same : (r : Receiver) (a : ℕ) (s : List ℕ) → Same s (glance_to r a s).store
unfolding glance_to glance_first
glance_same r a s =
    let i : ℕ = wire_of a r.own in
    pick P (eqb (under_way sixteen s i) 0) (same_refl s) (pick P r.stopped (skipped_same s i) (pick P r.sleeps (same_refl s) (pick P (eqb (queued sixteen s i) 0)
    (pick P (is_list (front sixteen s i)) (same_refl s) (pick P (eqb (bit_or r.heard (2 ^ a)) r.links) (same_refl s) (arrived_same s i))) (arrived_same s i))))
  where
    P : Glanced → Type 0
    P g = Same s g.store

pair_same : (p : Pair) (r : Receiver) (s : List ℕ) → Same s (glance_pair p r s).store
unfolding glance_pair
pair_same p r s = pick P p.some (pick P (eqb p.«from» r.own) (same_refl s) (glance_same r p.«from» s)) (same_refl s)
  where
    P : Glanced → Type 0
    P g = Same s g.store

-- by the pair
pub pair_took : (c : Turn) (p : Pair) (s : List ℕ) (some same : Bool) → p.some ≡ some → eqb p.«from» p.to ≡ same → (glance_pair p (receiver_of c p.to) s).glance.quiet ≡ true
    → let g = glance_pair p (receiver_of c p.to) s in took_pair c p s ≡ took g.store (quiet_to (receiver_of c p.to) p.«from» g.glance.moved false g.glance.heard)
unfolding glance_pair took_pair begun quiet quiet_to receiver_of sleeps
pair_took c p s false same es ee e = absurd (true≢false (sym (rw es at e)))
pair_took c p s true true es ee e =
    let f : p.«from» ≡ p.to = eqb-true _ _ ee in
    let n : not (mem p.to c.awake) && not (mem p.to c.stopped) ≡ false = not-true _ (rw (es, ee) at e) in
    rw (es, ee, n, f)
pair_took c p s true false es ee e = rw (es, ee) (sym (delivered_is c p.«from» p.to s) ∙ glance_delivered (receiver_of c p.to) p.«from» s (rw (es, ee) at e))

pair_still : (p : Pair) (r : Receiver) (s : List ℕ) (some same : Bool) → p.some ≡ some → eqb p.«from» r.own ≡ same → (glance_pair p r s).glance.quiet ≡ false → (glance_pair p r s).store ≡ s
unfolding glance_pair
pair_still p r s false same es ee e = rw es
pair_still p r s true true es ee e = rw (es, ee)
pair_still p r s true false es ee e = rw (es, ee) (glance_still r p.«from» s (rw (es, ee) at e))

pub glance_keeps : (list : List ℕ) (q : Put) → (glance_at list q).glance.quiet ≡ false → (glance_at list q).store ≡ q.store
unfolding glance_at
glance_keeps list q e = pair_still (next_pair list q.turn) (receiver_of q.turn (next_pair list q.turn).to) q.store _ _ refl refl e

-- ---- such turns, one after the other

pub pass_over : (n : ℕ) (list : List ℕ) (q : Put) → q.turn.left ≡ 0 → pass_to n list q ≡ q
unfolding pass_to
pass_over zero list q e = refl
pass_over (suc n) list q e = rw e

pub pass_stops : (n : ℕ) (list : List ℕ) (q : Put) → (glance_at list q).glance.quiet ≡ false → pass_to n list q ≡ q
unfolding pass_to
pass_stops zero list q e = refl
pass_stops (suc n) list q e = rw e (pick (λ (z : Put). z ≡ q) (eqb q.turn.left 0) refl refl)

pub left_less : (left at pairs : ℕ) (moved : Bool) → 1 ≤ left → left_after left at pairs moved < left
left_less left at pairs moved l = pick (λ (k : ℕ). k < left) (ltb at pairs || moved) (omega arith) (omega arith)

-- one passes, and the state that it leaves has fewer turns left
pub pass_less : (list : List ℕ) (q : Put) → 1 ≤ q.turn.left → (pass_one list q).turn.left < q.turn.left
unfolding pass_one quiet_turn
pass_less list q l = left_less q.turn.left q.turn.at q.turn.pairs (glance_at list q).glance.moved l

pub left_some : (q : Put) → eqb q.turn.left 0 ≡ false → 1 ≤ q.turn.left
left_some q e = let n = eqb-false q.turn.left 0 e in omega (arith, n)

-- more room for turns than are left changes nothing
pass_any : (list : List ℕ) (n m : ℕ) (q : Put) → q.turn.left ≤ n → q.turn.left ≤ m → pass_to n list q ≡ pass_to m list q
unfolding pass_to
pass_any list zero zero q l k = refl
pass_any list zero (suc m) q l k = let e : q.turn.left ≡ 0 = omega arith in rw e
pass_any list (suc n) zero q l k = let e : q.turn.left ≡ 0 = omega arith in rw e
pass_any list (suc n) (suc m) q l k =
    by_bool (eqb q.turn.left 0)
    (λ e. rw e)
    (λ e.
    let less = pass_less list q (left_some q e) in
    rw e (ap (λ (z : Put). cond (glance_at list q).glance.quiet z q) (pass_any list n m (pass_one list q) (omega (arith, less)) (omega (arith, less)))))

pass_more : (list : List ℕ) (m : ℕ) (q : Put) → q.turn.left ≡ suc m → (glance_at list q).glance.quiet ≡ true → pass_to (suc m) list q ≡ pass_all list (pass_one list q)
unfolding pass_to
pass_more list m q z e =
    let on : eqb q.turn.left 0 ≡ false = ne_eqb q.turn.left 0 (λ y. omega arith) in
    let less = pass_less list q (omega arith) in
    let few : (pass_one list q).turn.left ≤ (pass_one list q).turn.left = omega arith in
    rw (on, e) (pass_any list m (pass_one list q).turn.left (pass_one list q) (omega (arith, less)) few)

pub pass_next : (list : List ℕ) (q : Put) → 1 ≤ q.turn.left → (glance_at list q).glance.quiet ≡ true → pass_all list q ≡ pass_all list (pass_one list q)
pass_next list q l e =
    let z : q.turn.left ≡ suc (q.turn.left - 1) = omega arith in
    ap (λ (n : ℕ). pass_to n list q) z ∙ pass_more list (q.turn.left - 1) q z e

-- ---- a turn that passes

-- the pair that is served and its receiver, and what is seen of them
module _ (list s s' : List ℕ) (q : CarriedCode) (pairs : ℕ) (p : Pair) (r : Receiver) (k : Glance) (ep : p ≡ pair_of list q.at pairs (busy_of s))
    (er : r ≡ receiver_of (turn_with q pairs s) p.to) (eg : glanced s' k ≡ glance_pair p r s) where
  abbrev t : Turn
  t = turn_with q pairs s

  pub looked_at : glanced s' k ≡ glance_at list (carried_with s q pairs)
  unfolding glance_at next_pair
  looked_at = eg ∙ ap (λ (z : Receiver). glance_pair p z s) er ∙ ap (λ (z : Pair). glance_pair z (receiver_of t z.to) s) ep

  pub looked_quiet : (quiet : Bool) → k.quiet ≡ quiet → (glance_at list (carried_with s q pairs)).glance.quiet ≡ quiet
  looked_quiet quiet e = ap (λ (z : Glanced). z.glance.quiet) (sym looked_at) ∙ e

  -- a pair that would touch a record leaves the store
  pub looked_still : k.quiet ≡ false → s' ≡ s
  looked_still e = ap (λ (z : Glanced). z.store) looked_at ∙ glance_keeps list (carried_with s q pairs) (looked_quiet false e)

  module _ (size : length s' ≡ 9264) (low_a : p.«from» < 16) (low_b : p.to < 16) (lh : k.heard < 65536) (to : ℕ) (lt : to < 65536)
      (et : to ≡ less_of s' k.moved p.«from» p.to (word (busy_of s') p.«from»)) where
    abbrev v : List ℕ
    v = with_busy (with_heard s' p.to k.heard) p.«from» to

    same : Same s s'
    same = subst (Same s) (sym (ap (λ (z : Glanced). z.store) eg)) (pair_same p r s)

    to_is : to ≡ to_after t p k s'
    to_is = et ∙ ap (λ (z : List ℕ). less_of s' k.moved p.«from» p.to (word z p.«from»)) (same_busy s s' same)

    links_is : links_of v ≡ links_of s
    links_is = both_links s' p.«from» p.to k.heard to size low_a low_b lh lt ∙ same_links s s' same

    heard_is : heard_of v ≡ set (heard_of s) p.to k.heard
    heard_is = both_heard s' p.«from» p.to k.heard to size low_a low_b lh lt ∙ ap (λ (z : List ℕ). set z p.to k.heard) (same_heard s s' same)

    busy_is : busy_of v ≡ set (busy_of s) p.«from» to
    busy_is = both_busy s' p.«from» p.to k.heard to size low_a low_b lh lt ∙ ap (λ (z : List ℕ). set z p.«from» to) (same_busy s s' same)

    pub passed : (w : List ℕ) (n : CarriedCode) → w ≡ v → n ≡ gone_on q pairs k.moved → carried_with w n pairs ≡ pass_one list (carried_with s q pairs)
    unfolding pass_one quiet_turn quiet_store next_pair
    passed w n ew en = rw (ew, en) (rw (← looked_at, ← ep, links_is, heard_is, busy_is, ← to_is))
