-- The fixed list of messages of each wire, read off the links alone: what stands where in it, whose lists, how often. Assumes nothing.
use Prim.Native.Nat.{ℕ, zero, suc, ◌+◌, ◌^◌, ◌≤◌, ◌<◌}
use Rattle.std.specs.Prelude.{◌≡◌, true, false, ◌≢◌, eqb, length}
use Rattle.std.proofs.Math.Path.{refl, ap, ap₂, subst}
use Rattle.std.proofs.Common.{sym, ◌∙◌, eq-eqb, ne_eqb}
use Rattle.std.proofs.lemmas.Bool.{false≢true}
use mathlib.Core.List.{List, [], ◌∷◌, ◌++◌, append_assoc, append-nil}
use native.Mathlib.Omega.{arith}
use Rattle.std.proofs.Math.Decide.{dec_lt, ℕ_discrete}
use Rattle.rules.specs.Sets.{mem, bit, word, sum, each, members}
use Rattle.rules.specs.Box.{Msg, notspt, neighbors}
use Rattle.rules.specs.Rest.{Table, hops, farthest, from, said_set, said_lists, wire_list}
use Rattle.sets.specs.Mem.{mem_empty}
use Rattle.sets.specs.Loops.{by_bool, sum_none}
use Rattle.hops.specs.Hops.{hops_self}
use Rattle.order.specs.Terms.{tally}
use Rattle.order.specs.Rounds.{passed, passed_is, taken_near, taken_group, said_first}
use Rattle.order.specs.Messages.{In, members_get, members_put, members_none, sets, Says, Every, every_split, tally_append, no_tally, set_tally, tally_members, carry}
use Rattle.order.specs.Stream.{stream, Cut, cut, place, stream_more, every_stream, says_before, sets_stream}
use Rattle.order.specs.Sums.{sum_more, sum_but_one}

-- a list is the box's own, and the box is one of G
abbrev pub Own : (ℕ → ℕ) → (ℕ → Type 0) → ℕ → ℕ → Type 0
Own f G k s = (s ≡ f k) × G k

-- a box of j's group
abbrev pub Mate : ℕ → List ℕ → ℕ → ℕ → Type 0
Mate w t j k = (k < w) × (hops w t j k < w)

-- a run of messages is as long as its NOTSPT and the lists of each box together
pub length_tally : (w : ℕ) (c : List Msg) → Every (λ k s. k < w) c → length c ≡ sets c + sum w (λ k. tally k c)
unfolding sets tally
length_tally w [] e = omega (arith, sum_none w)
length_tally w (notspt s ∷ c) e = omega (arith, length_tally w c e)
length_tally w (neighbors j s ∷ c) e =
    let a : sum w (λ k. bit (eqb k j) + tally k c) ≡ sum w (λ k. tally k c) + 1 =
    sum_more w (λ k. bit (eqb k j) + tally k c) (λ k. tally k c) j 1 e.0 (rw (eq-eqb j j refl) (omega arith)) (λ k z. rw (ne_eqb k j z) (omega arith)) in
    omega (arith, length_tally w c e.1)

module _ (w : ℕ) (t : List ℕ) where
  -- the boxes whose lists stand before NOTSPT number r from i to j
  unfoldable pub carried : ℕ → ℕ → ℕ → ℕ
  carried i j zero = 0
  carried i j (suc zero) = 0
  carried i j (suc (suc r)) = passed w t i j r

  abbrev pub origins : ℕ → ℕ → ℕ → List ℕ
  origins i j r = members w (carried i j r)

  -- the first n NOTSPT from i to j, each with the lists before it
  unfoldable pub wire : ℕ → ℕ → ℕ → List Msg
  wire i j n = stream (word t) (origins i j) (said_set w t i j) n (origins i j 0) 0

  -- NOTSPT number r from i to j, with the lists before it
  abbrev pub next : ℕ → ℕ → ℕ → List Msg
  next i j r = carry (word t) (origins i j r) (notspt (said_set w t i j r) ∷ [])

  pub wire_none : (i j : ℕ) → wire i j 0 ≡ []
  unfolding wire stream
  wire_none i j = refl

  pub wire_more : (i j n : ℕ) → wire i j (suc n) ≡ wire i j n ++ next i j n
  unfolding wire
  wire_more i j n =
      let e : n + 0 ≡ n = omega arith in
      stream_more (word t) (origins i j) (said_set w t i j) n 0 ∙ ap (λ (r : ℕ). wire i j n ++ next i j r) e

  pub wire_sets : (i j n : ℕ) → sets (wire i j n) ≡ n
  unfolding wire
  wire_sets i j n = sets_stream (word t) (origins i j) (said_set w t i j) n (origins i j 0) 0

  -- the shorter list begins the longer one
  pub wire_begins : (i j n d : ℕ) → (o : List Msg) × (wire i j (d + n) ≡ wire i j n ++ o)
  wire_begins i j n zero = let e : 0 + n ≡ n = omega arith in ([], ap (wire i j) e ∙ sym (append-nil (wire i j n)))
  wire_begins i j n (suc d) =
      let (o, z) = wire_begins i j n d in
      let e : suc d + n ≡ suc (d + n) = omega arith in
      (o ++ next i j (d + n), ap (wire i j) e ∙ wire_more i j (d + n) ∙ ap (λ (x : List Msg). x ++ next i j (d + n)) z ∙ append_assoc (wire i j n) o (next i j (d + n)))

  -- ---- the rules' own wire list

  next_first : (i j : ℕ) → next i j 0 ≡ notspt (said_set w t i j 0) ∷ []
  unfolding carried
  next_first i j = ap (λ (x : List ℕ). carry (word t) x (notspt (said_set w t i j 0) ∷ [])) (members_none w)

  next_rule : (i j h : ℕ) → next i j (suc h) ≡ said_lists w t i j h ++ (notspt (said_set w t i j (suc h)) ∷ [])
  unfolding carried said_lists passed
  next_rule i j zero = ap (λ (x : List ℕ). carry (word t) x (notspt (said_set w t i j 1) ∷ [])) (members_none w)
  next_rule i j (suc h) = refl

  wire_each : (i j n : ℕ) → wire i j (suc n) ≡ notspt (said_set w t i j 0) ∷ each n (λ h. said_lists w t i j h ++ (notspt (said_set w t i j (suc h)) ∷ []))
  unfolding each
  wire_each i j zero = wire_more i j 0 ∙ ap₂ ◌++◌ (wire_none i j) (next_first i j)
  wire_each i j (suc n) = wire_more i j (suc n) ∙ ap₂ ◌++◌ (wire_each i j n) (next_rule i j n)

  pub wire_list_lem : (i j : ℕ) → wire i j (farthest w t i + 3) ≡ wire_list w t i j
  unfolding wire_list
  wire_list_lem i j = let e : farthest w t i + 3 ≡ suc (farthest w t i + 2) = omega arith in ap (wire i j) e ∙ wire_each i j (farthest w t i + 2)

  -- ---- where a NOTSPT stands, the number of those before it says which it is, and what has come before

  pub record At (i j n : ℕ) (past : List Msg) (s : ℕ) : Type 0 where
    pub this : s ≡ said_set w t i j (sets past)
    pub less : sets past < n
    pub came : (k r : ℕ) → In k (origins i j r) → r ≤ sets past → Says k past

  pub at : (i j n : ℕ) (past : List Msg) (s : ℕ) (q : List Msg) → wire i j n ≡ past ++ (notspt s ∷ q) → At i j n past s
  unfolding wire
  at i j n past s q e =
      let c : Cut (word t) (origins i j) (said_set w t i j) n (origins i j 0) 0 past s q = cut (word t) (origins i j) (said_set w t i j) n (origins i j 0) 0 past s q e in
      let z : c.num ≡ sets past = omega (arith, c.num_is) in
      record {
        this = c.this ∙ ap (said_set w t i j) z;
        less = omega (arith, c.left_is);
        came = λ k r m h. subst (Says k) (sym c.front) (says_before (word t) (origins i j) (said_set w t i j) k r (sets past) 0 m (omega arith) (omega arith));
      }

  carried_get : (i j r k : ℕ) → mem k (carried i j r) ≡ true → (suc (suc (hops w t i k)) ≡ r) × (from w t j k ≡ i)
  unfolding carried
  carried_get i j zero k m = absurd (false≢true (sym (mem_empty k) ∙ m))
  carried_get i j (suc zero) k m = absurd (false≢true (sym (mem_empty k) ∙ m))
  carried_get i j (suc (suc r)) k m = let (a, b) = (passed_is w t i j r).get k m in (omega arith, b)

  carried_put : (i j r k : ℕ) → k < w → suc (suc (hops w t i k)) ≡ r → from w t j k ≡ i → mem k (carried i j r) ≡ true
  unfolding carried
  carried_put i j zero k hk e v = absurd (omega arith)
  carried_put i j (suc zero) k hk e v = absurd (omega arith)
  carried_put i j (suc (suc r)) k hk e v = (passed_is w t i j r).put k hk (omega arith, v)

  pub origin_is : (i j r k : ℕ) → In k (origins i j r) → (k < w) × (suc (suc (hops w t i k)) ≡ r) × (from w t j k ≡ i)
  origin_is i j r k m = let (a, b) = members_get w (carried i j r) k m in let (c, d) = carried_get i j r k b in (a, c, d)

  -- every list on the wire is that of a box
  pub wire_small : (i j n : ℕ) → Every (λ k s. k < w) (wire i j n)
  unfolding wire
  wire_small i j n = every_stream (word t) (origins i j) (said_set w t i j) (λ k s. k < w) (λ r k m. (origin_is i j r k m).0) n 0

  -- ---- how often a list stands on the wire: once where the receiver takes it from the sender, and else never

  tally_next : (i j r k : ℕ) → k < w → tally k (next i j r) ≡ bit (mem k (carried i j r))
  tally_next i j r k hk = tally_members k (word t) w (carried i j r) (notspt (said_set w t i j r) ∷ []) hk ∙ omega (arith, set_tally k (said_set w t i j r))

  tally_skip : (i j n k : ℕ) → k < w → ¬ ((suc (suc (hops w t i k)) ≡ n) × (from w t j k ≡ i)) → tally k (wire i j (suc n)) ≡ tally k (wire i j n)
  tally_skip i j n k hk z =
      let e : mem k (carried i j n) ≡ false = by_bool (mem k (carried i j n)) (λ m. absurd (z (carried_get i j n k m))) (λ m. m) in
      let x : tally k (next i j n) ≡ 0 = tally_next i j n k hk ∙ ap bit e in
      ap (tally k) (wire_more i j n) ∙ tally_append k (wire i j n) (next i j n) ∙ omega arith

  tally_start : (i j k : ℕ) → tally k (wire i j 0) ≡ 0
  tally_start i j k = ap (tally k) (wire_none i j) ∙ no_tally k

  pub tally_other : (i j k n : ℕ) → k < w → from w t j k ≢ i → tally k (wire i j n) ≡ 0
  tally_other i j k zero hk z = tally_start i j k
  tally_other i j k (suc n) hk z = tally_skip i j n k hk (λ p. z p.1) ∙ tally_other i j k n hk z

  pub tally_low : (i j k n : ℕ) → k < w → n ≤ suc (suc (hops w t i k)) → tally k (wire i j n) ≡ 0
  tally_low i j k zero hk h = tally_start i j k
  tally_low i j k (suc n) hk h = tally_skip i j n k hk (λ p. omega (arith, p.0)) ∙ tally_low i j k n hk (omega arith)

  pub tally_one : (i j k n : ℕ) → k < w → from w t j k ≡ i → suc (suc (hops w t i k)) < n → tally k (wire i j n) ≡ 1
  tally_one i j k zero hk v h = absurd (omega arith)
  tally_one i j k (suc n) hk v h =
      elim (ℕ_discrete (suc (suc (hops w t i k))) n) [
        | yes e ↦
            let x : tally k (next i j n) ≡ 1 = tally_next i j n k hk ∙ ap bit (carried_put i j n k hk e v) in
            let y : tally k (wire i j n) ≡ 0 = tally_low i j k n hk (omega arith) in
            ap (tally k) (wire_more i j n) ∙ tally_append k (wire i j n) (next i j n) ∙ omega arith
        | no e ↦ tally_skip i j n k hk (λ p. e p.0) ∙ tally_one i j k n hk v (omega arith)
      ]

  pub tally_le : (i j k n : ℕ) → k < w → tally k (wire i j n) ≤ 1
  tally_le i j k n hk =
      elim (ℕ_discrete (from w t j k) i) [
        | yes v ↦ elim (dec_lt (suc (suc (hops w t i k))) n) [ yes h ↦ omega (arith, tally_one i j k n hk v h) | no h ↦ omega (arith, tally_low i j k n hk (omega arith)) ]
        | no v ↦ omega (arith, tally_other i j k n hk v)
      ]

  module _ (s : Table w t) where
    -- every list on the wire is the box's own, and its box is in the receiver's group
    pub wire_own : (i j n : ℕ) → i < w → j < w → Every (Own (word t) (Mate w t j)) (wire i j n)
    unfolding wire
    wire_own i j n hi hj =
        every_stream (word t) (origins i j) (said_set w t i j) (Own (word t) (Mate w t j))
        (λ r k m. let (a, b, c) = origin_is i j r k m in (refl, (a, (taken_group w t s i j k hi hj c).1))) n 0

    -- "The list of k reaches i over from(i, k) before that neighbour's set number hops(i, k) + 1"
    pub has_come : (i j n : ℕ) (past : List Msg) (x : ℕ) → i < w → j < w → At i j n past x
        → (k : ℕ) → k < w → from w t j k ≡ i → hops w t j k < sets past → Says k past
    has_come i j n past x hi hj c k hk v h =
        c.came k (suc (suc (hops w t i k))) (members_put w (carried i j _) k hk (carried_put i j _ k hk refl v)) (omega (arith, taken_near w t s i j k hi v))

    -- and where it stands, hops(j, k) + 1 sets have gone before
    pub list_place : (i j n : ℕ) (c : List Msg) (k x : ℕ) (q : List Msg) → i < w → wire i j n ≡ c ++ (neighbors k x ∷ q)
        → (k < w) × (from w t j k ≡ i) × (suc (hops w t j k) ≡ sets c)
    unfolding wire
    list_place i j n c k x q hi e =
        let (a, b, v) = origin_is i j (sets c) k (place (word t) (origins i j) (said_set w t i j) n c k x q e) in
        (a, v, omega (arith, taken_near w t s i j k hi v))

    pub wire_first : (i j : ℕ) → i < w → mem j (word t i) ≡ true → wire i j 1 ≡ notspt (2 ^ i) ∷ []
    wire_first i j hi l =
        wire_more i j 0 ∙ ap₂ ◌++◌ (wire_none i j) (next_first i j) ∙ ap (λ (x : ℕ). notspt x ∷ []) (said_first w t s i j hi l)

    -- a part of a wire's list: its NOTSPT, and each list of another box at most once
    pub part_le : (i j n : ℕ) (c d : List Msg) → i < w → j < w → wire i j n ≡ c ++ d → length d + 1 ≤ sets d + w
    part_le i j n c d hi hj e =
        let small : Every (λ k s. k < w) d = (every_split (λ k s. k < w) c d (subst (Every (λ k s. k < w)) e (wire_small i j n))).1 in
        let le : (k : ℕ) → k < w → tally k d ≤ 1 = λ k hk. omega (arith, tally_append k c d, ap (tally k) e, tally_le i j k n hk) in
        let none : from w t j j ≢ i = λ v. omega (arith, hops_self w t s j hj, taken_near w t s i j j hi v) in
        let own : tally j d ≡ 0 = omega (arith, tally_append j c d, ap (tally j) e, tally_other i j j n hj none) in
        omega (arith, length_tally w d small, sum_but_one w (λ k. tally k d) j hj own le)
