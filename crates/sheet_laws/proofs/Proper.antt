-- A table to write is proper exactly where none of the four parts of number 14 applies. Assumes nothing.
use Rattle.std.specs.Prelude.{ℕ, ◌<◌, ◌≡◌, refl, Bool, true, false, not, ◌&&◌, ◌||◌, List, ◌⊎◌, ◌≢◌, eqb, ltb, length}
use Rattle.std.proofs.Common.{sym, ◌∙◌, true≢false, inl, inr, ⊎_elim, arith, ltb-false, eqb-true}
use Rattle.std.proofs.Math.Decide.{dec_lt}
use Rattle.std.proofs.lemmas.Bool.{eqb-false, not-true, not-false}
use Rattle.std.proofs.Math.ListN.{get_or-eq_default}
use Rattle.rules.specs.Sets.{mem, word, all}
use Rattle.rules.specs.Sheet.{proper}
use Rattle.sets.specs.Mem.{mem_empty, in_lt, and_both}
use Rattle.sets.specs.Loops.{by_bool, all_out, all_in, all_not}
use Rattle.sheet_laws.specs.Conditions.{Words, Linked, NotSame, ToItself, TooHigh, Cond14}
use Rattle.sheet_laws.specs.Answers.{Tests, test_true, ltb_tests, eqb_tests, not_tests, and_tests}

-- what a link of a proper table is: the same the other way, not from a box to itself, and both boxes below N
pub record Fine (n : ℕ) (t : List ℕ) (i j : ℕ) : Type 0 where
  pub back : Linked t j i
  pub apart : i ≢ j
  pub low : i < n
  pub high : j < n

-- ---- the test of one place

abbrev test : ℕ → List ℕ → ℕ → ℕ → Bool
test n t i j = not (mem j (word t i)) || (mem i (word t j) && (not (eqb i j) && (ltb i n && ltb j n)))

mem_tests : (j s : ℕ) → Tests (mem j s) (mem j s ≡ true)
mem_tests j s = record { holds = λ e. e; fails = λ e h. true≢false (sym h ∙ e) }

fine_tests : (n : ℕ) (t : List ℕ) (i j : ℕ) → Tests (mem i (word t j) && (not (eqb i j) && (ltb i n && ltb j n))) (Linked t j i × ((i ≢ j) × ((i < n) × (j < n))))
fine_tests n t i j =
    and_tests _ _ (mem_tests i (word t j))
    (and_tests _ _ (not_tests _ (eqb_tests i j)) (and_tests _ _ (ltb_tests i n) (ltb_tests j n)))

test_fine : (n : ℕ) (t : List ℕ) (i j : ℕ) → test n t i j ≡ true → Linked t i j → Fine n t i j
test_fine n t i j e l =
    let (b, c) = (fine_tests n t i j).holds (rw l at e) in record { back = b; apart = c.0; low = c.1.0; high = c.1.1 }

fine_test : (n : ℕ) (t : List ℕ) (i j : ℕ) → (Linked t i j → Fine n t i j) → test n t i j ≡ true
fine_test n t i j f =
    by_bool (mem j (word t i))
    (λ l. rw l (let g = f l in test_true _ (fine_tests n t i j) (g.back, (g.apart, (g.low, g.high)))))
    (λ l. rw l)

-- which part fails
broken : (m r e a b : Bool) → not m || (r && (not e && (a && b))) ≡ false
    → (m ≡ true) × ((r ≡ false) ⊎ ((e ≡ true) ⊎ ((a ≡ false) ⊎ (b ≡ false))))
broken false r e a b h = absurd (true≢false h)
broken true false e a b h = (refl, inl refl)
broken true true true a b h = (refl, inr (inl refl))
broken true true false false b h = (refl, inr (inr (inl refl)))
broken true true false true b h = (refl, inr (inr (inr h)))

-- ---- the whole table

-- a box that links to another stands in the table
linked_low : (w : ℕ) (t : List ℕ) (i j : ℕ) → length t ≡ w → Linked t i j → i < w
linked_low w t i j e l =
    elim (dec_lt i w) [
      | yes h ↦ h
      | no h ↦ absurd (true≢false (sym (rw (get_or-eq_default t 0 {n = i} (omega arith)) at l) ∙ mem_empty j))
    ]

-- where the word is the number of a set of w boxes, and the table has w words, both boxes of a link are below w
pub proper_fine : (w n : ℕ) (t : List ℕ) → Words w t → proper w n t ≡ true → (length t ≡ w) × ((i j : ℕ) → Linked t i j → Fine n t i j)
unfolding proper
proper_fine w n t s h =
    let (p, q) = and_both (eqb (length t) w) _ h in
    let e : length t ≡ w = eqb-true (length t) w p in
    (e, λ i j l. test_fine n t i j (all_out w _ (all_out w _ q i (linked_low w t i j e l)) j (in_lt w (word t i) j (s i) l)) l)

pub fine_proper : (w n : ℕ) (t : List ℕ) → length t ≡ w → ((i j : ℕ) → Linked t i j → Fine n t i j) → proper w n t ≡ true
unfolding proper
fine_proper w n t e f =
    rw (test_true _ (eqb_tests (length t) w) e) (all_in w _ (λ i hi. all_in w _ (λ j hj. fine_test n t i j (f i j))))

-- number 14
pub proper_tests : (w n : ℕ) (t : List ℕ) → Words w t → Tests (not (proper w n t)) (Cond14 w n t)
unfolding proper
proper_tests w n t s = record { holds = λ e. which (not-true _ e); fails = λ e. none (proper_fine w n t s (not-false _ e)) }
  where
    at : (i j : ℕ) → test n t i j ≡ false → NotSame t ⊎ (ToItself t ⊎ TooHigh n t)
    at i j e =
        let (l, o) = broken (mem j (word t i)) (mem i (word t j)) (eqb i j) (ltb i n) (ltb j n) e in
        ⊎_elim
        (λ r. inl (i, j, l, λ b. true≢false (sym b ∙ r)))
        (⊎_elim
        (λ q. inr (inl (i, let k : i ≡ j = eqb-true i j q in rw (← k) at l)))
        (λ q. inr (inr (i, j, l, ⊎_elim (λ a. inl (ltb-false i n a)) (λ b. inr (ltb-false j n b)) q))))
        o

    which : proper w n t ≡ false → Cond14 w n t
    which e =
        by_bool (eqb (length t) w)
        (λ p.
        let (i, hi, q) = all_not w (λ i. all w (λ j. test n t i j)) (rw p at e) in
        let (j, hj, r) = all_not w (λ j. test n t i j) q in
        inr (at i j r))
        (λ p. inl (eqb-false (length t) w p))

    none : (length t ≡ w) × ((i j : ℕ) → Linked t i j → Fine n t i j) → Cond14 w n t → ⊥
    none f =
        ⊎_elim (λ h. h f.0)
        (⊎_elim (λ h. let (i, j, l, b) = h in b (f.1 i j l).back)
        (⊎_elim (λ h. let (i, l) = h in (f.1 i i l).apart refl)
        (λ h. let (i, j, l, b) = h in let g = f.1 i j l in ⊎_elim (λ k. omega (arith, g.low)) (λ k. omega (arith, g.high)) b)))
