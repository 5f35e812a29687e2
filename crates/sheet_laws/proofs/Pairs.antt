-- Reading a list of pairs: it is accepted exactly where the pairs rise and name boxes below n, and then gives the table with these links. Assumes nothing.
use Rattle.std.specs.Prelude.{ℕ, zero, suc, ◌*◌, ◌<◌, ◌≡◌, refl, Bool, true, false, not, ◌||◌, List, [], ◌∷◌, ◌++◌, leb, length}
use Rattle.std.proofs.Common.{ap, ◌∙◌, inl, inr, ⊎_elim, arith, leb-false}
use Rattle.std.proofs.lemmas.Bool.{not-false}
use Rattle.rules.specs.Outcome.{Outcome, accepted, refuse}
use Rattle.rules.specs.Sheet.{pairs, above, link}
use Rattle.sets.specs.Mem.{or_neither}
use Rattle.sheet_laws.specs.Conditions.{Above}
use Rattle.sheet_laws.specs.Answers.{test_true, test_false, leb_tests, or_tests, lower_tests, above_tests, clash}
use Rattle.sheet_laws.specs.Rising.{In, Chain}

pub record Pair : Type 0 where
  pub low : ℕ
  pub high : ℕ

abbrev pub pair : ℕ → ℕ → Pair
pair a b = record { low = a; high = b }

pub pair_eq : (p q : Pair) → p.low ≡ q.low → p.high ≡ q.high → p ≡ q
pair_eq p q e f = λ i. record { low = e i; high = f i }

-- the bytes of a list of pairs
abbrev pub flat : List Pair → List ℕ
flat [] = []
flat (p ∷ l) = p.low ∷ p.high ∷ flat l

pub flat_length : (l : List Pair) → length (flat l) ≡ 2 * length l
flat_length [] = refl
flat_length (p ∷ l) = omega (arith, flat_length l)

pub flat_append : (l m : List Pair) → flat (l ++ m) ≡ flat l ++ flat m
flat_append [] m = refl
flat_append (p ∷ l) m = ap (λ (x : List ℕ). p.low ∷ p.high ∷ x) (flat_append l m)

-- "Pairs rise strictly, by first box and then by second."
abbrev pub Up : Pair → Pair → Type 0
Up p q = Above p.low p.high q.low q.high

pub up_trans : (p q r : Pair) → Up p q → Up q r → Up p r
up_trans p q r =
    ⊎_elim
    (λ h. ⊎_elim (λ k. inl (omega arith)) (λ k. let (e, l) = k in inl (omega arith)))
    (λ h. let (e, l) = h in ⊎_elim (λ k. inl (omega arith)) (λ k. let (f, m) = k in inr (e ∙ f, omega arith)))

pub up_asym : (p q : Pair) → Up p q → Up q p → ⊥
up_asym p q =
    ⊎_elim
    (λ h. ⊎_elim (λ k. omega arith) (λ k. let (e, l) = k in omega arith))
    (λ h. let (e, l) = h in ⊎_elim (λ k. omega arith) (λ k. let (f, m) = k in omega arith))

-- a pair of boxes below n, lower box then higher
abbrev pub Below : ℕ → Pair → Type 0
Below n p = (p.low < p.high) × (p.high < n)

-- the links of a list join a table
abbrev pub link_all : List Pair → List ℕ → List ℕ
link_all [] t = t
link_all (p ∷ l) t = link_all l (link p.low p.high t)

-- ---- from the pairs to the answer

pub pairs_read : (n i : ℕ) (p : Pair) (l : List Pair) (t : List ℕ) → Chain Up p l → ((q : Pair) → In q l → Below n q)
    → pairs n i p.low p.high (flat l) t ≡ accepted (link_all l t)
unfolding pairs refuse
pairs_read n i p [] t c h = refl
pairs_read n i p (q ∷ l) t c h =
    let (a, b) = h q (inl refl) in
    rw (
      test_false _ (or_tests _ _ (leb_tests n q.low) (leb_tests n q.high)) (⊎_elim (λ k. omega arith) (λ k. omega arith)),
      test_false _ (lower_tests q.low q.high) (λ k. k a),
      test_true _ (above_tests p.low p.high q.low q.high) c.0,
    )
    (pairs_read n (suc i) q l (link q.low q.high t) c.1 (λ r u. h r (inr u)))

-- ---- from the answer to the pairs

pub refuse_accepted : {A : Type 0} {a : A} (b : Bool) (n p : ℕ) (o : Outcome A) → refuse b n p o ≡ accepted a → (b ≡ false) × (o ≡ accepted a)
unfolding refuse
refuse_accepted true n p o e = absurd (clash e)
refuse_accepted false n p o e = (refl, e)

-- bytes of an even number are the bytes of pairs
pub evens : (m : ℕ) (bytes : List ℕ) → length bytes ≡ 2 * m → (l : List Pair) × (bytes ≡ flat l)
evens m [] k = ([], refl)
evens m (c ∷ []) k = absurd (omega arith)
evens zero (c ∷ d ∷ bytes) k = absurd (omega arith)
evens (suc m) (c ∷ d ∷ bytes) k =
    let (l, e) = evens m bytes (omega arith) in (pair c d ∷ l, ap (λ (x : List ℕ). c ∷ d ∷ x) e)

pub pairs_accepted : (n i : ℕ) (p : Pair) (l : List Pair) (t r : List ℕ) → pairs n i p.low p.high (flat l) t ≡ accepted r
    → Chain Up p l × ((q : Pair) → In q l → Below n q) × (r ≡ link_all l t)
unfolding pairs
pairs_accepted n i p [] t r e = (tt, (λ q u. absurd u), (cc))
pairs_accepted n i p (q ∷ l) t r e =
    let (f6, e6) = refuse_accepted (leb n q.low || leb n q.high) 6 i _ e in
    let (f7, e7) = refuse_accepted (leb q.high q.low) 7 i _ e6 in
    let (f8, e8) = refuse_accepted (not (above p.low p.high q.low q.high)) 8 i _ e7 in
    let (c, b, k) = pairs_accepted n (suc i) q l (link q.low q.high t) r e8 in (
      ((above_tests p.low p.high q.low q.high).holds (not-false _ f8), c),
      (λ x. ⊎_elim (λ h. rw h (leb-false q.high q.low f7, leb-false n q.high (or_neither (leb n q.low) (leb n q.high) f6).1)) (λ h. b x h)),
      k,
    )
