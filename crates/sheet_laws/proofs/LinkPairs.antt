-- The links of a table as a list of pairs: it rises, its entries are the links from a lower box to a higher one, its bytes are `link_bytes` and its length is
-- `link_count`, at most `most_links`. Assumes nothing.
use Rattle.std.specs.Prelude.{ℕ, zero, suc, ◌-◌, ◌≤◌, ◌<◌, ◌≡◌, refl, Bool, true, false, ◌&&◌, cond, List, [], ◌∷◌, ◌++◌, ltb, length}
use Rattle.std.proofs.Common.{ap, ◌∙◌, inl, inr, ⊎_elim, arith, ltb-true, lt-ltb}
use Rattle.rules.specs.Sets.{mem, word, count, each}
use Rattle.rules.specs.Sheet.{link_bytes, link_count, most_links}
use Rattle.sets.specs.Mem.{and_both}
use Rattle.sets.specs.Loops.{count_mono, sum_same, sum_mono, each_same}
use Rattle.sheet_laws.specs.Conditions.{Linked}
use Rattle.sheet_laws.specs.Rising.{In, in_each, each_in, Rising, rising_each}
use Rattle.sheet_laws.proofs.Pairs.{Pair, pair, flat, flat_append, Up}
use Rattle.sheet_laws.specs.Counting.{length_each, length_pass, count_above, sum_most}

-- a link from a lower box to a higher one
abbrev up : List ℕ → ℕ → ℕ → Bool
up t i j = ltb i j && mem j (word t i)

abbrev row_pairs : ℕ → List ℕ → ℕ → List Pair
row_pairs w t i = each w (λ j. cond (up t i j) (pair i j ∷ []) [])

abbrev pub link_pairs : ℕ → List ℕ → List Pair
link_pairs w t = each w (λ i. row_pairs w t i)

-- ---- the entries

one_in : (b : Bool) (p q : Pair) → In p (cond b (q ∷ []) []) → (b ≡ true) × (p ≡ q)
one_in true p q = ⊎_elim (λ e. (refl, e)) (λ z. absurd z)
one_in false p q = λ z. absurd z

row_in : (w : ℕ) (t : List ℕ) (i : ℕ) (p : Pair) → In p (row_pairs w t i) → (p.low ≡ i) × (p.high < w) × (i < p.high) × Linked t i p.high
row_in w t i p u =
    let (j, h, v) = in_each p w (λ j. cond (up t i j) (pair i j ∷ []) []) u in
    let (e, f) = one_in (up t i j) p (pair i j) v in
    let (a, b) = and_both (ltb i j) (mem j (word t i)) e in
    let g : p.high ≡ j = ap (λ (q : Pair). q.high) f in
    (ap (λ (q : Pair). q.low) f, rw g h, rw g (ltb-true i j a), rw g b)

pub link_pairs_in : (w : ℕ) (t : List ℕ) (p : Pair) → In p (link_pairs w t)
    → (p.low < w) × (p.high < w) × (p.low < p.high) × Linked t p.low p.high
link_pairs_in w t p u =
    let (i, h, v) = in_each p w (λ i. row_pairs w t i) u in
    let (e, a, b, c) = row_in w t i p v in
    (rw e h, a, rw e b, rw e c)

pub in_link_pairs : (w : ℕ) (t : List ℕ) (p : Pair) → p.low < w → p.high < w → p.low < p.high → Linked t p.low p.high → In p (link_pairs w t)
in_link_pairs w t p a b c l =
    each_in p w (λ i. row_pairs w t i) p.low a
    (each_in p w (λ j. cond (up t p.low j) (pair p.low j ∷ []) []) p.high b (rw (lt-ltb p.low p.high c, l) (inl refl)))

-- ---- they rise

one_rises : (b : Bool) (p : Pair) → Rising Up (cond b (p ∷ []) [])
one_rises true p = ((λ q z. absurd z), tt)
one_rises false p = tt

row_rises : (w : ℕ) (t : List ℕ) (i : ℕ) → Rising Up (row_pairs w t i)
row_rises w t i =
    rising_each Up w (λ j. cond (up t i j) (pair i j ∷ []) []) (λ j h. one_rises (up t i j) (pair i j))
    (λ j k h p q u v.
    let e = (one_in (up t i j) p (pair i j) u).1 in
    let f = (one_in (up t i k) q (pair i k) v).1 in
    rw (e, f) (inr (refl, h)))

pub link_pairs_rise : (w : ℕ) (t : List ℕ) → Rising Up (link_pairs w t)
link_pairs_rise w t =
    rising_each Up w (λ i. row_pairs w t i) (λ i h. row_rises w t i)
    (λ i j h p q u v. let e = (row_in w t i p u).0 in let f = (row_in w t j q v).0 in inl (omega arith))

-- ---- their bytes and their number

flat_each : (n : ℕ) (f : ℕ → List Pair) → flat (each n f) ≡ each n (λ k. flat (f k))
unfolding each
flat_each zero f = refl
flat_each (suc n) f = flat_append (each n f) (f n) ∙ ap (λ (x : List ℕ). x ++ flat (f n)) (flat_each n f)

flat_one : (b : Bool) (i j : ℕ) → flat (cond b (pair i j ∷ []) []) ≡ cond b (i ∷ j ∷ []) []
flat_one true i j = refl
flat_one false i j = refl

pub link_pairs_bytes : (w : ℕ) (t : List ℕ) → flat (link_pairs w t) ≡ link_bytes w t
unfolding link_bytes
link_pairs_bytes w t =
    flat_each w (λ i. row_pairs w t i)
    ∙ each_same w _ _ (λ i h. flat_each w (λ j. cond (up t i j) (pair i j ∷ []) []) ∙ each_same w _ _ (λ j k. flat_one (up t i j) i j))

pub link_pairs_count : (w : ℕ) (t : List ℕ) → length (link_pairs w t) ≡ link_count w t
unfolding link_count
link_pairs_count w t = length_each w (λ i. row_pairs w t i) ∙ sum_same w _ _ (λ i h. length_pass w (λ j. up t i j) (λ j. pair i j))

pub link_count_most : (w : ℕ) (t : List ℕ) → link_count w t ≤ most_links w
unfolding link_count
link_count_most w t =
    rw (sum_most w) at
    (sum_mono w (λ i. count w (λ j. up t i j)) (λ i. w - suc i)
    (λ i h. omega (arith, count_above w i, count_mono w (λ j. up t i j) (λ j. ltb i j) (λ j e. (and_both (ltb i j) (mem j (word t i)) e).0))))
