-- The table that a list of pairs makes: its links are exactly the pairs, both ways. Assumes nothing.
use Rattle.std.specs.Prelude.{ℕ, ◌^◌, ◌≤◌, ◌<◌, ◌≡◌, refl, true, List, [], ◌∷◌, ◌⊎◌, length, replicate}
use Rattle.std.proofs.Common.{sym, ◌∙◌, true≢false, arith, pow_pos}
use Rattle.std.proofs.Math.Logic.{inl, inr, ⊎_elim}
use Rattle.std.proofs.Math.Decide.{dec_lt, ℕ_discrete}
use Rattle.std.proofs.lemmas.Nat.{or_lt}
use Rattle.std.proofs.lemmas.List.{length-replicate, get_or-replicate}
use Rattle.std.proofs.Math.ListN.{get_or-eq_default}
use Rattle.std.proofs.Math.Pow.{pow-lt}
use Rattle.rules.specs.Sets.{mem, word, join_at}
use Rattle.rules.specs.Sheet.{link}
use Rattle.rules.specs.Rest.{Table}
use Rattle.sets.specs.Mem.{mem_empty, in_or, or_l, or_r, in_one, one_in}
use Rattle.sets.specs.Loops.{by_bool}
use Rattle.sets.specs.Tables.{join_at_length, join_at_same, join_at_other}
use Rattle.sheet_laws.specs.Conditions.{Words, Linked}
use Rattle.sheet_laws.proofs.Proper.{Fine}
use Rattle.sheet_laws.specs.Rising.{In}
use Rattle.sheet_laws.proofs.Pairs.{Pair, pair, pair_eq, Below, link_all}

-- ---- one set joins

join_in : (t : List ℕ) (k s i j : ℕ) → k < length t → Linked (join_at t k s) i j → Linked t i j ⊎ ((i ≡ k) × (mem j s ≡ true))
join_in t k s i j h l =
    elim (ℕ_discrete i k) [
      | yes e ↦ ⊎_elim (λ u. inl (rw e u)) (λ u. inr (e, u)) (in_or j (word t k) s (rw (e, join_at_same t k s h) at l))
      | no e ↦ inl (rw (join_at_other t k s i e) at l)
    ]

join_keeps : (t : List ℕ) (k s i j : ℕ) → k < length t → Linked t i j → Linked (join_at t k s) i j
join_keeps t k s i j h l =
    elim (ℕ_discrete i k) [
      | yes e ↦ rw (e, join_at_same t k s h) (or_l j (word t k) s (rw e at l))
      | no e ↦ rw (join_at_other t k s i e) l
    ]

join_new : (t : List ℕ) (k s j : ℕ) → k < length t → mem j s ≡ true → Linked (join_at t k s) k j
join_new t k s j h m = rw (join_at_same t k s h) (or_r j (word t k) s m)

join_small : (w : ℕ) (t : List ℕ) (k s : ℕ) → k < length t → s < 2 ^ w → Words w t → Words w (join_at t k s)
join_small w t k s h small v i =
    elim (ℕ_discrete i k) [
      | yes e ↦ rw (e, join_at_same t k s h) (or_lt w (word t k) s (v k) small)
      | no e ↦ rw (join_at_other t k s i e) (v i)
    ]

-- ---- one link joins

module _ (t : List ℕ) (a b : ℕ) (ha : a < length t) (hb : b < length t) where
  hb' : b < length (join_at t a (2 ^ b))
  hb' = rw (join_at_length t a (2 ^ b)) hb

  pub link_length : length (link a b t) ≡ length t
  unfolding link
  link_length = join_at_length (join_at t a (2 ^ b)) b (2 ^ a) ∙ join_at_length t a (2 ^ b)

  pub link_in : (i j : ℕ) → Linked (link a b t) i j → Linked t i j ⊎ (((i ≡ a) × (j ≡ b)) ⊎ ((j ≡ a) × (i ≡ b)))
  unfolding link
  link_in i j l =
      ⊎_elim
      (λ u. ⊎_elim (λ v. inl v) (λ v. inr (inl (v.0, in_one j b v.1))) (join_in t a (2 ^ b) i j ha u))
      (λ u. inr (inr (in_one j a u.1, u.0)))
      (join_in (join_at t a (2 ^ b)) b (2 ^ a) i j hb' l)

  pub link_keeps : (i j : ℕ) → Linked t i j → Linked (link a b t) i j
  unfolding link
  link_keeps i j l = join_keeps _ b (2 ^ a) i j hb' (join_keeps t a (2 ^ b) i j ha l)

  pub link_to : Linked (link a b t) a b
  unfolding link
  link_to = join_keeps _ b (2 ^ a) a b hb' (join_new t a (2 ^ b) b ha (one_in b))

  pub link_back : Linked (link a b t) b a
  unfolding link
  link_back = join_new _ b (2 ^ a) a hb' (one_in a)

  pub link_small : (w : ℕ) → length t ≡ w → Words w t → Words w (link a b t)
  unfolding link
  link_small w e v = join_small w _ b (2 ^ a) hb' (pow-lt (omega arith)) (join_small w t a (2 ^ b) ha (pow-lt (omega arith)) v)

-- ---- all links of a list join

module _ (w : ℕ) where
  -- each pair names boxes below w
  abbrev Within : List Pair → Type 0
  Within l = (p : Pair) → In p l → (p.low < w) × (p.high < w)

  pub all_length : (l : List Pair) (t : List ℕ) → length t ≡ w → Within l → length (link_all l t) ≡ w
  all_length [] t e h = e
  all_length (p ∷ l) t e h =
      let (a, b) = h p (inl refl) in
      all_length l (link p.low p.high t) (link_length t p.low p.high (omega arith) (omega arith) ∙ e) (λ q u. h q (inr u))

  pub all_small : (l : List Pair) (t : List ℕ) → length t ≡ w → Within l → Words w t → Words w (link_all l t)
  all_small [] t e h v = v
  all_small (p ∷ l) t e h v =
      let (a, b) = h p (inl refl) in
      all_small l (link p.low p.high t) (link_length t p.low p.high (omega arith) (omega arith) ∙ e) (λ q u. h q (inr u))
      (link_small t p.low p.high (omega arith) (omega arith) w e v)

  pub all_keeps : (l : List Pair) (t : List ℕ) → length t ≡ w → Within l → (i j : ℕ) → Linked t i j → Linked (link_all l t) i j
  all_keeps [] t e h i j k = k
  all_keeps (p ∷ l) t e h i j k =
      let (a, b) = h p (inl refl) in
      all_keeps l (link p.low p.high t) (link_length t p.low p.high (omega arith) (omega arith) ∙ e) (λ q u. h q (inr u)) i j
      (link_keeps t p.low p.high (omega arith) (omega arith) i j k)

  pub all_in : (l : List Pair) (t : List ℕ) → length t ≡ w → Within l → (i j : ℕ) → Linked (link_all l t) i j
      → Linked t i j ⊎ (In (pair i j) l ⊎ In (pair j i) l)
  all_in [] t e h i j k = inl k
  all_in (p ∷ l) t e h i j k =
      let (a, b) = h p (inl refl) in
      ⊎_elim
      (λ u.
      ⊎_elim (λ v. inl v)
      (⊎_elim
      (λ v. inr (inl (inl (pair_eq (pair i j) p v.0 v.1))))
      (λ v. inr (inr (inl (pair_eq (pair j i) p v.0 v.1)))))
      (link_in t p.low p.high (omega arith) (omega arith) i j u))
      (⊎_elim (λ u. inr (inl (inr u))) (λ u. inr (inr (inr u))))
      (all_in l (link p.low p.high t) (link_length t p.low p.high (omega arith) (omega arith) ∙ e) (λ q u. h q (inr u)) i j k)

  pub in_all : (l : List Pair) (t : List ℕ) → length t ≡ w → Within l → (p : Pair) → In p l
      → Linked (link_all l t) p.low p.high × Linked (link_all l t) p.high p.low
  in_all [] t e h p u = absurd u
  in_all (q ∷ l) t e h p u =
      let (a, b) = h q (inl refl) in
      let ha : q.low < length t = omega arith in
      let hb : q.high < length t = omega arith in
      let f : length (link q.low q.high t) ≡ w = link_length t q.low q.high ha hb ∙ e in
      let keep = all_keeps l (link q.low q.high t) f (λ r v. h r (inr v)) in
      ⊎_elim
      (λ v. rw v (keep q.low q.high (link_to t q.low q.high ha hb), keep q.high q.low (link_back t q.low q.high ha hb)))
      (λ v. in_all l (link q.low q.high t) f (λ r x. h r (inr x)) p v)
      u

-- ---- the table of a list of pairs below n

abbrev pub made : ℕ → List Pair → List ℕ
made w l = link_all l (replicate w 0)

empty_word : (w i : ℕ) → word (replicate w 0) i ≡ 0
empty_word w i =
    elim (dec_lt i w) [
      | yes h ↦ get_or-replicate w i 0 0 h
      | no h ↦ get_or-eq_default (replicate w 0) 0 {n = i} (omega (arith, length-replicate {A = ℕ} w 0))
    ]

module _ (w n : ℕ) (l : List Pair) (nw : n ≤ w) (h : (p : Pair) → In p l → Below n p) where
  within : (p : Pair) → In p l → (p.low < w) × (p.high < w)
  within p u = let (a, b) = h p u in (omega arith, omega arith)

  pub made_length : length (made w l) ≡ w
  made_length = all_length w l (replicate w 0) (length-replicate w 0) within

  pub made_small : Words w (made w l)
  made_small = all_small w l (replicate w 0) (length-replicate w 0) within (λ i. rw (empty_word w i) (pow_pos w))

  -- the links are the pairs
  pub made_in : (i j : ℕ) → Linked (made w l) i j → In (pair i j) l ⊎ In (pair j i) l
  made_in i j k =
      ⊎_elim (λ u. absurd (true≢false (sym (rw (empty_word w i) at u) ∙ mem_empty j))) (λ u. u)
      (all_in w l (replicate w 0) (length-replicate w 0) within i j k)

  pub in_made : (p : Pair) → In p l → Linked (made w l) p.low p.high × Linked (made w l) p.high p.low
  in_made = in_all w l (replicate w 0) (length-replicate w 0) within

  pub made_fine : (i j : ℕ) → Linked (made w l) i j → Fine n (made w l) i j
  made_fine i j k =
      ⊎_elim
      (λ u. let (a, b) = h (pair i j) u in record { back = (in_made (pair i j) u).1; apart = omega arith; low = omega arith; high = omega arith })
      (λ u. let (a, b) = h (pair j i) u in record { back = (in_made (pair j i) u).0; apart = omega arith; low = omega arith; high = omega arith })
      (made_in i j k)

  pub made_table : Table w (made w l)
  made_table = record {
    size = made_length;
    small = made_small;
    both = λ i j k. (made_fine i j k).back;
    apart = λ i. by_bool (mem i (word (made w l) i)) (λ e. absurd ((made_fine i i e).apart refl)) (λ e. e);
  }
