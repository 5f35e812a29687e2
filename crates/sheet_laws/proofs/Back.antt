-- A rising list of pairs and its table tell each other: the pairs of the table that it makes are the list, and the table that a table's pairs make is the table.
-- Assumes nothing.
use Rattle.std.specs.Prelude.{ℕ, ◌≤◌, ◌<◌, ◌≡◌, List, length}
use Rattle.std.proofs.Common.{sym, ◌∙◌, ⊎_elim, arith, ext_get_or}
use Rattle.std.proofs.Math.Decide.{dec_lt}
use Rattle.sets.specs.Mem.{set_ext}
use Rattle.sheet_laws.specs.Conditions.{Words, Linked}
use Rattle.sheet_laws.proofs.Proper.{Fine}
use Rattle.sheet_laws.specs.Rising.{In, Rising, rising_same}
use Rattle.sheet_laws.proofs.Pairs.{Pair, pair, Up, up_asym, Below}
use Rattle.sheet_laws.proofs.Links.{made, made_length, made_small, made_in, in_made}
use Rattle.sheet_laws.proofs.LinkPairs.{link_pairs, link_pairs_in, in_link_pairs, link_pairs_rise}

pub list_back : (w n : ℕ) (l : List Pair) → n ≤ w → ((p : Pair) → In p l → Below n p) → Rising Up l → link_pairs w (made w l) ≡ l
list_back w n l nw h r =
    rising_same Up up_asym (link_pairs w (made w l)) l (link_pairs_rise w (made w l)) r
    (λ p u.
    let (a, b, c, k) = link_pairs_in w (made w l) p u in
    ⊎_elim (λ v. v) (λ v. absurd (omega (arith, (h (pair p.high p.low) v).0))) (made_in w n l nw h p.low p.high k))
    (λ p u. let (a, b) = h p u in in_link_pairs w (made w l) p (omega arith) (omega arith) a (in_made w n l nw h p u).0)

-- the pairs of a table whose links are fine
pub pairs_below : (w n : ℕ) (t : List ℕ) → ((i j : ℕ) → Linked t i j → Fine n t i j) → (p : Pair) → In p (link_pairs w t) → Below n p
pairs_below w n t f p u = let (a, b, c, k) = link_pairs_in w t p u in (c, (f p.low p.high k).high)

pub table_back : (w n : ℕ) (t : List ℕ) → n ≤ w → Words w t → length t ≡ w → ((i j : ℕ) → Linked t i j → Fine n t i j) → made w (link_pairs w t) ≡ t
table_back w n t nw s e f =
    ext_get_or 0 (made w (link_pairs w t)) t (made_length w n l nw b ∙ sym e)
    (λ i h. set_ext w _ _ (made_small w n l nw b i) (s i) (there i) (back i))
  where
    l : List Pair
    l = link_pairs w t

    b : (p : Pair) → In p l → Below n p
    b = pairs_below w n t f

    there : (i j : ℕ) → j < w → Linked (made w l) i j → Linked t i j
    there i j h k =
        ⊎_elim
        (λ u. (link_pairs_in w t (pair i j) u).3)
        (λ u. (f j i (link_pairs_in w t (pair j i) u).3).back)
        (made_in w n l nw b i j k)

    back : (i j : ℕ) → j < w → Linked t i j → Linked (made w l) i j
    back i j h k =
        let g = f i j k in
        elim (dec_lt i j) [
          | yes q ↦ (in_made w n l nw b (pair i j) (in_link_pairs w t (pair i j) (omega (arith, g.low)) h q k)).0
          | no q ↦ (in_made w n l nw b (pair j i) (in_link_pairs w t (pair j i) h (omega (arith, g.low)) (omega (arith, g.apart)) g.back)).1
        ]
