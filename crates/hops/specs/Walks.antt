-- Walks on a link table, and that `within` holds exactly the boxes that a walk of so many links or fewer leads to. Assumes nothing.
use Prim.Native.Nat.{ℕ, zero, suc, ◌^◌, ◌≤◌, ◌<◌}
use Rattle.std.specs.Prelude.{◌≡◌, true, List, ◌⊎◌}
use Rattle.std.proofs.Math.Path.{refl, sym}
use Rattle.std.proofs.Math.Bool.{false}
use Rattle.std.proofs.lemmas.Bool.{false≢true}
use Rattle.std.proofs.Common.{inl, inr}
use Rattle.std.proofs.Math.Logic.{⊎_elim}
use native.Mathlib.Omega.{arith}
use Rattle.std.proofs.Math.Decide.{dec_le, ℕ_discrete}
use Rattle.std.specs.Int.Bits.{bit_or}
use Rattle.rules.specs.Sets.{mem, word, count, for_each}
use Rattle.rules.specs.Rest.{Table, Walk, Least, within}
use Rattle.sets.specs.Mem.{in_or, or_l, or_r, in_one, one_in, in_lt, not_both}
use Rattle.sets.specs.Loops.{by_bool, for_each_keeps, count_le, count_more}

-- ---- walks

-- a walk with a link more at its far end, and back
pub snoc : (t : List ℕ) (n i j k : ℕ) → Walk t n i j → mem k (word t j) ≡ true → Walk t (suc n) i k
snoc t zero i j k e h = (k, (rw e h), refl)
snoc t (suc n) i j k (a, l, v) h = (a, l, snoc t n a j k v h)

pub unsnoc : (t : List ℕ) (n i k : ℕ) → Walk t (suc n) i k → (j : ℕ) × Walk t n i j × (mem k (word t j) ≡ true)
unsnoc t zero i k (a, l, e) = (i, refl, rw e at l)
unsnoc t (suc n) i k (a, l, v) = let (j, u, h) = unsnoc t n a k v in (j, (a, l, u), h)

pub walk_lt : (w : ℕ) (t : List ℕ) → Table w t → (n i k : ℕ) → i < w → Walk t n i k → k < w
walk_lt w t s zero i k h e = rw (← e) h
walk_lt w t s (suc n) i k h (a, l, v) = walk_lt w t s n a k (in_lt w (word t i) a (s.small i) l) v

pub walk_sym : (w : ℕ) (t : List ℕ) → Table w t → (n i k : ℕ) → Walk t n i k → Walk t n k i
walk_sym w t s zero i k e = sym e
walk_sym w t s (suc n) i k (a, l, v) = snoc t n k a i (walk_sym w t s n a k v) (s.both i a l)

-- ---- least walks

pub least_sym : (w : ℕ) (t : List ℕ) → Table w t → (n i k : ℕ) → Least t n i k → Least t n k i
least_sym w t s n i k f = record { walk = walk_sym w t s n i k f.walk; none = λ m l v. f.none m l (walk_sym w t s m k i v) }

pub least_unique : (t : List ℕ) (m n i k : ℕ) → Least t m i k → Least t n i k → m ≡ n
least_unique t m n i k f g =
    elim (dec_le m n) [
      | yes p ↦ elim (dec_le n m) [ yes q ↦ omega arith | no q ↦ absurd (g.none m (omega arith) f.walk) ]
      | no p ↦ absurd (f.none n (omega arith) g.walk)
    ]

-- a least walk without its last link, or without its first, is a least walk
pub least_unsnoc : (t : List ℕ) (n i k : ℕ) → Least t (suc n) i k → (j : ℕ) × Least t n i j × (mem k (word t j) ≡ true)
least_unsnoc t n i k f =
    let (j, v, l) = unsnoc t n i k f.walk in
    (j, record { walk = v; none = λ m h u. f.none (suc m) (omega arith) (snoc t m i j k u l) }, l)

pub least_uncons : (t : List ℕ) (n i k : ℕ) → Least t (suc n) i k → (j : ℕ) × (mem j (word t i) ≡ true) × Least t n j k
least_uncons t n i k f =
    let (j, l, v) = f.walk in
    (j, l, record { walk = v; none = λ m h u. f.none (suc m) (omega arith) (j, l, u) })

-- ---- the boxes within d links

-- x is s with what the members of s below n link to, seen at box k
record Spread (t : List ℕ) (s k n x : ℕ) : Type 0 where
  from : mem k x ≡ true → (mem k s ≡ true) ⊎ ((j : ℕ) × (mem j s ≡ true) × (mem k (word t j) ≡ true))
  stay : mem k s ≡ true → mem k x ≡ true
  to : (j : ℕ) → j < n → mem j s ≡ true → mem k (word t j) ≡ true → mem k x ≡ true

spread : (w : ℕ) (t : List ℕ) (s k : ℕ) → Spread t s k w (for_each s (λ j x. bit_or x (word t j)) w s)
spread w t s k =
    for_each_keeps s (λ j x. bit_or x (word t j)) (Spread t s k) w s (record { from = λ e. inl e; stay = λ e. e; to = λ j l. absurd (omega arith) })
    (λ n x l m p. record {
      from = λ e. ⊎_elim p.from (λ u. inr (n, m, u)) (in_or k x (word t n) e);
      stay = λ e. or_l k x (word t n) (p.stay e);
      to = λ j r q v. elim (ℕ_discrete j n) [
        | yes z ↦ or_r k x (word t n) (rw z at v)
        | no z ↦ or_l k x (word t n) (p.to j (omega arith) q v)
      ];
    })
    (λ n x l m p. record {
      from = p.from;
      stay = p.stay;
      to = λ j r q v. elim (ℕ_discrete j n) [
        | yes z ↦ absurd (not_both n s (rw z at q) m)
        | no z ↦ p.to j (omega arith) q v
      ];
    })

module _ (w : ℕ) (t : List ℕ) (i : ℕ) where
  pub in_within : (d k : ℕ) → mem k (within w t i d) ≡ true → (m : ℕ) × (m ≤ d) × Walk t m i k
  unfolding within
  in_within zero k h = (0, omega arith, sym (in_one k i h))
  in_within (suc d) k h =
      ⊎_elim
      (λ u. let (m, l, v) = in_within d k u in (m, omega arith, v))
      (λ u. let (j, a, b) = u in let (m, l, v) = in_within d j a in (suc m, omega arith, snoc t m i j k v b))
      ((spread w t (within w t i d) k).from h)

  pub within_more : (d k : ℕ) → mem k (within w t i d) ≡ true → mem k (within w t i (suc d)) ≡ true
  unfolding within
  within_more d k h = (spread w t (within w t i d) k).stay h

  module _ (s : Table w t) (hi : i < w) where
    pub walk_within : (d m k : ℕ) → m ≤ d → Walk t m i k → mem k (within w t i d) ≡ true
    unfolding within
    walk_within zero zero k l v = rw v (one_in k)
    walk_within zero (suc m) k l v = absurd (omega arith)
    walk_within (suc d) zero k l v = within_more d k (walk_within d 0 k (omega arith) v)
    walk_within (suc d) (suc m) k l v =
        let (j, u, h) = unsnoc t m i k v in
        (spread w t (within w t i d) k).to j (walk_lt w t s m i j hi u) (walk_within d m j (omega arith) u) h

    -- a least walk of d links has passed d + 1 boxes
    passed : (d k : ℕ) → Least t d i k → d < count w (λ j. mem j (within w t i d))
    unfolding within
    passed zero k f = omega (arith, count_more w (λ j. false) (λ j. mem j (2 ^ i)) (λ j e. absurd (false≢true e)) i hi refl (one_in i))
    passed (suc d) k f =
        let (j, g, h) = least_unsnoc t d i k f in
        let out : mem k (within w t i d) ≡ false = by_bool (mem k (within w t i d))
        (λ e. let (m, l, v) = in_within d k e in absurd (f.none m (omega arith) v)) (λ e. e) in
        omega (
          arith,
          passed d j g,
          count_more w (λ j. mem j (within w t i d)) (λ j. mem j (within w t i (suc d))) (within_more d) k
              (walk_lt w t s (suc d) i k hi f.walk) out (walk_within (suc d) (suc d) k (omega arith) f.walk),
        )

    -- no walk of w links or more is least
    pub least_lt : (d k : ℕ) → Least t d i k → d < w
    least_lt d k f = omega (arith, passed d k f, count_le w (λ j. mem j (within w t i d)))
