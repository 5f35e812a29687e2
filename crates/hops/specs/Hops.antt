-- The executable hops are the least length of a walk, and their laws: nothing past this file needs to speak of walks. Assumes nothing.
use Rattle.std.specs.Prelude.{ℕ, zero, suc, ◌+◌, ◌≤◌, ◌<◌, ◌≡◌, refl, true, List, ◌≢◌}
use Rattle.std.proofs.Common.{sym, ◌∙◌}
use Rattle.std.proofs.Math.Bool.{true≢false}
use native.Mathlib.Omega.{arith}
use Rattle.std.proofs.Math.Decide.{dec_lt}
use Rattle.rules.specs.Sets.{mem, word}
use Rattle.rules.specs.Rest.{Table, Walk, Least, within, hops}
use Rattle.sets.specs.Mem.{in_lt}
use Rattle.sets.specs.Loops.{least_le, least_hit, least_ok, least_min}
use Rattle.hops.specs.Walks.{walk_lt, in_within, walk_within, least_lt, least_sym, least_unique, least_unsnoc, least_uncons}

pub hops_le : (w : ℕ) (t : List ℕ) (i k : ℕ) → hops w t i k ≤ w + 2
unfolding hops
hops_le w t i k = least_le (w + 2) (λ d. mem k (within w t i d))

module _ (w : ℕ) (t : List ℕ) (s : Table w t) where
  -- ---- what the number means

  -- where it is below w + 2 it is the length of a least walk
  pub hops_least : (i k : ℕ) → i < w → hops w t i k < w + 2 → Least t (hops w t i k) i k
  unfolding hops
  hops_least i k hi h =
      let (m, l, v) = in_within w t i (hops w t i k) k (least_ok (w + 2) (λ d. mem k (within w t i d)) h) in
      let none : (n : ℕ) → n < hops w t i k → Walk t n i k → ⊥ = λ n q u.
      true≢false (sym (walk_within w t i s hi n n k (omega arith) u) ∙ least_min (w + 2) (λ d. mem k (within w t i d)) n q) in
      elim (dec_lt m (hops w t i k)) [
        | yes p ↦ absurd (none m p v)
        | no p ↦ let e : m ≡ hops w t i k = omega arith in record { walk = rw e at v; none = none }
      ]

  -- and every least walk has that length
  pub least_hops : (d i k : ℕ) → i < w → Least t d i k → hops w t i k ≡ d
  unfolding hops
  least_hops d i k hi f =
      let l : d < w = least_lt w t i s hi d k f in
      let (a, b) = least_hit (w + 2) (λ e. mem k (within w t i e)) d (omega arith) (walk_within w t i s hi d d k (omega arith) f.walk) in
      least_unique t (hops w t i k) d i k (hops_least i k hi (omega arith)) f

  -- any walk bounds it
  pub walk_hops : (n i k : ℕ) → i < w → Walk t n i k → hops w t i k ≤ n
  unfolding hops
  walk_hops n i k hi v =
      elim (dec_lt n (w + 2)) [
        | yes p ↦ (least_hit (w + 2) (λ e. mem k (within w t i e)) n p (walk_within w t i s hi n n k (omega arith) v)).0
        | no p ↦ omega (arith, hops_le w t i k)
      ]

  -- ---- the laws

  -- below w, or w + 2
  pub hops_gap : (i k : ℕ) → i < w → hops w t i k < w + 2 → hops w t i k < w
  hops_gap i k hi h = least_lt w t i s hi (hops w t i k) k (hops_least i k hi h)

  pub hops_self : (i : ℕ) → i < w → hops w t i i ≡ 0
  hops_self i hi = least_hops 0 i i hi (record { walk = refl; none = λ m l. absurd (omega arith) })

  pub hops_zero : (i k : ℕ) → i < w → hops w t i k ≡ 0 → i ≡ k
  hops_zero i k hi e = (rw e at (hops_least i k hi (omega arith))).walk

  sym_lt : (i k : ℕ) → i < w → k < w → hops w t i k < w + 2 → hops w t k i ≡ hops w t i k
  sym_lt i k hi hk h = least_hops (hops w t i k) k i hk (least_sym w t s (hops w t i k) i k (hops_least i k hi h))

  pub hops_sym : (i k : ℕ) → i < w → k < w → hops w t i k ≡ hops w t k i
  hops_sym i k hi hk =
      elim (dec_lt (hops w t i k) (w + 2)) [
        | yes p ↦ sym (sym_lt i k hi hk p)
        | no p ↦ elim (dec_lt (hops w t k i) (w + 2)) [ yes q ↦ sym_lt k i hk hi q | no q ↦ omega (arith, hops_le w t i k, hops_le w t k i) ]
      ]

  -- a neighbour is at most one hop nearer
  pub hops_step : (i j k : ℕ) → i < w → mem j (word t i) ≡ true → hops w t i k ≤ suc (hops w t j k)
  hops_step i j k hi l =
      elim (dec_lt (hops w t j k) (w + 2)) [
        | yes p ↦ walk_hops (suc (hops w t j k)) i k hi (j, l, (hops_least j k (in_lt w (word t i) j (s.small i) l) p).walk)
        | no p ↦ omega (arith, hops_le w t i k)
      ]

  -- "for each other member there is a neighbour one hop nearer"
  pub hops_near : (i k : ℕ) → i < w → hops w t i k < w → hops w t i k ≢ 0 → (j : ℕ) × (mem j (word t i) ≡ true) × (suc (hops w t j k) ≡ hops w t i k)
  hops_near i k hi h z = go (hops w t i k) refl
    where
      go : (n : ℕ) → hops w t i k ≡ n → (j : ℕ) × (mem j (word t i) ≡ true) × (suc (hops w t j k) ≡ hops w t i k)
      go zero e = absurd (z e)
      go (suc n) e =
          let (j, l, f) = least_uncons t n i k (rw e at (hops_least i k hi (omega arith))) in
          (j, l, omega (arith, least_hops n j k (in_lt w (word t i) j (s.small i) l) f))

  -- on the way to a box at n hops there is one at each smaller number
  pub hops_between : (m n i k : ℕ) → i < w → hops w t i k ≡ m + n → m + n < w → (c : ℕ) × (c < w) × (hops w t i c ≡ m)
  hops_between m n i k hi e h = go n k (rw e at (hops_least i k hi (omega arith)))
    where
      go : (n k : ℕ) → Least t (m + n) i k → (c : ℕ) × (c < w) × (hops w t i c ≡ m)
      go zero k f = let e : m + 0 ≡ m = omega arith in (k, walk_lt w t s (m + 0) i k hi f.walk, least_hops m i k hi (rw e at f))
      go (suc n) k f = let e : m + suc n ≡ suc (m + n) = omega arith in let (j, g, l) = least_unsnoc t (m + n) i k (rw e at f) in go n j g
