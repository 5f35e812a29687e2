-- Laws of a ring of words inside a store, over its sizes: what a ring says depends on its own words alone, and where two places of a store differ.
-- Assumes nothing.
use Prim.Native.Nat.{ℕ, zero, suc, ◌+◌, ◌*◌, ◌-◌, ◌/◌, ◌%◌, ◌≤◌, ◌<◌}
use native.Mathlib.Nat.{add-zero, mod-lt, mod-add-mod, mod-eq_of_lt, mod-eq-sub-mod}
use native.Mathlib.Numerals.{add-one}
use native.Mathlib.Decide.{dec_lt}
use native.Mathlib.Omega.{arith}
use mathlib.Core.Path.{◌≡◌, refl, sym, ap, ap₂, ◌∙◌}
use mathlib.Core.Logic.{◌≢◌}
use mathlib.Core.List.{List, [], ◌∷◌, ◌++◌}
use lib.Arith.{digits_div, digits_lt}
use lib.ListN.{length, set}
use lib.Seq.{get_or-set_same, get_or-set_other}
use Rattle.rules.specs.Sets.{word}
use Rattle.wires.specs.Wires.{Sizes, stride, store_size, place, slot, ring_at}

-- ---- places

-- two numbers less than a turn apart are two places of the ring
pub turn_apart : (ring a b : ℕ) → a < b → b < ring + a → a % ring ≢ b % ring
turn_apart ring a b l t e = elim (dec_lt (x + d) ring) [ yes h ↦ below h | no h ↦ beyond h ]
  where
    d : ℕ
    d = b - a

    x : ℕ
    x = a % ring

    low : x < ring
    low = mod-lt a (omega arith)

    far : (x + d) % ring ≡ x
    far =
        let q : a + d ≡ b = omega arith in
        mod-add-mod a ring d ∙ ap (λ (y : ℕ). y % ring) q ∙ sym e

    below : x + d < ring → ⊥
    below h = let q : x + d ≡ x = sym (mod-eq_of_lt h) ∙ far in omega arith

    beyond : ¬ (x + d < ring) → ⊥
    beyond h =
        let m : ring ≤ x + d = omega arith in
        let n : x + d - ring < ring = omega (arith, low) in
        let q : x + d - ring ≡ x = sym (mod-eq_of_lt n) ∙ sym (mod-eq-sub-mod m) ∙ far in
        omega arith

module _ (z : Sizes) where
  -- places of two wires are two
  pub wires_apart : (i k p q : ℕ) → p < stride z → q < stride z → k ≢ i → place z k q ≢ place z i p
  wires_apart i k p q hp hq ne e =
      let f : k * stride z + q ≡ i * stride z + p = omega arith in
      ne (sym (digits_div k hq) ∙ ap (λ (x : ℕ). x / stride z) f ∙ digits_div i hp)

  -- a place of a wire is in the store
  pub inside : (s : List ℕ) (i p : ℕ) → length s ≡ store_size z → i < z.wires → p < stride z → place z i p < length s
  inside s i p e hi hp = rw e (omega (arith, digits_lt hi hp))

  -- ---- a word stored

  pub read_same : (s : List ℕ) (i p v : ℕ) → length s ≡ store_size z → i < z.wires → p < stride z → word (set s (place z i p) v) (place z i p) ≡ v
  read_same s i p v e hi hp = get_or-set_same s (place z i p) v 0 (inside s i p e hi hp)

  pub read_beside : (s : List ℕ) (i p q v : ℕ) → q ≢ p → word (set s (place z i p) v) (place z i q) ≡ word s (place z i q)
  read_beside s i p q v ne = get_or-set_other s (place z i p) (place z i q) v 0 (omega arith)

  pub read_elsewhere : (s : List ℕ) (i k p q v : ℕ) → p < stride z → q < stride z → k ≢ i → word (set s (place z i p) v) (place z k q) ≡ word s (place z k q)
  read_elsewhere s i k p q v hp hq ne = get_or-set_other s (place z i p) (place z k q) v 0 (wires_apart i k p q hp hq ne)

  -- ---- the ring

  -- two runs that have the same words
  pub ring_agree : (s s' : List ℕ) (i h h' n : ℕ) → ((j : ℕ) → j < n → word s' (slot z i (h' + j)) ≡ word s (slot z i (h + j)))
      → ring_at z s' i h' n ≡ ring_at z s i h n
  unfolding ring_at
  ring_agree s s' i h h' zero f = refl
  ring_agree s s' i h h' (suc n) f =
      ap₂ ◌∷◌ (simp add-zero at (f 0 (omega arith)))
      (ring_agree s s' i (h + 1) (h' + 1) n (λ j l.
      let a : h' + (j + 1) ≡ h' + 1 + j = omega arith in
      let b : h + (j + 1) ≡ h + 1 + j = omega arith in
      rw (a, b) at (f (j + 1) (omega arith))))

  -- two numbers of one place
  pub ring_turn : (s : List ℕ) (i x y n : ℕ) → x % z.ring ≡ y % z.ring → ring_at z s i x n ≡ ring_at z s i y n
  ring_turn s i x y n e =
      ring_agree s s i y x n (λ j l.
      ap (λ (p : ℕ). word s (place z i p)) (sym (mod-add-mod x z.ring j) ∙ ap (λ (p : ℕ). (p + j) % z.ring) e ∙ mod-add-mod y z.ring j))

  -- one more at the end
  ring_last : (s : List ℕ) (i h n : ℕ) → ring_at z s i h (suc n) ≡ ring_at z s i h n ++ (word s (slot z i (h + n)) ∷ [])
  unfolding ring_at
  ring_last s i h zero = rw add-zero
  ring_last s i h (suc n) =
      let e : h + suc n ≡ h + 1 + n = omega arith in
      rw e (ap (λ (l : List ℕ). word s (slot z i h) ∷ l) (ring_last s i (h + 1) n))

  pub ring_more : (s : List ℕ) (i h n : ℕ) → ring_at z s i h (n + 1) ≡ ring_at z s i h n ++ (word s (slot z i (h + n)) ∷ [])
  ring_more s i h n = rw (add-one n) (ring_last s i h n)

  -- the first, and the others
  pub ring_first : (s : List ℕ) (i h n x : ℕ) (q : List ℕ) → ring_at z s i h n ≡ x ∷ q
      → (word s (slot z i h) ≡ x) × (0 < n) × (ring_at z s i (h + 1) (n - 1) ≡ q)
  unfolding ring_at
  ring_first s i h zero x q e = absurd (let never : ◌≡◌ {A = ℕ} 0 1 = cc in omega arith)
  ring_first s i h (suc n) x q e = let a : suc n - 1 ≡ n = omega arith in (cc, omega arith, rw a (cc))

  pub ring_some : (s : List ℕ) (i h n : ℕ) → n ≢ 0 → ring_at z s i h n ≡ word s (slot z i h) ∷ ring_at z s i (h + 1) (n - 1)
  unfolding ring_at
  ring_some s i h zero l = absurd (l refl)
  ring_some s i h (suc n) l = let a : suc n - 1 ≡ n = omega arith in rw a

  pub ring_length : (s : List ℕ) (i h n : ℕ) → length (ring_at z s i h n) ≡ n
  unfolding ring_at
  ring_length s i h zero = refl
  ring_length s i h (suc n) = ap suc (ring_length s i (h + 1) n)

  pub ring_none : (s : List ℕ) (i h n : ℕ) → n ≡ 0 → ring_at z s i h n ≡ []
  unfolding ring_at
  ring_none s i h n e = rw e refl

  pub none_ring : (s : List ℕ) (i h n : ℕ) → ring_at z s i h n ≡ [] → n ≡ 0
  none_ring s i h n e = sym (ring_length s i h n) ∙ ap length e
