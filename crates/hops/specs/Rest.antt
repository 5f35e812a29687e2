-- What the tables at rest name: layers, the farthest member, the neighbour that a box takes an origin from. Assumes nothing.
use Prim.Native.Nat.{ℕ, zero, suc, ◌+◌, ◌-◌, ◌^◌, ◌≤◌, ◌<◌}
use Rattle.std.specs.Prelude.{◌≡◌, Bool, true, ◌&&◌, List, ◌↔◌, ◌≢◌}
use Rattle.std.proofs.Math.Path.{refl, sym, ap}
use Rattle.std.proofs.Common.{◌∙◌, true≢false, pow_pos}
use Rattle.std.proofs.Math.Bool.{false}
use native.Mathlib.Omega.{arith}
use Rattle.std.proofs.Math.Decide.{dec_le}
use Rattle.std.proofs.Math.Dec.{eqb}
use borrow.Author.Tests.{eqb-true, eq-eqb, eqb-false}
use Rattle.rules.specs.Sets.{mem, word, words, set_of}
use Rattle.rules.specs.Rest.{Table, hops, layer, farthest, from, in_at_rest, at_rest}
use Rattle.sets.specs.Mem.{mem_set_of, set_of_lt, in_lt, ext, mem_empty, and_both, and_true}
use Rattle.sets.specs.Loops.{by_bool, least_hit, least_ok, least_min, some_member, get_d_words}
use Rattle.hops.specs.Hops.{hops_le, hops_gap, hops_self, hops_zero, hops_near, hops_between}

-- ---- layers

pub in_layer : (w : ℕ) (t : List ℕ) (i d k : ℕ) → mem k (layer w t i d) ≡ true → hops w t i k ≡ d
unfolding layer
in_layer w t i d k m =
    eqb-true (hops w t i k) d (sym (mem_set_of w (λ k. eqb (hops w t i k) d) k (in_lt w (layer w t i d) k (set_of_lt w (λ k. eqb (hops w t i k) d)) m)) ∙ m)

pub layer_in : (w : ℕ) (t : List ℕ) (i d k : ℕ) → k < w → hops w t i k ≡ d → mem k (layer w t i d) ≡ true
unfolding layer
layer_in w t i d k h e = mem_set_of w (λ k. eqb (hops w t i k) d) k h ∙ eq-eqb (hops w t i k) d e

pub layer_lt : (w : ℕ) (t : List ℕ) (i d : ℕ) → layer w t i d < 2 ^ w
unfolding layer
layer_lt w t i d = set_of_lt w (λ k. eqb (hops w t i k) d)

-- a layer is empty exactly where no box is at so many hops
pub layer_none : (w : ℕ) (t : List ℕ) (i d : ℕ) → ((k : ℕ) → k < w → hops w t i k ≢ d) → layer w t i d ≡ 0
layer_none w t i d h =
    ext w (layer w t i d) 0 (layer_lt w t i d) (pow_pos w)
    (λ k l. by_bool (mem k (layer w t i d)) (λ m. absurd (h k l (in_layer w t i d k m))) (λ m. m ∙ sym (mem_empty k)))

pub none_layer : (w : ℕ) (t : List ℕ) (i d k : ℕ) → layer w t i d ≡ 0 → k < w → hops w t i k ≢ d
none_layer w t i d k e h z = true≢false (sym (layer_in w t i d k h z) ∙ ap (mem k) e ∙ mem_empty k)

-- ---- the neighbour that i takes k from

abbrev nearer : ℕ → List ℕ → ℕ → ℕ → ℕ → Bool
nearer w t i k j = mem j (word t i) && eqb (suc (hops w t j k)) (hops w t i k)

-- j is a neighbour of i one hop nearer to k, and no lower-numbered one is
pub record From (w : ℕ) (t : List ℕ) (i k j : ℕ) : Type 0 where
  pub linked : mem j (word t i) ≡ true
  pub near : suc (hops w t j k) ≡ hops w t i k
  pub lowest : (l : ℕ) → l < j → mem l (word t i) ≡ true → suc (hops w t l k) ≡ hops w t i k → ⊥

pub from_ok : (w : ℕ) (t : List ℕ) (i k : ℕ) → from w t i k < w → From w t i k (from w t i k)
unfolding from
from_ok w t i k h =
    let (a, b) = and_both (mem (from w t i k) (word t i)) (eqb (suc (hops w t (from w t i k) k)) (hops w t i k)) (least_ok w (nearer w t i k) h) in
    record {
      linked = a;
      near = eqb-true _ _ b;
      lowest = λ l q u v. true≢false (sym (and_true _ _ u (eq-eqb (suc (hops w t l k)) (hops w t i k) v)) ∙ least_min w (nearer w t i k) l q);
    }

module _ (w : ℕ) (t : List ℕ) (s : Table w t) where
  pub from_le : (i j k : ℕ) → mem j (word t i) ≡ true → suc (hops w t j k) ≡ hops w t i k → from w t i k ≤ j
  unfolding from
  from_le i j k l e =
      (least_hit w (nearer w t i k) j (in_lt w (word t i) j (s.small i) l) (and_true _ _ l (eq-eqb (suc (hops w t j k)) (hops w t i k) e))).0

  -- every other member of the group is taken from some neighbour
  pub from_member : (i k : ℕ) → i < w → hops w t i k < w → i ≢ k → from w t i k < w
  from_member i k hi h z =
      let (j, l, e) = hops_near w t s i k hi h (λ y. z (hops_zero w t s i k hi y)) in
      omega (arith, from_le i j k l e, in_lt w (word t i) j (s.small i) l)

  -- and nothing else is
  pub from_group : (i k : ℕ) → i < w → from w t i k < w → (hops w t i k < w) × (i ≢ k)
  from_group i k hi h =
      let f : From w t i k (from w t i k) = from_ok w t i k h in
      let g : hops w t (from w t i k) k < w + 2 = omega (arith, f.near, hops_le w t i k) in
      let g' : hops w t (from w t i k) k < w = hops_gap w t s (from w t i k) k h g in
      (hops_gap w t s i k hi (omega (arith, f.near)), λ e. absurd (omega (arith, f.near, hops_self w t s i hi, ap (hops w t i) e)))

  -- "the lowest is the one the tables name": In_SPT(J) of the tables at rest
  pub in_tables : (i j k : ℕ) → j < w → k < w → (mem k (word (at_rest w t i).in_spt j) ≡ true) ↔ (from w t i k ≡ j)
  unfolding at_rest in_at_rest
  in_tables i j k hj hk =
      let e : word (words w (in_at_rest w t i)) j ≡ set_of w (λ k. eqb (from w t i k) j) = get_d_words w (in_at_rest w t i) j hj in
      let m : mem k (set_of w (λ k. eqb (from w t i k) j)) ≡ eqb (from w t i k) j = mem_set_of w (λ k. eqb (from w t i k) j) k hk in
      (λ h. eqb-true (from w t i k) j (sym m ∙ sym (ap (mem k) e) ∙ h), λ h. ap (mem k) e ∙ m ∙ eq-eqb (from w t i k) j h)

  -- ---- the farthest member

  module _ (i : ℕ) (hi : i < w) where
    pub far_lt : farthest w t i < w
    unfolding farthest
    far_lt =
        let none : layer w t i w ≡ 0 = layer_none w t i w (λ k hk e. omega (arith, hops_gap w t s i k hi (omega arith))) in
        let z : suc (w - 1) ≡ w = omega arith in
        omega (arith, (least_hit w (λ d. eqb (layer w t i (suc d)) 0) (w - 1) (omega arith) (eq-eqb (layer w t i (suc (w - 1))) 0 (ap (layer w t i) z ∙ none))).0)

    -- "boxes past the farthest have no layer"
    pub far_most : (k : ℕ) → k < w → hops w t i k < w → hops w t i k ≤ farthest w t i
    unfolding farthest
    far_most k hk h =
        elim (dec_le (hops w t i k) (farthest w t i)) [
          | yes p ↦ p
          | no p ↦
              let (c, hc, e) = hops_between w t s (suc (farthest w t i)) (hops w t i k - suc (farthest w t i)) i k hi (omega arith) (omega arith) in
              absurd (none_layer w t i (suc (farthest w t i)) c (eqb-true _ 0 (least_ok w (λ d. eqb (layer w t i (suc d)) 0) far_lt)) hc e)
        ]

    pub far_past : (d : ℕ) → farthest w t i < d → d < w + 2 → layer w t i d ≡ 0
    far_past d h l = layer_none w t i d (λ k hk e. absurd (omega (arith, far_most k hk (hops_gap w t s i k hi (omega arith)))))

    -- some member is that far
    pub far_there : (c : ℕ) × (c < w) × (hops w t i c ≡ farthest w t i)
    unfolding farthest
    far_there = go (farthest w t i) refl
      where
        go : (e : ℕ) → farthest w t i ≡ e → (c : ℕ) × (c < w) × (hops w t i c ≡ farthest w t i)
        go zero e = (i, hi, hops_self w t s i hi ∙ sym e)
        go (suc d) e =
            let z : eqb (layer w t i (suc d)) 0 ≡ false = least_min w (λ d. eqb (layer w t i (suc d)) 0) d (omega arith) in
            let (c, hc, m) = some_member w (layer w t i (suc d)) (layer_lt w t i (suc d)) (eqb-false _ 0 z) in
            (c, hc, in_layer w t i (suc d) c m ∙ sym e)
