-- The wires of a table: two for each link. The most of them, and the most messages that a drain needs: 4,560 for 16 boxes. Assumes nothing.
use Prim.Native.Nat.{ℕ, ◌+◌, ◌*◌, ◌-◌, ◌≤◌, ◌<◌}
use Rattle.std.specs.Prelude.{◌≡◌, true, false, ◌&&◌, List, ◌≢◌}
use Rattle.std.proofs.Common.{sym, ◌∙◌, true≢false, lt-ltb, le-ltb}
use Rattle.std.proofs.Math.Bool.{and-false}
use native.Mathlib.Omega.{arith}
use Rattle.std.proofs.Math.Nat.{mul-le-mul}
use Rattle.std.proofs.Math.Decide.{dec_lt}
use Rattle.std.proofs.Math.Dec.{ltb}
use Rattle.rules.specs.Sets.{mem, word, bit, count, sum}
use Rattle.rules.specs.Sheet.{link_count}
use Rattle.sets.specs.Mem.{bit_le}
use Rattle.sets.specs.Loops.{by_bool, sum_same}
use Rattle.rules.specs.Rest.{Table, wires_of, wire_count, enough}
use Rattle.order.specs.Rounds.{no_link_back}
use Rattle.order.specs.Sums.{count_sum, sum_but_one, sum_flat, sum_plus, sum_swap}

module _ (w : ℕ) (t : List ℕ) (s : Table w t) where
  wires_of_lem : (i : ℕ) → i < w → wires_of w t i ≤ w - 1
  unfolding wires_of
  wires_of_lem i hi =
      let z : bit (mem i (word t i)) ≡ 0 = rw (s.apart i) in
      omega (arith, count_sum w (λ j. mem j (word t i)), sum_but_one w (λ j. bit (mem j (word t i))) i hi z (λ k h. bit_le (mem k (word t i))))

  pub wires_most : wire_count w t ≤ w * (w - 1)
  unfolding wire_count
  wires_most = sum_flat w (wires_of w t) (w - 1) wires_of_lem

  pub enough_most : (n : ℕ) → n ≤ w → enough w t n ≤ w * (w - 1) * (w + 2) + w * (w - 1)
  unfolding enough
  enough_most n h =
      let a : n + 2 ≤ w + 2 = omega arith in
      let b : n - 1 ≤ w - 1 = omega arith in
      omega (arith, mul-le-mul wires_most a, mul-le-mul h b)

pub enough_16 : (t : List ℕ) → Table 16 t → (n : ℕ) → n ≤ 16 → enough 16 t n ≤ 4560
enough_16 t s n h = enough_most 16 t s n h

-- ---- "It makes two wires, one each way"

module _ (w : ℕ) (t : List ℕ) (s : Table w t) where
  -- a wire from i to j is a link's where i < j, and the link's other wire where j < i
  one_way : (i j : ℕ) → bit (mem j (word t i)) ≡ bit (ltb i j && mem j (word t i)) + bit (ltb j i && mem i (word t j))
  one_way i j =
      by_bool (mem j (word t i))
      (λ e.
      let f : mem i (word t j) ≡ true = s.both i j e in
      elim (dec_lt i j) [
        | yes h ↦ rw (e, f, lt-ltb i j h, le-ltb j i (omega arith))
        | no h ↦
            let z : j ≢ i = λ q. true≢false (sym e ∙ rw q (s.apart i)) in
            rw (e, f, le-ltb i j (omega arith), lt-ltb j i (omega arith))
      ])
      (λ e.
      let f : mem i (word t j) ≡ false = no_link_back w t s i j e in
      rw (e, f, and-false (ltb i j), and-false (ltb j i)))

  pub two_wires : wire_count w t ≡ 2 * link_count w t
  unfolding wire_count wires_of link_count
  two_wires =
      let up : ℕ → ℕ → ℕ = λ i j. bit (ltb i j && mem j (word t i)) in
      let a : sum w (λ i. count w (λ j. mem j (word t i))) ≡ sum w (λ i. sum w (λ j. up i j + up j i)) =
      sum_same w _ _ (λ i hi. count_sum w (λ j. mem j (word t i)) ∙ sum_same w _ _ (λ j hj. one_way i j)) in
      let b : sum w (λ i. sum w (λ j. up i j + up j i)) ≡ sum w (λ i. sum w (λ j. up i j)) + sum w (λ i. sum w (λ j. up j i)) =
      sum_same w _ _ (λ i hi. sum_plus w (λ j. up i j) (λ j. up j i)) ∙ sum_plus w (λ i. sum w (λ j. up i j)) (λ i. sum w (λ j. up j i)) in
      let c : sum w (λ i. sum w (λ j. up j i)) ≡ sum w (λ i. sum w (λ j. up i j)) = sum_swap w w (λ i j. up j i) in
      let d : sum w (λ i. count w (λ j. ltb i j && mem j (word t i))) ≡ sum w (λ i. sum w (λ j. up i j)) =
      sum_same w _ _ (λ i hi. count_sum w (λ j. ltb i j && mem j (word t i))) in
      omega arith
