-- The bytes of a table: how many there are. Assumes nothing.
use Prim.Native.Nat.{ℕ, zero, suc, ◌-◌, ◌*◌, ◌≤◌}
use native.Mathlib.Omega.{arith}
use native.Mathlib.Decide.{dec_lt}
use mathlib.Core.Path.{◌≡◌, refl}
use mathlib.Core.Bool.{Bool, true, false, cond}
use mathlib.Core.List.{List, [], ◌∷◌}
use lib.ListN.{length, length-append}
use borrow.Author.Tests.{le-ltb}
use Rattle.rules.specs.Sets.{bit, count, sum, each}
use Rattle.rules.specs.Sheet.{link_bytes, link_count}
use Rattle.sets.specs.Mem.{bit_le}
use Rattle.sets.specs.Loops.{count_last, sum_mono}
use Rattle.writing.specs.Writing.{is_link, pair_of}

module _ (t : List ℕ) where
  -- box i has at most as many higher neighbours as there are higher boxes
  pub row_most : (i k : ℕ) → count k (is_link t i) ≤ k - suc i
  unfolding count
  row_most i zero = omega arith
  row_most i (suc k) =
      elim (dec_lt i k) [
        | yes l ↦ omega (arith, count_last k (is_link t i), row_most i k, bit_le (is_link t i k))
        | no l ↦ rw (count_last k (is_link t i), le-ltb i k (omega arith)) (omega (arith, row_most i k))
      ]

  -- "P the number of links, 0 to 120"
  pub links_most : link_count 16 t ≤ 120
  unfolding link_count sum
  links_most = sum_mono 16 (λ i. count 16 (is_link t i)) (λ i. 16 - suc i) (λ i l. row_most i 16)

  pair_length : (b : Bool) (i j : ℕ) → length (cond b (i ∷ j ∷ []) []) ≡ 2 * bit b
  pair_length true i j = refl
  pair_length false i j = refl

  pub row_length : (i k : ℕ) → length (each k (pair_of t i)) ≡ 2 * count k (is_link t i)
  unfolding each count
  row_length i zero = refl
  row_length i (suc k) =
      omega (arith, length-append (each k (pair_of t i)) (pair_of t i k), row_length i k, pair_length (is_link t i k) i k, count_last k (is_link t i))

  rows_length : (w k : ℕ) → length (each k (λ i. each w (pair_of t i))) ≡ 2 * sum k (λ i. count w (is_link t i))
  unfolding each sum
  rows_length w zero = refl
  rows_length w (suc k) = omega (arith, length-append (each k (λ i. each w (pair_of t i))) (each w (pair_of t k)), rows_length w k, row_length k w)

  pub bytes_length : length (link_bytes 16 t) ≡ 2 * link_count 16 t
  unfolding link_bytes link_count
  bytes_length = rows_length 16 16
