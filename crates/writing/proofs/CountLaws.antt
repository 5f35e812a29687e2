-- `count` and `sum` of the rules are what the library's iterators count and add over a range. Assumes nothing.
use Rattle.std.proofs.Common.{ℕ, zero, suc, ◌≡◌, refl, sym, ap, ◌∙◌, ◌+◌, Bool, true, false, cond, map, zero-add, arith}
use Rattle.std.specs.List.{range_with_len, count_by, sum_by}
use Rattle.std.proofs.lemmas.List.FromFn.{sum_by-map-range_with_len_more}
use mathlib.Core.List.{map-id}
use native.Mathlib.Numerals.{add-one}
use Rattle.rules.specs.Sets.{bit, count, sum}
use Rattle.sets.specs.Loops.{count_last}

as_map : (f : ℕ → ℕ) (n : ℕ) → sum_by f (map (λ k. k) (range_with_len 0 n)) ≡ sum n f
unfolding sum
as_map f zero = refl
as_map f (suc n) = rw add-one at (sum_by-map-range_with_len_more f (λ k. k) 0 n n (zero-add n)) ∙ ap (λ k. k + f n) (as_map f n)

-- numbers added over a range
pub range_sum : (n : ℕ) (f : ℕ → ℕ) → sum_by f (range_with_len 0 n) ≡ sum n f
range_sum n f = sym (ap (sum_by f) (map-id (range_with_len 0 n))) ∙ as_map f n

as_bit : (b : Bool) → cond b 1 0 ≡ bit b
as_bit true = refl
as_bit false = refl

bits_sum : (f : ℕ → Bool) (n : ℕ) → sum n (λ k. cond (f k) 1 0) ≡ count n f
unfolding sum count
bits_sum f zero = refl
bits_sum f (suc n) = omega (arith, bits_sum f n, as_bit (f n), count_last n f)

-- how many numbers of a range pass
pub range_count : (n : ℕ) (f : ℕ → Bool) → count_by f (range_with_len 0 n) ≡ count n f
range_count n f = range_sum n (λ k. cond (f k) 1 0) ∙ bits_sum f n
