-- Lists joined, and their lengths as sums and counts; the most that a sum of counts can be. Assumes nothing.
use Rattle.std.specs.Prelude.{ℕ, zero, suc, ◌+◌, ◌-◌, ◌*◌, ◌≤◌, ◌≡◌, Bool, true, false, cond, List, [], ◌∷◌, ltb, length}
use Rattle.std.proofs.Math.Path.{refl}
use Rattle.std.proofs.Common.{sym, ap, ap₂, ◌∙◌, length-append, ltb-true}
use native.Mathlib.Omega.{arith}
use Rattle.rules.specs.Sets.{bit, count, sum, each}
use Rattle.rules.specs.Sheet.{most_links}
use Rattle.sets.specs.Loops.{by_bool, count_last}

pub length_each : {A : Type 0} (n : ℕ) (f : ℕ → List A) → length (each n f) ≡ sum n (λ k. length (f k))
unfolding each sum
length_each zero f = refl
length_each (suc n) f = length-append (each n f) (f n) ∙ ap (λ (x : ℕ). x + length (f n)) (length_each n f)

-- as many entries as pass a test
pub length_pass : {A : Type 0} (n : ℕ) (f : ℕ → Bool) (x : ℕ → A) → length (each n (λ k. cond (f k) (x k ∷ []) [])) ≡ count n f
unfolding each
length_pass zero f x = unfold count in refl
length_pass (suc n) f x =
    length-append (each n (λ k. cond (f k) (x k ∷ []) [])) (cond (f n) (x n ∷ []) [])
    ∙ ap₂ ◌+◌ (length_pass n f x) (one (f n))
    ∙ sym (count_last n f)
  where
    one : (b : Bool) → length (cond b (x n ∷ []) []) ≡ bit b
    one true = refl
    one false = refl

-- of the numbers below n, n - suc i are above i
pub count_above : (n i : ℕ) → count n (λ j. ltb i j) ≤ n - suc i
count_above zero i = unfold count in omega arith
count_above (suc n) i =
    rw (count_last n (λ j. ltb i j))
    (by_bool (ltb i n)
    (λ e. rw e (omega (arith, count_above n i, ltb-true i n e)))
    (λ e. rw e (omega (arith, count_above n i))))

twice : (m : ℕ) → 2 * m + m * (m - 1) ≡ suc m * m
twice zero = refl
twice (suc m) = let e : suc m - 1 ≡ m = omega arith in rw e (omega arith)

-- (w - 1) + .. + (w - k), twice, and what is left of w (w - 1)
sum_down : (w k : ℕ) → k ≤ w → 2 * sum k (λ i. w - suc i) + (w - k) * (w - k - 1) ≡ w * (w - 1)
unfolding sum
sum_down w zero h = let e : w - 0 ≡ w = omega arith in rw e (omega arith)
sum_down w (suc k) h =
    let ih = sum_down w k (omega arith) in
    let e : w - k ≡ suc (w - suc k) = omega arith in
    let f : suc (w - suc k) - 1 ≡ w - suc k = omega arith in
    omega (arith, rw (e, f) at ih, twice (w - suc k))

pub sum_most : (w : ℕ) → sum w (λ i. w - suc i) ≡ most_links w
sum_most w = let e : w - w ≡ 0 = omega arith in omega (arith, rw e at (sum_down w w (omega arith)))
