-- Sums and counts over the boxes. Assumes nothing.
use Rattle.std.specs.Prelude.{ℕ, zero, suc, ◌+◌, ◌*◌, ◌-◌, ◌≤◌, ◌<◌, ◌≡◌, refl, Bool, cond, ◌≢◌}
use Rattle.std.proofs.Common.{sym, ap, ◌∙◌, arith, add-mul, suc-mul}
use Rattle.std.proofs.Math.Decide.{ℕ_discrete}
use Rattle.rules.specs.Sets.{bit, sum, count}
use Rattle.sets.specs.Loops.{by_bool, sum_same, sum_none}

pub sum_plus : (n : ℕ) (f g : ℕ → ℕ) → sum n (λ k. f k + g k) ≡ sum n f + sum n g
unfolding sum
sum_plus zero f g = refl
sum_plus (suc n) f g = omega (arith, sum_plus n f g)

-- one part more
pub sum_more : (n : ℕ) (f g : ℕ → ℕ) (j d : ℕ) → j < n → f j ≡ g j + d → ((k : ℕ) → k ≢ j → f k ≡ g k) → sum n f ≡ sum n g + d
unfolding sum
sum_more zero f g j d h e o = absurd (omega arith)
sum_more (suc n) f g j d h e o =
    elim (ℕ_discrete n j) [
      | yes z ↦ let a : sum n f ≡ sum n g = sum_same n f g (λ k l. o k (omega arith)) in let b : f n ≡ g n + d = rw z e in omega arith
      | no z ↦ let a : sum n f ≡ sum n g + d = sum_more n f g j d (omega arith) e o in let b : f n ≡ g n = o n z in omega arith
    ]

-- nothing but one part
pub sum_one : (n : ℕ) (f : ℕ → ℕ) (j : ℕ) → j < n → ((k : ℕ) → k ≢ j → f k ≡ 0) → sum n f ≡ f j
sum_one n f j h z = sum_more n f (λ k. 0) j (f j) h (omega arith) z ∙ omega (arith, sum_none n)

pub sum_zero : (n : ℕ) (f : ℕ → ℕ) → sum n f ≡ 0 → (k : ℕ) → k < n → f k ≡ 0
unfolding sum
sum_zero zero f e k h = absurd (omega arith)
sum_zero (suc n) f e k h = elim (ℕ_discrete k n) [ yes z ↦ rw z (omega arith) | no z ↦ sum_zero n f (omega arith) k (omega arith) ]

pub sum_swap : (n m : ℕ) (f : ℕ → ℕ → ℕ) → sum n (λ i. sum m (λ j. f i j)) ≡ sum m (λ j. sum n (λ i. f i j))
unfolding sum
sum_swap zero m f = sym (sum_none m)
sum_swap (suc n) m f = ap (λ (x : ℕ). x + sum m (λ j. f n j)) (sum_swap n m f) ∙ sym (sum_plus m (λ j. sum n (λ i. f i j)) (λ j. f n j))

pub sum_times : (n : ℕ) (f : ℕ → ℕ) (c : ℕ) → sum n (λ k. f k * c) ≡ sum n f * c
unfolding sum
sum_times zero f c = omega arith
sum_times (suc n) f c = omega (arith, sum_times n f c, add-mul (sum n f) (f n) c)

pub sum_flat : (n : ℕ) (f : ℕ → ℕ) (c : ℕ) → ((k : ℕ) → k < n → f k ≤ c) → sum n f ≤ n * c
unfolding sum
sum_flat zero f c h = omega arith
sum_flat (suc n) f c h = omega (arith, sum_flat n f c (λ k l. h k (omega arith)), h n (omega arith), suc-mul n c)

pub sum_ones : (n : ℕ) (f : ℕ → ℕ) → ((k : ℕ) → k < n → f k ≤ 1) → sum n f ≤ n
unfolding sum
sum_ones zero f h = omega arith
sum_ones (suc n) f h = omega (arith, sum_ones n f (λ k l. h k (omega arith)), h n (omega arith))

pub sum_but_one : (n : ℕ) (f : ℕ → ℕ) (j : ℕ) → j < n → f j ≡ 0 → ((k : ℕ) → k < n → f k ≤ 1) → sum n f + 1 ≤ n
unfolding sum
sum_but_one zero f j h z o = absurd (omega arith)
sum_but_one (suc n) f j h z o =
    elim (ℕ_discrete j n) [
      | yes e ↦ omega (arith, sum_ones n f (λ k l. o k (omega arith)), rw e at z)
      | no e ↦ omega (arith, sum_but_one n f j (omega arith) z (λ k l. o k (omega arith)), o n (omega arith))
    ]

sum_last : (n : ℕ) (f : ℕ → ℕ) → sum (suc n) f ≡ sum n f + f n
unfolding sum
sum_last n f = refl

-- what is nothing from n on adds nothing
sum_cut_by : (n d : ℕ) (f : ℕ → ℕ) → ((k : ℕ) → n ≤ k → k < n + d → f k ≡ 0) → sum (n + d) f ≡ sum n f
sum_cut_by n zero f z = let e : n + 0 ≡ n = omega arith in ap (λ (m : ℕ). sum m f) e
sum_cut_by n (suc d) f z =
    let e : n + suc d ≡ suc (n + d) = omega arith in
    ap (λ (m : ℕ). sum m f) e ∙ sum_last (n + d) f ∙ omega (arith, sum_cut_by n d f (λ k h l. z k h (omega arith)), z (n + d) (omega arith) (omega arith))

pub sum_cut : (n w : ℕ) (f : ℕ → ℕ) → n ≤ w → ((k : ℕ) → n ≤ k → k < w → f k ≡ 0) → sum w f ≡ sum n f
sum_cut n w f h z =
    let e : w ≡ n + (w - n) = omega arith in
    ap (λ (m : ℕ). sum m f) e ∙ sum_cut_by n (w - n) f (λ k a b. z k a (omega arith))

-- ---- a count is a sum of ones

sum_first : (n : ℕ) (f : ℕ → ℕ) → sum (suc n) f ≡ f 0 + sum n (λ k. f (suc k))
unfolding sum
sum_first zero f = omega arith
sum_first (suc n) f = omega (arith, sum_first n f)

pub count_sum : (n : ℕ) (f : ℕ → Bool) → count n f ≡ sum n (λ k. bit (f k))
unfolding count sum
count_sum zero f = refl
count_sum (suc n) f = ap (λ (x : ℕ). bit (f 0) + x) (count_sum n (λ k. f (suc k))) ∙ sym (sum_first n (λ k. bit (f k)))

pub sum_cond : (n : ℕ) (f : ℕ → Bool) (c : ℕ) → sum n (λ k. cond (f k) c 0) ≡ count n f * c
sum_cond n f c =
    sum_same n (λ k. cond (f k) c 0) (λ k. bit (f k) * c) (λ k h. by_bool (f k) (λ e. rw e (omega arith)) (λ e. rw e (omega arith)))
    ∙ sum_times n (λ k. bit (f k)) c ∙ ap (λ (x : ℕ). x * c) (sym (count_sum n f))
