-- `all` of the rules by its last step: what a loop that goes up adds. Assumes nothing.
use Prim.Native.Nat.{ℕ, zero, suc, ◌<◌}
use native.Mathlib.Omega.{arith}
use native.Mathlib.Decide.{dec_lt}
use mathlib.Core.Path.{◌≡◌, sym}
use mathlib.Core.Bool.{Bool, false, ◌&&◌, and-true, and-false, and_assoc}
use mathlib.Core.Bool.{true}
use mathlib.Core.Path.{ap, ◌∙◌}
use native.Mathlib.Nat.{zero-add}
use lib.ListN.{length, get_or}
use Rattle.std.specs.Bool.{MatchBool}
use Rattle.std.specs.List.{range_with_len, AllWithin, HoldsAt}
use Rattle.std.proofs.lemmas.List.FromFn.{get_or-range_with_len, length-range_with_len}
use Rattle.rules.specs.Sets.{all}
use Rattle.sets.specs.Loops.{all_in}

pub all_next : (n : ℕ) (f : ℕ → Bool) → all (suc n) f ≡ (all n f && f n)
unfolding all
all_next zero f = and-true (f 0)
all_next (suc n) f = rw (all_next n (λ k. f (suc k))) (sym (and_assoc (f 0) _ _))

-- one that fails is enough
pub all_stop : (n : ℕ) (f : ℕ → Bool) (k : ℕ) → k < n → f k ≡ false → all n f ≡ false
all_stop zero f k h e = absurd (omega arith)
all_stop (suc n) f k h e =
    elim (dec_lt k n) [
      | yes l ↦ rw (all_next n f, all_stop n f k l e)
      | no l ↦ let z : k ≡ n = omega arith in rw (all_next n f, ← z, e) (and-false (all k f))
    ]

-- ---- what `all` of the library finds over a range

at_place : (n : ℕ) (f : ℕ → Bool) (k : ℕ) (b : Bool) → k < n → f (get_or (range_with_len 0 n) k 0) ≡ b → f k ≡ b
at_place n f k b l h = let e : get_or (range_with_len 0 n) k 0 ≡ k = get_or-range_with_len 0 n k 0 l ∙ zero-add k in sym (ap f e) ∙ h

pub all_cases : (n : ℕ) (f : ℕ → Bool) (r : Bool)
    → MatchBool r (AllWithin (λ x. f x ≡ true) (range_with_len 0 n) 0 (length (range_with_len 0 n))) ((k : ℕ) × (k < length (range_with_len 0 n)) × HoldsAt (λ x. f x ≡ false) (range_with_len 0 n) k)
    → r ≡ all n f
all_cases n f true h = sym (all_in n f (λ k l. at_place n f k true l (h k 0 (omega arith) (omega (arith, length-range_with_len 0 n)))))
all_cases n f false (k, l, h) = let m : k < n = omega (arith, length-range_with_len 0 n) in sym (all_stop n f k m (at_place n f k false m (h 0)))
