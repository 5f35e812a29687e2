-- Refusals in a row, each with a number: the first test that holds gives the number. Assumes nothing.
use Prim.Native.Nat.{ℕ, ◌≤◌}
use native.Mathlib.Omega.{arith}
use mathlib.Core.Path.{◌≡◌}
use mathlib.Core.Bool.{Bool, true, false, cond}
use Rattle.rules.specs.Outcome.{Outcome, refused, refuse}

-- ---- one more test before those whose number is m and whose outcome is p

module _ {A : Type 0} (i : ℕ) where
  -- none holds: what comes after all of them
  pub passes : (x : Bool) (k m : ℕ) (o p : Outcome A) → 1 ≤ k → (m ≡ 0 → p ≡ o) → cond x k m ≡ 0 → refuse x k i p ≡ o
  unfolding refuse
  passes true k m o p l f z = absurd (omega arith)
  passes false k m o p l f z = f z

  -- one holds: its number
  pub stays : (x : Bool) (k m : ℕ) (p : Outcome A) → ((m ≡ 0 → ⊥) → p ≡ refused m i) → (cond x k m ≡ 0 → ⊥) → refuse x k i p ≡ refused (cond x k m) i
  unfolding refuse
  stays true k m p f g = λ j. refused k i
  stays false k m p f g = f g
