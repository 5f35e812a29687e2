-- Laws that docs/PORT.md names. Assumes nothing.
use Prim.Native.Nat.{ℕ, ◌<◌}
use mathlib.Core.Path.{◌≡◌}
use mathlib.Core.Bool.{not, cond}
use borrow.Author.Tests.{lt-leb}
use Rattle.rules.specs.Sheet.{above}
use Rattle.sheet.specs.Answers.{pair_number}

module _ (n a b c d : ℕ) where
  -- a pair of boxes below n, the first lower: only 8 is left
  pub rising : c < n → d < n → c < d → pair_number n a b c d ≡ cond (not (above a b c d)) 8 0
  unfolding pair_number
  rising h k l = rw (lt-leb n c h, lt-leb n d k, lt-leb d c l)
