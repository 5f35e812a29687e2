-- `boxes::without_each` meets its contract: after j turns the entries below j are filled in. Assumes nothing.
use Prim.Native.Nat.{◌≤◌, ◌-◌}
use mathlib.Core.Path.{◌≡◌}
use lib.ListN.{length, take}
use Rattle.rules.specs.Sets.{without, word, words}
use Rattle.boxes.proofs.without_each.Given as goal

abbrev pub invariant-loop-j : goal.invariant-loop-j
invariant-loop-j l = (l.j ≤ 16) × (length l.out ≡ 16) × (take l.j l.out ≡ words l.j (λ k. without l.s (word l.t k)))

abbrev pub decreases-loop-j : goal.decreases-loop-j
decreases-loop-j l = 16 - l.j
