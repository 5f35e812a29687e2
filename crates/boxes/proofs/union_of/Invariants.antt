-- `boxes::union_of` meets its contract: the union of the entries passed. Assumes nothing.
use mathlib.Core.Path.{◌≡◌}
use Rattle.rules.specs.Sets.{union}
use Rattle.boxes.proofs.union_of.Given as goal

abbrev pub invariant-loop-s : goal.invariant-loop-s
invariant-loop-s l = l.all ≡ union l.s-index l.t
