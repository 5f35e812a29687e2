-- `boxes::save_all` meets its contract: after k turns the listed entries below k are saved; where none is listed there is nothing to do. Assumes nothing.
use Rattle.std.proofs.Common.{◌≡◌, set}
use Rattle.rules.specs.Sets.{word, for_each}
use Rattle.boxes.proofs.save_all.Given as goal

abbrev pub invariant-loop-k : goal.invariant-loop-k
invariant-loop-k l = l.t ≡ for_each l.listed (λ i u. set u i (word l.lists i)) l.k l.initial.t
