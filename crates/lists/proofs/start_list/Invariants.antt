-- The loop's invariant: with the boxes that are left to start, the list comes to the pairs of all. Assumes nothing.
use Rattle.std.proofs.Common.{◌≡◌}
use Rattle.rules.specs.Sets.{for_each}
use Rattle.lists.specs.Checks.{start_pairs, list_of}
use Rattle.lists.proofs.ListLaws.{with_start}
use Rattle.lists.proofs.start_list.Given as goal

abbrev pub invariant-loop-i : goal.invariant-loop-i
invariant-loop-i l = for_each l.i-iterator.rest with_start 16 (list_of l.list) ≡ start_pairs 16 l.starts
