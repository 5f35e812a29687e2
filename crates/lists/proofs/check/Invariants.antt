-- The loop's invariant: the pairs from place k on have the number of the whole list. Assumes nothing.
use Rattle.std.proofs.Common.{◌≡◌, ◌*◌, drop}
use Rattle.lists.specs.Checks.{pairs_number, list_number}
use Rattle.lists.proofs.check.Given as goal

abbrev pub invariant-loop-pair : goal.invariant-loop-pair
invariant-loop-pair l = pairs_number l.n l.table (drop (2 * l.pair-index) l.list) ≡ list_number l.n l.table l.list
