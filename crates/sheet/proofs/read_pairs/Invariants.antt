-- `read_pairs` meets its contract. The loop's invariant: the answer for the whole part is the answer for what is left of it, from the pair before
-- and the table so far. Assumes nothing.
use Rattle.std.proofs.Common.{◌≡◌, ◌*◌, drop, replicate}
use Rattle.rules.specs.Sheet.{pairs}
use Rattle.sheet.proofs.read_pairs.Given as goal

abbrev pub invariant-loop-pair : goal.invariant-loop-pair
invariant-loop-pair l = pairs l.n 0 0 0 l.part (replicate 16 0) ≡ pairs l.n l.pair-index l.before.0 l.before.1 (drop (2 * l.pair-index) l.part) l.table
