-- `boxes::before_of` meets its contract, by the two cases of HOP. Assumes nothing.
use mathlib.Core.Path.{◌∙◌}
use Rattle.boxes.specs.Tables.{before_zero, before_suc}
use Rattle.boxes.proofs.before_of.Goals as goal

pub returns-then-hop-eq0 : goal.returns-then-hop-eq0
returns-then-hop-eq0 c = before_zero _ _ c.if-hop-eq0.true

pub returns-else-hop-eq0 : goal.returns-else-hop-eq0
returns-else-hop-eq0 c = c.entry.ensures ∙ before_suc _ _ c.if-hop-eq0.false
