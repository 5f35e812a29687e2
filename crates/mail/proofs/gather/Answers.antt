-- `mail::gather` meets its contract: at each turn all that a round takes from the links that remain is still to be taken. Assumes nothing.
use Rattle.std.proofs.Common.{◌∙◌}
use Rattle.sets.specs.Loops.{none_left}
use Rattle.sets.specs.Members.{turn_done}
use Rattle.mail.specs.Gather.{gather_to}
use Rattle.mail.proofs.gather.Goals as goal

pub loop-j-preserved : goal.loop-j-preserved
unfolding gather_to
loop-j-preserved c = turn_done c.in-Some.ensures.steps _ _ c.gather_link.ensures ∙ c.loop-j.invariant

pub returns : goal.returns
unfolding gather_to
returns c = none_left _ 16 c.in-None.ensures.steps c.loop-j.invariant
