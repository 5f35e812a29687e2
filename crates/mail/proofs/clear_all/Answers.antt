-- `mail::clear_all` meets its contract: at each turn the queues of the links that remain are still to be emptied. Assumes nothing.
use Rattle.std.proofs.Common.{◌∙◌}
use Rattle.sets.specs.Loops.{none_left}
use Rattle.sets.specs.Members.{turn_done}
use Rattle.mail.specs.Gather.{clear_to}
use Rattle.mail.proofs.clear_all.Goals as goal

pub loop-j-preserved : goal.loop-j-preserved
unfolding clear_to
loop-j-preserved c = turn_done c.in-Some.ensures.steps _ _ (rw c.between.ensures at c.clear.ensures.words) ∙ c.loop-j.invariant

pub returns : goal.returns
unfolding clear_to
returns c = none_left _ 16 c.in-None.ensures.steps c.loop-j.invariant
