-- `mail::Counts::post_lists` meets its contract: at each turn the lists of the origins that remain are still to be posted. Assumes nothing.
use Rattle.std.proofs.Common.{◌∙◌}
use Rattle.sets.specs.Loops.{none_left}
use Rattle.sets.specs.Members.{turn_done}
use Rattle.mail.specs.Post.{post_lists}
use Rattle.mail.proofs.Counts.post_lists.Goals as goal

pub loop-k-preserved : goal.loop-k-preserved
unfolding post_lists
loop-k-preserved c = turn_done c.in-Some.ensures.steps _ _ c.post.ensures ∙ c.loop-k.invariant

pub returns : goal.returns
unfolding post_lists
returns c = none_left _ 16 c.in-None.ensures.steps c.loop-k.invariant
