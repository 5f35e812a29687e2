-- `start_list` meets its contract: each turn adds the pair of the lowest box that is left. Assumes nothing.
use Rattle.std.proofs.Common.{◌∙◌}
use Rattle.sets.specs.Loops.{none_left}
use Rattle.sets.specs.Members.{turn_done}
use Rattle.lists.proofs.ListLaws.{with_start, starts_done, starts_room}
use Rattle.lists.proofs.start_list.Goals as goal

pub loop-i-init : goal.loop-i-init
loop-i-init c = rw (c.none-list.ensures, c.into_iter-i-iterator.ensures.into_iter_gives, c.of-i-items.ensures) (starts_done 16 c.args.starts)

pub push-requires : goal.push-requires
push-requires c = starts_room _ _ c.in-Some.ensures.steps c.loop-i.invariant

pub loop-i-preserved : goal.loop-i-preserved
loop-i-preserved c = turn_done c.in-Some.ensures.steps with_start _ c.push.ensures ∙ c.loop-i.invariant

pub returns : goal.returns
returns c = none_left with_start 16 c.in-None.ensures.steps c.loop-i.invariant
