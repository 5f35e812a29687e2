-- `sends::post_all` meets its contract: at each turn all that goes to the links that remain is still to be posted. Assumes nothing.
use Rattle.std.proofs.Common.{sym, ◌∙◌}
use Rattle.boxes.specs.Departure.{shown_departure}
use Rattle.sets.specs.Loops.{none_left}
use Rattle.sets.specs.Members.{turn_done}
use Rattle.turn.specs.Turn.{post_to}
use Rattle.sends.proofs.Laws.{nothing_goes}
use Rattle.sends.proofs.post_all.Goals as goal

pub loop-j-preserved : goal.loop-j-preserved
unfolding post_to
loop-j-preserved c = turn_done c.in-Some.ensures.steps _ _ c.post_one.ensures ∙ c.loop-j.invariant

pub returns-in-None : goal.returns-in-None
unfolding post_to
returns-in-None c = none_left _ 16 c.in-None.ensures.steps c.loop-j.invariant

pub returns-else-sends : goal.returns-else-sends
returns-else-sends c = nothing_goes (shown_departure c.args.o) c.args.links _ (sym c.sends.ensures ∙ c.if-sends.false)
