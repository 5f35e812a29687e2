-- `mail::Gathered::take_lists` meets its contract: at each turn the lists still at the head come to those that stood there at first. Assumes nothing.
use Rattle.std.proofs.Common.{sym, ◌∙◌}
use Rattle.mail.specs.Gathered.{got_of}
use Rattle.mail.proofs.Laws.{lists_on, lists_less, lists_end}
use Rattle.mail.proofs.Gathered.take_lists.Goals as goal

pub loop-origin-smaller : goal.loop-origin-smaller
loop-origin-smaller c =
    lists_less _ (got_of c.loop-origin.store.words c.loop-origin.self) _ c.loop-origin.store.size c.args.wire.within c.in-Some.ensures.0 c.take_list.ensures

pub loop-origin-preserved : goal.loop-origin-preserved
loop-origin-preserved c =
    lists_on _ (got_of c.loop-origin.store.words c.loop-origin.self) _ c.loop-origin.store.size c.args.wire.within c.in-Some.ensures.0 c.take_list.ensures
    ∙ c.loop-origin.invariant

pub returns : goal.returns
returns c = sym (lists_end _ _ (got_of c.loop-origin.store.words c.loop-origin.self) c.in_default.ensures) ∙ c.loop-origin.invariant
