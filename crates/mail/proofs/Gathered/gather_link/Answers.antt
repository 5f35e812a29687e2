-- `mail::Gathered::gather_link` meets its contract. Assumes nothing.
use Rattle.mail.proofs.Laws.{head_set, not_heard, is_heard, link_gathered}
use Rattle.mail.proofs.Gathered.gather_link.Goals as goal

pub returns-then-queued-ne0 : goal.returns-then-queued-ne0
returns-then-queued-ne0 c =
    link_gathered c.args.b c.args.j _ _ _ _ _ _ _ _ _ _ _ _ _ _ c.between-wire.ensures c.take.ensures.words.words (head_set _ _ _ _ c.take.ensures.message c.map_or.ensures)
    c.take_lists.ensures (is_heard c.take_lists.new.store.words c.between-wire.result.index c.args.j _ _ _ c.queued.ensures.answer c.if-queued-ne0.true c.only.ensures)

pub returns-else-queued-ne0 : goal.returns-else-queued-ne0
returns-else-queued-ne0 c =
    link_gathered c.args.b c.args.j _ _ _ _ _ _ _ _ _ _ _ _ _ _ c.between-wire.ensures c.take.ensures.words.words (head_set _ _ _ _ c.take.ensures.message c.map_or.ensures)
    c.take_lists.ensures (not_heard c.take_lists.new.store.words c.between-wire.result.index c.args.j _ _ c.queued.ensures.answer c.if-queued-ne0.false)
