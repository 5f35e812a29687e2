-- `mail::Gathered::take_list` meets its contract. Assumes nothing.
use Rattle.mail.proofs.Laws.{took_list}
use Rattle.mail.proofs.Gathered.take_list.Goals as goal

pub returns : goal.returns
returns c = took_list _ _ _ _ _ _ _ _ _ _ c.take.ensures.words.words c.requires.0 (rw c.from-k.ensures c.requires.1.0) c.only.ensures c.requires.1.1
