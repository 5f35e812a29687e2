-- `derowlas::read_some` meets its contract: what was read joins the tail. Assumes nothing.
use Rattle.derowlas.proofs.Kept.{same_read}
use Rattle.derowlas.proofs.read_some.Goals as goal

pub returns-in_default-clause-kept : goal.returns-in_default-clause-kept
returns-in_default-clause-kept g c = same_read _ _ _ _ _ c.keep_last.ensures c.in_ok-n.ensures.bytes.0
