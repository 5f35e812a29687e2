-- `mail::Counts::post_lists` meets its contract: at each turn the lists of the origins that remain are still to be posted. Assumes nothing.
use Rattle.std.proofs.Common.{◌≡◌}
use Rattle.mail.specs.Letter.{posted}
use Rattle.mail.specs.Post.{post_lists}
use Rattle.mail.proofs.Counts.post_lists.Given as goal

abbrev pub invariant-loop-k : goal.invariant-loop-k
invariant-loop-k l = post_lists l.wire.index l.k-iterator.rest l.known 16 (posted l.store.words l.self) ≡ post_lists l.wire.index l.origins l.known 16 (posted l.initial.store.words l.initial.self)
