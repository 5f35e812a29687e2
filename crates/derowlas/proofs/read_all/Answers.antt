-- `derowlas::read_all` meets its contract: at the end of the input what is held is the last of it. Assumes nothing.
use Rattle.std.proofs.Common.{refl}
use Rattle.tail.specs.Last.{shown}
use Rattle.derowlas.proofs.Kept.{same_then, same_all}
use Rattle.derowlas.proofs.read_all.Goals as goal

pub returns-in-None : goal.returns-in-None
returns-in-None g c =
    let remaining = g.R.Read.remaining in
    let start = shown c.empty-tail.result in
    let t = shown c.loop.tail in
    let more = c.read_some.new.from in
    let last = c.in_ok-more.ensures in
    record {
      kept =
          same_all (remaining c.args.from.now) (remaining more) start t c.empty-tail.ensures.0 c.loop.tail.within
          (same_then (remaining c.args.from.now) (remaining c.loop.from) (remaining more) start t t c.loop.invariant (rw c.in-None.is at last.kept))
          ((rw c.in-None.is at last.end) refl);
    }
