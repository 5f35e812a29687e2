-- `Tail::keep_last` meets its contract: of the chunk its own last 244 bytes are enough. Assumes nothing.
use Rattle.std.proofs.Common.{ℕ, ◌≡◌, ◌+◌, ◌-◌, ◌++◌, List, length, take, drop, ap, ◌∙◌, arith, rules, length-append, length-take-le}
use Rattle.tail.specs.Last.{held, shown}
use Rattle.tail.proofs.Laws.{joined, last_cut}
use Rattle.tail.proofs.Tail.keep_last.Goals as goal

pub returns : goal.returns
returns c =
    let t = c.args.self in
    let chunk = c.args.chunk.now in
    let from = c.saturating_sub.result in
    let part : List ℕ = take (length chunk - from) (drop from chunk) in
    let skip = c.saturating_sub-skip.result in
    let long : length t.bytes ≡ 244 = search rules in
    let all : length (held (shown t) ++ part) ≡ t.len + length part = omega (arith, length-append (held (shown t)) part, length-take-le t.len t.bytes (omega arith)) in
    let past : skip ≡ length (held (shown t) ++ part) - 244 = omega arith in
    record {
      holds =
          rw c.copy_from_slice.ensures.after (joined t.bytes c.copy_within.new.self part t.len skip _ (omega arith) (omega arith) c.copy_within.ensures.after (omega arith))
          ∙ ap (λ (k : ℕ). drop k (held (shown t) ++ part)) past
          ∙ last_cut 244 (held (shown t)) chunk from (search rules);
      within = omega arith;
    }
