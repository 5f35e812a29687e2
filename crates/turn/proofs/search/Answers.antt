-- `turn::search` meets its contract: the senders that were passed have nothing under way, and neither has this one to the receivers passed.
-- Assumes nothing.
use Rattle.std.proofs.Common.{sym, ◌∙◌, ap, arith}
use Rattle.rules.specs.Sets.{mem, word}
use Rattle.tables.specs.Tables.{busy_of}
use Rattle.turn.specs.Code.{found}
use Rattle.turn.proofs.Laws.{idle_more, idle_empty, search_none, search_found}
use Rattle.turn.proofs.search.Goals as goal
use Rattle.turn.proofs.search.Goals.{then-to-ne0+else-loop-b-test, else-to-ne0}

pub search-preserved : goal.search-preserved
search-preserved c =
    let busy = busy_of c.args.store.now.words in
    let a = c.search.a in
    let idle = c.search.invariant.idle in
    elim c.if-to-ne0.branch [
      | then-to-ne0+else-loop-b-test w ↦ (
          let i = w.loop-b.invariant in
          record { none = w.p-is ∙ i.none; idle = idle_more busy a idle (λ b l. ap (mem b) (sym i.to_is) ∙ i.passed b (omega arith)) }
          )
      | else-to-ne0 w ↦ record { none = w.p-is ∙ c.search.invariant.none; idle = idle_more busy a idle (idle_empty (word busy a) (sym c.of-to.ensures ∙ w.if-to-ne0.false)) }
    ]

pub returns-after-search : goal.returns-after-search
returns-after-search c = ap found c.search.invariant.none ∙ search_none (busy_of c.args.store.now.words) (λ k l. c.search.invariant.idle k (omega arith))

pub returns-then-is_in : goal.returns-then-is_in
returns-then-is_in c =
    let i = c.loop-b.invariant in
    search_found _ _ _ i.sender (omega arith) i.idle (λ t l. ap (mem t) (sym i.to_is) ∙ i.passed t l) (ap (mem _) (sym i.to_is) ∙ sym c.is_in.ensures ∙ c.if-is_in.true)
