-- `check` meets its contract: a pair that is refused gives its number, a fair one leaves the rest. Assumes nothing.
use Rattle.std.proofs.Common.{◌≡◌, ◌∙◌, ◌+◌, ◌*◌, ◌/◌, ◌<◌, ◌≤◌, length, sym, Err, rules, arith}
use mathlib.Core.Logic.{⊎_elim}
use Rattle.refusals.proofs.NumberLaws.{number_some}
use Rattle.sheet.proofs.ChunkLaws.{pair_next}
use Rattle.lists.proofs.ListLaws.{pairs_end, pairs_more, pairs_refused, odd_list, long_list, fair_list}
use Rattle.lists.proofs.check.Goals as goal

-- No fact is named here by the most bytes of a list, so that an edit of that number is refused for the fact.
pub returns-then-list-eq1 : goal.returns-then-list-eq1
returns-then-list-eq1 c = ⊎_elim (λ e. odd_list _ _ _ e) (λ h. long_list _ _ _ h.0 (omega (arith, h.1))) c.then-list-eq1.either

pub loop-pair-init : goal.loop-pair-init
loop-pair-init c = sym (fair_list _ _ _ (search rules) (search rules))

pub returns-in_err-check_pair : goal.returns-in_err-check_pair
returns-in_err-check_pair c =
    let e : c.from_residual.result ≡ Err c.in_err-check_pair.field-0.0 = search rules in
    let h : c.loop-pair.pair-index < length c.args.list.now / 2 = search rules in
    let p = pair_next c.args.list.now _ c.as_chunks.ensures.front _ _ _ h c.from.ensures c.from-in-loop-pair.ensures in
    rw e (pairs_refused _ _ _ _ _ _ p _ c.in_err-check_pair.ensures (number_some c.in_err-check_pair.field-0.0) ∙ c.loop-pair.invariant)

pub loop-pair-preserved : goal.loop-pair-preserved
loop-pair-preserved c =
    let h : c.loop-pair.pair-index < length c.args.list.now / 2 = search rules in
    let p = pair_next c.args.list.now _ c.as_chunks.ensures.front _ _ _ h c.from.ensures c.from-in-loop-pair.ensures in
    pairs_more _ _ _ _ _ _ p c.in_ok-check_pair.ensures ∙ c.loop-pair.invariant

pub returns : goal.returns
returns c =
    let l : length c.args.list.now ≤ 2 * c.loop-pair.pair-index + 1 = omega (arith, c.loop-pair-test.false, c.as_chunks.ensures.front_len) in
    sym (pairs_end _ _ _ _ l) ∙ c.loop-pair.invariant
