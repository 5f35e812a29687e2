-- `read_pairs` meets its contract: a pair that is refused ends it, a fair one leaves the rest. Assumes nothing.
use Rattle.std.proofs.Common.{◌≡◌, ◌∙◌, ◌+◌, ◌*◌, ◌/◌, ◌<◌, ◌≤◌, length, sym, Err, rules, arith, refl}
use Rattle.refusals.proofs.NumberLaws.{number_some}
use Rattle.sheet.specs.Answers.{pairs_answer}
use Rattle.sheet.proofs.ChunkLaws.{pair_next}
use Rattle.sheet.proofs.PairLaws.{in_range, goes_on, stops, ends}
use Rattle.sheet.proofs.read_pairs.Goals as goal

pub returns-in_err-check_pair : goal.returns-in_err-check_pair
unfolding pairs_answer
returns-in_err-check_pair c =
    let e : c.from_residual.result ≡ Err c.in_err-check_pair.field-0.0 = search rules in
    let h : c.loop-pair.pair-index < length c.args.part.now / 2 = search rules in
    let p = pair_next c.args.part.now _ c.as_chunks.ensures.front _ _ _ h c.from.ensures c.from-in-loop-pair.ensures in
    rw (e, c.loop-pair.invariant, stops _ _ _ _ _ _ _ _ _ c.loop-pair.table p c.in_err-check_pair.ensures (number_some c.in_err-check_pair.field-0.0)) refl

pub add_link-requires : goal.add_link-requires
add_link-requires c =
    let r = in_range _ _ _ _ _ (sym c.in_ok-check_pair.ensures) in
    (omega (arith, c.requires), omega (arith, c.requires))

pub loop-pair-preserved : goal.loop-pair-preserved
loop-pair-preserved c =
    let h : c.loop-pair.pair-index < length c.args.part.now / 2 = search rules in
    let p = pair_next c.args.part.now _ c.as_chunks.ensures.front _ _ _ h c.from.ensures c.from-in-loop-pair.ensures in
    rw c.add_link.ensures (c.loop-pair.invariant ∙ goes_on _ _ _ _ _ _ _ _ _ c.loop-pair.table p c.in_ok-check_pair.ensures refl)

pub returns : goal.returns
unfolding pairs_answer
returns c =
    let l : length c.args.part.now ≤ 2 * c.loop-pair.pair-index + 1 = omega (arith, c.loop-pair-test.false, c.as_chunks.ensures.front_len) in
    rw (c.loop-pair.invariant, ends _ _ _ _ c.args.part.now c.loop-pair.table l) refl
