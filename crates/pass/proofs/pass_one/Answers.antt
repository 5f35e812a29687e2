-- `pass::pass_one` meets its contract: with no pair, or with one that would touch a record, nothing is done; else what is carried is as the definition has it.
-- Assumes nothing.
use Rattle.std.proofs.Common.{◌≡◌, ℕ, ◌<◌, false, true, List, refl, ap, ◌∙◌, length, rules}
use Rattle.tables.specs.Tables.{with_busy}
use Rattle.turn.specs.Parts.{receiver_of}
use Rattle.turn.specs.Code.{flat, turn_with}
use Rattle.pass.specs.Code.{carried_with}
use Rattle.pass.specs.Pass.{seen_as, glance_pair}
use Rattle.pass.proofs.Laws.{looked_quiet, looked_still, passed}
use Rattle.pass.proofs.pass_one.Goals as goal

pub returns-in_err-p : goal.returns-in_err-p
unfolding glance_pair
returns-in_err-p c =
    let x = c.args in
    let r = receiver_of (turn_with x.c.now (length x.list.now) x.store.now.words) 0 in
    rw c.from_residual.ensures (looked_quiet (flat x.list.now) x.store.now.words x.store.now.words x.c.now _ _ r (seen_as false false r.heard) c.in_err-p.ensures refl refl false refl, refl)

pub returns-in_err-k : goal.returns-in_err-k
unfolding receiver_of
returns-in_err-k c =
    let x = c.args in
    let list = flat x.list.now in
    let r = c.receiver-r.ensures in
    rw c.from_residual-in_err-k.ensures (
      looked_quiet list x.store.now.words _ x.c.now _ _ _ _ c.in_ok-p.ensures r c.in_err-k.ensures false refl,
      ap (λ (z : List ℕ). carried_with z x.c.now (length x.list.now)) (looked_still list x.store.now.words _ x.c.now _ _ _ _ c.in_ok-p.ensures r c.in_err-k.ensures refl),
    )

pub returns : goal.returns
unfolding receiver_of
returns c =
    let x = c.args in
    let list = flat x.list.now in
    let r = c.receiver-r.ensures in
    let p = c.in_ok-p.p in
    let lh : c.in_ok-k.k.heard < 65536 = search rules in
    let lt : c.less_busy-to.result < 65536 = search rules in
    let words = c.set-2.ensures.words ∙ ap (λ (z : List ℕ). with_busy z p.«from» c.less_busy-to.result) c.set.ensures.words in (
      looked_quiet list x.store.now.words _ x.c.now _ _ _ _ c.in_ok-p.ensures r c.in_ok-k.ensures true refl,
      passed list x.store.now.words _ x.c.now _ _ _ _ c.in_ok-p.ensures r c.in_ok-k.ensures c.look_at.new.store.size p.from_box p.to_box lh _ lt (rw c.of-busy.ensures at c.less_busy-to.ensures) _ _ words c.after.ensures,
    )
