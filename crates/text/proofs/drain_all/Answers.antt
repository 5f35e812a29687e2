-- `text::drain_all` meets its contract, from what the sheet's reader and the drain ensure. Assumes nothing.
use Rattle.std.proofs.Common.{◌≡◌, Err, rules}
use Rattle.refusals.proofs.NumberLaws.{number_some}
use Rattle.text.proofs.TextLaws.{text_unread, text_refused, text_done}
use Rattle.text.proofs.drain_all.Goals as goal

pub returns-in_err-found-clause-told : goal.returns-in_err-found-clause-told
returns-in_err-found-clause-told c =
    let x = c.in_err-found.field-0.0 in
    let e : c.from_residual.result ≡ Err x = search rules in
    rw e (text_unread _ _ c.in_err-found.ensures (number_some x))

pub returns-in_err-done-clause-told : goal.returns-in_err-done-clause-told
returns-in_err-done-clause-told c =
    let x = c.in_err-done.field-0.0 in
    let e : c.from_residual-in_err-done.result ≡ Err x = search rules in
    rw e (text_refused _ _ c.in_ok-found.ensures _ c.every_box.ensures _ _ (number_some x) c.in_err-done.ensures)

pub returns-clause-told : goal.returns-clause-told
returns-clause-told c = text_done _ _ c.in_ok-found.ensures _ c.every_box.ensures _ c.in_ok-done.done c.in_ok-done.ensures
