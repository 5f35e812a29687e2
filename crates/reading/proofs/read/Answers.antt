-- `read` meets its contract, from what `parse` ensures. Assumes nothing.
use Rattle.std.proofs.Common.{◌≡◌, ◌∙◌, Err, rules, refl}
use Rattle.refusals.proofs.NumberLaws.{number_some}
use Rattle.reading.proofs.CallLaws.{read_refused, read_no_room, read_done}
use Rattle.reading.proofs.read.Goals as goal

pub returns-in_err-found : goal.returns-in_err-found
returns-in_err-found c =
    let e : c.from_residual.result ≡ Err c.in_err-found.field-0.0 = search rules in
    rw e (read_refused c.in_err-found.ensures _ (number_some c.in_err-found.field-0.0))

pub returns-then-table-ne16 : goal.returns-then-table-ne16
returns-then-table-ne16 c = read_no_room c.in_ok-found.ensures _ refl c.if-table-ne16.true

pub returns : goal.returns
returns c = rw c.copy_from_slice.ensures.after refl ∙ read_done c.in_ok-found.ensures _ refl c.if-table-ne16.false
