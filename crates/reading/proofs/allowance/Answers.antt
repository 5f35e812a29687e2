-- `allowance` meets its contract, from what `parse` ensures. Assumes nothing.
use Rattle.std.proofs.Common.{◌≡◌, Err, rules, refl}
use Rattle.refusals.proofs.NumberLaws.{number_some}
use Rattle.reading.proofs.CallLaws.{allowance_refused, allowance_done}
use Rattle.reading.proofs.allowance.Goals as goal

pub returns-in_err-found : goal.returns-in_err-found
returns-in_err-found c =
    let e : c.from_residual.result ≡ Err c.in_err-found.field-0.0 = search rules in
    rw e (allowance_refused c.in_err-found.ensures (number_some c.in_err-found.field-0.0))

pub returns : goal.returns
returns c = allowance_done c.in_ok-found.ensures refl
