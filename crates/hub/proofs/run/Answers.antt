-- `hub::run` meets its contract, from what the sheet's reader, the list's check and the run of both ensure. Assumes nothing.
use Rattle.std.proofs.Common.{◌≡◌, Err, ◌∙◌, sym, refl, rules}
use Rattle.refusals.proofs.NumberLaws.{number_some}
use Rattle.lists.proofs.RuleLaws.{list_short, list_names}
use Rattle.hub.proofs.CallLaws.{run_sheet, run_list, run_does, table_is}
use Rattle.hub.proofs.run.Goals as goal

pub returns-in_err-found : goal.returns-in_err-found
returns-in_err-found c =
    let e : c.from_residual.result ≡ Err c.in_err-found.field-0.0 = search rules in
    rw e (run_sheet c.in_err-found.ensures c.args.board.now c.args.list.now (number_some c.in_err-found.field-0.0))

pub returns-in_err-check : goal.returns-in_err-check
returns-in_err-check c =
    let x = c.in_err-check.field-0.0 in
    let e : c.from_residual-in_err-check.result ≡ Err x = search rules in
    rw (e, c.in_err-check.ensures) (run_list c.in_ok-found.ensures c.args.board.now refl c.args.list.now (λ z. number_some x (c.in_err-check.ensures ∙ z)))

pub do_all-requires : goal.do_all-requires
do_all-requires c =
    let s = c.in_ok-found.ensures in
    let z = sym c.in_ok-check.ensures in
    (s.boxes_most_lem, (list_short _ _ _ z, (table_is s c.args.board.now refl, list_names _ 16 _ _ s.boxes_most_lem z)))

pub returns : goal.returns
returns c = c.do_all.ensures ∙ run_does c.in_ok-found.ensures c.args.board.now refl c.args.list.now (sym c.in_ok-check.ensures)
