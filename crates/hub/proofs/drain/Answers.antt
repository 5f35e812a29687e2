-- `hub::drain` meets its contract, from what the sheet's reader, the start set as a list and the run of both ensure. Assumes nothing.
use Rattle.std.proofs.Common.{◌≡◌, ℕ, List, Err, ◌∙◌, sym, ap, refl, arith, rules}
use Rattle.rules.specs.Hub.{sleeping, run, drain}
use Rattle.rules.specs.Calls.{hub_answer, fitting}
use Rattle.refusals.proofs.NumberLaws.{number_some}
use Rattle.lists.proofs.RuleLaws.{starts_facts}
use Rattle.hub.proofs.CallLaws.{drain_sheet, drain_starts, drain_does, table_is}
use Rattle.hub.proofs.drain.Goals as goal

pub returns-in_err-found : goal.returns-in_err-found
returns-in_err-found c =
    let e : c.from_residual.result ≡ Err c.in_err-found.field-0.0 = search rules in
    rw e (drain_sheet c.in_err-found.ensures c.args.board.now c.args.starts c.args.budget (number_some c.in_err-found.field-0.0))

pub returns-then-past_boxes-from : goal.returns-then-past_boxes-from
returns-then-past_boxes-from c =
    drain_starts c.in_ok-found.ensures c.args.board.now refl c.args.starts c.args.budget (search rules)

pub do_all-requires : goal.do_all-requires
do_all-requires c =
    let s = c.in_ok-found.ensures in
    let l = c.pairs.ensures in
    (s.boxes_most_lem, (omega (arith, l.1), (table_is s c.args.board.now refl, starts_facts _ _ _ (l.0 ∙ c.start_list-list.ensures))))

pub returns : goal.returns
returns c =
    let s = c.in_ok-found.found in
    c.do_all.ensures
    ∙ ap
    (λ (l : List ℕ). hub_answer 16 s.boxes c.args.board.now (fitting 16 s.boxes c.args.board.now (drain 16 20 s.table c.args.budget (run 16 20 s.table l (sleeping 16)))))
    (c.pairs.ensures.0 ∙ c.start_list-list.ensures)
    ∙ drain_does c.in_ok-found.ensures c.args.board.now refl c.args.starts c.args.budget (search rules)
